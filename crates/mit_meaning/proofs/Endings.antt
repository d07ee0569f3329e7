-- What the plan of a script means is what the script does.
use Rattle.std.proofs.Common.{◌≡◌, ◌∙◌, ◌<◌, ◌+◌, ◌*◌, ℕ, List, length, ap, subst, arith}
use Rattle.mit_ops.specs.Endings.{Ending}
use Rattle.mit_script.specs.Execution.{exec}
use Rattle.mit_script.specs.Trees.{IsFormed}
use Rattle.mit_script.specs.declared.tree.Script.{Script}
use Rattle.mit_cfg.specs.Blocks.{blocks_of}
use Rattle.mit_cfg.specs.Walk.{at_ending, walk}
use Rattle.mit_cfg.specs.declared.block.Block.{Block as Code}
use Rattle.mit_plan.specs.Held.{Job, run}
use Rattle.mit_plan.specs.Meant.{history_ending, meant}
use Rattle.mit_meaning.proofs.Good.{OneOperator, Stands}
use Rattle.mit_ssa.specs.Reaching.{Reaching}
use Rattle.mit_meaning.proofs.PlanLaws.{PlanLaws}
use Rattle.mit_meaning.proofs.Lockstep.{InStep, Compared, Over, in_step}

-- where the walk is over after so many places, the run so far has its ending
ends_alike : (job : Job) (code : List Code) (known : Reaching) (places : ℕ) (ending : Ending) → Compared job code known → 0 < length code
    → walk code job.files job.decisions places ≡ at_ending ending → history_ending job (run job places).history ≡ ending
ends_alike job code known places ending compared some is =
    let both : Over job (run job places) ending = subst (InStep job code known (run job places)) is (in_step job code known places compared some) in
    both.ends

pub means : (laws : PlanLaws) → (job : Job) (script : Script) (known : Reaching) → IsFormed script → Stands job (blocks_of script) known
    → OneOperator job (blocks_of script) known → meant job.plan job.files job.decisions job.partitions ≡ exec script job.files job.decisions
means laws job script known formed stands one =
    let many : (job.decisions + 1) * length job.plan.blocks ≡ (job.decisions + 1) * length (blocks_of script) = ap (λ (n : ℕ). (job.decisions + 1) * n) stands.reaches.many in
    let compared : Compared job (blocks_of script) known = record { laws = laws; stands = stands; one = one } in
    ap (λ (places : ℕ). history_ending job (run job places).history) many
    ∙ ends_alike job (blocks_of script) known ((job.decisions + 1) * length (blocks_of script)) (exec script job.files job.decisions) compared (omega arith)
    (laws.exec script job.files job.decisions formed)
