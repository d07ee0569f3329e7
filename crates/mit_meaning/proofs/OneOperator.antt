-- What holds of one operator of a plan whose blocks are those of a script.
use Rattle.std.proofs.Common.{List}
use Rattle.mit_cfg.specs.declared.block.Block.{Block as Code}
use Rattle.mit_plan.specs.Held.{Job}
use Rattle.mit_meaning.proofs.Good.{OneOperator, Stands}
use Rattle.mit_ssa.specs.Reaching.{Reaching}
use Rattle.mit_meaning.proofs.Entering.{enter_good, first_good}
use Rattle.mit_meaning.proofs.Inputs.{phi_takes, step_takes}
use Rattle.mit_meaning.proofs.LastDefinition.{PathLaws}
use Rattle.mit_meaning.proofs.OneMore.{one_kept, one_more}

pub one_operator : (paths : PathLaws) → (job : Job) (code : List Code) (known : Reaching) → Stands job code known → OneOperator job code known
one_operator paths job code known stands = record {
  first = first_good job code known stands;
  step = step_takes paths job code known stands;
  phi = phi_takes paths job code known stands;
  more = one_more job known;
  kept = one_kept job known;
  enter = enter_good job code known stands;
}
