use Rattle.std.proofs.Common.{ap, refl, sym, ◌∙◌}
use Rattle.mit_ops.specs.declared.faults.ScriptFault.{ScriptFault}
use Rattle.mit_script.specs.Execution.{exec}
use Rattle.mit_app.specs.Due.{Refused}
use Rattle.mit_app.specs.declared.ends.Refusal.TheVariants as refusal
use Rattle.mit_app.proofs.TaskLemmas.{ended_steps, faulty_steps}
use Rattle.mit_app.proofs.step.step.Goals as goal

pub returns-in-Ok-told-clause-ran : goal.returns-in-Ok-told-clause-ran
returns-in-Ok-told-clause-ran g c = λ files agrees.
    ended_steps c.args.decisions c.args.typed.now.script c.args.typed.now.types files c.in-Ok.stepped c.in-Ok-told.ran (exec c.args.typed.now.script files c.args.decisions) refl
    (c.in-Ok.ensures.answer files agrees) c.in-Ok-told.ensures.files c.in-Ok-told.ensures.report

pub returns-in-Err-Fault-clause-ran : goal.returns-in-Err-Fault-clause-ran
returns-in-Err-Fault-clause-ran g c = λ files agrees.
    faulty_steps c.args.decisions c.args.typed.now.script c.args.typed.now.types files c.in-Err-Fault.fault (exec c.args.typed.now.script files c.args.decisions) refl
    (rw c.in-Err-Fault.field-0-is at c.in-Err-Fault.ensures.answer files agrees)
    ∙ ap (λ (fault : ScriptFault). Refused (refusal.Fault fault)) (sym c.in-Err-Fault.fault-is)
