use Rattle.std.proofs.Common.{sym, subst}
use Rattle.mit_script.specs.Execution.{evaluated}
use Rattle.mit_step.specs.Running.{Faults}
use Rattle.mit_step.proofs.Steps.{bag_given, stop_given}
use Rattle.mit_step.proofs.run.bag_of.Goals as goal

pub returns-in-Ok-clause-answer : goal.returns-in-Ok-clause-answer
returns-in-Ok-clause-answer g c = λ files state next agrees stands.
    bag_given files c.args.number c.args.op.now c.args.args.now next c.in-Ok.bag.value stands (c.in-Ok.ensures.bag files agrees)

pub returns-in-Err-clause-answer : goal.returns-in-Err-clause-answer
returns-in-Err-clause-answer g c = λ files state next agrees stands.
    subst (Faults (evaluated files c.args.number c.args.op.now c.args.args.now state next)) (sym c.stop.ensures)
    (stop_given files c.args.number c.args.op.now c.args.args.now next c.in-Err.stop stands (c.in-Err.ensures.bag files agrees))
