use Rattle.mit_ops.specs.EachRow.{given}
use Rattle.mit_ops.specs.Operators.{one_value}
use Rattle.mit_step.proofs.whole.once.bag_of_value.Goals as goal

pub returns-in-Err : goal.returns-in-Err
returns-in-Err c due gives = c.stopped.ensures (given due one_value) ((rw c.in-Err.is at gives) one_value)
