-- One of the types is not a scalar's.
use Rattle.mit_valid.proofs.ForcedTypes.{not_each_scalar}
use Rattle.mit_valid.proofs.inference.columns_of.Goals as goal

pub returns-in_default : goal.returns-in_default
returns-in_default c = λ columns. not_each_scalar c.args.types.now c.loop-is.is-index c.is-item.result columns c.loop-is-test.true c.is-item.is c.in_default.ensures
