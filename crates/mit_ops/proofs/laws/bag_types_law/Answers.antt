use Rattle.mit_ops.proofs.BagTypes.{result_fits, typed_fits}
use Rattle.mit_ops.proofs.laws.bag_types_law.Goals as goal

pub returns-clause-results : goal.returns-clause-results
returns-clause-results c = result_fits

pub returns-clause-typed : goal.returns-clause-typed
returns-clause-typed c = typed_fits
