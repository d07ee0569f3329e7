use Rattle.mit_valid.specs.Inferred.{AreInferred, not_inferred}
use Rattle.mit_valid.proofs.inferring.infer_types.Given as goal

abbrev pub invariant-loop-inferred : goal.invariant-loop-inferred
invariant-loop-inferred l = AreInferred l.plan l.inferred.items

abbrev pub decreases-loop-inferred : goal.decreases-loop-inferred
decreases-loop-inferred l = not_inferred l.inferred.items
