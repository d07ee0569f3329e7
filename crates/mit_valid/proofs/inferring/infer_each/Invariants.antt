use Rattle.mit_valid.proofs.InferredTypes.{Gone}
use Rattle.mit_valid.proofs.inferring.infer_each.Given as goal

abbrev pub invariant-loop-op : goal.invariant-loop-op
invariant-loop-op l = Gone l.plan l.initial.inferred.items l.inferred.items l.goes l.op
