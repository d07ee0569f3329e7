use Rattle.std.proofs.Common.{◌≡◌, None, replicate}
use Rattle.mit_valid.proofs.inferring.nothing.Given as goal

abbrev pub invariant-loop-op : goal.invariant-loop-op
invariant-loop-op l = l.inferred.items ≡ replicate l._op None
