use Rattle.std.proofs.Common.{◌≡◌, length}
use Rattle.mit_ssa.specs.Weaving.{looked}
use Rattle.mit_ssa.proofs.defined.put.Given as goal

abbrev pub invariant-loop-gap : goal.invariant-loop-gap
invariant-loop-gap l = record {
  same : looked l.defined.items ≡ looked l.fn.defined.items;
  size : length l.defined.items ≡ l._gap;
}
