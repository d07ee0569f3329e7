use Rattle.std.proofs.Common.{◌≡◌, drop}
use Rattle.mit_ssa.specs.Weaving.{looked, put_in}
use Rattle.mit_ssa.proofs.defined.put_all.Given as goal

abbrev pub invariant-loop-one : goal.invariant-loop-one
invariant-loop-one l = put_in (looked l.after.items) (drop l.one-index l.kept) ≡ put_in (looked l.fn.defined.items) l.kept
