use Rattle.std.proofs.Common.{◌≡◌, take}
use Rattle.mit_ssa.specs.Weaving.{both_kept, looked}
use Rattle.mit_ssa.proofs.defined.on_both.Given as goal

abbrev pub invariant-loop-one : goal.invariant-loop-one
invariant-loop-one l = l.both.items ≡ both_kept (take l.one-index l.ones) (looked l.other)
