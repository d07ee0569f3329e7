use Rattle.std.proofs.Common.{◌≡◌, take}
use Rattle.mit_ssa.specs.Weaving.{kept_phis, looked}
use Rattle.mit_ssa.proofs.phis.phis_of.Given as goal

abbrev pub invariant-loop-one : goal.invariant-loop-one
invariant-loop-one l = l.phis.items ≡ kept_phis (take l.one-index l.ones) (looked l.other)
