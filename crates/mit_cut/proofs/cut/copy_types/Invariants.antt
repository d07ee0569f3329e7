use Rattle.std.proofs.Common.{◌≡◌, take}
use Rattle.mit_cut.proofs.cut.copy_types.Given as goal

abbrev pub invariant-loop-one : goal.invariant-loop-one
invariant-loop-one l = l.copies.items ≡ take l.one-index l.types
