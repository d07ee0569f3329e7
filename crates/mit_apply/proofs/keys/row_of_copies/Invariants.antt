use Rattle.std.proofs.Common.{◌≡◌, take}
use Rattle.mit_apply.proofs.keys.row_of_copies.Given as goal

-- the copies so far are of the first values
abbrev pub invariant-loop-value : goal.invariant-loop-value
invariant-loop-value l = l.copies.items ≡ take l.value-index l.values.items
