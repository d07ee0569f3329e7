use Rattle.std.proofs.Common.{◌≡◌, length}
use Rattle.mit_rows.specs.Order.{row_cmp}
use Rattle.mit_rows.proofs.row.cmp_all_values.Given as goal

-- what is left of the two rows is ordered as the whole rows are
abbrev pub invariant-loop-x : goal.invariant-loop-x
invariant-loop-x l = row_cmp l.fn.a l.fn.b ≡ row_cmp l.left l.right

abbrev pub decreases-loop-x : goal.decreases-loop-x
decreases-loop-x l = length l.left
