use Rattle.std.proofs.Common.{◌≡◌, length, slice_get}
use Rattle.mit_ops.specs.Results.{keys_fit, types_of}
use Rattle.mit_types.proofs.results.keys_fit.Given as goal

abbrev pub invariant-loop-next_left : goal.invariant-loop-next_left
invariant-loop-next_left l =
    keys_fit (types_of (slice_get l.left_columns) l.left) (types_of (slice_get l.right_columns) l.right)
    ≡ keys_fit (types_of (slice_get l.left_columns) l.lefts) (types_of (slice_get l.right_columns) l.rights)

abbrev pub decreases-loop-next_left : goal.decreases-loop-next_left
decreases-loop-next_left l = length l.lefts
