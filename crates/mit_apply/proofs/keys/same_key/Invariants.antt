use Rattle.std.proofs.Common.{◌≡◌, length}
use Rattle.mit_ops.specs.Forms.{same_row}
use Rattle.mit_ops.specs.Keys.{key_of}
use Rattle.mit_apply.proofs.keys.same_key.Given as goal

-- what is left of the keys is the same where the keys are
abbrev pub invariant-loop-x : goal.invariant-loop-x
invariant-loop-x l =
    same_row (key_of l.fn.left_columns l.left) (key_of l.fn.right_columns l.right)
    ≡ same_row (key_of l.left_rest l.left) (key_of l.right_rest l.right)

abbrev pub decreases-loop-x : goal.decreases-loop-x
decreases-loop-x l = length l.left_rest
