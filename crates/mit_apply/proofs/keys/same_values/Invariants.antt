use Rattle.std.proofs.Common.{◌≡◌, length}
use Rattle.mit_ops.specs.Forms.{same_row}
use Rattle.mit_apply.proofs.keys.same_values.Given as goal

-- what is left of the keys is the same where the keys are
abbrev pub invariant-loop-x : goal.invariant-loop-x
invariant-loop-x l = same_row l.fn.a l.fn.b ≡ same_row l.left l.right

abbrev pub decreases-loop-x : goal.decreases-loop-x
decreases-loop-x l = length l.left
