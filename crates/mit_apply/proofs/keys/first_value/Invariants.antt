use Rattle.std.proofs.Common.{◌≡◌, ◌≤◌, length}
use Rattle.mit_ops.specs.Keys.{key_of}
use Rattle.mit_apply.proofs.keys.first_value.Given as goal

-- the columns that were passed give no values
abbrev pub invariant-loop-column : goal.invariant-loop-column
invariant-loop-column l = (key_of l.fn.columns l.values ≡ key_of l.rest l.values) × (length l.rest ≤ length l.fn.columns)

abbrev pub decreases-loop-column : goal.decreases-loop-column
decreases-loop-column l = length l.rest
