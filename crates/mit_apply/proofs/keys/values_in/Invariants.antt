use Rattle.std.proofs.Common.{◌≡◌, ◌++◌, length}
use Rattle.mit_ops.specs.Keys.{key_of}
use Rattle.mit_apply.proofs.keys.values_in.Given as goal

-- the values so far, and those of the columns that are left, are the whole key
abbrev pub invariant-loop-value : goal.invariant-loop-value
invariant-loop-value l = l.values.items ++ key_of l.rest l.source ≡ key_of l.columns l.row

abbrev pub decreases-loop-value : goal.decreases-loop-value
decreases-loop-value l = length l.rest
