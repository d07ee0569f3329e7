use Rattle.std.proofs.Common.{◌≡◌, length}
use Rattle.mit_ops.specs.Keys.{key_hash, key_of}
use Rattle.mit_apply.proofs.KeySteps.{hash_on}
use Rattle.mit_apply.proofs.keys.hash_of.Given as goal

-- the hash so far, and the values of the columns that are left after it, give the hash of the whole key
abbrev pub invariant-loop-value : goal.invariant-loop-value
invariant-loop-value l = hash_on l.hash (key_of l.rest l.values) ≡ key_hash (key_of l.columns l.fn.row)

abbrev pub decreases-loop-value : goal.decreases-loop-value
decreases-loop-value l = length l.rest
