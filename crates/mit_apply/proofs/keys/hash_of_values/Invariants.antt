use Rattle.std.proofs.Common.{◌≡◌, drop}
use Rattle.mit_ops.specs.Keys.{key_hash}
use Rattle.mit_apply.proofs.KeySteps.{hash_on}
use Rattle.mit_apply.proofs.keys.hash_of_values.Given as goal

-- the hash so far, and the values that are left after it, give the hash of all
abbrev pub invariant-loop-value : goal.invariant-loop-value
invariant-loop-value l = hash_on l.hash (drop l.value-index l.values) ≡ key_hash l.values
