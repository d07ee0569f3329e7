use Rattle.std.proofs.Common.{◌≡◌, map, take}
use Rattle.mit_ops.specs.Keys.{key_hash, key_of}
use Rattle.mit_keyed.proofs.matches.hashes_of.Given as goal

abbrev pub invariant-loop-row : goal.invariant-loop-row
invariant-loop-row l = l.hashes.items ≡ map (λ row. key_hash (key_of l.keys row)) (take l.row-index l.rows)
