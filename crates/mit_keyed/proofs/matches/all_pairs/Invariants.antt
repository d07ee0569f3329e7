use Rattle.std.proofs.Common.{◌≡◌, map, take}
use Rattle.std.specs.List.{flat_map}
use Rattle.mit_keyed.specs.Indexes.{pairs_by_hash}
use Rattle.mit_keyed.proofs.matches.all_pairs.Given as goal

abbrev pub invariant-loop-number : goal.invariant-loop-number
invariant-loop-number l =
    map (λ pair. (pair.0.now, pair.1.now)) l.pairs.items ≡ flat_map (pairs_by_hash l.index l.lefts l.right_keys) (take l.number l.rights)
