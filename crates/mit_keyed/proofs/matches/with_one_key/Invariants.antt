use Rattle.std.proofs.Common.{◌≡◌, map, take}
use Rattle.std.specs.List.{filter}
use Rattle.mit_keyed.specs.Indexes.{has_one_key}
use Rattle.mit_keyed.proofs.matches.with_one_key.Given as goal

abbrev pub invariant-loop-left : goal.invariant-loop-left
invariant-loop-left l =
    map (λ pair. (pair.0.now, pair.1.now)) l.found.items
    ≡ filter (has_one_key l.left_keys l.right_keys) (map (λ pair. (pair.0.now, pair.1.now)) (take l.left-index l.pairs))
