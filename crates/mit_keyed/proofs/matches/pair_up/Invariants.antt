use Rattle.std.proofs.Common.{◌≡◌, ◌++◌, map, take}
use Rattle.mit_keyed.specs.Indexes.{pairs_with, rows_at_places}
use Rattle.mit_keyed.proofs.matches.pair_up.Given as goal

abbrev pub invariant-loop-place : goal.invariant-loop-place
invariant-loop-place l =
    map (λ pair. (pair.0.now, pair.1.now)) l.pairs.items ≡ map (λ pair. (pair.0.now, pair.1.now)) l.initial.pairs.items
    ++ pairs_with l.right (rows_at_places l.lefts (take l.place-index l.places))
