use Rattle.std.proofs.Common.{◌≡◌, ◌++◌, length, take}
use Rattle.std.specs.List.{All, flat_map}
use Rattle.mit_keyed.specs.Indexes.{IsNarrow, matches_of}
use Rattle.mit_keyed.proofs.matches.add_joined.Given as goal

-- what was there stays, and the rows so far and those of the rest are all
abbrev pub invariant-loop-rest : goal.invariant-loop-rest
invariant-loop-rest l =
    (take (length l.initial.out.items) l.out.items ≡ l.initial.out.items)
    × (l.out.items ++ flat_map (matches_of l.left_keys l.right_keys l.lefts) l.rest ≡ l.initial.out.items ++ flat_map (matches_of l.left_keys l.right_keys l.lefts) l.rights)
    × All (λ row. All (λ before. IsNarrow (before, row)) l.lefts) l.rest

abbrev pub decreases-loop-rest : goal.decreases-loop-rest
decreases-loop-rest l = length l.rest
