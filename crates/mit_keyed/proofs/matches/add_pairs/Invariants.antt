use Rattle.std.proofs.Common.{◌≡◌, ◌++◌, map, take}
use Rattle.mit_keyed.specs.Indexes.{joined_row}
use Rattle.mit_keyed.proofs.matches.add_pairs.Given as goal

abbrev pub invariant-loop-left : goal.invariant-loop-left
invariant-loop-left l =
    l.out.items ≡ l.initial.out.items ++ map joined_row (map (λ pair. (pair.0.now, pair.1.now)) (take l.left-index l.pairs))
