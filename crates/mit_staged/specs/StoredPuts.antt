-- A device of the proofs: nobody has to believe it. How a put is stored, and where it goes.
use Rattle.std.specs.Prelude.{◌≡◌, ℕ, ◌≤◌, ◌++◌, List, [], ◌∷◌, false, length, map, take, drop}
use Rattle.std.specs.List.{All}
use Rattle.std.specs.String.{string_bytes}
use Rattle.mit_rows.specs.Bags.{BagOf}
use Rattle.mit_staged.specs.declared.staged.Put.{Put as Stored}
use Rattle.mit_staged.specs.Staged.{Put, is_below, with_put}

abbrev pub put_of : Stored → Put
put_of stored = ((stored.place, stored.index), (string_bytes stored.name, stored.bag))

-- a put of this pair stands in its place where it is put here
abbrev pub IsFirstAbove : List Stored → ℕ × ℕ → ℕ → Type 0
IsFirstAbove stored pair place = (place ≤ length stored)
    × ((write : List ℕ × BagOf)
    → with_put (pair, write) (map put_of stored) ≡ map put_of (take place stored) ++ (pair, write) ∷ map put_of (drop place stored))

-- no put of the list is below this one
abbrev pub NoneBelow : Put → List Put → Type 0
NoneBelow put puts = All (λ later. is_below later.0 put.0 ≡ false) puts

-- no put is below an earlier one
abbrev pub Rises : List Put → Type 0
Rises [] = Unit {0}
Rises (put ∷ puts) = NoneBelow put puts × Rises puts

abbrev pub RisesBy : List Stored → Type 0
RisesBy stored = Rises (map put_of stored)
