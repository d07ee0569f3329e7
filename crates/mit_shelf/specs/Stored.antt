-- A device of the proofs: nobody has to believe it. How a shelf is stored, as the entries of a map.
use Rattle.std.specs.Prelude.{◌≡◌, ℕ, List, [], ◌∷◌, ◌++◌, Option, Some, Vec, map, option_map, slice_get}
use Rattle.mit_shelf.specs.Shelf.{Kept}

-- a stored entry as its name and what was found
abbrev pub entry_of : {A : Type 0} → Vec ℕ A × Option (Vec ℕ A) → List ℕ × Option (List ℕ)
entry_of entry = (entry.0.items, option_map (λ bytes. bytes.items) entry.1)

-- all stored entries so
abbrev pub entries_of : {A : Type 0} → List (Vec ℕ A × Option (Vec ℕ A)) → Kept
entries_of entries = map entry_of entries

-- a name is kept so as a new last entry, which stands at this place
abbrev pub KeepsLast : Kept → Kept → List ℕ → Option (List ℕ) → ℕ → Type 0
KeepsLast old new name file place = (new ≡ old ++ (name, file) ∷ []) × (slice_get new place ≡ Some (name, file))
