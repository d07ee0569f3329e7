-- A device of the proofs: nobody has to believe it. How a record's row is added to those so far, where it is wanted.
use Rattle.std.specs.Prelude.{◌≡◌, List, [], ◌∷◌, ◌++◌, Bool, true, false, Option, Some, None}
use Rattle.mit_rows.specs.Bags.{RowOf}

abbrev pub AddsRow : Bool → Option RowOf → List RowOf → List RowOf → Bool → Type 0
AddsRow wanted None old new fits = fits ≡ false
AddsRow true (Some row) old new fits = (fits ≡ true) × (new ≡ old ++ row ∷ [])
AddsRow false (Some row) old new fits = (fits ≡ true) × (new ≡ old)
