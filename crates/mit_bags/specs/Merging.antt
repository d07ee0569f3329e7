-- A device of the proofs: nobody has to believe it. How the greatest row of two rising lists is taken out.
use Rattle.std.specs.Prelude.{◌≡◌, ◌⊎◌, ◌-◌, Bool, true, false, List, [], ◌∷◌, ◌++◌, Option, Some, None, IfSome, MatchOption, length, slice_get}
use Rattle.std.specs.Ordering.{is_lt}
use Rattle.mit_rows.specs.Bags.{RowOf}
use Rattle.mit_rows.specs.Order.{row_cmp}

abbrev pub last_row : List RowOf → Option RowOf
last_row rows = slice_get rows (length rows - 1)

-- the last of these rows, where there is one, is not above this row
abbrev pub EndsBelow : List RowOf → RowOf → Type 0
EndsBelow rows row = IfSome (last_row rows) (λ last. is_lt (row_cmp row last) ≡ false)

-- which list has the greatest row: the left one, or else the right one, which is empty only where both are
abbrev pub IsSideOf : List RowOf → List RowOf → Bool → Type 0
IsSideOf left right true = MatchOption (last_row left) ⊥ (EndsBelow right)
IsSideOf left right false = MatchOption (last_row right) (left ≡ []) (EndsBelow left)

-- this row was the last of the one list, and the other ends below it and stays
abbrev pub TakesLast : List RowOf → List RowOf → List RowOf → List RowOf → RowOf → Type 0
TakesLast old new other same row = (old ≡ new ++ row ∷ []) × (same ≡ other) × EndsBelow other row

abbrev pub TakesGreatest : List RowOf → List RowOf → List RowOf → List RowOf → Option RowOf → Type 0
TakesGreatest left right new_left new_right None = (left ≡ []) × (right ≡ [])
TakesGreatest left right new_left new_right (Some row) = TakesLast left new_left right new_right row ⊎ TakesLast right new_right left new_left row
