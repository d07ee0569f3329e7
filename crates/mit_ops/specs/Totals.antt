-- What is made of all rows of a key or of a bag.
use Rattle.std.specs.Prelude.{ℕ, ℤ, pos, ◌+ℤ◌, List, [], ◌∷◌, length, Option, Some, None, if◌then◌else◌, slice_get}
use Rattle.std.specs.Ordering.{is_le}
use Rattle.mit_rows.specs.Bags.{RowOf}
use Rattle.mit_rows.specs.Order.{value_cmp}
use Rattle.mit_rows.specs.declared.value.Value.{Value}
use Rattle.mit_rows.specs.declared.value.Value.TheVariants.{Int}
use Rattle.mit_expr.specs.Values.{ValueOrFault, value_at, within}
use Rattle.mit_ops.specs.declared.kinds.Agg.{Agg}
use Rattle.mit_ops.specs.declared.kinds.Agg.TheVariants as agg

-- an integer; 0 for anything else, which is never reached where the column is one of integers
abbrev pub integer_in : Option Value → ℤ
integer_in (Some (Int number)) = number
integer_in other = pos 0

-- the exact sum of a column
unfoldable pub total : ℕ → List RowOf → ℤ
total column [] = pos 0
total column (row ∷ rows) = integer_in (slice_get row column) +ℤ total column rows

abbrev pub lesser : Value → Value → Value
lesser a b = if is_le (value_cmp a b) then a else b

abbrev pub greater : Value → Value → Value
greater a b = if is_le (value_cmp a b) then b else a

abbrev pub picked : (Value → Value → Value) → Option Value → Option Value → Option Value
picked pick None other = other
picked pick (Some value) None = Some value
picked pick (Some value) (Some other) = Some (pick value other)

-- the least or the greatest value of a column, where there is one
unfoldable pub extreme : (Value → Value → Value) → ℕ → List RowOf → Option Value
extreme pick column [] = None
extreme pick column (row ∷ rows) = picked pick (slice_get row column) (extreme pick column rows)

-- what a reduction makes of the rows of a key
abbrev pub aggregate : Agg → List RowOf → ValueOrFault
aggregate agg.Count rows = within (pos (length rows))
aggregate (agg.Sum column) rows = within (total column rows)
aggregate (agg.Min column) rows = value_at (extreme lesser column rows)
aggregate (agg.Max column) rows = value_at (extreme greater column rows)
