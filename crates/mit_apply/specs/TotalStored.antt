-- Devices of the proofs: nobody has to believe them. How the total of rows is stored, and how one row more changes it.
use Rattle.std.specs.Prelude.{◌≡◌, ◌≢◌, ℤ, pos, ◌+ℤ◌, List, length, Bool, true, false, ◌==◌, Option, Some, None, if◌then◌else◌, slice_get}
use Rattle.std.specs.Ordering.{ordering_index}
use Rattle.std.specs.declared.cmp.Ordering.{Ordering}
use Rattle.std.specs.declared.cmp.Ordering.TheVariants.{Less, Greater}
use Rattle.mit_rows.specs.Bags.{RowOf}
use Rattle.mit_rows.specs.Order.{value_cmp}
use Rattle.mit_rows.specs.declared.value.Value.{Value}
use Rattle.mit_expr.specs.Values.{untyped}
use Rattle.mit_ops.specs.Totals.{aggregate, extreme, greater, integer_in, lesser, picked, total}
use Rattle.mit_ops.specs.declared.kinds.Agg.{Agg}
use Rattle.mit_ops.specs.declared.kinds.Agg.TheVariants as agg
use Rattle.mit_apply.specs.declared.total.Total.{Total}

abbrev pub sum_in : Agg → List RowOf → ℤ
sum_in (agg.Sum column) rows = total column rows
sum_in other rows = pos 0

abbrev pub extreme_in : Agg → List RowOf → Option Value
extreme_in (agg.Min column) rows = extreme lesser column rows
extreme_in (agg.Max column) rows = extreme greater column rows
extreme_in other rows = None

-- the total of these rows
abbrev pub total_of : Agg → List RowOf → Total
total_of agg rows = record { agg = agg; rows = length rows; sum = sum_in agg rows; extreme = extreme_in agg rows }

-- it is the total of rows of which something is made
abbrev pub HasValue : Total → Type 0
HasValue it = (agg : Agg) × (rows : List RowOf) × (it ≡ total_of agg rows) × (aggregate agg rows ≢ untyped)

-- whether a value takes the place of what was kept: it is beyond that on this side
abbrev pub replaces : Option Value → Value → Ordering → Bool
replaces None value side = true
replaces (Some old) value side = ordering_index (value_cmp value old) == ordering_index side

-- the one of two values that stays
abbrev pub beyond : Ordering → Value → Value → Value
beyond side old value = if ordering_index (value_cmp value old) == ordering_index side then value else old

-- with one row more
abbrev pub next_sum : Agg → ℤ → RowOf → ℤ
next_sum (agg.Sum column) sum row = sum +ℤ integer_in (slice_get row column)
next_sum other sum row = sum

abbrev pub next_extreme : Agg → Option Value → RowOf → Option Value
next_extreme (agg.Min column) kept row = picked (beyond Less) kept (slice_get row column)
next_extreme (agg.Max column) kept row = picked (beyond Greater) kept (slice_get row column)
next_extreme other kept row = kept

-- whether something is made of no rows
abbrev pub counts_none : Agg → Bool
counts_none agg.Count = true
counts_none (agg.Sum column) = true
counts_none (agg.Min column) = false
counts_none (agg.Max column) = false
