-- Devices of the proofs: nobody has to believe them. The totals of keys, as they are stored, and what is made of each.
use Rattle.std.specs.Prelude.{◌≤◌, ℕ, ◌+◌, pos, List, [], ◌∷◌, ◌++◌, length, map, Ok}
use Rattle.mit_rows.specs.Bags.{RowOf}
use Rattle.mit_rows.specs.declared.row.TheConstants.{MAX_COLUMNS}
use Rattle.mit_expr.specs.Values.{ValueOrFault, value_at, within}
use Rattle.mit_ops.specs.Answers.{BagOrFault, at_row}
use Rattle.mit_ops.specs.EachRow.{given}
use Rattle.mit_ops.specs.Forms.{once_each, with_key}
use Rattle.mit_ops.specs.Keys.{key_of}
use Rattle.mit_ops.specs.declared.kinds.Agg.{Agg}
use Rattle.mit_ops.specs.declared.kinds.Agg.TheVariants as agg
use Rattle.mit_apply.specs.TotalStored.{HasValue, total_of}
use Rattle.mit_apply.specs.declared.total.Total.{Total}

-- a key with its total
abbrev pub paired : (RowOf → Total) → RowOf → RowOf × Total
paired total key = (key, total key)

-- the total of the rows with a key
abbrev pub group_total : List ℕ → Agg → List RowOf → RowOf → Total
group_total keys agg rows key = total_of agg (with_key (key_of keys) key rows)

-- each key with the total of its rows, in the order in which the keys come first
abbrev pub grouped : List ℕ → Agg → List RowOf → List (RowOf × Total)
grouped keys agg rows = map (paired (group_total keys agg rows)) (once_each (map (key_of keys) rows))

-- what is made of a total
abbrev pub made_as : Agg → Total → ValueOrFault
made_as agg.Count total = within (pos total.rows)
made_as (agg.Sum column) total = within total.sum
made_as (agg.Min column) total = value_at total.extreme
made_as (agg.Max column) total = value_at total.extreme

-- a key followed by what is made of its total, or the fault at the key
abbrev pub made_at : RowOf × Total → BagOrFault
made_at entry = at_row entry.0 (given (made_as entry.1.agg entry.1) (λ value. Ok ((entry.0 ++ value ∷ []) ∷ [])))

-- a key and its total give a row, or the fault
abbrev pub GivesRow : RowOf × Total → Type 0
GivesRow entry = (length entry.0 + 1 ≤ MAX_COLUMNS) × HasValue entry.1
