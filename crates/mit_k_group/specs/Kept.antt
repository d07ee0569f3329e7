-- Devices of the proofs: nobody has to believe them. What is kept of rows, the operator for which it is kept, and when it stands for them.
use Rattle.std.specs.Prelude.{◌≡◌, List, [], ◌∷◌, Bool, true, false}
use Rattle.mit_rows.specs.Bags.{RowOf}
use Rattle.mit_ops.specs.Forms.{once_each}
use Rattle.mit_ops.specs.Parts.{Fits}
use Rattle.mit_ops.specs.declared.kinds.Agg.TheVariants as agg
use Rattle.mit_ops.specs.declared.kinds.OpSpec.{OpSpec}
use Rattle.mit_ops.specs.declared.kinds.OpSpec.TheVariants as op
use Rattle.mit_apply.specs.TotalStored.{total_of}
use Rattle.mit_keyed.specs.Groups.{grouped}
use Rattle.mit_k_group.specs.OnlyRow.{IsFirst}
use Rattle.mit_k_group.specs.declared.running.Running.{Running}
use Rattle.mit_k_group.specs.declared.running.Running.TheVariants.{Reduce, Distinct, Only, Count, Sum}

abbrev pub operator : Running → OpSpec
operator (Reduce keys agg totals) = op.Reduce keys agg
operator (Distinct kept) = op.Distinct
operator (Only only) = op.Only
operator (Count total) = op.Count
operator (Sum column total) = op.Sum column

-- what is kept is that of these rows
abbrev pub Holds : Running → List RowOf → Type 0
Holds (Reduce keys agg totals) rows = totals.entries ≡ grouped keys agg rows
Holds (Distinct kept) rows = kept.keys ≡ once_each rows
Holds (Only only) rows = IsFirst only rows
Holds (Count total) rows = total ≡ total_of agg.Count rows
Holds (Sum column total) rows = total ≡ total_of (agg.Sum column) rows

-- it stands for some rows that fit the operator
abbrev pub StandsForRows : Running → Type 0
StandsForRows running = (rows : List RowOf) × Holds running rows × Fits (operator running) (rows ∷ [])

-- its answer is one for all rows
abbrev pub is_one : Running → Bool
is_one (Reduce keys agg totals) = false
is_one (Distinct kept) = false
is_one (Only only) = true
is_one (Count total) = true
is_one (Sum column total) = true
