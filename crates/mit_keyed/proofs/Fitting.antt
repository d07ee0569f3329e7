-- Totals and kept rows of lists that fit an operator, and what the operator makes of them.
use Rattle.std.proofs.Common.{◌≡◌, ◌≢◌, ◌≤◌, ◌+◌, ◌^◌, ℕ, ℤ, pos, negsuc, nat_lt, true≢false, List, [], ◌∷◌, ◌++◌, length, map, true, false, if◌then◌else◌, refl, ap, sym, ◌∙◌, arith, Ok}
use mathlib.Core.Bool.{Bool}
use Rattle.std.specs.List.{All, AllZip, Contains, filter, fold, list_any}
use Rattle.std.proofs.lemmas.List.{length-map}
use Rattle.std.proofs.lemmas.List.Elements.{All-contains, All-contains_itself, All-cons, All-filter, All-head, All-map, All-nil, All-push, All-tail, All-weaker}
use Rattle.mit_rows.specs.Bags.{RowOf}
use Rattle.mit_rows.specs.declared.row.TheConstants.{MAX_COLUMNS}
use Rattle.mit_rows.specs.declared.value.ColType.{ColType}
use Rattle.mit_rows.specs.declared.value.Value.{Value}
use Rattle.mit_rows.specs.declared.value.Value.TheVariants.{Int}
use Rattle.mit_files.specs.Files.{FileMap}
use Rattle.mit_expr.specs.Types.{type_of_value}
use Rattle.mit_expr.specs.Values.{faults, gives, overflow, untyped, within}
use Rattle.mit_ops.specs.Answers.{BagOrFault, at_row, both, over}
use Rattle.mit_ops.specs.EachRow.{given}
use Rattle.mit_ops.specs.Forms.{add_key, once_each, rows_at, same_row, whole_answer, with_key}
use Rattle.mit_ops.specs.Keys.{key_of}
use Rattle.mit_ops.specs.Operators.{form_of}
use Rattle.mit_ops.specs.Parts.{Fits, HaveColumns, input_columns}
use Rattle.mit_ops.specs.Results.{AreBags, IsBagType}
use Rattle.mit_ops.specs.Totals.{aggregate, total}
use Rattle.mit_ops.specs.declared.kinds.Agg.{Agg}
use Rattle.mit_ops.specs.declared.kinds.Agg.TheVariants as agg
use Rattle.mit_ops.specs.declared.kinds.OpSpec.TheVariants as op
use Rattle.mit_ops.specs.declared.types.VarType.{VarType}
use Rattle.mit_apply.specs.KeyLaws.{same_itself}
use Rattle.mit_apply.specs.TotalStored.{HasValue, total_of}
use Rattle.mit_keyed.specs.Groups.{GivesRow, group_total, grouped, made_at, paired}
use Rattle.mit_keyed.proofs.Making.{made_is}

-- ---- totals that have a value
either_there : (small : Bool) (value : Value) → (if small then gives value else faults overflow) ≢ untyped
either_there true value e = cc
either_there false value e = cc

within_there : (number : ℤ) → within number ≢ untyped
within_there (pos size) e = either_there (nat_lt size (2 ^ 63)) (Int (pos size)) e
within_there (negsuc size) e = either_there (nat_lt size (2 ^ 63)) (Int (negsuc size)) e

pub count_there : (rows : List RowOf) → HasValue (total_of agg.Count rows)
count_there rows = (agg.Count, rows, refl, within_there (pos (length rows)))

pub sum_there : (column : ℕ) (rows : List RowOf) → HasValue (total_of (agg.Sum column) rows)
sum_there column rows = (agg.Sum column, rows, refl, within_there (total column rows))

-- ---- keys that occur
module _ (P : RowOf → Type 0) where
  all_add : (seen : List RowOf) (key : RowOf) → All P seen → P key → All P (add_key seen key)
  all_add seen key all one =
      elim (list_any (same_row key) seen) as (λ b. All P (if b then seen else seen ++ key ∷ [])) [
        | true ↦ all
        | false ↦ All-push P seen key all one
      ]

  all_fold : (seen keys : List RowOf) → All P seen → All P keys → All P (fold add_key seen keys)
  all_fold seen [] all keys = all
  all_fold seen (key ∷ later) all keys = all_fold (add_key seen key) later (all_add seen key all (All-head P key later keys)) (All-tail P key later keys)

  pub all_once : (keys : List RowOf) → All P keys → All P (once_each keys)
  all_once keys all = all_fold [] keys (All-nil P) all

none_passes : (test : RowOf → Bool) (rows : List RowOf) → filter test rows ≡ [] → All (λ row. test row ≡ false) rows
none_passes test [] none = All-nil (λ row. test row ≡ false)
none_passes test (row ∷ rows) none =
    elim (test row) as (λ b. test row ≡ b → (if b then row ∷ filter test rows else filter test rows) ≡ [] → All (λ row. test row ≡ false) (row ∷ rows)) [
      | true ↦ λ e n. cc n
      | false ↦ λ e n. All-cons (λ row. test row ≡ false) row rows e (none_passes test rows n)
    ] refl none

-- a key that occurs has rows
occurs : (key : RowOf → RowOf) (row : RowOf) (rows : List RowOf) → Contains rows row → with_key key (key row) rows ≢ []
occurs key row rows at none =
    true≢false (sym (same_itself (key row)) ∙ All-contains (λ r. same_row (key row) (key r) ≡ false) rows row (none_passes (λ r. same_row (key row) (key r)) rows none) at)

module _ (keys : List ℕ) (it : Agg) (rows : List RowOf)
    (there : (some : List RowOf) → All (Contains rows) some → some ≢ [] → aggregate it some ≢ untyped)
    (narrow : length keys + 1 ≤ MAX_COLUMNS) (few : (row : RowOf) → length (key_of keys row) ≤ length keys) where
  pub groups_give : All GivesRow (grouped keys it rows)
  groups_give =
      All-map GivesRow (paired (group_total keys it rows)) (once_each (map (key_of keys) rows)) (all_once (λ key. GivesRow (paired (group_total keys it rows) key)) (map (key_of keys) rows)
      (All-map (λ key. GivesRow (paired (group_total keys it rows) key)) (key_of keys) rows (All-weaker (Contains rows) (λ row. GivesRow (paired (group_total keys it rows) (key_of keys row))) gives rows (All-contains_itself rows))))
    where
      gives : (row : RowOf) → Contains rows row → GivesRow (paired (group_total keys it rows) (key_of keys row))
      gives row at =
          let key = key_of keys row in
          let of_key = with_key (key_of keys) key rows in
          let short = few row in (
            omega (arith, short, narrow),
            (it, of_key, refl, there of_key (All-filter (λ r. same_row key (key_of keys r)) (Contains rows) rows (All-contains_itself rows)) (occurs (key_of keys) row rows at)),
          )

-- ---- rows that fit are narrow
row_length : (columns : List ColType) (row : RowOf) → map type_of_value row ≡ columns → length row ≡ length columns
row_length columns row typed = sym (length-map row type_of_value) ∙ ap (λ (types : List ColType). length types) typed

typed_narrow : (bags : List VarType) (types : List ColType) (inputs : List (List RowOf)) → length bags ≡ 1 → AreBags bags → AllZip HaveColumns (input_columns bags types) inputs →
    All (λ row. length row ≤ MAX_COLUMNS) (rows_at inputs 0)
typed_narrow [] types inputs one wide have = absurd (omega (arith, one))
typed_narrow (bag ∷ bags) types [] one wide have = All-nil (λ row. length row ≤ MAX_COLUMNS)
typed_narrow (bag ∷ bags) types (rows ∷ later) one wide have =
    let most = (All-head IsBagType bag bags wide).0 in
    All-weaker (λ row. map type_of_value row ≡ bag.cols) (λ row. length row ≤ MAX_COLUMNS) (λ row typed. let long = row_length bag.cols row typed in omega (arith, most, long)) rows have.0

pub rows_narrow : (inputs : List (List RowOf)) → Fits op.Distinct inputs → All (λ row. length row ≤ MAX_COLUMNS) (once_each (rows_at inputs 0))
rows_narrow inputs (bags, types, type, fits) = all_once (λ row. length row ≤ MAX_COLUMNS) (rows_at inputs 0) (typed_narrow bags types inputs fits.count fits.wide fits.rows)

-- ---- what operators make of them

over-map : {X Y : Type 0} (answer : Y → BagOrFault) (f : X → Y) (xs : List X) → over answer (map f xs) ≡ over (λ x. answer (f x)) xs
unfolding over
over-map answer f [] = refl
over-map answer f (x ∷ xs) = ap (both (answer (f x))) (over-map answer f xs)

pub reduce_whole : (keys : List ℕ) (it : Agg) (rows : List RowOf) (files : FileMap) (captures : List Value) →
    over made_at (grouped keys it rows) ≡ whole_answer (form_of (op.Reduce keys it) files captures) (rows ∷ [])
reduce_whole keys it rows files captures =
    over-map made_at (paired (group_total keys it rows)) (once_each (map (key_of keys) rows))
    ∙ (λ i. over (λ k. at_row k (given (made_is it (with_key (key_of keys) k rows) i) (λ value. Ok ((k ++ value ∷ []) ∷ [])))) (once_each (map (key_of keys) rows)))

map_itself : (rows : List RowOf) → map (λ row. row) rows ≡ rows
map_itself [] = refl
map_itself (row ∷ rows) = ap (λ t. row ∷ t) (map_itself rows)

pub distinct_whole : (rows : List RowOf) (files : FileMap) (captures : List Value) → over (λ row. Ok (row ∷ [])) (once_each rows) ≡ whole_answer (form_of op.Distinct files captures) (rows ∷ [])
distinct_whole rows files captures = ap (λ t. over (λ row. Ok (row ∷ [])) (once_each t)) (sym (map_itself rows))
