-- Over lists that fit an operator, what is made of rows of a group is there.
use Rattle.std.proofs.Common.{◌≡◌, ◌≢◌, ◌≤◌, ◌+◌, ℕ, ℤ, pos, List, [], ◌∷◌, length, map, Option, Some, None, slice_get, true, false, if◌then◌else◌, refl, subst, arith, length-append}
use Rattle.std.proofs.lemmas.List.Elements.{All-contains, All-head, All-weaker}
use Rattle.std.specs.List.{All, Contains}
use Rattle.mit_rows.specs.Bags.{RowOf}
use Rattle.mit_rows.specs.declared.row.TheConstants.{MAX_COLUMNS}
use Rattle.mit_rows.specs.declared.value.ColType.{ColType}
use Rattle.mit_rows.specs.declared.value.ColType.TheVariants as is
use Rattle.mit_rows.specs.declared.value.Value.{Value}
use Rattle.mit_expr.specs.Types.{same_type, type_of_value, where_is}
use Rattle.mit_expr.specs.Values.{IsTyped, untyped, value_at, within}
use Rattle.mit_ops.specs.Forms.{rows_at}
use Rattle.mit_ops.specs.Keys.{column_of, key_of}
use Rattle.mit_ops.specs.Parts.{Fits, HaveColumns}
use Rattle.mit_ops.specs.Results.{agg_type, first, is_a, scalar, types_of}
use Rattle.mit_ops.specs.Totals.{aggregate, extreme, greater, lesser, picked, total}
use Rattle.mit_ops.specs.declared.kinds.Agg.{Agg}
use Rattle.mit_ops.specs.declared.kinds.Agg.TheVariants as agg
use Rattle.mit_ops.specs.declared.kinds.OpSpec.TheVariants as op
use Rattle.mit_op_laws.proofs.FittingRows.{first_rows, is_a_type, narrow}
use Rattle.mit_op_laws.proofs.TypedCaptures.{fits_result}
use Rattle.mit_op_laws.proofs.TypedOperators.{map_some, with_some}
use Rattle.mit_op_laws.proofs.TypedRows.{Of, column_typed, within_typed}

-- ---- totals

within_there : (number : ℤ) → within number ≢ untyped
within_there number e = subst (IsTyped is.Int) e (within_typed number)

picked_there : (pick : Value → Value → Value) (value : Value) (found : Option Value) → value_at (picked pick (Some value) found) ≢ untyped
picked_there pick value None e = cc
picked_there pick value (Some other) e = cc

extreme_there : (pick : Value → Value → Value) (columns : List ColType) (column : ℕ) (type : ColType) (row : RowOf) (rows : List RowOf) → slice_get columns column ≡ Some type
    → Of columns row → value_at (extreme pick column (row ∷ rows)) ≢ untyped
unfolding extreme
extreme_there pick columns column type row rows e typed =
    let here = column_typed columns row column type typed e in rw here.1 (picked_there pick here.0 (extreme pick column rows))

aggregate_there : (agg : Agg) (columns : List ColType) (type : ColType) (row : RowOf) (rows : List RowOf) → agg_type agg columns ≡ Some type → Of columns row
    → aggregate agg (row ∷ rows) ≢ untyped
aggregate_there agg.Count columns type row rows e typed = within_there (pos (length (row ∷ rows)))
aggregate_there (agg.Sum column) columns type row rows e typed = within_there (total column (row ∷ rows))
aggregate_there (agg.Min column) columns type row rows e typed = extreme_there lesser columns column type row rows e typed
aggregate_there (agg.Max column) columns type row rows e typed = extreme_there greater columns column type row rows e typed

some_there : (agg : Agg) (columns : List ColType) (type : ColType) (rows : List RowOf) → agg_type agg columns ≡ Some type → HaveColumns columns rows → rows ≢ []
    → aggregate agg rows ≢ untyped
some_there agg columns type [] e have some = absurd (some refl)
some_there agg columns type (row ∷ rows) e have some = aggregate_there agg columns type row rows e (All-head (Of columns) row rows have)

pub reduce_fits : (keys : List ℕ) (agg : Agg) (inputs : List (List RowOf)) (rows : List RowOf) → Fits (op.Reduce keys agg) inputs → All (Contains (rows_at inputs 0)) rows → rows ≢ []
    → aggregate agg rows ≢ untyped
reduce_fits keys agg inputs rows (bags, types, type, fits) among some =
    let found = with_some (types_of (slice_get (first bags)) keys) (agg_type agg (first bags)) type (fits_result (op.Reduce keys agg) bags types inputs type fits) in
    let one = fits.count in
    some_there agg (first bags) found.1 rows found.3
    (All-weaker (Contains (rows_at inputs 0)) (Of (first bags))
    (λ row at. All-contains (Of (first bags)) (rows_at inputs 0) row (first_rows bags types inputs (omega (arith, one)) fits.rows) at) rows among) some

-- ---- keys

pub reduce_narrow : (keys : List ℕ) (agg : Agg) (inputs : List (List RowOf)) → Fits (op.Reduce keys agg) inputs → length keys + 1 ≤ MAX_COLUMNS
reduce_narrow keys agg inputs (bags, types, type, fits) = narrow (op.Reduce keys agg) bags types inputs type fits

one_column : (found : Option Value) → length (column_of found) ≤ 1
one_column None = omega arith
one_column (Some value) = omega arith

pub key_length : (columns : List ℕ) (row : RowOf) → length (key_of columns row) ≤ length columns
unfolding key_of
key_length [] row = omega arith
key_length (column ∷ columns) row =
    let here = one_column (slice_get row column) in
    let later = key_length columns row in
    let all = length-append (column_of (slice_get row column)) (key_of columns row) in omega (arith, here, later, all)

-- ---- sums

where_is_found : (wanted gives type : ColType) (found : Option ColType) → where_is wanted gives found ≡ Some type → is_a wanted found ≡ true
where_is_found wanted gives type None e = cc
where_is_found wanted gives type (Some other) e = elim (same_type wanted other) as (λ b. (if b then Some gives else None) ≡ Some type → b ≡ true) [ true ↦ λ e. refl | false ↦ λ e. cc ] e

pub sum_fits : (column : ℕ) (inputs : List (List RowOf)) → Fits (op.Sum column) inputs → All (λ row. slice_get (map type_of_value row) column ≡ Some is.Int) (rows_at inputs 0)
sum_fits column inputs (bags, types, type, fits) =
    let some = map_some scalar (where_is is.Int is.Int (slice_get (first bags) column)) type (fits_result (op.Sum column) bags types inputs type fits) in
    let one = fits.count in
    All-weaker (Of (first bags)) (λ row. slice_get (map type_of_value row) column ≡ Some is.Int)
    (λ row typed. rw typed (is_a_type is.Int (slice_get (first bags) column) (where_is_found is.Int is.Int some.0 (slice_get (first bags) column) some.1)))
    (rows_at inputs 0) (first_rows bags types inputs (omega (arith, one)) fits.rows)
