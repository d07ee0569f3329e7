-- Over lists that fit an operator, its expressions have types at each row, and rows are not too wide.
use Rattle.std.proofs.Common.{◌≡◌, ◌<◌, ◌≤◌, ◌+◌, ℕ, Bool, true, false, List, [], ◌∷◌, length, map, drop, Option, Some, None, Result, Ok, Err, IsSome, is_some, if◌then◌else◌, nat_lt, refl, ap, sym, ◌∙◌, arith}
use Rattle.std.proofs.lemmas.Bool.Decides.{nat_tests}
use Rattle.std.proofs.lemmas.List.{length-map}
use Rattle.std.proofs.lemmas.List.Elements.{All-weaker}
use Rattle.std.proofs.lemmas.Option.{cond_some}
use Rattle.std.specs.List.{All, AllZip}
use Rattle.std.specs.Option.{ok_or}
use Rattle.mit_rows.specs.Bags.{RowOf}
use Rattle.mit_rows.specs.declared.row.TheConstants.{MAX_COLUMNS}
use Rattle.mit_rows.specs.declared.value.ColType.{ColType}
use Rattle.mit_rows.specs.declared.value.ColType.TheVariants as is
use Rattle.mit_rows.specs.declared.value.Value.{Value}
use Rattle.mit_expr.specs.declared.expr.Expr.{Expr}
use Rattle.mit_expr.specs.Types.{type_in, type_of_value}
use Rattle.mit_ops.specs.Forms.{rows_at}
use Rattle.mit_ops.specs.Kinds.{bag_inputs_of}
use Rattle.mit_ops.specs.Operators.{captures_among}
use Rattle.mit_ops.specs.Parts.{Fits, FitsAs, HaveColumns, input_columns}
use Rattle.mit_ops.specs.Results.{bag, first, flat_type, is_a, is_wide, result, scalar, second, too_large, too_many_columns, types_of, width, wrong_type}
use Rattle.mit_ops.specs.declared.kinds.Flat.{Flat}
use Rattle.mit_ops.specs.declared.kinds.OpSpec.{OpSpec}
use Rattle.mit_ops.specs.declared.kinds.OpSpec.TheVariants as op
use Rattle.mit_ops.specs.declared.types.TheConstants.{MAX_CAPTURES}
use Rattle.mit_ops.specs.declared.types.VarType.{VarType}
use Rattle.mit_op_laws.proofs.TypedCaptures.{captured_typed, fits_parts, fits_result}
use Rattle.mit_op_laws.proofs.TypedOperators.{map_some, same_type_is, with_some}
use Rattle.mit_op_laws.proofs.TypedRows.{Of}

-- ---- rows of the bags

-- the rows of the first and of the second bag have its columns
pub first_rows : (bags : List VarType) (captures : List ColType) (inputs : List (List RowOf)) → 0 < length bags → AllZip HaveColumns (input_columns bags captures) inputs
    → HaveColumns (first bags) (rows_at inputs 0)
first_rows [] captures inputs some have = absurd (omega arith)
first_rows (bag ∷ bags) captures [] some have = absurd have
first_rows (bag ∷ bags) captures (rows ∷ inputs) some have = have.0

second_rows : (bags : List VarType) (captures : List ColType) (inputs : List (List RowOf)) → 1 < length bags → AllZip HaveColumns (input_columns bags captures) inputs
    → HaveColumns (second bags) (rows_at inputs 1)
second_rows [] captures inputs some have = absurd (omega arith)
second_rows (bag ∷ bags) captures [] some have = absurd have
second_rows (bag ∷ bags) captures (rows ∷ inputs) some have = first_rows bags captures inputs (omega arith) have.1

-- captured values have their types
values_typed : (spec : OpSpec) (bags : List VarType) (types : List ColType) (inputs : List (List RowOf)) (type : VarType) (captures : List Value) → FitsAs spec bags types inputs type
    → captures_among spec inputs ≡ Some captures → Of types captures
values_typed spec bags types inputs type captures fits e = captured_typed types (drop (bag_inputs_of spec) inputs) captures (fits_parts spec bags types inputs type fits).1 e

-- ---- widths

not_wide : {E : Type 0} (large wide : Bool) (a b : E) (found : Result VarType E) (type : VarType) → (if large then Err a else if wide then Err b else found) ≡ Ok type → wide ≡ false
not_wide true wide a b found type e = cc
not_wide false true a b found type e = cc
not_wide false false a b found type e = refl

within_columns : (count : ℕ) → nat_lt MAX_COLUMNS count ≡ false → count ≤ MAX_COLUMNS
within_columns count e = grind (arith, nat_tests)

-- an operator that is not refused names and makes no more than `MAX_COLUMNS` columns
pub narrow : (spec : OpSpec) (bags : List VarType) (types : List ColType) (inputs : List (List RowOf)) (type : VarType) → FitsAs spec bags types inputs type → width spec bags ≤ MAX_COLUMNS
narrow spec bags types inputs type fits =
    within_columns (width spec bags) (not_wide (nat_lt MAX_CAPTURES (length types)) (is_wide spec bags) too_large too_many_columns (ok_or (result spec bags types) wrong_type) type fits.typed)

-- a row is as long as its columns
row_length : (columns : List ColType) (row : RowOf) → Of columns row → length row ≡ length columns
row_length columns row typed = sym (length-map row type_of_value) ∙ ap (λ (types : List ColType). length types) typed

-- ---- what types are there

there : {A : Type 0} (found : Option A) (type : A) → found ≡ Some type → IsSome found
there found type e = ap is_some e

pub is_a_type : (wanted : ColType) (found : Option ColType) → is_a wanted found ≡ true → found ≡ Some wanted
is_a_type wanted None e = cc
is_a_type wanted (Some type) e = ap Some (sym (same_type_is wanted type e))

-- the expressions have types at each row
abbrev pub TypedAt : List Expr → List Value → RowOf → Type 0
TypedAt exprs captures row = IsSome (types_of (type_in (map type_of_value row) (map type_of_value captures)) exprs)

pub map_fits : (exprs : List Expr) (inputs : List (List RowOf)) (captures : List Value) → Fits (op.Map exprs) inputs → captures_among (op.Map exprs) inputs ≡ Some captures
    → All (TypedAt exprs captures) (rows_at inputs 0)
map_fits exprs inputs captures (bags, types, type, fits) e =
    let some = map_some bag (types_of (type_in (first bags) types) exprs) type (fits_result (op.Map exprs) bags types inputs type fits) in
    let captured = values_typed (op.Map exprs) bags types inputs type captures fits e in
    let one = fits.count in
    All-weaker (Of (first bags)) (TypedAt exprs captures) (λ row typed. rw (typed, captured) (there (types_of (type_in (first bags) types) exprs) some.0 some.1))
    (rows_at inputs 0) (first_rows bags types inputs (omega (arith, one)) fits.rows)

pub map_few : (exprs : List Expr) (inputs : List (List RowOf)) → Fits (op.Map exprs) inputs → length exprs ≤ MAX_COLUMNS
map_few exprs inputs (bags, types, type, fits) = narrow (op.Map exprs) bags types inputs type fits

pub filter_fits : (expr : Expr) (inputs : List (List RowOf)) (captures : List Value) → Fits (op.Filter expr) inputs → captures_among (op.Filter expr) inputs ≡ Some captures
    → All (λ row. type_in (map type_of_value row) (map type_of_value captures) expr ≡ Some is.Bool) (rows_at inputs 0)
filter_fits expr inputs captures (bags, types, type, fits) e =
    let some = cond_some (is_a is.Bool (type_in (first bags) types expr)) (bag (first bags)) type (fits_result (op.Filter expr) bags types inputs type fits) in
    let captured = values_typed (op.Filter expr) bags types inputs type captures fits e in
    let one = fits.count in
    All-weaker (Of (first bags)) (λ row. type_in (map type_of_value row) (map type_of_value captures) expr ≡ Some is.Bool)
    (λ row typed. rw (typed, captured) (is_a_type is.Bool (type_in (first bags) types expr) some.0)) (rows_at inputs 0) (first_rows bags types inputs (omega (arith, one)) fits.rows)

pub flat_fits : (flat : Flat) (inputs : List (List RowOf)) (captures : List Value) → Fits (op.FlatMap flat) inputs → captures_among (op.FlatMap flat) inputs ≡ Some captures
    → All (λ row. IsSome (flat_type flat (map type_of_value row) (map type_of_value captures))) (rows_at inputs 0)
flat_fits flat inputs captures (bags, types, type, fits) e =
    let some = with_some (Some (first bags)) (flat_type flat (first bags) types) type (fits_result (op.FlatMap flat) bags types inputs type fits) in
    let captured = values_typed (op.FlatMap flat) bags types inputs type captures fits e in
    let one = fits.count in
    All-weaker (Of (first bags)) (λ row. IsSome (flat_type flat (map type_of_value row) (map type_of_value captures)))
    (λ row typed. rw (typed, captured) (there (flat_type flat (first bags) types) some.1 some.3)) (rows_at inputs 0) (first_rows bags types inputs (omega (arith, one)) fits.rows)

pub flat_narrow : (flat : Flat) (inputs : List (List RowOf)) → Fits (op.FlatMap flat) inputs → All (λ row. length row + 1 ≤ MAX_COLUMNS) (rows_at inputs 0)
flat_narrow flat inputs (bags, types, type, fits) =
    let most = narrow (op.FlatMap flat) bags types inputs type fits in
    let one = fits.count in
    All-weaker (Of (first bags)) (λ row. length row + 1 ≤ MAX_COLUMNS) (λ row typed. let long = row_length (first bags) row typed in omega (arith, most, long))
    (rows_at inputs 0) (first_rows bags types inputs (omega (arith, one)) fits.rows)

pub scalar_fits : (expr : Expr) (inputs : List (List RowOf)) (captures : List Value) → Fits (op.Scalar expr) inputs → captures_among (op.Scalar expr) inputs ≡ Some captures
    → IsSome (type_in [] (map type_of_value captures) expr)
scalar_fits expr inputs captures (bags, types, type, fits) e =
    let some = map_some scalar (type_in [] types expr) type (fits_result (op.Scalar expr) bags types inputs type fits) in
    rw (values_typed (op.Scalar expr) bags types inputs type captures fits e) (there (type_in [] types expr) some.0 some.1)

pub make_row_fits : (exprs : List Expr) (inputs : List (List RowOf)) (captures : List Value) → Fits (op.MakeRow exprs) inputs → captures_among (op.MakeRow exprs) inputs ≡ Some captures
    → IsSome (types_of (type_in [] (map type_of_value captures)) exprs)
make_row_fits exprs inputs captures (bags, types, type, fits) e =
    let some = map_some bag (types_of (type_in [] types) exprs) type (fits_result (op.MakeRow exprs) bags types inputs type fits) in
    rw (values_typed (op.MakeRow exprs) bags types inputs type captures fits e) (there (types_of (type_in [] types) exprs) some.0 some.1)

pub make_row_few : (exprs : List Expr) (inputs : List (List RowOf)) → Fits (op.MakeRow exprs) inputs → length exprs ≤ MAX_COLUMNS
make_row_few exprs inputs (bags, types, type, fits) = narrow (op.MakeRow exprs) bags types inputs type fits

pub write_fits : (name : Expr) (inputs : List (List RowOf)) (captures : List Value) → Fits (op.Write name) inputs → captures_among (op.Write name) inputs ≡ Some captures
    → type_in [] (map type_of_value captures) name ≡ Some is.Text
write_fits name inputs captures (bags, types, type, fits) e =
    let some = cond_some (is_a is.Text (type_in [] types name)) (bag []) type (fits_result (op.Write name) bags types inputs type fits) in
    rw (values_typed (op.Write name) bags types inputs type captures fits e) (is_a_type is.Text (type_in [] types name) some.0)

pub read_fits : (name : Expr) (columns : List ColType) (inputs : List (List RowOf)) (captures : List Value) → Fits (op.Read name columns) inputs
    → captures_among (op.Read name columns) inputs ≡ Some captures → type_in [] (map type_of_value captures) name ≡ Some is.Text
read_fits name columns inputs captures (bags, types, type, fits) e =
    let some = cond_some (is_a is.Text (type_in [] types name)) (bag columns) type (fits_result (op.Read name columns) bags types inputs type fits) in
    rw (values_typed (op.Read name columns) bags types inputs type captures fits e) (is_a_type is.Text (type_in [] types name) some.0)

pub join_narrow : (left right : List ℕ) (inputs : List (List RowOf)) → Fits (op.Join left right) inputs
    → All (λ before. All (λ row. length before + length row ≤ MAX_COLUMNS) (rows_at inputs 1)) (rows_at inputs 0)
join_narrow left right inputs (bags, types, type, fits) =
    let most = narrow (op.Join left right) bags types inputs type fits in
    let two = fits.count in
    All-weaker (Of (first bags)) (λ before. All (λ row. length before + length row ≤ MAX_COLUMNS) (rows_at inputs 1))
    (λ before known. All-weaker (Of (second bags)) (λ row. length before + length row ≤ MAX_COLUMNS)
    (λ row typed. let long = row_length (first bags) before known in let more = row_length (second bags) row typed in omega (arith, most, long, more))
    (rows_at inputs 1) (second_rows bags types inputs (omega (arith, two)) fits.rows))
    (rows_at inputs 0) (first_rows bags types inputs (omega (arith, two)) fits.rows)
