-- The types of rows that are made of typed rows.
use Rattle.std.proofs.Common.{◌≡◌, ◌∙◌, ℕ, ◌^◌, ℤ, ◌+ℤ◌, ◌-ℤ◌, pos, negsuc, Bool, true, false, List, [], ◌∷◌, ◌++◌, length, map, Option, Some, None, Ok, Err, option_map, IfOk, if◌then◌else◌, slice_get, nat_lt, refl, sym, subst}
use Rattle.std.specs.Prelude.{⊤}
use Rattle.std.proofs.lemmas.List.{map-append}
use Rattle.std.proofs.lemmas.List.Elements.{All-cons, All-head, All-map, All-nil, All-tail}
use Rattle.std.proofs.lemmas.Option.{slice_get-map}
use Rattle.std.specs.List.{All, AllZip, range_with_len}
use Rattle.std.specs.Ordering.{is_le}
use Rattle.mit_rows.specs.Bags.{RowOf}
use Rattle.mit_rows.specs.Order.{value_cmp}
use Rattle.mit_rows.specs.declared.value.ColType.{ColType}
use Rattle.mit_rows.specs.declared.value.ColType.TheVariants as is
use Rattle.mit_rows.specs.declared.value.Value.{Value}
use Rattle.mit_rows.specs.declared.value.Value.TheVariants as value
use Rattle.mit_expr.specs.declared.expr.Expr.{Expr}
use Rattle.mit_expr.specs.Types.{same_type, type_in, type_of_value, where_are, where_is}
use Rattle.mit_expr.specs.Values.{IsTyped, ValueOrFault, faults, gives, overflow, untyped, value_at, value_in, within}
use Rattle.mit_ops.specs.Answers.{RowsOrKind}
use Rattle.mit_ops.specs.EachRow.{filtered, flattened, given, given_all, kept_where, numbers_below, numbers_from, pieces, range_of, row_of_exprs, words_of}
use Rattle.mit_ops.specs.Keys.{key_of}
use Rattle.mit_ops.specs.Parts.{HaveColumns}
use Rattle.mit_ops.specs.Results.{agg_type, and_types, flat_type, is_separator, types_of}
use Rattle.mit_ops.specs.Totals.{aggregate, extreme, greater, lesser, picked, total}
use Rattle.mit_ops.specs.declared.faults.FaultKind.TheVariants.{RangeTooLong}
use Rattle.mit_ops.specs.declared.kinds.Agg.{Agg}
use Rattle.mit_ops.specs.declared.kinds.Agg.TheVariants as agg
use Rattle.mit_ops.specs.declared.kinds.Flat.{Flat}
use Rattle.mit_ops.specs.declared.kinds.Flat.TheVariants.{Words, Range}
use Rattle.mit_ops.specs.declared.kinds.TheConstants.{MAX_RANGE}
use Rattle.mit_op_laws.proofs.TypedAnswers.{Gives}

-- a row of these columns
abbrev pub Of : List ColType → RowOf → Type 0
Of columns row = map type_of_value row ≡ columns

-- the law of `mit_expr` by which expressions have values of their types
abbrev pub Typing : Type 0
Typing = (row captures : List Value) (expr : Expr) (type : ColType) → type_in (map type_of_value row) (map type_of_value captures) expr ≡ Some type → IsTyped type (value_in row captures expr)

-- a value, where one is given, is of this type
abbrev pub MayBe : ColType → ValueOrFault → Type 0
MayBe type (gives value) = type_of_value value ≡ type
MayBe type (faults fault) = ⊤
MayBe type untyped = ⊤

pub may_be : (type : ColType) (outcome : ValueOrFault) → IsTyped type outcome → MayBe type outcome
may_be type (gives value) typed = typed
may_be type (faults fault) typed = tt
may_be type untyped typed = tt

pub given_gives : (P : List RowOf → Type 0) (type : ColType) (outcome : ValueOrFault) (next : Value → RowsOrKind) → P [] → MayBe type outcome
    → ((value : Value) → type_of_value value ≡ type → IfOk (next value) P) → IfOk (given outcome next) P
given_gives P type (gives value) next none typed good = good value typed
given_gives P type (faults fault) next none typed good = tt
given_gives P type untyped next none typed good = none

pub given_any : (P : RowOf → Type 0) (outcome : ValueOrFault) (next : Value → RowsOrKind) → ((value : Value) → Gives P (next value)) → Gives P (given outcome next)
given_any P (gives value) next good = good value
given_any P (faults fault) next good = tt
given_any P untyped next good = All-nil P

pub one_more : (columns : List ColType) (type : ColType) (row : RowOf) (value : Value) → Of columns row → type_of_value value ≡ type → Of (columns ++ type ∷ []) (row ++ value ∷ [])
one_more columns type row value typed same = map-append type_of_value row (value ∷ []) ∙ (λ i. typed i ++ same i ∷ [])

-- a row alone
pub row_gives : (P : RowOf → Type 0) (row : RowOf) → P row → All P (row ∷ [])
row_gives P row is = All-cons P row [] is (All-nil P)

-- ---- rows of expressions

pub and_some : (one : Option ColType) (more : Option (List ColType)) (types : List ColType) → and_types one more ≡ Some types
    → (type : ColType) × (rest : List ColType) × (one ≡ Some type) × (more ≡ Some rest) × (type ∷ rest ≡ types)
and_some None more types e = cc
and_some (Some type) None types e = cc
and_some (Some type) (Some rest) types e = (type, rest, refl, refl, (cc))

types_zip : (type_of : Expr → Option ColType) (value_of : Expr → ValueOrFault) → ((expr : Expr) (type : ColType) → type_of expr ≡ Some type → IsTyped type (value_of expr))
    → (exprs : List Expr) (types : List ColType) → types_of type_of exprs ≡ Some types → AllZip IsTyped types (map value_of exprs)
types_zip type_of value_of typed [] types e = let none : [] ≡ types = cc in subst (λ (t : List ColType). AllZip IsTyped t []) none tt
types_zip type_of value_of typed (expr ∷ exprs) types e =
    let some = and_some (type_of expr) (types_of type_of exprs) types e in
    subst (λ (t : List ColType). AllZip IsTyped t (map value_of (expr ∷ exprs))) some.4 (typed expr some.0 some.2, types_zip type_of value_of typed exprs some.1 some.3)

given_all_gives : (P : RowOf → Type 0) (types : List ColType) (outcomes : List ValueOrFault) (next : RowOf → RowsOrKind) → AllZip IsTyped types outcomes
    → ((values : RowOf) → Of types values → Gives P (next values)) → Gives P (given_all outcomes next)
unfolding given_all
given_all_gives P [] [] next typed good = good [] refl
given_all_gives P [] (outcome ∷ outcomes) next typed good = absurd typed
given_all_gives P (type ∷ types) [] next typed good = absurd typed
given_all_gives P (type ∷ types) (outcome ∷ outcomes) next typed good =
    given_gives (All P) type outcome (λ value. given_all outcomes (λ values. next (value ∷ values))) (All-nil P) (may_be type outcome typed.0)
    (λ value same. given_all_gives P types outcomes (λ values. next (value ∷ values)) typed.1 (λ values all. good (value ∷ values) (λ i. same i ∷ all i)))

pub exprs_give : Typing → (columns captures types : List ColType) (exprs : List Expr) (values row : List Value) → Of captures values → Of columns row
    → types_of (type_in columns captures) exprs ≡ Some types → Gives (Of types) (row_of_exprs values exprs row)
exprs_give typing columns captures types exprs values row captured typed e =
    given_all_gives (Of types) types (map (value_in row values) exprs) (λ made. Ok (made ∷ []))
    (types_zip (type_in (map type_of_value row) (map type_of_value values)) (value_in row values) (typing row values) exprs types (rw (typed, captured) e))
    (λ made same. row_gives (Of types) made same)

-- ---- filters and flat maps

kept_gives : (P : RowOf → Type 0) (value : Value) (row : RowOf) → P row → All P (kept_where value row)
kept_gives P (value.Bool true) row is = row_gives P row is
kept_gives P (value.Bool false) row is = All-nil P
kept_gives P (value.Int number) row is = All-nil P
kept_gives P (value.Text text) row is = All-nil P

pub filtered_gives : (P : RowOf → Type 0) (values : List Value) (expr : Expr) (row : RowOf) → P row → Gives P (filtered values expr row)
filtered_gives P values expr row is = given_any P (value_in row values expr) (λ value. Ok (kept_where value row)) (λ value. kept_gives P value row is)

pub where_is_gives : (wanted type found : ColType) (o : Option ColType) → where_is wanted type o ≡ Some found → type ≡ found
where_is_gives wanted type found None e = cc
where_is_gives wanted type found (Some other) e = elim (same_type wanted other) as (λ b. (if b then Some type else None) ≡ Some found → type ≡ found) [ true ↦ λ e. cc | false ↦ λ e. cc ] e

where_are_gives : (wanted type found : ColType) (o p : Option ColType) → where_are wanted type o p ≡ Some found → type ≡ found
where_are_gives wanted type found None p e = cc
where_are_gives wanted type found (Some other) p e =
    elim (same_type wanted other) as (λ b. (if b then where_is wanted type p else None) ≡ Some found → type ≡ found) [ true ↦ λ e. where_is_gives wanted type found p e | false ↦ λ e. cc ] e

if_some : {A : Type 0} (b : Bool) (o : Option A) (x : A) → (if b then o else None) ≡ Some x → o ≡ Some x
if_some true o x e = e
if_some false o x e = cc

words_give : (columns : List ColType) (row : RowOf) (separator : List ℕ) (value : Value) → Of columns row → All (Of (columns ++ is.Text ∷ [])) (words_of row separator value)
words_give columns row separator (value.Text text) typed =
    All-map (Of (columns ++ is.Text ∷ [])) (λ piece. row ++ value.Text piece ∷ []) (pieces separator text) (λ k d h. one_more columns is.Text row (value.Text _) typed refl)
words_give columns row separator (value.Int number) typed = All-nil _
words_give columns row separator (value.Bool truth) typed = All-nil _

numbers_give : (columns : List ColType) (row : RowOf) (from size : ℤ) → Of columns row → Gives (Of (columns ++ is.Int ∷ [])) (numbers_below row from size)
numbers_give columns row from (pos count) typed =
    elim (nat_lt MAX_RANGE count) as (λ b. Gives (Of (columns ++ is.Int ∷ [])) (if b then Err RangeTooLong else Ok (numbers_from row from count))) [
      | true ↦ tt
      | false ↦ All-map (Of (columns ++ is.Int ∷ [])) (λ k. row ++ value.Int (from +ℤ pos k) ∷ []) (range_with_len 0 count) (λ k d h. one_more columns is.Int row (value.Int _) typed refl)
    ]
numbers_give columns row from (negsuc count) typed = All-nil _

range_gives : (columns : List ColType) (row : RowOf) (start end : Value) → Of columns row → Gives (Of (columns ++ is.Int ∷ [])) (range_of row start end)
range_gives columns row (value.Int from) (value.Int to) typed = numbers_give columns row from (to -ℤ from) typed
range_gives columns row start end typed = All-nil _

pub flattened_gives : (flat : Flat) (columns captures : List ColType) (type : ColType) (values row : List Value) → Of columns row → flat_type flat columns captures ≡ Some type
    → Gives (Of (columns ++ type ∷ [])) (flattened values flat row)
flattened_gives (Words expr separator) columns captures type values row typed e =
    let same = where_is_gives is.Text is.Text type (type_in columns captures expr) (if_some (is_separator separator) _ type e) in
    subst (λ (t : ColType). Gives (Of (columns ++ t ∷ [])) (flattened values (Words expr separator) row)) same
    (given_any (Of (columns ++ is.Text ∷ [])) (value_in row values expr) (λ value. Ok (words_of row separator value)) (λ value. words_give columns row separator value typed))
flattened_gives (Range from to) columns captures type values row typed e =
    let same = where_are_gives is.Int is.Int type (type_in columns captures from) (type_in columns captures to) e in
    subst (λ (t : ColType). Gives (Of (columns ++ t ∷ [])) (flattened values (Range from to) row)) same
    (given_any (Of (columns ++ is.Int ∷ [])) (value_in row values from) (λ start. given (value_in row values to) (λ end. range_of row start end))
    (λ start. given_any (Of (columns ++ is.Int ∷ [])) (value_in row values to) (λ end. range_of row start end) (λ end. range_gives columns row start end typed)))

-- ---- keys and totals

mapped_some : (o : Option Value) (type : ColType) → option_map type_of_value o ≡ Some type → (value : Value) × (o ≡ Some value) × (type_of_value value ≡ type)
mapped_some None type e = cc
mapped_some (Some value) type e = (value, refl, (cc))

pub column_typed : (columns : List ColType) (row : RowOf) (column : ℕ) (type : ColType) → Of columns row → slice_get columns column ≡ Some type
    → (value : Value) × (slice_get row column ≡ Some value) × (type_of_value value ≡ type)
column_typed columns row column type typed e = mapped_some (slice_get row column) type (sym (slice_get-map type_of_value row column) ∙ rw typed e)

pub key_typed : (keys : List ℕ) (columns types : List ColType) (row : RowOf) → Of columns row → types_of (slice_get columns) keys ≡ Some types → Of types (key_of keys row)
unfolding key_of
key_typed [] columns types row typed e = cc
key_typed (key ∷ keys) columns types row typed e =
    let some = and_some (slice_get columns key) (types_of (slice_get columns) keys) types e in
    let first = column_typed columns row key some.0 typed some.2 in
    rw first.1 ((λ i. first.2 i ∷ key_typed keys columns some.1 row typed some.3 i) ∙ some.4)

-- one of two values of a type is of it
abbrev Picks : (Value → Value → Value) → Type 0
Picks pick = (type : ColType) (a b : Value) → type_of_value a ≡ type → type_of_value b ≡ type → type_of_value (pick a b) ≡ type

lesser_picks : Picks lesser
lesser_picks type a b p q = elim (is_le (value_cmp a b)) as (λ t. type_of_value (if t then a else b) ≡ type) [ true ↦ p | false ↦ q ]

greater_picks : Picks greater
greater_picks type a b p q = elim (is_le (value_cmp a b)) as (λ t. type_of_value (if t then b else a) ≡ type) [ true ↦ q | false ↦ p ]

picked_typed : (pick : Value → Value → Value) → Picks pick → (type : ColType) (value : Value) (o : Option Value) → type_of_value value ≡ type → MayBe type (value_at o)
    → MayBe type (value_at (picked pick (Some value) o))
picked_typed pick picks type value None is more = is
picked_typed pick picks type value (Some other) is more = picks type value other is more

extreme_typed : (pick : Value → Value → Value) → Picks pick → (columns : List ColType) (column : ℕ) (type : ColType) (rows : List RowOf) → slice_get columns column ≡ Some type
    → HaveColumns columns rows → MayBe type (value_at (extreme pick column rows))
unfolding extreme
extreme_typed pick picks columns column type [] e typed = tt
extreme_typed pick picks columns column type (row ∷ rows) e typed =
    let here = column_typed columns row column type (All-head (Of columns) row rows typed) e in
    rw here.1 (picked_typed pick picks type here.0 (extreme pick column rows) here.2 (extreme_typed pick picks columns column type rows e (All-tail (Of columns) row rows typed)))

pub within_typed : (number : ℤ) → IsTyped is.Int (within number)
within_typed (pos size) = elim (nat_lt size (2 ^ 63)) as (λ b. IsTyped is.Int (if b then gives (value.Int (pos size)) else faults overflow)) [ true ↦ refl | false ↦ tt ]
within_typed (negsuc size) = elim (nat_lt size (2 ^ 63)) as (λ b. IsTyped is.Int (if b then gives (value.Int (negsuc size)) else faults overflow)) [ true ↦ refl | false ↦ tt ]

pub within_may_be : (type : ColType) (number : ℤ) → is.Int ≡ type → MayBe type (within number)
within_may_be type number same = subst (λ (t : ColType). MayBe t (within number)) same (may_be is.Int (within number) (within_typed number))

pub aggregate_typed : (agg : Agg) (columns : List ColType) (type : ColType) (rows : List RowOf) → agg_type agg columns ≡ Some type → HaveColumns columns rows
    → MayBe type (aggregate agg rows)
aggregate_typed agg.Count columns type rows e typed = within_may_be type (pos (length rows)) (cc)
aggregate_typed (agg.Sum column) columns type rows e typed = within_may_be type (total column rows) (where_is_gives is.Int is.Int type (slice_get columns column) e)
aggregate_typed (agg.Min column) columns type rows e typed = extreme_typed lesser lesser_picks columns column type rows e typed
aggregate_typed (agg.Max column) columns type rows e typed = extreme_typed greater greater_picks columns column type rows e typed
