-- The type of what an operator gives has one column where it is a scalar.
use Rattle.std.proofs.Common.{◌≡◌, ◌∙◌, List, [], ◌∷◌, ◌++◌, length, map, ap, subst, refl, cond, Bool, true, false, nat_lt, Option, Some, None, option_map, slice_get, Ok, Err}
use Rattle.std.specs.Option.{ok_or}
use Rattle.std.proofs.lemmas.Bool.{and_parts}
use Rattle.mit_rows.specs.declared.value.ColType.{ColType}
use Rattle.mit_rows.specs.declared.value.ColType.TheVariants as is
use Rattle.mit_expr.specs.Types.{same_type, type_in, where_is}
use Rattle.mit_ops.specs.Results.{agg_type, bag, first, flat_type, is_a, is_wide, keys_fit, only_column, result, same_types, scalar, second, too_large, too_many_columns, typed_as, types_of, with_column, wrong_type}
use Rattle.mit_ops.specs.declared.kinds.OpSpec.{OpSpec}
use Rattle.mit_ops.specs.declared.kinds.OpSpec.TheVariants as op
use Rattle.mit_ops.specs.declared.types.TheConstants.{MAX_CAPTURES}
use Rattle.mit_ops.specs.declared.types.VarType.{VarType}
use Rattle.mit_ssa.proofs.DefinitionsPhis.{Each}

-- a scalar has one column
abbrev pub IsOne : VarType → Type 0
IsOne type = type.scalar ≡ true → (column : ColType) × (type ≡ scalar column)

bag_one : (columns : List ColType) → IsOne (bag columns)
bag_one columns = λ e. absurd cc

scalar_one : (column : ColType) → IsOne (scalar column)
scalar_one column = λ e. (column, refl)

some_bag : (columns : List ColType) (type : VarType) → Some (bag columns) ≡ Some type → IsOne type
some_bag columns type e = let same : bag columns ≡ type = cc in subst IsOne same (bag_one columns)

maybe_bag : (holds : Bool) (columns : List ColType) (type : VarType) → cond holds (Some (bag columns)) None ≡ Some type → IsOne type
maybe_bag true columns type e = some_bag columns type e
maybe_bag false columns type e = absurd cc

some_scalar : (found : Option ColType) (type : VarType) → option_map scalar found ≡ Some type → IsOne type
some_scalar None type e = absurd cc
some_scalar (Some column) type e = let same : scalar column ≡ type = cc in subst IsOne same (scalar_one column)

some_bags : (found : Option (List ColType)) (type : VarType) → option_map bag found ≡ Some type → IsOne type
some_bags None type e = absurd cc
some_bags (Some columns) type e = some_bag columns type e

one_more : (found : Option (List ColType)) (more : Option ColType) (type : VarType) → with_column found more ≡ Some type → IsOne type
one_more None more type e = absurd cc
one_more (Some columns) None type e = absurd cc
one_more (Some columns) (Some more) type e = some_bag (columns ++ more ∷ []) type e

first_one : (bags : List VarType) (type : VarType) → Each IsOne bags → slice_get bags 0 ≡ Some type → IsOne type
unfolding Each
first_one [] type each e = absurd cc
first_one (input ∷ inputs) type each e = let same : input ≡ type = cc in subst IsOne same each.0

result_one : (spec : OpSpec) (bags : List VarType) (captures : List ColType) (type : VarType) → Each IsOne bags → result spec bags captures ≡ Some type → IsOne type
result_one (op.Scalar expr) bags captures type each e = some_scalar (type_in [] captures expr) type e
result_one (op.Read name types) bags captures type each e = maybe_bag (is_a is.Text (type_in [] captures name)) types type e
result_one (op.Map exprs) bags captures type each e = some_bags (types_of (type_in (first bags) captures) exprs) type e
result_one (op.Filter expr) bags captures type each e = maybe_bag (is_a is.Bool (type_in (first bags) captures expr)) (first bags) type e
result_one (op.FlatMap flat) bags captures type each e = one_more (Some (first bags)) (flat_type flat (first bags) captures) type e
result_one (op.Join left right) bags captures type each e =
    maybe_bag (keys_fit (types_of (slice_get (first bags)) left) (types_of (slice_get (second bags)) right)) (first bags ++ second bags) type e
result_one (op.Reduce keys agg) bags captures type each e = one_more (types_of (slice_get (first bags)) keys) (agg_type agg (first bags)) type e
result_one op.Union bags captures type each e = maybe_bag (same_types (first bags) (second bags)) (first bags) type e
result_one op.Distinct bags captures type each e = some_bag (first bags) type e
result_one op.Only bags captures type each e = some_scalar (only_column (first bags)) type e
result_one op.Count bags captures type each e = some_scalar (Some is.Int) type e
result_one (op.Sum column) bags captures type each e = some_scalar (where_is is.Int is.Int (slice_get (first bags) column)) type e
result_one (op.MakeRow exprs) bags captures type each e = some_bags (types_of (type_in [] captures) exprs) type e
result_one (op.Empty types) bags captures type each e = some_bag types type e
result_one (op.Write name) bags captures type each e = maybe_bag (is_a is.Text (type_in [] captures name)) [] type e
result_one op.Copy bags captures type each e = first_one bags type each e

pub one_typed : (spec : OpSpec) (bags : List VarType) (captures : List ColType) (type : VarType) → Each IsOne bags → typed_as spec bags captures ≡ Ok type → IsOne type
one_typed spec bags captures type each e = by_tests (nat_lt MAX_CAPTURES (length captures)) (is_wide spec bags) (result spec bags captures) refl e
  where
    by_tests : (large wide : Bool) (found : Option VarType) → result spec bags captures ≡ found
        → cond large (Err too_large) (cond wide (Err too_many_columns) (ok_or found wrong_type)) ≡ Ok type → IsOne type
    by_tests true wide found same e = absurd cc
    by_tests false true found same e = absurd cc
    by_tests false false None same e = absurd cc
    by_tests false false (Some other) same e = let it : other ≡ type = cc in result_one spec bags captures type each (same ∙ ap (λ (t : VarType). Some t) it)

pub each_one : {A : Type 0} (f : A → VarType) (xs : List A) → Each (λ x. IsOne (f x)) xs → Each IsOne (map f xs)
unfolding Each
each_one f [] each = tt
each_one f (x ∷ xs) each = (each.0, each_one f xs each.1)

-- ---- columns that are the same

column_is : (a b : ColType) → same_type a b ≡ true → a ≡ b
column_is is.Int is.Int e = refl
column_is is.Int is.Text e = absurd cc
column_is is.Int is.Bool e = absurd cc
column_is is.Text is.Int e = absurd cc
column_is is.Text is.Text e = refl
column_is is.Text is.Bool e = absurd cc
column_is is.Bool is.Int e = absurd cc
column_is is.Bool is.Text e = absurd cc
column_is is.Bool is.Bool e = refl

pub types_are : (one other : List ColType) → same_types one other ≡ true → one ≡ other
types_are [] [] e = refl
types_are [] (b ∷ bs) e = absurd cc
types_are (a ∷ one) [] e = absurd cc
types_are (a ∷ one) (b ∷ other) e =
    let parts = and_parts (same_type a b) (same_types one other) e in
    let head = column_is a b parts.0 in
    let tail = types_are one other parts.1 in
    λ i. head i ∷ tail i
