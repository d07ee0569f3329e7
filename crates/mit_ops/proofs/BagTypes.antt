-- What an operator gives is again the type of a bag.
use Rattle.std.proofs.Common.{◌≡◌, ℕ, ◌+◌, ◌≤◌, List, [], ◌∷◌, ◌++◌, length, length-append, Bool, true, false, Option, Some, None, option_map, Ok, Err, if◌then◌else◌, slice_get, ◌∙◌, ap, refl, rules, subst, tests, arith}
use Rattle.std.specs.Option.{ok_or}
use Rattle.std.specs.Prelude.{nat_lt}
use Rattle.mit_rows.specs.declared.row.TheConstants.{MAX_COLUMNS}
use Rattle.mit_rows.specs.declared.value.ColType.{ColType}
use Rattle.mit_rows.specs.declared.value.ColType.TheVariants.{Int, Text, Bool as Truth}
use Rattle.mit_expr.specs.Types.{type_in, where_is}
use Rattle.mit_ops.specs.declared.kinds.OpSpec.{OpSpec}
use Rattle.mit_ops.specs.declared.kinds.OpSpec.TheVariants as op
use Rattle.mit_ops.specs.declared.types.VarType.{VarType}
use Rattle.mit_ops.specs.declared.types.TheConstants.{MAX_CAPTURES}
use Rattle.mit_ops.specs.Results.{AreBags, IsBagType, is_wide, too_large, too_many_columns, typed_as, wrong_type, agg_type, and_types, bag, first, flat_type, is_a, keys_fit, only_column, result, same_types, scalar, second, types_of, width, with_column}

bag_fits : (columns : List ColType) → length columns ≤ MAX_COLUMNS → IsBagType (bag columns)
bag_fits columns h = (h, λ e. cc)

scalar_fits : (is : ColType) → IsBagType (scalar is)
scalar_fits is = (omega arith, λ _. refl)

-- a list of types is as long as what it was made of
and_length : (is : Option ColType) (more : Option (List ColType)) (n : ℕ) (types : List ColType) → ((rest : List ColType) → more ≡ Some rest → length rest ≡ n)
    → and_types is more ≡ Some types → length types ≡ n + 1
and_length None more n types given e = cc
and_length (Some is) None n types given e = cc
and_length (Some is) (Some rest) n types given e =
    let same : is ∷ rest ≡ types = cc in let long = given rest refl in subst (λ (t : List ColType). length t ≡ n + 1) same (omega (arith, long))

length-types_of : {A : Type 0} (f : A → Option ColType) (xs : List A) (types : List ColType) → types_of f xs ≡ Some types → length types ≡ length xs
length-types_of f [] types e = let same : [] ≡ types = cc in subst (λ (t : List ColType). length t ≡ 0) same refl
length-types_of f (x ∷ xs) types e =
    let long = and_length (f x) (types_of f xs) (length xs) types (length-types_of f xs) e in omega (arith, long)

first_fits : (bags : List VarType) → AreBags bags → length (first bags) ≤ MAX_COLUMNS
first_fits [] given = omega arith
first_fits (input ∷ inputs) given = (given 0 input (omega arith)).0

-- where a bag is given under a condition
if_fits : (holds : Bool) (columns : List ColType) (type : VarType) → length columns ≤ MAX_COLUMNS → (if holds then Some (bag columns) else None) ≡ Some type → IsBagType type
if_fits true columns type h e = let same : bag columns ≡ type = cc in subst IsBagType same (bag_fits columns h)
if_fits false columns type h e = cc

some_fits : (columns : List ColType) (type : VarType) → length columns ≤ MAX_COLUMNS → Some (bag columns) ≡ Some type → IsBagType type
some_fits columns type h e = let same : bag columns ≡ type = cc in subst IsBagType same (bag_fits columns h)

-- a scalar or a bag of what may be given
scalars_fit : (is : Option ColType) (type : VarType) → option_map scalar is ≡ Some type → IsBagType type
scalars_fit None type e = cc
scalars_fit (Some is) type e = let same : scalar is ≡ type = cc in subst IsBagType same (scalar_fits is)

bags_fit : (columns : Option (List ColType)) (n : ℕ) (type : VarType) → ((types : List ColType) → columns ≡ Some types → length types ≡ n) → n ≤ MAX_COLUMNS
    → option_map bag columns ≡ Some type → IsBagType type
bags_fit None n type given h e = cc
bags_fit (Some columns) n type given h e = some_fits columns type (let long = given columns refl in omega (arith, long)) e

with_fits : (columns : Option (List ColType)) (more : Option ColType) (n : ℕ) (type : VarType) → ((types : List ColType) → columns ≡ Some types → length types ≡ n) → n + 1 ≤ MAX_COLUMNS
    → with_column columns more ≡ Some type → IsBagType type
with_fits None more n type given h e = cc
with_fits (Some columns) None n type given h e = cc
with_fits (Some columns) (Some more) n type given h e =
    some_fits (columns ++ more ∷ []) type (let long = given columns refl in omega (arith, long, length-append columns (more ∷ []))) e

argument_fits : (bags : List VarType) (type : VarType) → AreBags bags → slice_get bags 0 ≡ Some type → IsBagType type
argument_fits [] type given e = cc
argument_fits (input ∷ inputs) type given e = let same : input ≡ type = cc in subst IsBagType same (given 0 input (omega arith))

its_length : (columns types : List ColType) → Some columns ≡ Some types → length types ≡ length columns
its_length columns types e = let same : columns ≡ types = cc in subst (λ (t : List ColType). length t ≡ length columns) same refl

pub result_fits : (spec : OpSpec) (bags : List VarType) (captures : List ColType) (type : VarType) → AreBags bags → width spec bags ≤ MAX_COLUMNS
    → result spec bags captures ≡ Some type → IsBagType type
result_fits (op.Scalar expr) bags captures type given h e = scalars_fit (type_in [] captures expr) type e
result_fits (op.Read name types) bags captures type given h e = if_fits (is_a Text (type_in [] captures name)) types type h e
result_fits (op.Map exprs) bags captures type given h e =
    bags_fit (types_of (type_in (first bags) captures) exprs) (length exprs) type (length-types_of (type_in (first bags) captures) exprs) h e
result_fits (op.Filter expr) bags captures type given h e =
    if_fits (is_a Truth (type_in (first bags) captures expr)) (first bags) type (first_fits bags given) e
result_fits (op.FlatMap flat) bags captures type given h e =
    with_fits (Some (first bags)) (flat_type flat (first bags) captures) (length (first bags)) type (its_length (first bags)) h e
result_fits (op.Join left right) bags captures type given h e =
    if_fits (keys_fit (types_of (slice_get (first bags)) left) (types_of (slice_get (second bags)) right)) (first bags ++ second bags) type
    (omega (arith, length-append (first bags) (second bags))) e
result_fits (op.Reduce keys agg) bags captures type given h e =
    with_fits (types_of (slice_get (first bags)) keys) (agg_type agg (first bags)) (length keys) type (length-types_of (slice_get (first bags)) keys) h e
result_fits op.Union bags captures type given h e = if_fits (same_types (first bags) (second bags)) (first bags) type (first_fits bags given) e
result_fits op.Distinct bags captures type given h e = some_fits (first bags) type (first_fits bags given) e
result_fits op.Only bags captures type given h e = scalars_fit (only_column (first bags)) type e
result_fits op.Count bags captures type given h e = scalars_fit (Some Int) type e
result_fits (op.Sum column) bags captures type given h e = scalars_fit (where_is Int Int (slice_get (first bags) column)) type e
result_fits (op.MakeRow exprs) bags captures type given h e =
    bags_fit (types_of (type_in [] captures) exprs) (length exprs) type (length-types_of (type_in [] captures) exprs) h e
result_fits (op.Empty types) bags captures type given h e = some_fits types type h e
result_fits (op.Write name) bags captures type given h e = if_fits (is_a Text (type_in [] captures name)) [] type (omega arith) e
result_fits op.Copy bags captures type given h e = argument_fits bags type given e

-- and so is the type that is found
pub typed_fits : (spec : OpSpec) (bags : List VarType) (captures : List ColType) (type : VarType) → AreBags bags → typed_as spec bags captures ≡ Ok type → IsBagType type
typed_fits spec bags captures type given is =
    by_tests (nat_lt MAX_CAPTURES (length captures)) (is_wide spec bags) refl (result spec bags captures) refl is
  where
    by_tests : (large wide : Bool) → is_wide spec bags ≡ wide → (found : Option VarType) → result spec bags captures ≡ found
        → (if large then Err too_large else if wide then Err too_many_columns else ok_or found wrong_type) ≡ Ok type → IsBagType type
    by_tests true wide narrow found same is = cc
    by_tests false true narrow found same is = cc
    by_tests false false narrow None same is = cc
    by_tests false false narrow (Some other) same is =
        let few : width spec bags ≤ MAX_COLUMNS = search (rules, tests) in
        let it : other ≡ type = cc in
        result_fits spec bags captures type given few (same ∙ ap Some it)
