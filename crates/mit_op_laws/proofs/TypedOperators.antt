-- What each kind of operator gives has its result's columns.
use Rattle.std.proofs.Common.{◌≡◌, ◌≢◌, ℕ, true, false, List, [], ◌∷◌, ◌++◌, length, map, Option, Some, None, Ok, option_map, slice_get, pos, refl, subst, ap, ◌∙◌, arith}
use Rattle.std.proofs.lemmas.List.{append-nil, map-append}
use Rattle.std.proofs.lemmas.List.Elements.{All-append, All-filter, All-map, All-nil, All-weaker}
use Rattle.std.proofs.lemmas.Option.{cond_some}
use Rattle.std.specs.List.{All, AllZip}
use Rattle.mit_rows.specs.Bags.{RowOf, all_rows}
use Rattle.mit_rows.specs.declared.value.ColType.{ColType}
use Rattle.mit_rows.specs.declared.value.ColType.TheVariants as is
use Rattle.mit_rows.specs.declared.value.Value.{Value}
use Rattle.mit_files.specs.Files.{FileMap}
use Rattle.mit_expr.specs.Types.{same_type, type_in, type_of_value, where_is}
use Rattle.mit_expr.specs.Values.{value_in, within}
use Rattle.mit_ops.specs.Answers.{RowsOrKind}
use Rattle.mit_ops.specs.EachRow.{filtered, flattened, given, row_of_exprs}
use Rattle.mit_ops.specs.Forms.{once_each, rows_at, same_row, with_key}
use Rattle.mit_ops.specs.Keys.{key_of}
use Rattle.mit_ops.specs.Kinds.{bag_inputs_of, kind_of}
use Rattle.mit_ops.specs.Operators.{form_of, one_value, single}
use Rattle.mit_ops.specs.Parts.{HaveColumns}
use Rattle.mit_ops.specs.Results.{agg_type, bag, first, flat_type, is_a, keys_fit, only_column, result, same_types, scalar, second, types_of, with_column}
use Rattle.mit_ops.specs.Totals.{aggregate, total}
use Rattle.mit_ops.specs.declared.kinds.Agg.{Agg}
use Rattle.mit_ops.specs.declared.kinds.OpSpec.{OpSpec}
use Rattle.mit_ops.specs.declared.kinds.OpSpec.TheVariants as op
use Rattle.mit_ops.specs.declared.types.VarType.{VarType}
use Rattle.mit_op_laws.proofs.TypedAnswers.{FormGives, Gives, once_each_keeps}
use Rattle.mit_op_laws.proofs.TypedFiles.{read_gives}
use Rattle.mit_op_laws.proofs.TypedRows.{Of, Typing, aggregate_typed, exprs_give, filtered_gives, flattened_gives, given_gives, key_typed, may_be, one_more, row_gives, where_is_gives, within_may_be}

-- ---- rows of the bags

-- the rows of each bag have its columns
abbrev pub Have : List VarType → List (List RowOf) → Type 0
Have bags inputs = AllZip HaveColumns (map (λ bag. bag.cols) bags) inputs

first_have : (bags : List VarType) (inputs : List (List RowOf)) → Have bags inputs → HaveColumns (first bags) (rows_at inputs 0)
first_have [] [] have = All-nil _
first_have [] (rows ∷ inputs) have = absurd have
first_have (bag ∷ bags) [] have = absurd have
first_have (bag ∷ bags) (rows ∷ inputs) have = have.0

second_have : (bags : List VarType) (inputs : List (List RowOf)) → Have bags inputs → HaveColumns (second bags) (rows_at inputs 1)
second_have [] [] have = All-nil _
second_have [] (rows ∷ inputs) have = absurd have
second_have (bag ∷ bags) [] have = absurd have
second_have (bag ∷ bags) (rows ∷ inputs) have = first_have bags inputs have.1

one_bag : (bags : List VarType) (inputs : List (List RowOf)) → length bags ≡ 1 → Have bags inputs → HaveColumns (first bags) (all_rows inputs)
unfolding all_rows
one_bag [] inputs one have = absurd (omega arith)
one_bag (bag ∷ []) [] one have = absurd have
one_bag (bag ∷ []) (rows ∷ []) one have = rw append-nil have.0
one_bag (bag ∷ []) (rows ∷ other ∷ inputs) one have = absurd have.1
one_bag (bag ∷ other ∷ bags) inputs one have = absurd (omega arith)

pub same_type_is : (a b : ColType) → same_type a b ≡ true → a ≡ b
same_type_is is.Int is.Int e = refl
same_type_is is.Int is.Text e = cc
same_type_is is.Int is.Bool e = cc
same_type_is is.Text is.Int e = cc
same_type_is is.Text is.Text e = refl
same_type_is is.Text is.Bool e = cc
same_type_is is.Bool is.Int e = cc
same_type_is is.Bool is.Text e = cc
same_type_is is.Bool is.Bool e = refl

same_types_are : (xs ys : List ColType) → same_types xs ys ≡ true → xs ≡ ys
same_types_are [] [] e = refl
same_types_are [] (y ∷ ys) e = cc
same_types_are (x ∷ xs) [] e = cc
same_types_are (x ∷ xs) (y ∷ ys) e =
    elim (same_type x y) as (λ b. same_type x y ≡ b → same_types (x ∷ xs) (y ∷ ys) ≡ true → x ∷ xs ≡ y ∷ ys) [
      | true ↦ λ t e. λ i. same_type_is x y t i ∷ same_types_are xs ys (rw t at e) i
      | false ↦ λ t e. let never : false ≡ true = rw t at e in cc
    ] refl e

two_bags : (bags : List VarType) (inputs : List (List RowOf)) → length bags ≡ 2 → same_types (first bags) (second bags) ≡ true → Have bags inputs
    → HaveColumns (first bags) (all_rows inputs)
unfolding all_rows
two_bags [] inputs two same have = absurd (omega arith)
two_bags (bag ∷ []) inputs two same have = absurd (omega arith)
two_bags (bag ∷ other ∷ []) [] two same have = absurd have
two_bags (bag ∷ other ∷ []) (rows ∷ []) two same have = absurd have.1
two_bags (bag ∷ other ∷ []) (rows ∷ more ∷ []) two same have =
    All-append (Of bag.cols) rows (more ++ []) have.0 (rw (append-nil, same_types_are bag.cols other.cols same) have.1.0)
two_bags (bag ∷ other ∷ []) (rows ∷ more ∷ another ∷ inputs) two same have = absurd have.1.1
two_bags (bag ∷ other ∷ another ∷ bags) inputs two same have = absurd (omega arith)

-- ---- what a result tells

pub with_some : (columns : Option (List ColType)) (more : Option ColType) (type : VarType) → with_column columns more ≡ Some type
    → (types : List ColType) × (one : ColType) × (columns ≡ Some types) × (more ≡ Some one) × (bag (types ++ one ∷ []) ≡ type)
with_some None more type e = cc
with_some (Some types) None type e = cc
with_some (Some types) (Some one) type e = (types, one, refl, refl, (cc))

pub map_some : {A : Type 0} (make : A → VarType) (o : Option A) (type : VarType) → option_map make o ≡ Some type → (x : A) × (o ≡ Some x) × (make x ≡ type)
map_some make None type e = cc
map_some make (Some x) type e = (x, refl, (cc))

only_some : (columns : List ColType) (type : ColType) → only_column columns ≡ Some type → columns ≡ type ∷ []
only_some [] type e = cc
only_some (one ∷ []) type e = let same : one ≡ type = cc in ap (λ (t : ColType). t ∷ []) same
only_some (one ∷ other ∷ columns) type e = cc

first_some : (bags : List VarType) (type : VarType) → slice_get bags 0 ≡ Some type → first bags ≡ type.cols
first_some [] type e = cc
first_some (bag ∷ bags) type e = let same : bag ≡ type = cc in ap (λ (t : VarType). t.cols) same

-- ---- kinds

single_gives : (P : RowOf → Type 0) (rows : List RowOf) → All P rows → Gives P (single rows)
single_gives P [] all = tt
single_gives P (row ∷ []) all = all
single_gives P (row ∷ other ∷ rows) all = tt

value_gives : (type : ColType) (value : Value) → type_of_value value ≡ type → Gives (Of (type ∷ [])) (one_value value)
value_gives type value same = row_gives (Of (type ∷ [])) (value ∷ []) (λ i. same i ∷ [])

joined_gives : (left right : List ColType) (lefts : List RowOf) (row : RowOf) → HaveColumns left lefts → Of right row → HaveColumns (left ++ right) (map (λ before. before ++ row) lefts)
joined_gives left right lefts row typed same =
    All-map (Of (left ++ right)) (λ before. before ++ row) lefts (λ k d h. map-append type_of_value _ row ∙ (λ i. typed k d h i ++ same i))

-- what a reduction makes of a key and its rows
abbrev reduced : Agg → (RowOf → RowOf) → List RowOf → RowOf → RowsOrKind
reduced agg key_at rows key = given (aggregate agg (with_key key_at key rows)) (λ value. Ok ((key ++ value ∷ []) ∷ []))

group_gives : (agg : Agg) (key_at : RowOf → RowOf) (columns types : List ColType) (type : ColType) (rows : List RowOf) (key : RowOf) → agg_type agg columns ≡ Some type
    → HaveColumns columns rows → Of types key → Gives (Of (types ++ type ∷ [])) (reduced agg key_at rows key)
group_gives agg key_at columns types type rows key e have typed =
    given_gives (All (Of (types ++ type ∷ []))) type (aggregate agg (with_key key_at key rows)) (λ value. Ok ((key ++ value ∷ []) ∷ [])) (All-nil _)
    (aggregate_typed agg columns type (with_key key_at key rows) e (All-filter (λ row. same_row key (key_at row)) (Of columns) rows have))
    (λ value same. row_gives (Of (types ++ type ∷ [])) (key ++ value ∷ []) (one_more types type key value typed same))

groups_give : (keys : List ℕ) (agg : Agg) (columns types : List ColType) (type : ColType) (rows : List RowOf) → types_of (slice_get columns) keys ≡ Some types → agg_type agg columns ≡ Some type
    → HaveColumns columns rows → All (λ key. Gives (Of (types ++ type ∷ [])) (reduced agg (key_of keys) rows key)) (once_each (map (key_of keys) rows))
groups_give keys agg columns types type rows found e have =
    All-weaker (Of types) (λ key. Gives (Of (types ++ type ∷ [])) (reduced agg (key_of keys) rows key)) (λ key typed. group_gives agg (key_of keys) columns types type rows key e have typed)
    (once_each (map (key_of keys) rows)) (once_each_keeps (Of types) (map (key_of keys) rows) (All-map (Of types) (key_of keys) rows
    (All-weaker (Of columns) (λ row. Of types (key_of keys row)) (λ row typed. key_typed keys columns types row typed found) rows have)))

-- each row that is given has the columns of this type
abbrev pub Good : OpSpec → FileMap → List Value → List (List RowOf) → VarType → Type 0
Good spec files values inputs type = FormGives (Of type.cols) (form_of spec files values) inputs

pub form_gives : Typing → (spec : OpSpec) (bags : List VarType) (captures : List ColType) (type : VarType) (values : List Value) (inputs : List (List RowOf)) (files : FileMap)
    → length bags ≡ bag_inputs_of spec → kind_of spec ≢ 14 → result spec bags captures ≡ Some type → Of captures values → Have bags inputs → Good spec files values inputs type
form_gives typing (op.Scalar expr) bags captures type values inputs files count other e captured have =
    let some = map_some scalar (type_in [] captures expr) type e in
    subst (Good (op.Scalar expr) files values inputs) some.2
    (given_gives (All (Of (some.0 ∷ []))) some.0 (value_in [] values expr) one_value (All-nil _)
    (may_be some.0 (value_in [] values expr) (typing [] values expr some.0 (rw captured some.1))) (value_gives some.0))
form_gives typing (op.Read name types) bags captures type values inputs files count other e captured have =
    let some = cond_some (is_a is.Text (type_in [] captures name)) (bag types) type e in
    subst (Good (op.Read name types) files values inputs) some.1 (read_gives files types (value_in [] values name))
form_gives typing (op.Map exprs) bags captures type values inputs files count other e captured have =
    let some = map_some bag (types_of (type_in (first bags) captures) exprs) type e in
    subst (Good (op.Map exprs) files values inputs) some.2
    (All-weaker (Of (first bags)) (λ row. Gives (Of some.0) (row_of_exprs values exprs row))
    (λ row typed. exprs_give typing (first bags) captures some.0 exprs values row captured typed some.1) (all_rows inputs) (one_bag bags inputs count have))
form_gives typing (op.Filter expr) bags captures type values inputs files count other e captured have =
    let some = cond_some (is_a is.Bool (type_in (first bags) captures expr)) (bag (first bags)) type e in
    subst (Good (op.Filter expr) files values inputs) some.1
    (All-weaker (Of (first bags)) (λ row. Gives (Of (first bags)) (filtered values expr row))
    (λ row typed. filtered_gives (Of (first bags)) values expr row typed) (all_rows inputs) (one_bag bags inputs count have))
form_gives typing (op.FlatMap flat) bags captures type values inputs files count other e captured have =
    let some = with_some (Some (first bags)) (flat_type flat (first bags) captures) type e in
    let same : first bags ≡ some.0 = cc in
    subst (Good (op.FlatMap flat) files values inputs) some.4
    (All-weaker (Of (first bags)) (λ row. Gives (Of (some.0 ++ some.1 ∷ [])) (flattened values flat row))
    (λ row typed. rw (← same) (flattened_gives flat (first bags) captures some.1 values row typed some.3)) (all_rows inputs) (one_bag bags inputs count have))
form_gives typing (op.Join left right) bags captures type values inputs files count other e captured have =
    let some = cond_some (keys_fit (types_of (slice_get (first bags)) left) (types_of (slice_get (second bags)) right)) (bag (first bags ++ second bags)) type e in
    subst (Good (op.Join left right) files values inputs) some.1
    (All-weaker (Of (second bags)) (λ row. HaveColumns (first bags ++ second bags) (map (λ before. before ++ row) (with_key (key_of left) (key_of right row) (rows_at inputs 0))))
    (λ row typed. joined_gives (first bags) (second bags) (with_key (key_of left) (key_of right row) (rows_at inputs 0)) row
    (All-filter (λ before. same_row (key_of right row) (key_of left before)) (Of (first bags)) (rows_at inputs 0) (first_have bags inputs have)) typed)
    (rows_at inputs 1) (second_have bags inputs have))
form_gives typing (op.Reduce keys agg) bags captures type values inputs files count other e captured have =
    let some = with_some (types_of (slice_get (first bags)) keys) (agg_type agg (first bags)) type e in
    subst (Good (op.Reduce keys agg) files values inputs) some.4 (groups_give keys agg (first bags) some.0 some.1 (rows_at inputs 0) some.2 some.3 (first_have bags inputs have))
form_gives typing op.Union bags captures type values inputs files count other e captured have =
    let some = cond_some (same_types (first bags) (second bags)) (bag (first bags)) type e in
    subst (Good op.Union files values inputs) some.1
    (All-weaker (Of (first bags)) (λ row. All (Of (first bags)) (row ∷ [])) (row_gives (Of (first bags))) (all_rows inputs) (two_bags bags inputs count some.0 have))
form_gives typing op.Distinct bags captures type values inputs files count other e captured have =
    let same : bag (first bags) ≡ type = cc in
    subst (Good op.Distinct files values inputs) same
    (All-weaker (Of (first bags)) (λ row. All (Of (first bags)) (row ∷ [])) (row_gives (Of (first bags))) (once_each (map (λ row. row) (rows_at inputs 0)))
    (once_each_keeps (Of (first bags)) (map (λ row. row) (rows_at inputs 0)) (All-map (Of (first bags)) (λ row. row) (rows_at inputs 0) (first_have bags inputs have))))
form_gives typing op.Only bags captures type values inputs files count other e captured have =
    let some = map_some scalar (only_column (first bags)) type e in
    subst (Good op.Only files values inputs) some.2
    (single_gives (Of (some.0 ∷ [])) (rows_at inputs 0) (subst (λ (columns : List ColType). HaveColumns columns (rows_at inputs 0)) (only_some (first bags) some.0 some.1) (first_have bags inputs have)))
form_gives typing op.Count bags captures type values inputs files count other e captured have =
    let same : scalar is.Int ≡ type = cc in
    subst (Good op.Count files values inputs) same
    (given_gives (All (Of (is.Int ∷ []))) is.Int (within (pos (length (rows_at inputs 0)))) one_value (All-nil _) (within_may_be is.Int (pos (length (rows_at inputs 0))) refl) (value_gives is.Int))
form_gives typing (op.Sum column) bags captures type values inputs files count other e captured have =
    let some = map_some scalar (where_is is.Int is.Int (slice_get (first bags) column)) type e in
    subst (Good (op.Sum column) files values inputs) some.2
    (given_gives (All (Of (some.0 ∷ []))) some.0 (within (total column (rows_at inputs 0))) one_value (All-nil _)
    (within_may_be some.0 (total column (rows_at inputs 0)) (where_is_gives is.Int is.Int some.0 (slice_get (first bags) column) some.1)) (value_gives some.0))
form_gives typing (op.MakeRow exprs) bags captures type values inputs files count other e captured have =
    let some = map_some bag (types_of (type_in [] captures) exprs) type e in
    subst (Good (op.MakeRow exprs) files values inputs) some.2 (exprs_give typing [] captures some.0 exprs values [] captured refl some.1)
form_gives typing (op.Empty types) bags captures type values inputs files count other e captured have = All-nil _
form_gives typing (op.Write name) bags captures type values inputs files count other e captured have = absurd (other refl)
form_gives typing op.Copy bags captures type values inputs files count other e captured have =
    All-weaker (Of type.cols) (λ row. All (Of type.cols) (row ∷ [])) (row_gives (Of type.cols)) (all_rows inputs)
    (subst (λ (columns : List ColType). HaveColumns columns (all_rows inputs)) (first_some bags type e) (one_bag bags inputs count have))
