-- What gives a scalar gives one row.
use Rattle.std.proofs.Common.{◌≡◌, ℕ, ◌==◌, zero, suc, Bool, true, false, List, [], ◌∷◌, ◌++◌, length, drop, Some, Result, Ok, Err, IfOk, IsTrue, if◌then◌else◌, slice_get, pos, refl, subst, ap, ◌∙◌, arith, length-append}
use Rattle.std.proofs.lemmas.Bool.Decides.{nat_tests}
use Rattle.std.proofs.lemmas.List.{append-nil}
use Rattle.std.proofs.lemmas.List.Elements.{All-head}
use Rattle.std.proofs.lemmas.List.Sorted.{length_permutation}
use Rattle.std.proofs.lemmas.Option.{cond_some}
use Rattle.std.specs.List.{All, AllZip}
use Rattle.mit_rows.specs.Bags.{RowOf, all_rows, bag_of}
use Rattle.mit_rows.specs.declared.value.ColType.{ColType}
use Rattle.mit_rows.specs.declared.value.ColType.TheVariants as is
use Rattle.mit_rows.specs.declared.value.Value.{Value}
use Rattle.mit_rows.specs.declared.value.Value.TheVariants as value
use Rattle.mit_files.specs.Files.{FileMap}
use Rattle.mit_expr.specs.Types.{type_in, type_of_value}
use Rattle.mit_expr.specs.Values.{IsTyped, ValueOrFault, faults, gives, untyped, value_in, within}
use Rattle.mit_ops.specs.Answers.{BagOrFault, RowsOrKind, at_row, both, over}
use Rattle.mit_ops.specs.EachRow.{given}
use Rattle.mit_ops.specs.Forms.{Form, dealt, each_key, each_match, each_row, once, part_answer, rows_at, whole_answer}
use Rattle.mit_ops.specs.Kinds.{bag_inputs_of}
use Rattle.mit_ops.specs.Operators.{bags_in, captures_among, form_of, one_value, part_apply, single, whole}
use Rattle.mit_ops.specs.Parts.{FitsAs, HaveColumns, StandsIn}
use Rattle.mit_ops.specs.Results.{agg_type, bag, first, flat_type, is_a, keys_fit, result, same_types, scalar, second, types_of}
use Rattle.mit_ops.specs.Totals.{total}
use Rattle.mit_ops.specs.declared.kinds.OpSpec.{OpSpec}
use Rattle.mit_ops.specs.declared.kinds.OpSpec.TheVariants as op
use Rattle.mit_ops.specs.declared.types.VarType.{VarType}
use Rattle.mit_op_laws.proofs.TypedAnswers.{Moves}
use Rattle.mit_op_laws.proofs.TypedCaptures.{if_captured_is, captured_there, captured_typed, fits_parts, fits_result}
use Rattle.mit_op_laws.proofs.TypedOperators.{map_some, with_some}
use Rattle.mit_op_laws.proofs.TypedRows.{Of, Typing, within_typed}

-- so many rows, where rows are given
abbrev Many : {E : Type 0} → ℕ → Result (List RowOf) E → Type 0
Many n answer = IfOk answer (λ rows. length rows ≡ n)

-- ---- forms

-- a form gives one row, or one for each of so many
abbrev FormCounts : ℕ → Form → List (List RowOf) → Type 0
FormCounts n (each_row give) bags = ((row : RowOf) → Many 1 (give row)) × (length (all_rows bags) ≡ n)
FormCounts n (once give) bags = Many 1 (give bags)
FormCounts n form bags = ⊥

both_many : Moves → (a b : BagOrFault) (n : ℕ) → Many 1 a → Many n b → Many (suc n) (both a b)
both_many moves (Ok a) (Ok b) n one more =
    let same = length_permutation (a ++ b) (bag_of (a ++ b)) (moves (a ++ b)) in omega (arith, same, one, more, length-append a b)
both_many moves (Ok a) (Err fault) n one more = tt
both_many moves (Err fault) (Ok b) n one more = tt
both_many moves (Err a) (Err b) n one more = tt

at_row_many : (n : ℕ) (at : RowOf) (found : RowsOrKind) → Many n found → Many n (at_row at found)
at_row_many n at (Ok rows) many = many
at_row_many n at (Err kind) many = tt

over_many : Moves → (give : RowOf → RowsOrKind) → ((row : RowOf) → Many 1 (give row)) → (rows : List RowOf) → Many (length rows) (over (λ row. at_row row (give row)) rows)
unfolding over
over_many moves give one [] = refl
over_many moves give one (row ∷ rows) =
    both_many moves (at_row row (give row)) (over (λ row. at_row row (give row)) rows) (length rows) (at_row_many 1 row (give row) (one row)) (over_many moves give one rows)

each_row_many : Moves → (n : ℕ) (give : RowOf → RowsOrKind) (bags : List (List RowOf)) → FormCounts n (each_row give) bags → Many n (whole_answer (each_row give) bags)
each_row_many moves n give bags counts =
    subst (λ (m : ℕ). Many m (whole_answer (each_row give) bags)) counts.1 (over_many moves give counts.0 (all_rows bags))

once_many : Moves → (found : RowsOrKind) → Many 1 found → Many 1 (whole_answer (once (λ bags. found)) [])
once_many moves (Ok rows) one = length_permutation rows (bag_of rows) (moves rows) ∙ one
once_many moves (Err kind) one = tt

whole_many : Moves → (form : Form) (bags : List (List RowOf)) → FormCounts 1 form bags → Many 1 (whole_answer form bags)
whole_many moves (each_row give) bags counts = each_row_many moves 1 give bags counts
whole_many moves (each_key key give) bags counts = absurd counts
whole_many moves (each_match left right give) bags counts = absurd counts
whole_many moves (once give) bags counts = once_many moves (give bags) counts
whole_many moves (dealt found) bags counts = absurd counts

-- one row in partition 0, and none in the others
abbrev here : ℕ → ℕ
here part = if part == 0 then 1 else 0

part_many : Moves → (form : Form) (parts part : ℕ) (bags : List (List RowOf)) → FormCounts (here part) form bags → Many (here part) (part_answer form parts part bags)
part_many moves (each_row give) parts part bags counts = each_row_many moves (here part) give bags counts
part_many moves (each_key key give) parts part bags counts = absurd counts
part_many moves (each_match left right give) parts part bags counts = absurd counts
part_many moves (once give) parts part bags counts =
    elim (part == 0) as (λ b. Many (if b then 1 else 0) (if b then whole_answer (once give) bags else Ok [])) [ true ↦ once_many moves (give bags) counts | false ↦ refl ]
part_many moves (dealt found) parts part bags counts = absurd counts

-- ---- kinds

-- a scalar stands here in so many rows
abbrev Stands : ℕ → VarType → List RowOf → Type 0
Stands n type rows = IsTrue type.scalar → length rows ≡ n

pub no_scalar : (columns : List ColType) (type : VarType) → bag columns ≡ type → IsTrue type.scalar → ⊥
no_scalar columns type e s = let never : false ≡ true = ap (λ (t : VarType). t.scalar) e ∙ s in cc

value_many : (type : ColType) (outcome : ValueOrFault) → IsTyped type outcome → Many 1 (given outcome one_value)
value_many type (gives value) typed = refl
value_many type (faults fault) typed = tt
value_many type untyped typed = absurd typed

single_many : (rows : List RowOf) → Many 1 (single rows)
single_many [] = tt
single_many (row ∷ []) = refl
single_many (row ∷ other ∷ rows) = tt

copied_many : (bags : List VarType) (inputs : List (List RowOf)) (type : VarType) (n : ℕ) → length bags ≡ 1 → slice_get bags 0 ≡ Some type → IsTrue type.scalar
    → AllZip (Stands n) bags inputs → length (all_rows inputs) ≡ n
unfolding all_rows
copied_many [] inputs type n one e s stand = absurd (omega arith)
copied_many (bag ∷ []) [] type n one e s stand = absurd stand
copied_many (bag ∷ []) (rows ∷ []) type n one e s stand =
    let same : bag ≡ type = cc in ap (λ (l : List RowOf). length l) (append-nil rows) ∙ stand.0 (ap (λ (t : VarType). t.scalar) same ∙ s)
copied_many (bag ∷ []) (rows ∷ other ∷ inputs) type n one e s stand = absurd stand.1
copied_many (bag ∷ other ∷ bags) inputs type n one e s stand = absurd (omega arith)

form_many : Typing → (spec : OpSpec) (bags : List VarType) (captures : List ColType) (type : VarType) (values : List Value) (inputs : List (List RowOf)) (files : FileMap) (n : ℕ)
    → length bags ≡ bag_inputs_of spec → result spec bags captures ≡ Some type → Of captures values → IsTrue type.scalar → AllZip (Stands n) bags inputs
    → FormCounts n (form_of spec files values) inputs
form_many typing (op.Scalar expr) bags captures type values inputs files n count e captured s stand =
    let some = map_some scalar (type_in [] captures expr) type e in value_many some.0 (value_in [] values expr) (typing [] values expr some.0 (rw captured some.1))
form_many typing (op.Read name types) bags captures type values inputs files n count e captured s stand =
    absurd (no_scalar types type (cond_some (is_a is.Text (type_in [] captures name)) (bag types) type e).1 s)
form_many typing (op.Map exprs) bags captures type values inputs files n count e captured s stand =
    let some = map_some bag (types_of (type_in (first bags) captures) exprs) type e in absurd (no_scalar some.0 type some.2 s)
form_many typing (op.Filter expr) bags captures type values inputs files n count e captured s stand =
    absurd (no_scalar (first bags) type (cond_some (is_a is.Bool (type_in (first bags) captures expr)) (bag (first bags)) type e).1 s)
form_many typing (op.FlatMap flat) bags captures type values inputs files n count e captured s stand =
    let some = with_some (Some (first bags)) (flat_type flat (first bags) captures) type e in absurd (no_scalar (some.0 ++ some.1 ∷ []) type some.4 s)
form_many typing (op.Join left right) bags captures type values inputs files n count e captured s stand =
    absurd (no_scalar (first bags ++ second bags) type
    (cond_some (keys_fit (types_of (slice_get (first bags)) left) (types_of (slice_get (second bags)) right)) (bag (first bags ++ second bags)) type e).1 s)
form_many typing (op.Reduce keys agg) bags captures type values inputs files n count e captured s stand =
    let some = with_some (types_of (slice_get (first bags)) keys) (agg_type agg (first bags)) type e in absurd (no_scalar (some.0 ++ some.1 ∷ []) type some.4 s)
form_many typing op.Union bags captures type values inputs files n count e captured s stand =
    absurd (no_scalar (first bags) type (cond_some (same_types (first bags) (second bags)) (bag (first bags)) type e).1 s)
form_many typing op.Distinct bags captures type values inputs files n count e captured s stand =
    let same : bag (first bags) ≡ type = cc in absurd (no_scalar (first bags) type same s)
form_many typing op.Only bags captures type values inputs files n count e captured s stand = single_many (rows_at inputs 0)
form_many typing op.Count bags captures type values inputs files n count e captured s stand =
    value_many is.Int (within (pos (length (rows_at inputs 0)))) (within_typed (pos (length (rows_at inputs 0))))
form_many typing (op.Sum column) bags captures type values inputs files n count e captured s stand =
    value_many is.Int (within (total column (rows_at inputs 0))) (within_typed (total column (rows_at inputs 0)))
form_many typing (op.MakeRow exprs) bags captures type values inputs files n count e captured s stand =
    let some = map_some bag (types_of (type_in [] captures) exprs) type e in absurd (no_scalar some.0 type some.2 s)
form_many typing (op.Empty types) bags captures type values inputs files n count e captured s stand =
    let same : bag types ≡ type = cc in absurd (no_scalar types type same s)
form_many typing (op.Write name) bags captures type values inputs files n count e captured s stand =
    absurd (no_scalar [] type (cond_some (is_a is.Text (type_in [] captures name)) (bag []) type e).1 s)
form_many typing op.Copy bags captures type values inputs files n count e captured s stand = ((λ row. refl), copied_many bags inputs type n count e s stand)

-- ---- parts and wholes

fits_many : Typing → (spec : OpSpec) (bags : List VarType) (captures : List ColType) (type : VarType) (inputs : List (List RowOf)) (files : FileMap) (n : ℕ) (values : List Value)
    → FitsAs spec bags captures inputs type → IsTrue type.scalar → AllZip (Stands n) bags (bags_in spec inputs) → captures_among spec inputs ≡ Some values
    → FormCounts n (form_of spec files values) (bags_in spec inputs)
fits_many typing spec bags captures type inputs files n values fits s stand e =
    form_many typing spec bags captures type values (bags_in spec inputs) files n fits.count (fits_result spec bags captures inputs type fits)
    (captured_typed captures (drop (bag_inputs_of spec) inputs) values (fits_parts spec bags captures inputs type fits).1 e) s stand

-- each captured scalar has its one row
abbrev AllOne : OpSpec → List (List RowOf) → Type 0
AllOne spec inputs = All (λ rows. length rows ≡ 1) (drop (bag_inputs_of spec) inputs)

none_here : (part : ℕ) → (part ≡ 0 → ⊥) → zero ≡ here part
none_here part never = elim (part == 0) as (λ b. (part == 0) ≡ b → zero ≡ (if b then 1 else 0)) [ true ↦ λ t. absurd (never (grind (arith, nat_tests))) | false ↦ λ t. refl ] refl

pub part_scalar : Moves → Typing → (spec : OpSpec) (bags : List VarType) (captures : List ColType) (type : VarType) (part parts : ℕ) (inputs : List (List RowOf)) (files : FileMap)
    (rows : List RowOf) → FitsAs spec bags captures inputs type → IsTrue type.scalar → AllZip (StandsIn part) bags (bags_in spec inputs) → (part ≡ 0 → AllOne spec inputs)
    → part_apply spec part parts inputs files ≡ Ok rows → length rows ≡ here part
part_scalar moves typing spec bags captures type part parts inputs files rows fits s stand one is =
    subst (Many (here part)) is (if_captured_is (Many (here part)) (captures_among spec inputs) (λ values. part_answer (form_of spec files values) parts part (bags_in spec inputs))
    (λ e. none_here part (λ zero_is. captured_there captures (drop (bag_inputs_of spec) inputs) (fits_parts spec bags captures inputs type fits).1 (one zero_is) e))
    (λ values e. part_many moves (form_of spec files values) parts part (bags_in spec inputs) (fits_many typing spec bags captures type inputs files (here part) values fits s stand e)))

pub whole_scalar : Moves → Typing → (spec : OpSpec) (bags : List VarType) (captures : List ColType) (type : VarType) (inputs : List (List RowOf)) (files : FileMap)
    (rows : List RowOf) → FitsAs spec bags captures inputs type → IsTrue type.scalar → AllZip (StandsIn 0) bags (bags_in spec inputs) → AllOne spec inputs
    → whole spec inputs files ≡ Ok rows → length rows ≡ 1
whole_scalar moves typing spec bags captures type inputs files rows fits s stand one is =
    subst (Many 1) is (if_captured_is (Many 1) (captures_among spec inputs) (λ values. whole_answer (form_of spec files values) (bags_in spec inputs))
    (λ e. absurd (captured_there captures (drop (bag_inputs_of spec) inputs) (fits_parts spec bags captures inputs type fits).1 one e))
    (λ values e. whole_many moves (form_of spec files values) (bags_in spec inputs) (fits_many typing spec bags captures type inputs files 1 values fits s stand e)))

-- ---- a truth value

truth_of : (found : Value) → type_of_value found ≡ is.Bool → (truth : Bool) × (found ≡ value.Bool truth)
truth_of (value.Int number) e = cc
truth_of (value.Text text) e = cc
truth_of (value.Bool truth) e = (truth, refl)

pub one_truth : (rows : List RowOf) → HaveColumns (is.Bool ∷ []) rows → length rows ≡ 1 → (truth : Bool) × (rows ≡ (value.Bool truth ∷ []) ∷ [])
one_truth [] have one = absurd (omega arith)
one_truth ([] ∷ rows) have one = let same = All-head (Of (is.Bool ∷ [])) [] rows have in absurd (cc)
one_truth ((found ∷ []) ∷ []) have one =
    let same : type_of_value found ∷ [] ≡ is.Bool ∷ [] = All-head (Of (is.Bool ∷ [])) (found ∷ []) [] have in
    let truth = truth_of found (cc) in (truth.0, λ i. (truth.1 i ∷ []) ∷ [])
one_truth ((found ∷ []) ∷ row ∷ rows) have one = absurd (omega arith)
one_truth ((found ∷ other ∷ values) ∷ rows) have one =
    let same = All-head (Of (is.Bool ∷ [])) (found ∷ other ∷ values) rows have in absurd (cc)
