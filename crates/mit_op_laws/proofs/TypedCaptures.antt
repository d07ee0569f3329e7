-- Inputs taken apart, and the types of captured scalars.
use Rattle.std.proofs.Common.{◌≡◌, ℕ, Bool, true, false, List, [], ◌∷◌, ◌++◌, length, map, take, drop, Option, Some, None, Ok, Err, if◌then◌else◌, nat_lt, refl, ap, subst, ◌∙◌, arith, option_map}
use Rattle.std.proofs.lemmas.List.{length-map}
use Rattle.std.specs.Option.{ok_or}
use Rattle.std.proofs.lemmas.List.Elements.{All-head, All-tail}
use Rattle.std.specs.List.{All, AllZip}
use Rattle.mit_rows.specs.Bags.{RowOf}
use Rattle.mit_rows.specs.declared.value.ColType.{ColType}
use Rattle.mit_rows.specs.declared.value.Value.{Value}
use Rattle.mit_expr.specs.Types.{type_of_value}
use Rattle.mit_ops.specs.Answers.{BagOrFault}
use Rattle.mit_ops.specs.Kinds.{bag_inputs_of}
use Rattle.mit_ops.specs.Operators.{captured, if_captured, scalar_in}
use Rattle.mit_ops.specs.Parts.{FitsAs, HaveColumns, input_columns}
use Rattle.mit_ops.specs.Results.{is_wide, result, too_large, too_many_columns, wrong_type}
use Rattle.mit_ops.specs.declared.kinds.OpSpec.{OpSpec}
use Rattle.mit_ops.specs.declared.types.TheConstants.{MAX_CAPTURES}
use Rattle.mit_ops.specs.declared.types.VarType.{VarType}
use Rattle.mit_op_laws.proofs.TypedFiles.{cons_some}
use Rattle.mit_op_laws.proofs.TypedOperators.{Have}
use Rattle.mit_op_laws.proofs.TypedRows.{Of}

-- the rows of each captured scalar have its column
abbrev pub HaveCaptures : List ColType → List (List RowOf) → Type 0
HaveCaptures captures inputs = AllZip HaveColumns (map (λ capture. capture ∷ []) captures) inputs

zip_parts : {A B : Type 0} (R : A → B → Type 0) (xs ys : List A) (zs : List B) → AllZip R (xs ++ ys) zs → AllZip R xs (take (length xs) zs) × AllZip R ys (drop (length xs) zs)
zip_parts R [] ys zs all = (tt, all)
zip_parts R (x ∷ xs) ys [] all = absurd all
zip_parts R (x ∷ xs) ys (z ∷ zs) all = let rest = zip_parts R xs ys zs all.1 in ((all.0, rest.0), rest.1)

inputs_parts : (bags : List VarType) (captures : List ColType) (inputs : List (List RowOf)) (count : ℕ) → length bags ≡ count → AllZip HaveColumns (input_columns bags captures) inputs
    → Have bags (take count inputs) × HaveCaptures captures (drop count inputs)
inputs_parts bags captures inputs count e all =
    subst (λ (n : ℕ). Have bags (take n inputs) × HaveCaptures captures (drop n inputs)) (length-map bags (λ bag. bag.cols) ∙ e)
    (zip_parts HaveColumns (map (λ bag. bag.cols) bags) (map (λ capture. capture ∷ []) captures) inputs all)

pub fits_parts : (spec : OpSpec) (bags : List VarType) (captures : List ColType) (inputs : List (List RowOf)) (type : VarType) → FitsAs spec bags captures inputs type
    → Have bags (take (bag_inputs_of spec) inputs) × HaveCaptures captures (drop (bag_inputs_of spec) inputs)
fits_parts spec bags captures inputs type fits = inputs_parts bags captures inputs (bag_inputs_of spec) fits.count fits.rows

-- an operator that gives a type is not refused
not_refused : {E : Type 0} (large wide : Bool) (a b c : E) (found : Option VarType) (type : VarType) → (if large then Err a else if wide then Err b else ok_or found c) ≡ Ok type → found ≡ Some type
not_refused true wide a b c found type e = cc
not_refused false true a b c found type e = cc
not_refused false false a b c None type e = cc
not_refused false false a b c (Some other) type e = let same : other ≡ type = cc in ap Some same

pub fits_result : (spec : OpSpec) (bags : List VarType) (captures : List ColType) (inputs : List (List RowOf)) (type : VarType) → FitsAs spec bags captures inputs type → result spec bags captures ≡ Some type
fits_result spec bags captures inputs type fits = not_refused (nat_lt MAX_CAPTURES (length captures)) (is_wide spec bags) too_large too_many_columns wrong_type (result spec bags captures) type fits.typed

-- ---- captured scalars

scalar_some : (rows : List RowOf) (value : Value) → scalar_in rows ≡ Some value → rows ≡ (value ∷ []) ∷ []
scalar_some [] value e = cc
scalar_some ([] ∷ rows) value e = cc
scalar_some ((one ∷ []) ∷ []) value e = let same : one ≡ value = cc in λ i. (same i ∷ []) ∷ []
scalar_some ((one ∷ []) ∷ row ∷ rows) value e = cc
scalar_some ((one ∷ other ∷ values) ∷ rows) value e = cc

scalar_typed : (rows : List RowOf) (value : Value) (type : ColType) → HaveColumns (type ∷ []) rows → scalar_in rows ≡ Some value → type_of_value value ≡ type
scalar_typed rows value type have e =
    let same : type_of_value value ∷ [] ≡ type ∷ [] = All-head (Of (type ∷ [])) (value ∷ []) [] (subst (HaveColumns (type ∷ [])) (scalar_some rows value e) have) in cc

pub captured_typed : (captures : List ColType) (lists : List (List RowOf)) (values : List Value) → HaveCaptures captures lists → captured lists ≡ Some values → Of captures values
unfolding captured
captured_typed [] [] values have e = let none : [] ≡ values = cc in subst (Of []) none refl
captured_typed [] (rows ∷ lists) values have e = absurd have
captured_typed (type ∷ captures) [] values have e = absurd have
captured_typed (type ∷ captures) (rows ∷ lists) values have e =
    let some = cons_some (scalar_in rows) (captured lists) values e in
    subst (Of (type ∷ captures)) some.4 (λ i. scalar_typed rows some.0 type have.0 some.2 i ∷ captured_typed captures lists some.1 have.1 some.3 i)

-- what holds of no rows where a scalar is not there, and of what is made of them all otherwise
pub if_captured_is : (P : BagOrFault → Type 0) (found : Option (List Value)) (answer : List Value → BagOrFault) → (found ≡ None → P (Ok [])) → ((values : List Value) → found ≡ Some values → P (answer values))
    → P (if_captured found answer)
if_captured_is P None answer none good = none refl
if_captured_is P (Some values) answer none good = good values refl

-- a scalar of one row is there
scalar_there : (rows : List RowOf) (type : ColType) → HaveColumns (type ∷ []) rows → length rows ≡ 1 → (value : Value) × (scalar_in rows ≡ Some value)
scalar_there [] type have one = absurd (omega arith)
scalar_there ([] ∷ rows) type have one = let same = All-head (Of (type ∷ [])) [] rows have in absurd (cc)
scalar_there ((value ∷ []) ∷ []) type have one = (value, refl)
scalar_there ((value ∷ []) ∷ row ∷ rows) type have one = absurd (omega arith)
scalar_there ((value ∷ other ∷ values) ∷ rows) type have one =
    let same = All-head (Of (type ∷ [])) (value ∷ other ∷ values) rows have in absurd (cc)

unmapped : (f : RowOf → RowOf) (o : Option RowOf) → option_map f o ≡ None → o ≡ None
unmapped f None e = refl
unmapped f (Some values) e = cc

pub captured_there : (captures : List ColType) (lists : List (List RowOf)) → HaveCaptures captures lists → All (λ rows. length rows ≡ 1) lists → captured lists ≡ None → ⊥
unfolding captured
captured_there [] [] have one e = cc
captured_there [] (rows ∷ lists) have one e = absurd have
captured_there (type ∷ captures) [] have one e = absurd have
captured_there (type ∷ captures) (rows ∷ lists) have one e =
    let there = scalar_there rows type have.0 (All-head (λ rows. length rows ≡ 1) rows lists one) in
    captured_there captures lists have.1 (All-tail (λ rows. length rows ≡ 1) rows lists one) (unmapped (λ values. there.0 ∷ values) (captured lists) (rw there.1 at e))
