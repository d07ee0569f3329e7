-- Arguments that the check accepts fit their operator, and what it gives has the type that was found.
use Rattle.std.proofs.Common.{◌≡◌, ◌≢◌, ◌∙◌, ℕ, List, [], ◌∷◌, ◌++◌, All, Bool, true, false, Result, Ok, Err, ap, arith, drop, length, map, refl, subst, sym, take}
use Rattle.std.specs.List.{AllZip, list_all}
use Rattle.std.specs.Prelude.{◌&&◌, IfOk, IsTrue, MatchResult, flat_map, if◌then◌else◌, nat_lt, not}
use Rattle.std.proofs.lemmas.List.{length-map, length-take, map-append, take-append-drop, take-map, drop-map}
use Rattle.std.proofs.lemmas.List.Elements.{All-cons, All-head, All-nil}
use Rattle.std.proofs.lemmas.List.Folds.{list_all-append}
use Rattle.mit_rows.specs.Bags.{BagOf, RowOf}
use Rattle.mit_rows.specs.declared.value.Value.{Value}
use Rattle.mit_rows.specs.declared.value.ColType.{ColType}
use Rattle.mit_files.specs.Files.{FileMap}
use Rattle.mit_expr.specs.Types.{type_of_value}
use Rattle.mit_ops.specs.Kinds.{bag_inputs_of, kind_of}
use Rattle.mit_ops.specs.Operators.{bags_in, whole}
use Rattle.mit_ops.specs.Parts.{FitsAs, HaveColumns, StandsIn, input_columns}
use Rattle.mit_ops.specs.Results.{AreBags, IsBagType, Refusal, typed_as}
use Rattle.mit_ops.specs.declared.kinds.OpSpec.{OpSpec}
use Rattle.mit_ops.specs.declared.types.TheConstants.{MAX_CAPTURES}
use Rattle.mit_ops.specs.declared.types.VarType.{VarType}
use Rattle.mit_script.specs.Accepted.{Known, bag_types, captured_args, type_or_unset, is_assigned, judged, type_of, typed_by, typed_or_code}
use Rattle.mit_script.specs.Trees.{AreArgs}
use Rattle.mit_script.specs.declared.typed.CheckCode.TheVariants.{NotScalar, TooLarge, Unassigned}
use Rattle.mit_step.specs.Typing.{Argued, HasType, IsMade, IsValue, StoreHolds, inputs_in, stored_bag}

-- ---- what was judged

tests : (assigned scalars large : Bool) (found : Result VarType Refusal) (type : VarType)
    → (if not assigned then Err Unassigned else if not scalars then Err NotScalar else if large then Err TooLarge else typed_or_code found) ≡ Ok type
    → (assigned ≡ true) × (scalars ≡ true) × (found ≡ Ok type)
tests false scalars large found type is = cc
tests true false large found type is = cc
tests true true true found type is = cc
tests true true false (Err why) type is = cc
tests true true false (Ok other) type is = (refl, refl, let same : other ≡ type = cc in ap Ok same)

judged_parts : (known : Known) (operator : OpSpec) (args : List ℕ) (type : VarType) → judged known operator args ≡ Ok type
    → (list_all (is_assigned known.assigned) args ≡ true) × (list_all (λ variable. (type_of known variable).scalar) (captured_args operator args) ≡ true) × (typed_by known operator args ≡ Ok type)
judged_parts known operator args type is =
    tests (list_all (is_assigned known.assigned) args) (list_all (λ variable. (type_of known variable).scalar) (captured_args operator args))
    (nat_lt MAX_CAPTURES (length (captured_args operator args))) (typed_by known operator args) type is

and_parts : (a b : Bool) → (a && b) ≡ true → (a ≡ true) × (b ≡ true)
and_parts true b is = (refl, is)
and_parts false b is = cc

all_parts : (p : ℕ → Bool) (count : ℕ) (args : List ℕ) → list_all p args ≡ true → (list_all p (take count args) ≡ true) × (list_all p (drop count args) ≡ true)
all_parts p count args is =
    and_parts (list_all p (take count args)) (list_all p (drop count args))
    (sym (list_all-append p (take count args) (drop count args)) ∙ (ap (list_all p) (take-append-drop count args) ∙ is))

-- ---- the bags of arguments

-- the bag of an assigned variable has the type that is known
held_type : {types : List VarType} {known : Known} {store : List BagOf} → StoreHolds types known store → (variable : ℕ) → is_assigned known.assigned variable ≡ true
    → HasType (type_of known variable) (stored_bag store variable)
held_type {store = store} holds variable is =
    subst (λ found. HasType (type_or_unset found) (stored_bag store variable)) (sym (holds.typed variable is)) (holds.held variable is)

-- a row of one column is one value
one_in_row : (row : RowOf) (cols : List ColType) → length cols ≡ 1 → map type_of_value row ≡ cols → (value : Value) × (row ≡ value ∷ [])
one_in_row [] [] long same = cc
one_in_row [] (c ∷ cols) long same = cc
one_in_row (value ∷ []) cols long same = (value, refl)
one_in_row (value ∷ other ∷ row) [] long same = cc
one_in_row (value ∷ other ∷ row) (c ∷ []) long same = cc
one_in_row (value ∷ other ∷ row) (c ∷ d ∷ cols) long same = absurd (omega (arith, long))

one_value : (cols : List ColType) (bag : BagOf) → length cols ≡ 1 → HaveColumns cols bag → length bag ≡ 1 → IsValue bag
one_value cols [] long have one = cc
one_value cols (row ∷ []) long have one =
    let it = one_in_row row cols long (All-head (λ r. map type_of_value r ≡ cols) row [] have) in (it.0, ap (λ r. r ∷ []) it.1)
one_value cols (row ∷ other ∷ bag) long have one = absurd (omega (arith, one))

module _ {types : List VarType} {known : Known} {store : List BagOf} (holds : StoreHolds types known store) where
  bags_wide : (vs : List ℕ) → list_all (is_assigned known.assigned) vs ≡ true → AreBags (map (type_of known) vs)
  bags_wide [] is = All-nil IsBagType
  bags_wide (v ∷ vs) is =
      let parts = and_parts (is_assigned known.assigned v) (list_all (is_assigned known.assigned) vs) is in
      All-cons IsBagType (type_of known v) (map (type_of known) vs) (held_type holds v parts.0).wide (bags_wide vs parts.1)

  bags_have : (vs : List ℕ) → list_all (is_assigned known.assigned) vs ≡ true → AllZip HaveColumns (map (λ type. type.cols) (map (type_of known) vs)) (inputs_in store vs)
  bags_have [] is = tt
  bags_have (v ∷ vs) is =
      let parts = and_parts (is_assigned known.assigned v) (list_all (is_assigned known.assigned) vs) is in
      ((held_type holds v parts.0).columns, bags_have vs parts.1)

  bags_stand : (vs : List ℕ) → list_all (is_assigned known.assigned) vs ≡ true → AllZip (StandsIn 0) (map (type_of known) vs) (inputs_in store vs)
  bags_stand [] is = tt
  bags_stand (v ∷ vs) is =
      let parts = and_parts (is_assigned known.assigned v) (list_all (is_assigned known.assigned) vs) is in
      ((held_type holds v parts.0).one, bags_stand vs parts.1)

  scalars_one : (vs : List ℕ) → list_all (is_assigned known.assigned) vs ≡ true → list_all (λ variable. (type_of known variable).scalar) vs ≡ true
      → All (λ rows. length rows ≡ 1) (inputs_in store vs)
  scalars_one [] is scalar = All-nil (λ rows. length rows ≡ 1)
  scalars_one (v ∷ vs) is scalar =
      let parts = and_parts (is_assigned known.assigned v) (list_all (is_assigned known.assigned) vs) is in
      let scalars = and_parts (type_of known v).scalar (list_all (λ variable. (type_of known variable).scalar) vs) scalar in
      All-cons (λ rows. length rows ≡ 1) (stored_bag store v) (inputs_in store vs) ((held_type holds v parts.0).one scalars.0) (scalars_one vs parts.1 scalars.1)

  all_values : (vs : List ℕ) → list_all (is_assigned known.assigned) vs ≡ true → list_all (λ variable. (type_of known variable).scalar) vs ≡ true → All IsValue (inputs_in store vs)
  all_values [] is scalar = All-nil IsValue
  all_values (v ∷ vs) is scalar =
      let parts = and_parts (is_assigned known.assigned v) (list_all (is_assigned known.assigned) vs) is in
      let scalars = and_parts (type_of known v).scalar (list_all (λ variable. (type_of known variable).scalar) vs) scalar in
      let it = held_type holds v parts.0 in
      All-cons IsValue (stored_bag store v) (inputs_in store vs) (one_value (type_of known v).cols (stored_bag store v) (it.wide.1 scalars.0) it.columns (it.one scalars.0)) (all_values vs parts.1 scalars.1)

  captures_have : (vs : List ℕ) → list_all (is_assigned known.assigned) vs ≡ true → list_all (λ variable. (type_of known variable).scalar) vs ≡ true
      → AllZip HaveColumns (map (λ capture. capture ∷ []) (flat_map (λ variable. (type_of known variable).cols) vs)) (inputs_in store vs)
  captures_have [] is scalar = tt
  captures_have (v ∷ vs) is scalar =
      let parts = and_parts (is_assigned known.assigned v) (list_all (is_assigned known.assigned) vs) is in
      let scalars = and_parts (type_of known v).scalar (list_all (λ variable. (type_of known variable).scalar) vs) scalar in
      let it = held_type holds v parts.0 in
      single (type_of known v).cols (stored_bag store v) (flat_map (λ variable. (type_of known variable).cols) vs) (inputs_in store vs) (it.wide.1 scalars.0) it.columns (captures_have vs parts.1 scalars.1)
    where
      single : (cols : List ColType) (bag : BagOf) (more : List ColType) (bags : List BagOf) → length cols ≡ 1 → HaveColumns cols bag
          → AllZip HaveColumns (map (λ capture. capture ∷ []) more) bags → AllZip HaveColumns (map (λ capture. capture ∷ []) (cols ++ more)) (bag ∷ bags)
      single [] bag more bags long have rest = cc
      single (c ∷ []) bag more bags long have rest = (have, rest)
      single (c ∷ d ∷ cols) bag more bags long have rest = absurd (omega (arith, long))

zip_both : {A B : Type 0} (R : A → B → Type 0) (xs xs' : List A) (ys ys' : List B) → AllZip R xs ys → AllZip R xs' ys' → AllZip R (xs ++ xs') (ys ++ ys')
zip_both R [] xs' [] ys' one other = other
zip_both R [] xs' (y ∷ ys) ys' one other = absurd one
zip_both R (x ∷ xs) xs' [] ys' one other = absurd one
zip_both R (x ∷ xs) xs' (y ∷ ys) ys' one other = (one.0, zip_both R xs xs' ys ys' one.1 other)

-- ---- an operator over its arguments

op_fits : {types : List VarType} {known : Known} {store : List BagOf} (operator : OpSpec) (args : List ℕ) (type : VarType) → StoreHolds types known store
    → judged known operator args ≡ Ok type → AreArgs (length store) operator args
    → FitsAs operator (bag_types known operator args) (flat_map (λ variable. (type_of known variable).cols) (captured_args operator args)) (inputs_in store args) type
op_fits {known = known} {store = store} operator args type holds is are =
    let count = bag_inputs_of operator in
    let parts = judged_parts known operator args type is in
    let assigned = all_parts (is_assigned known.assigned) count args parts.0 in
    let complete = are.complete in
    let long : length (take count args) ≡ count = omega (arith, complete, length-take count args) in
    let rows : inputs_in store (take count args) ++ inputs_in store (drop count args) ≡ inputs_in store args =
    sym (map-append (stored_bag store) (take count args) (drop count args)) ∙ ap (inputs_in store) (take-append-drop count args) in
    record {
      count = length-map (take count args) (type_of known) ∙ long;
      wide = bags_wide holds (take count args) assigned.0;
      typed = parts.2;
      rows = subst (AllZip HaveColumns (input_columns (bag_types known operator args) (flat_map (λ variable. (type_of known variable).cols) (captured_args operator args)))) rows
          (zip_both HaveColumns _ _ _ _ (bags_have holds (take count args) assigned.0) (captures_have holds (drop count args) assigned.1 parts.1));
    }

op_ones : {types : List VarType} {known : Known} {store : List BagOf} (operator : OpSpec) (args : List ℕ) (type : VarType) → StoreHolds types known store
    → judged known operator args ≡ Ok type → All (λ rows. length rows ≡ 1) (drop (bag_inputs_of operator) (inputs_in store args))
op_ones {known = known} {store = store} operator args type holds is =
    let count = bag_inputs_of operator in
    let parts = judged_parts known operator args type is in
    let assigned = all_parts (is_assigned known.assigned) count args parts.0 in
    subst (All (λ rows. length rows ≡ 1)) (sym (drop-map (stored_bag store) count args)) (scalars_one holds (drop count args) assigned.1 parts.1)

pub op_argued : {types : List VarType} {known : Known} {store : List BagOf} (operator : OpSpec) (args : List ℕ) (type : VarType) → StoreHolds types known store
    → judged known operator args ≡ Ok type → AreArgs (length store) operator args → Argued operator args store
op_argued {known = known} operator args type holds is are =
    let complete = are.complete in
    record {
      known = are.known;
      complete = omega (arith, complete);
      fits = (bag_types known operator args, flat_map (λ variable. (type_of known variable).cols) (captured_args operator args), type, op_fits operator args type holds is are);
      values = all_values holds (drop (bag_inputs_of operator) args) (all_parts (is_assigned known.assigned) (bag_inputs_of operator) args (judged_parts known operator args type is).0).1
          (judged_parts known operator args type is).1;
    }

pub op_typed : {types : List VarType} {known : Known} {store : List BagOf} (operator : OpSpec) (args : List ℕ) (type : VarType) → StoreHolds types known store
    → judged known operator args ≡ Ok type → AreArgs (length store) operator args → kind_of operator ≢ 14 → (bag : BagOf) → IsMade operator (inputs_in store args) bag → HasType type bag
op_typed {known = known} {store = store} operator args type holds is are other bag made =
    let bags = bag_types known operator args in
    let captures = flat_map (λ variable. (type_of known variable).cols) (captured_args operator args) in
    let fits = op_fits operator args type holds is are in
    let assigned = all_parts (is_assigned known.assigned) (bag_inputs_of operator) args (judged_parts known operator args type is).0 in
    let stand : AllZip (StandsIn 0) bags (bags_in operator (inputs_in store args)) =
    subst (AllZip (StandsIn 0) bags) (sym (take-map (stored_bag store) (bag_inputs_of operator) args)) (bags_stand holds (take (bag_inputs_of operator) args) assigned.0) in
    record {
      wide = made.wide bags captures type fits.wide fits.typed;
      columns = made.columns bags captures type fits other;
      one = λ scalar. made.one bags captures type fits scalar stand (op_ones operator args type holds is);
    }

-- ---- what an operator gave

-- the laws of operators tell the type of what was given over some files
pub made_of : {A E : Type 0} (value : A → BagOf) (operator : OpSpec) (inputs : List BagOf) (files : FileMap) (result : Result A E) (stops : E → Type 0)
    → ((spec : OpSpec) (bags : List VarType) (captures : List ColType) (type : VarType) → AreBags bags → typed_as spec bags captures ≡ Ok type → IsBagType type)
    → ((spec : OpSpec) (bags : List VarType) (captures : List ColType) (type : VarType) (lists : List (List RowOf)) (all : FileMap) (rows : List RowOf)
    → FitsAs spec bags captures lists type → kind_of spec ≢ 14 → whole spec lists all ≡ Ok rows → HaveColumns type.cols rows)
    → ((spec : OpSpec) (bags : List VarType) (captures : List ColType) (type : VarType) (lists : List (List RowOf)) (all : FileMap) (rows : List RowOf)
    → FitsAs spec bags captures lists type → IsTrue type.scalar → AllZip (StandsIn 0) bags (bags_in spec lists) → All (λ one. length one ≡ 1) (drop (bag_inputs_of spec) lists)
    → whole spec lists all ≡ Ok rows → length rows ≡ 1)
    → MatchResult result (λ bag. whole operator inputs files ≡ Ok (value bag)) stops → IfOk result (λ bag. IsMade operator inputs (value bag))
made_of value operator inputs files (Ok bag) stops kept columns scalar is = record {
  wide = kept operator;
  columns = λ bags captures type fits other. columns operator bags captures type inputs files (value bag) fits other is;
  one = λ bags captures type fits one stand ones. scalar operator bags captures type inputs files (value bag) fits one stand ones is;
}
made_of value operator inputs files (Err why) stops kept columns scalar is = tt
