-- Operators over whole bags and the values that they capture.
use Rattle.std.proofs.Common.{◌≡◌, List, [], ◌∷◌, ◌++◌, map, length, take, drop, refl, ap, sym, subst, ◌∙◌, append-nil, IsSome, Option, None, Some, Ok, Result}
use Rattle.std.specs.FinMap as fin
use Rattle.mit_rows.specs.Bags.{BagOf, RowOf, all_rows, bag_of}
use Rattle.mit_rows.specs.declared.value.ColType.{ColType}
use Rattle.mit_rows.specs.declared.value.Value.{Value}
use Rattle.mit_files.specs.Files.{FileMap}
use Rattle.mit_expr.specs.declared.expr.Expr.{Expr}
use Rattle.mit_expr.specs.Values.{value_in}
use Rattle.mit_ops.specs.Answers.{BagOrFault, at_row, both, over}
use Rattle.mit_ops.specs.EachRow.{given, given_all, row_of_exprs}
use Rattle.mit_ops.specs.Forms.{whole_answer}
use Rattle.mit_ops.specs.Kinds.{bag_inputs_of}
use Rattle.mit_ops.specs.Operators.{captured, captures_among, form_of, if_captured, one_value, whole}
use Rattle.mit_ops.specs.Parts.{Fits}
use Rattle.mit_ops.specs.Results.{and_types}
use Rattle.mit_ops.specs.declared.kinds.OpSpec.{OpSpec}
use Rattle.mit_step.specs.Stepping.{GivesWhole, with_captures}
use Rattle.mit_step.specs.declared.whole.WholeStop.{WholeStop}

-- ---- bags first, then the captured values
drop_all : {X : Type 0} (xs ys : List X) → drop (length xs) (xs ++ ys) ≡ ys
drop_all [] ys = refl
drop_all (x ∷ xs) ys = drop_all xs ys

take_all : {X : Type 0} (xs ys : List X) → take (length xs) (xs ++ ys) ≡ xs
take_all [] [] = refl
take_all [] (y ∷ ys) = refl
take_all (x ∷ xs) ys = ap (λ l. x ∷ l) (take_all xs ys)

pub captured_values : (captures : List Value) → captured (map (λ value. (value ∷ []) ∷ []) captures) ≡ Some captures
unfolding captured
captured_values [] = refl
captured_values (value ∷ captures) = rw (captured_values captures) refl

module _ (spec : OpSpec) (bags : List BagOf) (captures : List Value) (count : length bags ≡ bag_inputs_of spec) where
  pub captures_are : captures_among spec (with_captures bags captures) ≡ Some captures
  captures_are =
      ap (λ n. captured (drop n (with_captures bags captures))) (sym count)
      ∙ ap captured (drop_all bags (map (λ value. (value ∷ []) ∷ []) captures)) ∙ captured_values captures

  pub whole_as : (files : FileMap) → whole spec (with_captures bags captures) files ≡ whole_answer (form_of spec files captures) bags
  whole_as files =
      ap (λ found. if_captured found (λ values. whole_answer (form_of spec files values) (take (bag_inputs_of spec) (with_captures bags captures)))) captures_are
      ∙ ap (λ n. whole_answer (form_of spec files captures) (take n (with_captures bags captures))) (sym count)
      ∙ ap (whole_answer (form_of spec files captures)) (take_all bags (map (λ value. (value ∷ []) ∷ []) captures))

pub gives_same : (answer other : BagOrFault) (result : Result BagOf WholeStop) → answer ≡ other → GivesWhole other result → GivesWhole answer result
gives_same answer other result e = subst (λ (a : BagOrFault). GivesWhole a result) (sym e)

-- what an operator gives is what its kind gives
pub of_kind : (spec kind : OpSpec) (bags : List BagOf) (captures : List Value) (answer : BagOrFault) (result : Result BagOf WholeStop) → spec ≡ kind
    → length bags ≡ bag_inputs_of kind → answer ≡ whole_answer (form_of kind fin.empty captures) bags → GivesWhole answer result
    → GivesWhole (whole spec (with_captures bags captures) fin.empty) result
of_kind spec kind bags captures answer result is count same =
    gives_same (whole spec (with_captures bags captures) fin.empty) answer result
    (ap (λ (s : OpSpec). whole s (with_captures bags captures) fin.empty) is ∙ whole_as kind bags captures count fin.empty ∙ sym same)

pub fits_as : (spec kind : OpSpec) (inputs : List BagOf) → spec ≡ kind → Fits spec inputs → Fits kind inputs
fits_as spec kind inputs is = subst (λ (s : OpSpec). Fits s inputs) is

-- ---- what the kinds give
pub one_bag : (bag : BagOf) → all_rows (bag ∷ []) ≡ bag
unfolding all_rows
one_bag bag = append-nil bag

pub one_expr : (captures : List Value) (expr : Expr) → row_of_exprs captures (expr ∷ []) [] ≡ given (value_in [] captures expr) one_value
unfolding given_all
one_expr captures expr = refl

pub one_typed : (found : Option ColType) → IsSome found → IsSome (and_types found (Some []))
one_typed None typed = typed
one_typed (Some is) typed = refl

-- rows themselves add up to their bag
module _ (sorted : (rows : List RowOf) → bag_of rows ≡ bag_of (bag_of rows)) (parts : (first second : List RowOf) → bag_of (bag_of first ++ bag_of second) ≡ bag_of (first ++ second)) where
  after : (row : RowOf) (rows : List RowOf) → bag_of ((row ∷ []) ++ bag_of rows) ≡ bag_of ((row ∷ []) ++ rows)
  after row rows =
      sym (parts (row ∷ []) (bag_of rows)) ∙ ap (λ later. bag_of (bag_of (row ∷ []) ++ later)) (sym (sorted rows)) ∙ parts (row ∷ []) rows

  pub rows_themselves : (rows : List RowOf) → over (λ row. at_row row (Ok (row ∷ []))) rows ≡ Ok (bag_of rows)
  unfolding over bag_of
  rows_themselves [] = refl
  rows_themselves (row ∷ rows) = ap (both (Ok (row ∷ []))) (rows_themselves rows) ∙ ap Ok (after row rows)
