-- Types inferred one after another: with one more, and all of them.
use Rattle.std.proofs.Common.{◌≡◌, ◌≢◌, ◌∙◌, ◌<◌, ◌≤◌, ◌+◌, ℕ, suc, List, [], ◌∷◌, length, map, get_or, set, replicate, ap, sym, subst, refl, arith, below_more, cond, Bool, true, false, Option, Some, None, IsSome, All, MatchBool, inl, inr}
use Rattle.std.specs.Prelude.{◌⊎◌, Contains, is_none, is_some, filter_map}
use Rattle.std.proofs.Math.ListN.{length-set}
use Rattle.std.proofs.lemmas.Bool.{MatchBool-at_false, MatchBool-at_true, cases_eq, cases_lt}
use Rattle.std.proofs.lemmas.List.{get_or-map, get_or_default, get_or-replicate, get_or-set_other, get_or-set_same, get_or_past, length-map, length-replicate, same_lists}
use Rattle.std.proofs.lemmas.List.Sums.{sum_by-set}
use Rattle.mit_ops.specs.Results.{bag}
use Rattle.mit_ops.specs.declared.types.VarType.{VarType}
use Rattle.mit_plan.specs.Plans.{EachOp, PlanOf, inputs_of, is_phi, no_edge, op_at}
use Rattle.mit_plan.specs.Types.{type_at}
use Rattle.mit_plan.specs.declared.plan.Edge.{Edge}
use Rattle.mit_valid.specs.Deciding.{ListsStand, PathsStand}
use Rattle.mit_valid.specs.Inferred.{Agree, AreForced, AreInferred, IsForced, IsTried, inferred_at, not_inferred}
use Rattle.mit_valid.proofs.ByInputs.{PlaceLaws, holds_of_each}
use Rattle.mit_valid.proofs.ForcedTypes.{all_agree}

-- ---- none

pub none_inferred : (plan : PlanOf) (inferred : List (Option VarType)) → inferred ≡ replicate (length plan.ops) None → AreInferred plan inferred
none_inferred plan inferred is = record {
  many = ap length is ∙ length-replicate (length plan.ops) None;
  each = λ op type here. absurd (by_order op type here (cases_lt op (length plan.ops)));
}
  where
    by_order : (op : ℕ) (type : VarType) → inferred_at inferred op ≡ Some type → (op < length plan.ops) ⊎ (length plan.ops ≤ op) → ⊥
    by_order op type here (inl below) =
        let none : inferred_at inferred op ≡ None = ap (λ (list : List (Option VarType)). get_or list op None) is ∙ get_or-replicate (length plan.ops) op None None below in
        cc
    by_order op type here (inr past) =
        let none : inferred_at inferred op ≡ None = get_or_past inferred op None (omega (arith, past, ap length is, length-replicate {A = Option VarType} (length plan.ops) None)) in
        cc

-- ---- one more

-- what is read at an operator and is none
pub none_read : (inferred : List (Option VarType)) (op : ℕ) (read : Option VarType) → op < length inferred → read ≡ get_or inferred op read → is_some read ≡ false → inferred_at inferred op ≡ None
none_read inferred op (Some type) below is none = absurd cc
none_read inferred op None below is none = sym is

abbrev pub with_type : List (Option VarType) → ℕ → VarType → List (Option VarType)
with_type inferred op type = set inferred op (Some type)

-- what was inferred before stays
agrees_before : (inferred : List (Option VarType)) (op : ℕ) (type : VarType) (types : List VarType) → inferred_at inferred op ≡ None → Agree (with_type inferred op type) types → Agree inferred types
agrees_before inferred op type types new agree = record {
  each = λ other is_type is.
      let apart : other ≢ op = λ same. absurd (let here : inferred_at inferred op ≡ Some is_type = ap (inferred_at inferred) (sym same) ∙ is in cc) in
      agree.each other is_type (get_or-set_other inferred op other (Some type) None apart ∙ is);
}

still_forced : (plan : PlanOf) (inferred : List (Option VarType)) (op other : ℕ) (type is : VarType) → inferred_at inferred op ≡ None → IsForced plan inferred other is → IsForced plan (with_type inferred op type) other is
still_forced plan inferred op other type is new forced = record {
  only = forced.only;
  fits = λ plain types agree same. forced.fits plain types (agrees_before inferred op type types new agree) same;
  wide = forced.wide;
}

pub one_type_more : (plan : PlanOf) (inferred : List (Option VarType)) (op : ℕ) (type : VarType) → AreInferred plan inferred → op < length plan.ops → inferred_at inferred op ≡ None → IsForced plan inferred op type
    → AreInferred plan (with_type inferred op type)
one_type_more plan inferred op type are below new forced = record {
  many = length-set inferred op (Some type) ∙ are.many;
  each = λ other is here. by_case other is here (cases_eq other op);
}
  where
    by_case : (other : ℕ) (is : VarType) → inferred_at (with_type inferred op type) other ≡ Some is → (other ≡ op) ⊎ (other ≢ op) → IsForced plan (with_type inferred op type) other is
    by_case other is here (inl same) =
        let many = are.many in
        let written : inferred_at (with_type inferred op type) op ≡ Some type = get_or-set_same inferred op (Some type) None (omega (arith, many, below)) in
        let read : inferred_at (with_type inferred op type) op ≡ Some is = ap (inferred_at (with_type inferred op type)) (sym same) ∙ here in
        let e : type ≡ is = cc in
        still_forced plan inferred op other type is new (subst (λ (n : ℕ). IsForced plan inferred n is) (sym same) (subst (λ (one : VarType). IsForced plan inferred op one) e forced))
    by_case other is here (inr apart) =
        still_forced plan inferred op other type is new (are.each other is (sym (get_or-set_other inferred op other (Some type) None apart) ∙ here))

pub fewer_left : (inferred : List (Option VarType)) (op : ℕ) (type : VarType) → op < length inferred → inferred_at inferred op ≡ None → not_inferred (with_type inferred op type) < not_inferred inferred
fewer_left inferred op type below new =
    let count : Option VarType → ℕ = λ one. cond (is_none one) 1 0 in
    let e = sum_by-set count inferred op (Some type) None below in
    let one : count (inferred_at inferred op) ≡ 1 = ap count new in
    omega (arith, e, one)

-- ---- one operator after another

-- fewer are left than at first, or nothing has changed and each operator below this one was tried
abbrev pub Gone : PlanOf → List (Option VarType) → List (Option VarType) → Bool → ℕ → Type 0
Gone plan first inferred goes op =
    AreInferred plan inferred × MatchBool goes (not_inferred inferred < not_inferred first) ((inferred ≡ first) × ((k : ℕ) → k < op → IsTried plan inferred k))

-- nothing changes at the next one, or fewer are left
pub gone_same : (plan : PlanOf) (first before after : List (Option VarType)) (goes : Bool) (op : ℕ) → Gone plan first before goes op → after ≡ before → IsTried plan after op → Gone plan first after goes (op + 1)
gone_same plan first before after true op gone same tried = subst (λ (list : List (Option VarType)). Gone plan first list true (op + 1)) (sym same) gone
gone_same plan first before after false op gone same tried =
    let were : (k : ℕ) → k < op → IsTried plan after k = λ k below. subst (λ (list : List (Option VarType)). IsTried plan list k) (sym same) (gone.1.1 k below) in
    (subst (λ (list : List (Option VarType)). AreInferred plan list) (sym same) gone.0, (same ∙ gone.1.0, below_more (IsTried plan after) op were tried))

pub gone_on : (plan : PlanOf) (first before after : List (Option VarType)) (goes : Bool) (op : ℕ) → Gone plan first before goes op → AreInferred plan after → not_inferred after < not_inferred before → Gone plan first after true (op + 1)
gone_on plan first before after true op gone are fewer = let less = gone.1 in (are, omega (arith, fewer, less))
gone_on plan first before after false op gone are fewer = let same : not_inferred before ≡ not_inferred first = ap not_inferred gone.1.0 in (are, omega (arith, fewer, same))

-- ---- all

-- an operator that is no phi lacks no input where all are inferred, and a phi none where one is
plain_by : (plan : PlanOf) (inferred : List (Option VarType)) (op : ℕ) → is_phi (op_at plan op) ≡ false → All (λ (edge : Edge). IsSome (inferred_at inferred edge.from)) (inputs_of plan op) → IsTried plan inferred op
    → IsSome (inferred_at inferred op)
plain_by plan inferred op plain each (inl some) = some
plain_by plan inferred op plain each (inr lacks) =
    let f : Edge → Option VarType = λ edge. inferred_at inferred edge.from in
    let inputs = inputs_of plan op in
    let lacking = MatchBool-at_false (All (λ type. type ≡ None) (map f inputs)) (Contains (map f inputs) None) plain lacks in
    let k = lacking.0 in
    let within : k < length inputs = omega (arith, lacking.1, length-map inputs f) in
    let none : f (get_or inputs k no_edge) ≡ None = sym (get_or-map f inputs k no_edge None within) ∙ lacking.2 in
    let some = each k no_edge within in
    absurd cc

phi_by : (plan : PlanOf) (inferred : List (Option VarType)) (op k : ℕ) → is_phi (op_at plan op) ≡ true → k < length (inputs_of plan op) → IsSome (inferred_at inferred (get_or (inputs_of plan op) k no_edge).from) → IsTried plan inferred op
    → IsSome (inferred_at inferred op)
phi_by plan inferred op k phi within some (inl here) = here
phi_by plan inferred op k phi within some (inr lacks) =
    let f : Edge → Option VarType = λ edge. inferred_at inferred edge.from in
    let inputs = inputs_of plan op in
    let lacking = MatchBool-at_true (All (λ type. type ≡ None) (map f inputs)) (Contains (map f inputs) None) phi lacks in
    let none : f (get_or inputs k no_edge) ≡ None = sym (get_or-map f inputs k no_edge None within) ∙ lacking k None (omega (arith, within, length-map inputs f)) in
    absurd cc

pub all_inferred : PlaceLaws → (plan : PlanOf) (inferred : List (Option VarType)) → ListsStand plan → PathsStand plan → EachOp plan (IsTried plan inferred) → EachOp plan (λ op. IsSome (inferred_at inferred op))
all_inferred laws plan inferred stand paths tried =
    holds_of_each laws plan (λ op. IsSome (inferred_at inferred op)) stand paths (record {
      plain = λ op below plain each. plain_by plan inferred op plain each (tried op below);
      phi = λ op below phi k within some. phi_by plan inferred op k phi within some (tried op below);
    })

-- the types that are there
pub those_there : (inferred : List (Option VarType)) → ((op : ℕ) → op < length inferred → IsSome (inferred_at inferred op)) → map Some (filter_map (λ type. type) inferred) ≡ inferred
those_there [] each = refl
those_there (None ∷ inferred) each = let none = each 0 (omega arith) in absurd cc
those_there (Some type ∷ inferred) each =
    let rest = those_there inferred (λ op below. each (suc op) (omega (arith, below))) in
    cc

-- ---- as a list

-- a type that is inferred is the one of the list
in_list : (inferred : List (Option VarType)) (types : List VarType) (op : ℕ) (d : VarType) → map Some types ≡ inferred → op < length types → inferred_at inferred op ≡ Some (get_or types op d)
in_list inferred types op d is below = ap (λ (list : List (Option VarType)). get_or list op None) (sym is) ∙ get_or-map Some types op d None below

pub as_list : (plan : PlanOf) (inferred : List (Option VarType)) (types : List VarType) → AreInferred plan inferred → map Some types ≡ inferred → AreForced plan types
as_list plan inferred types are is =
    let many : length types ≡ length plan.ops = sym (length-map types Some) ∙ ap length is ∙ are.many in
    let agree : Agree inferred types = record { each = λ op type here. by_order op type here (cases_lt op (length types)) } in
    record {
      many = many;
      only = λ others fit.
          let alike = all_agree plan inferred others are fit in
          let count : length others ≡ length types = fit.many ∙ sym many in
          same_lists others types count (λ k d below.
          let within : k < length types = omega (arith, below, count) in
          get_or_default others k d (bag []) below ∙ alike.each k (get_or types k d) (in_list inferred types k d is within));
      typed = λ op below plain.
          let within : op < length types = omega (arith, below, many) in
          (are.each op (type_at types op) (in_list inferred types op (bag []) is within)).fits plain types agree refl;
      wide = λ k d below. (are.each k (get_or types k d) (in_list inferred types k d is below)).wide;
    }
  where
    by_order : (op : ℕ) (type : VarType) → inferred_at inferred op ≡ Some type → (op < length types) ⊎ (length types ≤ op) → type_at types op ≡ type
    by_order op type here (inl below) = let there = in_list inferred types op (bag []) is below in cc
    by_order op type here (inr past) =
        let none : inferred_at inferred op ≡ None = get_or_past inferred op None (omega (arith, past, ap length is, length-map types Some)) in
        absurd cc

-- what is inferred in the end, where nothing is left to try
pub all_forced : PlaceLaws → (plan : PlanOf) (inferred : List (Option VarType)) (types : List VarType) → ListsStand plan → PathsStand plan → AreInferred plan inferred → EachOp plan (IsTried plan inferred)
    → types ≡ filter_map (λ type. type) inferred → AreForced plan types
all_forced laws plan inferred types stand paths are tried is =
    let each = all_inferred laws plan inferred stand paths tried in
    let some = those_there inferred (λ op below. each op (omega (arith, below, are.many))) in
    as_list plan inferred types are (ap (map Some) is ∙ some)
