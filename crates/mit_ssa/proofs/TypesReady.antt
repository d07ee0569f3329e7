-- What the check knows of types: what is assigned has a type, a scalar has one column, and types stay.
use Rattle.std.proofs.Common.{◌≡◌, ◌∙◌, ◌<◌, ℕ, zero, suc, List, [], ◌∷◌, length, map, take, flat_map, ap, sym, subst, refl, arith, cond, Bool, true, false, ◌&&◌, not, nat_lt, Option, Some, None, is_some, unwrap_or, slice_get, slice_set, slice_index_or, Result, Ok, Err, ◌⊎◌, inl, inr}
use Rattle.std.specs.List.{list_all}
use Rattle.std.proofs.lemmas.Bool.{and_parts}
use Rattle.mit_ops.specs.Kinds.{bag_inputs_of}
use Rattle.mit_ops.specs.Results.{Refusal, same_types}
use Rattle.mit_ops.specs.declared.kinds.OpSpec.{OpSpec}
use Rattle.mit_ops.specs.declared.types.TheConstants.{MAX_CAPTURES}
use Rattle.mit_ops.specs.declared.types.VarType.{VarType}
use Rattle.mit_script.specs.Accepted.{Fault, Known, and_then, assigned_by, assigned_in_both, assigning, captured_args, decided_by, fault_here, fault_or, first_type, is_assigned, is_condition, is_kept, judged, passed, same_truth, type_of, type_or_unset, typed_by, typed_or_code, unset, with_assigned, written_by}
use Rattle.mit_script.specs.declared.typed.CheckCode.{CheckCode}
use Rattle.mit_script.specs.declared.typed.CheckCode.TheVariants.{NotScalar, TooLarge, Unassigned, WrongType}
use Rattle.mit_ssa.proofs.TypesOne.{IsOne, each_one, one_typed, types_are}
use Rattle.mit_ssa.proofs.DefinitionsPhis.{Each}
use Rattle.mit_ssa.proofs.DefinitionsReady.{both_marks, length_both, length_set, marked_below, set_marks}

-- ---- look-ups

abbrev found_at : List (Option VarType) → ℕ → Option VarType
found_at xs k = unwrap_or (slice_get xs k) None

set_here : (xs : List (Option VarType)) (k : ℕ) (x : Option VarType) → k < length xs → found_at (slice_set xs k x) k ≡ x
set_here [] k x below = absurd (omega arith)
set_here (y ∷ ys) zero x below = refl
set_here (y ∷ ys) (suc k) x below = set_here ys k x (omega arith)

set_other : (xs : List (Option VarType)) (k v : ℕ) (x : Option VarType) (t : VarType) → found_at xs k ≡ None → found_at xs v ≡ Some t
    → found_at (slice_set xs k x) v ≡ Some t
set_other [] k v x t none some = absurd cc
set_other (y ∷ ys) zero zero x t none some = absurd (let e = sym none ∙ some in cc)
set_other (y ∷ ys) zero (suc v) x t none some = some
set_other (y ∷ ys) (suc k) zero x t none some = some
set_other (y ∷ ys) (suc k) (suc v) x t none some = set_other ys k v x t none some

set_from : (xs : List (Option VarType)) (k v : ℕ) (x : Option VarType) (t : VarType) → found_at (slice_set xs k x) v ≡ Some t
    → (x ≡ Some t) ⊎ (found_at xs v ≡ Some t)
set_from [] k v x t some = inr some
set_from (y ∷ ys) zero zero x t some = inl some
set_from (y ∷ ys) zero (suc v) x t some = inr some
set_from (y ∷ ys) (suc k) zero x t some = inr some
set_from (y ∷ ys) (suc k) (suc v) x t some = set_from ys k v x t some

-- ---- what is known

-- types stay
pub record Grows (known known_after : Known) : Type 0 where
  pub many : length known_after.types ≡ length known.types
  pub keeps : (variable : ℕ) (type : VarType) → first_type known variable ≡ Some type → first_type known_after variable ≡ Some type

-- what is assigned has a type
pub record Firsts (variables : ℕ) (known : Known) : Type 0 where
  pub many : length known.types ≡ variables
  pub sized : length known.assigned ≡ variables
  pub some : (variable : ℕ) → is_assigned known.assigned variable ≡ true → is_some (first_type known variable) ≡ true
  pub ones : (variable : ℕ) (type : VarType) → first_type known variable ≡ Some type → IsOne type

-- the type of a variable of the script
abbrev pub type_in : List VarType → ℕ → VarType
type_in types variable = slice_index_or types variable unset

-- the types that are known are those of the script
abbrev pub Agrees : List VarType → Known → Type 0
Agrees types known = (variable : ℕ) (type : VarType) → first_type known variable ≡ Some type → type_in types variable ≡ type

pub grows_agree : (types : List VarType) (known known_after : Known) → Grows known known_after → Agrees types known_after → Agrees types known
grows_agree types known known_after grows agrees = λ variable type is. agrees variable type (grows.keeps variable type is)

pub grows_same : (known : Known) → Grows known known
grows_same known = record { many = refl; keeps = λ variable type is. is }

pub grows_then : (one two three : Known) → Grows one two → Grows two three → Grows one three
grows_then one two three first second = record {
  many = second.many ∙ first.many;
  keeps = λ variable type is. second.keeps variable type (first.keeps variable type is);
}

pub grows_passed : (known : Known) → Grows known (passed known)
grows_passed known = record { many = refl; keeps = λ variable type is. is }

pub grows_beside : (assigned : List Bool) (known : Known) → Grows known (with_assigned assigned known)
grows_beside assigned known = record { many = refl; keeps = λ variable type is. is }

pub grows_to : (known one other : Known) → one ≡ other → Grows known one → Grows known other
grows_to known one other same grows = subst (λ (k : Known). Grows known k) same grows

pub grows_assigning : (target : ℕ) (type : VarType) (known : Known) → Grows known (assigning target type known)
grows_assigning target type known = by_first (first_type known target) refl
  where
    by_first : (first : Option VarType) → first_type known target ≡ first → Grows known (assigning target type known)
    by_first (Some other) is = rw is (record { many = refl; keeps = λ variable type is. is })
    by_first None is = rw is (record {
      many = length_set known.types target (Some type);
      keeps = λ variable other some. set_other known.types target variable (Some type) other is some;
    })

pub firsts_passed : (variables : ℕ) (known : Known) → Firsts variables known → Firsts variables (passed known)
firsts_passed variables known firsts = record { many = firsts.many; sized = firsts.sized; some = firsts.some; ones = firsts.ones }

some_true : (found : Option VarType) (type : VarType) → found ≡ Some type → is_some found ≡ true
some_true found type is = ap (λ (f : Option VarType). is_some f) is

type_some : (found : Option VarType) → is_some found ≡ true → found ≡ Some (type_or_unset found)
type_some None some = absurd cc
type_some (Some type) some = refl

one_option : (one other : VarType) → Some one ≡ Some other → one ≡ other
one_option one other same = cc

pub firsts_assigning : (variables : ℕ) (known : Known) (target : ℕ) (type : VarType) → IsOne type → Firsts variables known
    → Firsts variables (assigning target type known)
firsts_assigning variables known target type one firsts = record {
  many = grows.many ∙ firsts.many;
  sized = length_set known.assigned target true ∙ firsts.sized;
  some = λ variable is. by_marks variable (set_marks known.assigned target variable is) is;
  ones = by_first (first_type known target) refl;
}
  where
    grows : Grows known (assigning target type known)
    grows = grows_assigning target type known

    by_first : (first : Option VarType) → first_type known target ≡ first
        → (variable : ℕ) (other : VarType) → first_type (assigning target type known) variable ≡ Some other → IsOne other
    by_first (Some old) was = rw was (λ variable other is. firsts.ones variable other is)
    by_first None was = rw was (λ variable other is. by_set variable other (set_from known.types target variable (Some type) other is))
      where
        by_set : (variable : ℕ) (other : VarType) → (Some type ≡ Some other) ⊎ (found_at known.types variable ≡ Some other) → IsOne other
        by_set variable other (inl new) = subst IsOne (one_option type other new) one
        by_set variable other (inr old) = firsts.ones variable other old

    here : target < length known.types → (first : Option VarType) → first_type known target ≡ first
        → is_some (first_type (assigning target type known) target) ≡ true
    here below (Some old) was = some_true (first_type (assigning target type known) target) old (grows.keeps target old was)
    here below None was = rw was (some_true (found_at (slice_set known.types target (Some type)) target) type (set_here known.types target (Some type) below))

    by_marks : (variable : ℕ) → (variable ≡ target) ⊎ (is_assigned known.assigned variable ≡ true)
        → is_assigned (slice_set known.assigned target true) variable ≡ true → is_some (first_type (assigning target type known) variable) ≡ true
    by_marks variable (inl same) is =
        let e = marked_below (slice_set known.assigned target true) variable is in
        let f = length_set known.assigned target true in
        let g = firsts.sized in
        let h = firsts.many in
        subst (λ (v : ℕ). is_some (first_type (assigning target type known) v) ≡ true) (sym same)
        (here (omega (arith, e, f, g, h, same)) (first_type known target) refl)
    by_marks variable (inr old) is =
        let e = firsts.some variable old in
        some_true (first_type (assigning target type known) variable) (type_or_unset (first_type known variable))
        (grows.keeps variable (type_or_unset (first_type known variable)) (type_some (first_type known variable) e))

-- a second block begins with what was assigned before the first one
pub firsts_beside : (variables : ℕ) (inside one : Known) → Grows inside one → Firsts variables inside → Firsts variables one
    → Firsts variables (with_assigned inside.assigned one)
firsts_beside variables inside one grows before firsts = record {
  many = firsts.many;
  sized = before.sized;
  some = λ variable is.
      some_true (first_type one variable) (type_or_unset (first_type inside variable))
      (grows.keeps variable (type_or_unset (first_type inside variable)) (type_some (first_type inside variable) (before.some variable is)));
  ones = firsts.ones;
}

pub firsts_joined : (variables : ℕ) (one other : Known) → Firsts variables one → Firsts variables other
    → Firsts variables (with_assigned (assigned_in_both one.assigned other.assigned) other)
firsts_joined variables one other first second = record {
  many = second.many;
  sized = length_both one.assigned other.assigned variables first.sized second.sized;
  some = λ variable is. second.some variable (both_marks one.assigned other.assigned variable is).1;
  ones = second.ones;
}

pub firsts_to : (variables : ℕ) (one other : Known) → one ≡ other → Firsts variables one → Firsts variables other
firsts_to variables one other same firsts = subst (λ (k : Known). Firsts variables k) same firsts

-- ---- a variable that is assigned

-- it has the script's type, which has one column where it is a scalar
pub record IsTypedVariable (types : List VarType) (known : Known) (variable : ℕ) : Type 0 where
  pub is : type_of known variable ≡ type_in types variable
  pub one : IsOne (type_of known variable)

pub typed_variable : (types : List VarType) (known : Known) (variable : ℕ) → Firsts (length types) known → Agrees types known
    → is_assigned known.assigned variable ≡ true → IsTypedVariable types known variable
typed_variable types known variable firsts agrees is =
    let e = type_some (first_type known variable) (firsts.some variable is) in
    record { is = sym (agrees variable (type_of known variable) e); one = firsts.ones variable (type_of known variable) e }

-- ---- what is judged

pub record Judged (operator : OpSpec) (args : List ℕ) (known : Known) (type : VarType) : Type 0 where
  pub args_known : list_all (is_assigned known.assigned) args ≡ true
  pub scalars : list_all (λ variable. (type_of known variable).scalar) (captured_args operator args) ≡ true
  pub typed : typed_by known operator args ≡ Ok type

typed_ok : (found : Result VarType Refusal) (type : VarType) → typed_or_code found ≡ Ok type → found ≡ Ok type
typed_ok (Ok other) type is = cc
typed_ok (Err why) type is = absurd cc

pub judged_typed : (known : Known) (operator : OpSpec) (args : List ℕ) (type : VarType) → judged known operator args ≡ Ok type → Judged operator args known type
judged_typed known operator args type is =
    by_tests (list_all (is_assigned known.assigned) args) refl (list_all (λ variable. (type_of known variable).scalar) (captured_args operator args)) refl
    (nat_lt MAX_CAPTURES (length (captured_args operator args))) is
  where
    by_tests : (all : Bool) → list_all (is_assigned known.assigned) args ≡ all
        → (scalars : Bool) → list_all (λ variable. (type_of known variable).scalar) (captured_args operator args) ≡ scalars → (many : Bool)
        → cond (not all) (Err Unassigned) (cond (not scalars) (Err NotScalar) (cond many (Err TooLarge) (typed_or_code (typed_by known operator args)))) ≡ Ok type
        → Judged operator args known type
    by_tests false all scalars are many is = absurd cc
    by_tests true all false are many is = absurd cc
    by_tests true all true are true is = absurd cc
    by_tests true all true are false is = record { args_known = all; scalars = are; typed = typed_ok (typed_by known operator args) type is }

-- the type of what an operator gives has one column where it is a scalar
pub judged_one : (types : List VarType) (known : Known) (operator : OpSpec) (args : List ℕ) (type : VarType) → Firsts (length types) known
    → Judged operator args known type → IsOne type
unfolding Each
judged_one types known operator args type firsts found =
    one_typed operator (map (type_of known) (take (bag_inputs_of operator) args))
    (flat_map (λ variable. (type_of known variable).cols) (captured_args operator args)) type
    (each_one (type_of known) (take (bag_inputs_of operator) args) (taken (bag_inputs_of operator) args found.args_known)) found.typed
  where
    taken : (count : ℕ) (args : List ℕ) → list_all (is_assigned known.assigned) args ≡ true → Each (λ variable. IsOne (type_of known variable)) (take count args)
    taken zero args all = tt
    taken (suc count) [] all = tt
    taken (suc count) (arg ∷ args) all =
        let parts = and_parts (is_assigned known.assigned arg) (list_all (is_assigned known.assigned) args) all in
        (firsts.ones arg (type_of known arg) (type_some (first_type known arg) (firsts.some arg parts.0)), taken count args parts.1)

-- ---- the kinds of statements

kept_cond : (b : Bool) (one other : Known) (fault : Fault) → cond b (Ok one) (Err fault) ≡ Ok other → (b ≡ true) × (one ≡ other)
kept_cond true one other fault is = (refl, cc)
kept_cond false one other fault is = absurd cc

pub record AssignsTyped (target : ℕ) (operator : OpSpec) (args : List ℕ) (known known_after : Known) : Type 0 where
  pub type : VarType
  pub judged_is : Judged operator args known type
  pub kept : is_kept (first_type known target) type ≡ true
  pub is : assigning target type known ≡ known_after

pub assigns_typed : (target : ℕ) (operator : OpSpec) (args : List ℕ) (known known_after : Known)
    → assigned_by target operator args known ≡ Ok known_after → AssignsTyped target operator args known known_after
assigns_typed target operator args known known_after is = by_judged (judged known operator args) refl is
  where
    by_judged : (found : Result VarType CheckCode) → judged known operator args ≡ found
        → and_then (fault_or known found) (λ type. cond (is_kept (first_type known target) type) (Ok (assigning target type known)) (Err (fault_here known WrongType))) ≡ Ok known_after
        → AssignsTyped target operator args known known_after
    by_judged (Ok type) found is =
        let parts = kept_cond (is_kept (first_type known target) type) (assigning target type known) known_after (fault_here known WrongType) is in
        record { type = type; judged_is = judged_typed known operator args type found; kept = parts.0; is = parts.1 }
    by_judged (Err code) found is = absurd cc

pub record PassesTyped (operator : OpSpec) (args : List ℕ) (known known_after : Known) : Type 0 where
  pub type : VarType
  pub judged_is : Judged operator args known type
  pub is : passed known ≡ known_after

one_ok : (a b : Known) → ◌≡◌ {A = Result Known Fault} (Ok a) (Ok b) → a ≡ b
one_ok a b same = cc

pub writes_typed : (operator : OpSpec) (args : List ℕ) (known known_after : Known) → written_by operator args known ≡ Ok known_after
    → PassesTyped operator args known known_after
writes_typed operator args known known_after is = by_judged (judged known operator args) refl is
  where
    by_judged : (found : Result VarType CheckCode) → judged known operator args ≡ found
        → and_then (fault_or known found) (λ type. Ok (passed known)) ≡ Ok known_after → PassesTyped operator args known known_after
    by_judged (Ok type) found is =
        record { type = type; judged_is = judged_typed known operator args type found; is = one_ok (passed known) known_after is }
    by_judged (Err code) found is = absurd cc

pub record DecidesTyped (operator : OpSpec) (args : List ℕ) (known known_after : Known) : Type 0 where
  pub type : VarType
  pub judged_is : Judged operator args known type
  pub condition : is_condition type ≡ true
  pub is : passed known ≡ known_after

pub decides_typed : (operator : OpSpec) (args : List ℕ) (known known_after : Known) → decided_by operator args known ≡ Ok known_after
    → DecidesTyped operator args known known_after
decides_typed operator args known known_after is = by_judged (judged known operator args) refl is
  where
    by_judged : (found : Result VarType CheckCode) → judged known operator args ≡ found
        → and_then (fault_or known found) (λ type. cond (is_condition type) (Ok (passed known)) (Err (fault_here known WrongType))) ≡ Ok known_after
        → DecidesTyped operator args known known_after
    by_judged (Ok type) found is =
        let parts = kept_cond (is_condition type) (passed known) known_after (fault_here known WrongType) is in
        record { type = type; judged_is = judged_typed known operator args type found; condition = parts.0; is = parts.1 }
    by_judged (Err code) found is = absurd cc

truth_is : (a b : Bool) → same_truth a b ≡ true → a ≡ b
truth_is true true is = refl
truth_is true false is = absurd cc
truth_is false false is = refl
truth_is false true is = absurd cc

pub same_type_is : (one other : VarType) → (same_truth one.scalar other.scalar && same_types one.cols other.cols) ≡ true → one ≡ other
same_type_is one other is =
    let parts = and_parts (same_truth one.scalar other.scalar) (same_types one.cols other.cols) is in
    let a = truth_is one.scalar other.scalar parts.0 in
    let b = types_are one.cols other.cols parts.1 in
    λ i. record { scalar = a i; cols = b i }

-- the assigned type is the first one
pub assigned_type : (target : ℕ) (type : VarType) (known : Known) → target < length known.types → is_kept (first_type known target) type ≡ true
    → first_type (assigning target type known) target ≡ Some type
assigned_type target type known below kept = by_first (first_type known target) refl kept
  where
    by_first : (first : Option VarType) → first_type known target ≡ first → is_kept first type ≡ true → first_type (assigning target type known) target ≡ Some type
    by_first (Some old) was kept =
        (grows_assigning target type known).keeps target old was ∙ ap (λ (t : VarType). Some t) (same_type_is old type kept)
    by_first None was kept = rw was (set_here known.types target (Some type) below)
