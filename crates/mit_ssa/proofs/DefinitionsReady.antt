-- What the check knows to be assigned is defined by an operator.
use Rattle.std.proofs.Common.{◌≡◌, ◌∙◌, ◌<◌, ℕ, zero, suc, List, [], ◌∷◌, length, ap, sym, refl, arith, cond, eqb, Bool, true, false, ◌&&◌, Option, Some, is_some, slice_set, Result, Ok, Err, ◌⊎◌, inl, inr}
use Rattle.std.specs.List.{list_all}
use Rattle.std.proofs.lemmas.Bool.Decides.{nat_tests}
use Rattle.mit_ops.specs.declared.kinds.OpSpec.{OpSpec}
use Rattle.mit_ops.specs.declared.types.VarType.{VarType}
use Rattle.mit_script.specs.Accepted.{Check, Fault, Known, and_then, assigned_by, assigned_in_both, assigning, branched, decided_by, fault_here, fault_or, first_type, in_order, is_assigned, is_condition, is_kept, judged, looped, passed, rejoined, with_assigned, written_by}
use Rattle.mit_script.specs.declared.typed.CheckCode.{CheckCode}
use Rattle.mit_script.specs.declared.typed.CheckCode.TheVariants.{WrongType}
use Rattle.mit_ssa.specs.Woven.{Defined, defining}

-- what is known fits what is defined
pub record Ready (variables : ℕ) (known : Known) (defined : Defined) : Type 0 where
  pub many : length known.assigned ≡ variables
  pub each : (variable : ℕ) → is_assigned known.assigned variable ≡ true → is_some (defined variable) ≡ true

-- ---- lists of marks

pub length_set : {A : Type 0} (xs : List A) (k : ℕ) (x : A) → length (slice_set xs k x) ≡ length xs
length_set [] k x = refl
length_set (y ∷ ys) zero x = refl
length_set (y ∷ ys) (suc k) x = ap suc (length_set ys k x)

pub set_marks : (marks : List Bool) (target variable : ℕ) → is_assigned (slice_set marks target true) variable ≡ true
    → (variable ≡ target) ⊎ (is_assigned marks variable ≡ true)
set_marks [] target variable is = absurd (none target variable is)
  where
    none : (target variable : ℕ) → is_assigned (slice_set [] target true) variable ≡ true → ⊥
    none target zero is = cc
    none target (suc v) is = cc
set_marks (mark ∷ marks) zero zero is = inl refl
set_marks (mark ∷ marks) zero (suc v) is = inr is
set_marks (mark ∷ marks) (suc t) zero is = inr is
set_marks (mark ∷ marks) (suc t) (suc v) is = up (set_marks marks t v is)
  where
    up : (v ≡ t) ⊎ (is_assigned marks v ≡ true) → (suc v ≡ suc t) ⊎ (is_assigned marks v ≡ true)
    up (inl same) = inl (ap suc same)
    up (inr old) = inr old

pub both_marks : (one other : List Bool) (variable : ℕ) → is_assigned (assigned_in_both one other) variable ≡ true
    → (is_assigned one variable ≡ true) × (is_assigned other variable ≡ true)
both_marks [] other variable is = absurd cc
both_marks (a ∷ one) [] variable is = absurd cc
both_marks (a ∷ one) (b ∷ other) zero is = by_both a b is
  where
    by_both : (a b : Bool) → (a && b) ≡ true → (a ≡ true) × (b ≡ true)
    by_both true b is = (refl, is)
    by_both false b is = absurd cc
both_marks (a ∷ one) (b ∷ other) (suc v) is = both_marks one other v is

pub length_both : (one other : List Bool) (size : ℕ) → length one ≡ size → length other ≡ size → length (assigned_in_both one other) ≡ size
length_both [] other size first second = first
length_both (a ∷ one) [] size first second = absurd (let f : suc (length one) ≡ 0 = first ∙ sym second in omega (arith, f))
length_both (a ∷ one) (b ∷ other) zero first second = absurd (let f : suc (length one) ≡ 0 = first in omega (arith, f))
length_both (a ∷ one) (b ∷ other) (suc size) first second =
    ap suc (length_both one other size (down one first) (down other second))
  where
    down : (xs : List Bool) → suc (length xs) ≡ suc size → length xs ≡ size
    down xs same = omega (arith, same)

pub marked_below : (marks : List Bool) (variable : ℕ) → is_assigned marks variable ≡ true → variable < length marks
marked_below [] variable is = absurd cc
marked_below (mark ∷ marks) zero is = omega arith
marked_below (mark ∷ marks) (suc v) is = let e = marked_below marks v is in omega (arith, e)

-- ---- what is known before and after

pub assigning_ready : (variables : ℕ) (known : Known) (defined : Defined) (target number : ℕ) (type : VarType) → Ready variables known defined
    → Ready variables (assigning target type known) (defining defined target number)
assigning_ready variables known defined target number type ready = record {
  many = length_set known.assigned target true ∙ ready.many;
  each = λ variable is. by_marks variable (set_marks known.assigned target variable is);
}
  where
    still : (same : Bool) (old : Option ℕ) → is_some old ≡ true → is_some (cond same (Some number) old) ≡ true
    still true old some = refl
    still false old some = some

    here : (variable : ℕ) → variable ≡ target → eqb variable target ≡ true
    here variable same = grind (arith, nat_tests)

    by_marks : (variable : ℕ) → (variable ≡ target) ⊎ (is_assigned known.assigned variable ≡ true) → is_some (defining defined target number variable) ≡ true
    by_marks variable (inl same) = rw (here variable same) refl
    by_marks variable (inr old) = still (eqb variable target) (defined variable) (ready.each variable old)

-- the list of types keeps its length
pub assigning_size : (target : ℕ) (type : VarType) (known : Known) → length (assigning target type known).types ≡ length known.types
assigning_size target type known = by_first (is_some (first_type known target))
  where
    by_first : (some : Bool) → length (cond some known.types (slice_set known.types target (Some type))) ≡ length known.types
    by_first true = refl
    by_first false = length_set known.types target (Some type)

pub passed_ready : (variables : ℕ) (known : Known) (defined : Defined) → Ready variables known defined → Ready variables (passed known) defined
passed_ready variables known defined ready = record { many = ready.many; each = ready.each }

-- ---- what a check says

judged_args : (known : Known) (operator : OpSpec) (args : List ℕ) (type : VarType) → judged known operator args ≡ Ok type
    → list_all (is_assigned known.assigned) args ≡ true
judged_args known operator args type is = by_test (list_all (is_assigned known.assigned) args) refl
  where
    by_test : (all : Bool) → list_all (is_assigned known.assigned) args ≡ all → list_all (is_assigned known.assigned) args ≡ true
    by_test true all = all
    by_test false all = let wrong = rw all at is in absurd cc

pub record Assigns (target : ℕ) (operator : OpSpec) (args : List ℕ) (known known_after : Known) : Type 0 where
  pub type : VarType
  pub args_known : list_all (is_assigned known.assigned) args ≡ true
  pub is : assigning target type known ≡ known_after

kept : (b : Bool) (one other : Known) (fault : Fault) → cond b (Ok one) (Err fault) ≡ Ok other → one ≡ other
kept true one other fault is = cc
kept false one other fault is = absurd cc

pub assigns_known : (target : ℕ) (operator : OpSpec) (args : List ℕ) (known known_after : Known)
    → assigned_by target operator args known ≡ Ok known_after → Assigns target operator args known known_after
assigns_known target operator args known known_after is = by_judged (judged known operator args) refl is
  where
    by_judged : (found : Result VarType CheckCode) → judged known operator args ≡ found
        → and_then (fault_or known found) (λ type. cond (is_kept (first_type known target) type) (Ok (assigning target type known)) (Err (fault_here known WrongType))) ≡ Ok known_after
        → Assigns target operator args known known_after
    by_judged (Ok type) found is = record {
      type = type;
      args_known = judged_args known operator args type found;
      is = kept (is_kept (first_type known target) type) (assigning target type known) known_after (fault_here known WrongType) is;
    }
    by_judged (Err code) found is = absurd cc

pub record Passes (args : List ℕ) (known known_after : Known) : Type 0 where
  pub args_known : list_all (is_assigned known.assigned) args ≡ true
  pub is : passed known ≡ known_after

pub writes_known : (operator : OpSpec) (args : List ℕ) (known known_after : Known) → written_by operator args known ≡ Ok known_after → Passes args known known_after
writes_known operator args known known_after is = by_judged (judged known operator args) refl is
  where
    by_judged : (found : Result VarType CheckCode) → judged known operator args ≡ found
        → and_then (fault_or known found) (λ type. Ok (passed known)) ≡ Ok known_after → Passes args known known_after
    by_judged (Ok type) found is = record { args_known = judged_args known operator args type found; is = one_ok (passed known) known_after is }
      where
        one_ok : (a b : Known) → ◌≡◌ {A = Result Known Fault} (Ok a) (Ok b) → a ≡ b
        one_ok a b same = cc
    by_judged (Err code) found is = absurd cc

pub decides_known : (operator : OpSpec) (args : List ℕ) (known known_after : Known) → decided_by operator args known ≡ Ok known_after → Passes args known known_after
decides_known operator args known known_after is = by_judged (judged known operator args) refl is
  where
    by_judged : (found : Result VarType CheckCode) → judged known operator args ≡ found
        → and_then (fault_or known found) (λ type. cond (is_condition type) (Ok (passed known)) (Err (fault_here known WrongType))) ≡ Ok known_after
        → Passes args known known_after
    by_judged (Ok type) found is = record {
      args_known = judged_args known operator args type found;
      is = kept (is_condition type) (passed known) known_after (fault_here known WrongType) is;
    }
    by_judged (Err code) found is = absurd cc

-- one check after another
pub record Then (one : Check) (next : Known → Result Known Fault) (known known_after : Known) : Type 0 where
  pub middle : Known
  pub first : one known ≡ Ok middle
  pub second : next middle ≡ Ok known_after

pub then_known : (one : Check) (next : Known → Result Known Fault) (known known_after : Known) → and_then (one known) next ≡ Ok known_after
    → Then one next known known_after
then_known one next known known_after is = by_first (one known) refl is
  where
    by_first : (found : Result Known Fault) → one known ≡ found → and_then found next ≡ Ok known_after → Then one next known known_after
    by_first (Ok middle) found is = record { middle = middle; first = found; second = is }
    by_first (Err fault) found is = absurd cc

-- after an `if`, what both blocks assign
pub record Rejoins (on_true on_false : List Check) (inside known_after : Known) : Type 0 where
  pub one : Known
  pub other : Known
  pub first : in_order on_true inside ≡ Ok one
  pub second : in_order on_false (with_assigned inside.assigned one) ≡ Ok other
  pub is : with_assigned (assigned_in_both one.assigned other.assigned) other ≡ known_after

pub rejoins_known : (on_true on_false : List Check) (inside known_after : Known) → branched on_true on_false inside ≡ Ok known_after
    → Rejoins on_true on_false inside known_after
rejoins_known on_true on_false inside known_after is =
    let a = then_known (in_order on_true) (rejoined on_false inside.assigned) inside known_after is in
    let b = then_known (in_order on_false) (λ other. Ok (with_assigned (assigned_in_both a.middle.assigned other.assigned) other))
    (with_assigned inside.assigned a.middle) known_after a.second in
    record { one = a.middle; other = b.middle; first = a.first; second = b.first; is = one_ok _ _ b.second }
  where
    one_ok : (a b : Known) → ◌≡◌ {A = Result Known Fault} (Ok a) (Ok b) → a ≡ b
    one_ok a b same = cc

pub record Turns (body : List Check) (inside known_after : Known) : Type 0 where
  pub last : Known
  pub first : in_order body inside ≡ Ok last
  pub is : with_assigned inside.assigned last ≡ known_after

pub turns_known : (body : List Check) (inside known_after : Known) → looped body inside ≡ Ok known_after → Turns body inside known_after
turns_known body inside known_after is =
    let a = then_known (in_order body) (λ last. Ok (with_assigned inside.assigned last)) inside known_after is in
    record { last = a.middle; first = a.first; is = one_ok _ _ a.second }
  where
    one_ok : (a b : Known) → ◌≡◌ {A = Result Known Fault} (Ok a) (Ok b) → a ≡ b
    one_ok a b same = cc

pub beside_ready : (variables : ℕ) (inside one : Known) (env : Defined) → Ready variables inside env → Ready variables (with_assigned inside.assigned one) env
beside_ready variables inside one env before = record { many = before.many; each = before.each }

pub joined_ready : (variables : ℕ) (one other : Known) (first second end : Defined) → Ready variables one first → Ready variables other second
    → ((variable : ℕ) → is_some (first variable) ≡ true → is_some (second variable) ≡ true → is_some (end variable) ≡ true)
    → Ready variables (with_assigned (assigned_in_both one.assigned other.assigned) other) end
joined_ready variables one other first second end left right both = record {
  many = length_both one.assigned other.assigned variables left.many right.many;
  each = λ variable is. let parts = both_marks one.assigned other.assigned variable is in both variable (left.each variable parts.0) (right.each variable parts.1);
}
