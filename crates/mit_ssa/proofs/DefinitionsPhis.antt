-- Which variables have phis, and what phis define.
use Rattle.std.proofs.Common.{◌≡◌, ◌∙◌, ◌<◌, ◌≤◌, ◌+◌, ℕ, zero, suc, List, [], ◌∷◌, length, ap, sym, refl, arith, cond, eqb, eqb-true, Bool, true, false, ◌||◌, Option, Some, is_some, ◌⊎◌, inl, inr}
use Rattle.std.specs.List.{range_with_len, filter}
use Rattle.std.proofs.lemmas.Bool.{or_parts}
use Rattle.std.proofs.lemmas.Bool.Decides.{nat_tests}
use Rattle.mit_ssa.specs.Woven.{Defined, defining, with_phis}

unfoldable pub among : List ℕ → ℕ → Bool
among [] variable = false
among (phi ∷ phis) variable = eqb variable phi || among phis variable

pub some_true : {X : Type 0} (x : Option X) (y : X) → x ≡ Some y → is_some x ≡ true
some_true x y is = rw is refl

pub one_some : (x y : ℕ) → Some x ≡ Some y → x ≡ y
one_some x y is = cc

pub by_either : (one other : Bool) → (one || other) ≡ true → (one ≡ true) ⊎ (other ≡ true)
by_either true other is = inl refl
by_either false other is = inr is

-- a variable that has no phi keeps its definition
pub phis_keep : (defined : Defined) (number : ℕ) (phis : List ℕ) (variable : ℕ) → among phis variable ≡ false
    → with_phis defined number phis variable ≡ defined variable
unfolding with_phis among
phis_keep defined number [] variable none = refl
phis_keep defined number (phi ∷ phis) variable none =
    let parts = or_parts (eqb variable phi) (among phis variable) none in
    phis_keep (defining defined phi number) (suc number) phis variable parts.1 ∙ other defined phi number variable parts.0
  where
    other : (defined : Defined) (phi number variable : ℕ) → eqb variable phi ≡ false → defining defined phi number variable ≡ defined variable
    other defined phi number variable not = rw not refl

-- a phi has one of the numbers that follow
pub record IsPhi (defined : Defined) (number : ℕ) (phis : List ℕ) (variable : ℕ) : Type 0 where
  pub operator : ℕ
  pub from : number ≤ operator
  pub below : operator < number + length phis
  pub is : with_phis defined number phis variable ≡ Some operator

pub phi_is : (defined : Defined) (number : ℕ) (phis : List ℕ) (variable : ℕ) → among phis variable ≡ true → IsPhi defined number phis variable
unfolding with_phis among
phi_is defined number [] variable is = absurd cc
phi_is defined number (phi ∷ phis) variable is =
    by_test (among phis variable) refl (λ later. phi_is (defining defined phi number) (suc number) phis variable later)
  where
    same : eqb variable phi ≡ true → defining defined phi number variable ≡ Some number
    same here = rw here refl

    by_or : (one other : Bool) → (one || other) ≡ true → other ≡ false → one ≡ true
    by_or true other some none = refl
    by_or false other some none = absurd cc

    by_test : (later : Bool) → among phis variable ≡ later → (among phis variable ≡ true → IsPhi (defining defined phi number) (suc number) phis variable)
        → IsPhi defined number (phi ∷ phis) variable
    by_test true there rest =
        let found = rest there in
        record { operator = found.operator; from = omega (arith, found.from); below = omega (arith, found.below); is = found.is }
    by_test false gone rest =
        record {
          operator = number;
          from = omega arith;
          below = omega arith;
          is = phis_keep (defining defined phi number) (suc number) phis variable gone ∙ same (by_or (eqb variable phi) (among phis variable) is gone);
        }

-- ---- which variables are chosen

pub filter_among : (p : ℕ → Bool) (vs : List ℕ) (variable : ℕ) → p variable ≡ false → among (filter p vs) variable ≡ false
unfolding among
filter_among p [] variable never = refl
filter_among p (v ∷ vs) variable never = by_test (p v) (eqb variable v) refl refl (filter_among p vs variable never)
  where
    by_test : (passes same : Bool) → p v ≡ passes → eqb variable v ≡ same → among (filter p vs) variable ≡ false
        → among (cond passes (v ∷ filter p vs) (filter p vs)) variable ≡ false
    by_test true true passes is later = let e : variable ≡ v = eqb-true variable v is in absurd (let f : p variable ≡ true = ap p e ∙ passes in cc)
    by_test true false passes is later = rw is later
    by_test false same passes is later = later

filter_in : (p : ℕ → Bool) (vs : List ℕ) (variable : ℕ) → p variable ≡ true → among vs variable ≡ true → among (filter p vs) variable ≡ true
unfolding among
filter_in p [] variable passes is = absurd cc
filter_in p (v ∷ vs) variable passes is = by_test (p v) (eqb variable v) refl refl is (filter_in p vs variable passes)
  where
    by_test : (kept same : Bool) → p v ≡ kept → eqb variable v ≡ same → (same || among vs variable) ≡ true
        → (among vs variable ≡ true → among (filter p vs) variable ≡ true) → among (cond kept (v ∷ filter p vs) (filter p vs)) variable ≡ true
    by_test true true kept same here later = rw same refl
    by_test true false kept same here later = rw same (later here)
    by_test false true kept same here later = let e : variable ≡ v = eqb-true variable v same in absurd (let f : p v ≡ true = ap p (sym e) ∙ passes in cc)
    by_test false false kept same here later = later here

range_among : (from count variable : ℕ) → from ≤ variable → variable < from + count → among (range_with_len from count) variable ≡ true
unfolding among
range_among from zero variable low high = absurd (omega arith)
range_among from (suc count) variable low high = by_test (eqb variable from) refl (range_among (from + 1) count variable)
  where
    by_test : (same : Bool) → eqb variable from ≡ same
        → (from + 1 ≤ variable → variable < from + 1 + count → among (range_with_len (from + 1) count) variable ≡ true)
        → (eqb variable from || among (range_with_len (from + 1) count) variable) ≡ true
    by_test true is later = rw is refl
    by_test false is later = rw is (later (grind (arith, nat_tests)) (omega arith))

pub phi_among : (p : ℕ → Bool) (variables variable : ℕ) → p variable ≡ true → variable < variables
    → among (filter p (range_with_len 0 variables)) variable ≡ true
phi_among p variables variable passes below = filter_in p (range_with_len 0 variables) variable passes (range_among 0 variables variable (omega arith) (omega arith))

-- this holds of each
unfoldable pub Each : {A : Type 0} → (A → Type 0) → List A → Type 0
Each P [] = Unit {0}
Each P (x ∷ xs) = P x × Each P xs

pub each_chosen : (p : ℕ → Bool) (variables from count : ℕ) → from + count ≡ variables
    → Each (λ v. (v < variables) × (p v ≡ true)) (filter p (range_with_len from count))
unfolding Each
each_chosen p variables from zero size = tt
each_chosen p variables from (suc count) size = by_test (p from) refl (each_chosen p variables (from + 1) count (omega arith))
  where
    by_test : (kept : Bool) → p from ≡ kept → Each (λ v. (v < variables) × (p v ≡ true)) (filter p (range_with_len (from + 1) count))
        → Each (λ v. (v < variables) × (p v ≡ true)) (cond kept (from ∷ filter p (range_with_len (from + 1) count)) (filter p (range_with_len (from + 1) count)))
    by_test true is later = ((omega arith, is), later)
    by_test false is later = later

-- a variable that has no phi fails the test, if it is a variable at all
pub fails : (p : ℕ → Bool) (variables variable : ℕ) → variable < variables → among (filter p (range_with_len 0 variables)) variable ≡ false → p variable ≡ false
fails p variables variable below none = by_test (p variable) refl
  where
    by_test : (passes : Bool) → p variable ≡ passes → p variable ≡ false
    by_test true is = absurd (let e = phi_among p variables variable is below in cc)
    by_test false is = is

pub passes : (p : ℕ → Bool) (vs : List ℕ) (variable : ℕ) → among (filter p vs) variable ≡ true → p variable ≡ true
passes p vs variable some = by_test (p variable) refl
  where
    by_test : (passes : Bool) → p variable ≡ passes → p variable ≡ true
    by_test true is = is
    by_test false is = absurd (let e = filter_among p vs variable is in cc)

-- what is defined stays so
pub phis_stay : (mid : Defined) (number : ℕ) (phis : List ℕ) (variable : ℕ) → is_some (mid variable) ≡ true → is_some (with_phis mid number phis variable) ≡ true
phis_stay mid number phis variable some = by_phi (among phis variable) refl
  where
    by_phi : (phi : Bool) → among phis variable ≡ phi → is_some (with_phis mid number phis variable) ≡ true
    by_phi true phi = let found = phi_is mid number phis variable phi in some_true (with_phis mid number phis variable) found.operator found.is
    by_phi false phi = rw (phis_keep mid number phis variable phi) some
