-- The numbers of those that pass: with one more at the end, and their bounds.
use Rattle.std.proofs.Common.{◌≡◌, ℕ, suc, ◌+◌, ◌<◌, ◌≤◌, List, [], ◌∷◌, ◌++◌, length, Bool, true, false, if◌then◌else◌, ap, ◌∙◌, sym, arith, add-zero}
use Rattle.std.specs.List.{All}
use Rattle.std.proofs.lemmas.List.Elements.{All-cons, All-nil}
use Rattle.mit_plan.specs.Plans.{numbers_where}

-- a number, where a test holds
abbrev pub one_where : Bool → ℕ → List ℕ
one_where holds number = if holds then number ∷ [] else []

over_test : (holds : Bool) (number : ℕ) (longer shorter tail : List ℕ) → longer ≡ shorter ++ tail
    → (if holds then number ∷ longer else longer) ≡ (if holds then number ∷ shorter else shorter) ++ tail
over_test true number longer shorter tail same = ap (λ rest. number ∷ rest) same
over_test false number longer shorter tail same = same

pub numbers_where-push : {A : Type 0} (passes : A → Bool) (number : ℕ) (xs : List A) (x : A)
    → numbers_where passes number (xs ++ x ∷ []) ≡ numbers_where passes number xs ++ one_where (passes x) (number + length xs)
unfolding numbers_where
numbers_where-push passes number [] x = ap (λ n. one_where (passes x) n) (sym (add-zero number))
numbers_where-push passes number (y ∷ xs) x =
    let moved : suc number + length xs ≡ number + length (y ∷ xs) = omega arith in
    over_test (passes y) number _ _ _
    (numbers_where-push passes (suc number) xs x ∙ ap (λ n. numbers_where passes (suc number) xs ++ one_where (passes x) n) moved)

below_test : (holds : Bool) (number bound : ℕ) (more : List ℕ) → number < bound → All (λ n. n < bound) more
    → All (λ n. n < bound) (if holds then number ∷ more else more)
below_test true number bound more first rest = All-cons (λ n. n < bound) number more first rest
below_test false number bound more first rest = rest

pub numbers_where-below : {A : Type 0} (passes : A → Bool) (number : ℕ) (xs : List A) (bound : ℕ) → number + length xs ≤ bound
    → All (λ n. n < bound) (numbers_where passes number xs)
unfolding numbers_where
numbers_where-below passes number [] bound fits = All-nil (λ n. n < bound)
numbers_where-below passes number (x ∷ xs) bound fits =
    below_test (passes x) number bound _ (omega arith) (numbers_where-below passes (suc number) xs bound (omega arith))
