-- Marks in rising order, each once.
use Rattle.std.proofs.Common.{◌≡◌, ◌≤◌, ◌∙◌, ℕ, suc, List, [], ◌∷◌, sym, refl, arith, eqb, nat_cmp, Less, Bool, true, false}
use Rattle.std.specs.Cmp.{unsigned_ties}
use Rattle.std.specs.List.{dedup}
use Rattle.std.specs.List.Sorted.{IsPermutation, IsSorted, IsStrictlySortedBy}
use Rattle.std.proofs.lemmas.Bool.Decides.{nat_tests}
use Rattle.std.proofs.lemmas.Cmp.{nat_cmp_total, nat_eq_equiv}
use Rattle.std.proofs.lemmas.List.Kept.{Contains-dedup_nat, Contains-from_dedup, IsStrictlySortedBy-dedup}
use Rattle.std.proofs.lemmas.List.Sorted.{list_any-IsPermutation}
use Rattle.std.proofs.lemmas.Map.Views.{Contains-from_any, list_any-from_Contains}
use Rattle.mit_ssa.specs.Weaving.{Rise, has_mark}

less : (x y : ℕ) → nat_cmp x y ≡ Less → suc x ≤ y
less x y is = grind (arith, nat_tests)

rise_from : (from x : ℕ) (xs : List ℕ) → from ≤ x → IsStrictlySortedBy nat_cmp (x ∷ xs) → Rise from (x ∷ xs)
unfolding Rise IsStrictlySortedBy
rise_from from x [] low sorted = (low, tt)
rise_from from x (y ∷ ys) low sorted = (low, rise_from (suc x) y ys (less x y sorted.0.0) sorted.1)

rise_of : (xs : List ℕ) → IsStrictlySortedBy nat_cmp xs → Rise 0 xs
unfolding Rise
rise_of [] sorted = tt
rise_of (x ∷ xs) sorted = rise_from 0 x xs (omega arith) sorted

pub rise_of_dedup : (xs : List ℕ) → IsSorted nat_cmp xs → Rise 0 (dedup eqb xs)
rise_of_dedup xs sorted = rise_of (dedup eqb xs) (IsStrictlySortedBy-dedup nat_cmp_total unsigned_ties xs sorted)

same_number : (x y : ℕ) → eqb x y ≡ true → x ≡ y
same_number x y is = grind (arith, nat_tests)

both_ways : (one other : Bool) → (one ≡ true → other ≡ true) → (other ≡ true → one ≡ true) → one ≡ other
both_ways true other to from = sym (to refl)
both_ways false true to from = from refl
both_ways false false to from = refl

pub marked_same : (marks sorted : List ℕ) (variable : ℕ) → IsPermutation marks sorted → has_mark (dedup eqb sorted) variable ≡ has_mark marks variable
marked_same marks sorted variable moved =
    both_ways (has_mark (dedup eqb sorted) variable) (has_mark sorted variable)
    (λ there. list_any-from_Contains nat_eq_equiv variable sorted
    (Contains-from_dedup eqb sorted variable (Contains-from_any same_number variable (dedup eqb sorted) there)))
    (λ there. list_any-from_Contains nat_eq_equiv variable (dedup eqb sorted)
    (Contains-dedup_nat sorted variable (Contains-from_any same_number variable sorted there)))
    ∙ sym (list_any-IsPermutation (λ mark. eqb variable mark) marks sorted moved)
