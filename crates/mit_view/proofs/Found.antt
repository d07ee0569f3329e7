-- The last place before, and the first place after, from the places of a block.
use Rattle.std.proofs.Common.{◌≡◌, ◌≤◌, ◌<◌, ◌∙◌, ◌+◌, ◌-◌, ℕ, zero, suc, List, [], ◌∷◌, length, get_or, drop, sym, ap, refl, arith, inl, inr, eqb, Bool, true, false, Option, Some, None}
use Rattle.std.specs.List.{position_from}
use Rattle.std.proofs.lemmas.Bool.{cases_eq, eq-eqb, ne_eqb}
use Rattle.std.proofs.lemmas.List.{get_or-drop, length-drop}
use Rattle.mit_path.specs.Views.{first_place_from}
use Rattle.mit_view.specs.Kept.{ArePlaces, IsFirstFrom, IsLastBelow}
use Rattle.mit_view.specs.Walks.{last_place}

last_none : (path : List ℕ) (block bound : ℕ) → ((at : ℕ) → at < bound → get_or path at 0 ≡ block → ⊥) → last_place path block bound ≡ None
unfolding last_place
last_none path block zero never = refl
last_none path block (suc bound) never =
    let not_here : eqb (get_or path bound 0) block ≡ false = ne_eqb _ _ (never bound (omega arith)) in
    rw not_here (last_none path block bound (λ at lt. never at (omega arith)))

last_some : (path : List ℕ) (block bound place : ℕ) → place < bound → get_or path place 0 ≡ block
    → ((at : ℕ) → place < at → at < bound → get_or path at 0 ≡ block → ⊥) → last_place path block bound ≡ Some place
unfolding last_place
last_some path block zero place below is never = absurd (omega arith)
last_some path block (suc bound) place below is never =
    elim (cases_eq place bound) [
      | inl here ↦ let found : eqb (get_or path bound 0) block ≡ true = eq-eqb _ _ (ap (λ (at : ℕ). get_or path at 0) (sym here) ∙ is) in rw found (ap Some (sym here))
      | inr before ↦
          let not_here : eqb (get_or path bound 0) block ≡ false = ne_eqb _ _ (never bound (omega arith) (omega arith)) in
          rw not_here (last_some path block bound place (omega arith) is (λ at above lt. never at above (omega arith)))
    ]

pub last_is : (path : List ℕ) (block : ℕ) (places : List ℕ) (bound : ℕ) (found : Option ℕ) → ArePlaces path block places → bound ≤ length path → IsLastBelow places bound found
    → found ≡ last_place path block bound
last_is path block places bound None kept within last =
    sym (last_none path block bound (λ at lt is. let there = kept.found at (omega arith) is in omega (arith, last there.0 there.1, there.2)))
last_is path block places bound (Some place) kept within last =
    let entered : get_or path place 0 ≡ block = ap (λ (at : ℕ). get_or path at 0) (sym last.is.2) ∙ kept.entered last.is.0 last.is.1 in
    sym (last_some path block bound place last.below entered
    (λ at above lt is. let there = kept.found at (omega arith) is in omega (arith, last.others there.0 there.1 (omega (arith, there.2)), there.2)))

first_none : (test : ℕ → Bool) (from : ℕ) (xs : List ℕ) → ((k : ℕ) → k < length xs → test (get_or xs k 0) ≡ false) → position_from test from xs ≡ None
first_none test from [] never = refl
first_none test from (x ∷ xs) never =
    let here : test x ≡ false = never 0 (omega arith) in
    rw here (first_none test (from + 1) xs (λ k lt. never (suc k) (omega arith)))

first_some : (test : ℕ → Bool) (from : ℕ) (xs : List ℕ) (n : ℕ) → n < length xs → test (get_or xs n 0) ≡ true → ((k : ℕ) → k < n → test (get_or xs k 0) ≡ false) → position_from test from xs ≡ Some (from + n)
first_some test from [] n lt is never = absurd (omega arith)
first_some test from (x ∷ xs) zero lt is never = rw is (ap Some (omega arith))
first_some test from (x ∷ xs) (suc n) lt is never =
    let here : test x ≡ false = never 0 (omega arith) in
    rw here (first_some test (from + 1) xs n (omega arith) is (λ k below. never (suc k) (omega arith)) ∙ ap Some (omega arith))

next_none : (path : List ℕ) (block from : ℕ) → ((at : ℕ) → from ≤ at → at < length path → get_or path at 0 ≡ block → ⊥) → first_place_from path block from ≡ None
next_none path block from never =
    first_none (λ entered. eqb entered block) from (drop from path)
    (λ k lt. ne_eqb _ _ (λ is. never (from + k) (omega arith) (omega (arith, length-drop from path)) (sym (get_or-drop from path k 0) ∙ is)))

next_some : (path : List ℕ) (block from place : ℕ) → from ≤ place → place < length path → get_or path place 0 ≡ block
    → ((at : ℕ) → from ≤ at → at < place → get_or path at 0 ≡ block → ⊥) → first_place_from path block from ≡ Some place
next_some path block from place above lt is never =
    let split : from + (place - from) ≡ place = omega arith in
    first_some (λ entered. eqb entered block) from (drop from path) (place - from) (omega (arith, length-drop from path))
    (eq-eqb _ _ (get_or-drop from path (place - from) 0 ∙ (ap (λ (at : ℕ). get_or path at 0) split ∙ is)))
    (λ k below. ne_eqb _ _ (λ same. never (from + k) (omega arith) (omega arith) (sym (get_or-drop from path k 0) ∙ same)))
    ∙ ap Some split

pub first_is : (path : List ℕ) (block : ℕ) (places : List ℕ) (from : ℕ) (found : Option ℕ) → ArePlaces path block places → IsFirstFrom places from found → found ≡ first_place_from path block from
first_is path block places from None kept first =
    sym (next_none path block from (λ at above lt is. let there = kept.found at lt is in omega (arith, first there.0 there.1, there.2)))
first_is path block places from (Some place) kept first =
    let entered : get_or path place 0 ≡ block = ap (λ (at : ℕ). get_or path at 0) (sym first.is.2) ∙ kept.entered first.is.0 first.is.1 in
    sym (next_some path block from place first.after (omega (arith, first.is.2, kept.within first.is.0 first.is.1)) entered
    (λ at above lt is. let there = kept.found at (omega (arith, first.is.2, kept.within first.is.0 first.is.1)) is in
    omega (arith, first.others there.0 there.1 (omega (arith, there.2)), there.2)))

-- a block that stands nowhere on the path
pub never_next : (path : List ℕ) (block from : ℕ) → ((at : ℕ) → at < length path → get_or path at 0 ≡ block → ⊥) → first_place_from path block from ≡ None
never_next path block from never = next_none path block from (λ at above lt. never at lt)

pub never_last : (path : List ℕ) (block bound : ℕ) → bound ≤ length path → ((at : ℕ) → at < length path → get_or path at 0 ≡ block → ⊥) → last_place path block bound ≡ None
never_last path block bound within never = last_none path block bound (λ at lt. never at (omega arith))
