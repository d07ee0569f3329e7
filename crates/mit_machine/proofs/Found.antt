-- The first thing that is found over all places and indexes.
use Rattle.std.proofs.Common.{◌≡◌, ◌∙◌, ◌<◌, ◌≤◌, ◌+◌, ℕ, zero, suc, List, [], ◌∷◌, ◌++◌, length, map, get_or, ap, sym, subst, refl, arith, inl, inr, Option, Some, None, flat_map}
use Rattle.std.specs.Prelude.{◌⊎◌, filter_map}
use Rattle.std.specs.List.{cons_option, range_with_len}
use Rattle.std.proofs.lemmas.Bool.{cases_lt}
use Rattle.std.proofs.lemmas.List.Elements.{filter_map-append}
use Rattle.mit_plan.specs.Meant.{Pair, pair, pairs_at, pairs_of}
use Rattle.mit_plan.specs.Plans.{PlanOf, block_at}

-- the first of these
pub record Begins {A : Type 0} (xs : List A) (x : A) : Type 0 where
  pub rest : List A
  pub is : xs ≡ x ∷ rest

begins_on : {A : Type 0} (xs ys : List A) (x : A) → Begins xs x → Begins (xs ++ ys) x
begins_on xs ys x begins = record { rest = begins.rest ++ ys; is = ap (λ list. list ++ ys) begins.is }

begins_late : {A : Type 0} (xs ys : List A) (x : A) → xs ≡ [] → Begins ys x → Begins (xs ++ ys) x
begins_late xs ys x none begins = record { rest = begins.rest; is = ap (λ list. list ++ ys) none ∙ begins.is }

-- ---- at one place

nothing_at : {X : Type 0} (f : Pair → Option X) (place from many : ℕ) → ((index : ℕ) → from ≤ index → index < from + many → f (pair place index) ≡ None)
    → filter_map f (map (pair place) (range_with_len from many)) ≡ []
nothing_at f place from zero none = refl
nothing_at f place from (suc many) none =
    let here = none from (omega arith) (omega arith) in
    let rest = nothing_at f place (from + 1) many (λ index above below. none index (omega (arith, above)) (omega (arith, below))) in
    cc

first_here : {X : Type 0} (x : X) (found : Option X) (rest : List X) → found ≡ Some x → Begins (cons_option found rest) x
first_here x found rest is = record { rest = rest; is = ap (λ one. cons_option one rest) is }

passed_here : {X : Type 0} (x : X) (found : Option X) (rest : List X) → found ≡ None → Begins rest x → Begins (cons_option found rest) x
passed_here x found rest none begins = record { rest = begins.rest; is = ap (λ one. cons_option one rest) none ∙ begins.is }

first_at : {X : Type 0} (f : Pair → Option X) (x : X) (place from many at : ℕ) → from ≤ at → at < from + many → ((index : ℕ) → from ≤ index → index < at → f (pair place index) ≡ None)
    → f (pair place at) ≡ Some x → Begins (filter_map f (map (pair place) (range_with_len from many))) x
first_at f x place from zero at above below none found = absurd (omega (arith, above, below))
first_at {X} f x place from (suc many) at above below none found =
    by_order (cases_lt from at) (λ next. first_at f x place (from + 1) many at next (omega (arith, below)) (λ index more less. none index (omega (arith, more)) less) found)
  where
    by_order : (from < at) ⊎ (at ≤ from) → (from + 1 ≤ at → Begins (filter_map f (map (pair place) (range_with_len (from + 1) many))) x)
        → Begins (cons_option (f (pair place from)) (filter_map f (map (pair place) (range_with_len (from + 1) many)))) x
    by_order (inl less) rest = passed_here x (f (pair place from)) (filter_map f (map (pair place) (range_with_len (from + 1) many))) (none from (omega arith) less) (rest (omega (arith, less)))
    by_order (inr more) rest =
        let e : at ≡ from = omega (arith, more, above) in
        first_here x (f (pair place from)) (filter_map f (map (pair place) (range_with_len (from + 1) many))) (ap (λ (n : ℕ). f (pair place n)) (sym e) ∙ found)

-- ---- over all places

-- nothing is found at a place
abbrev pub Nothing : {X : Type 0} → (Pair → Option X) → PlanOf → List ℕ → ℕ → Type 0
Nothing f plan path place = (index : ℕ) → index < (block_at plan (get_or path place 0)).count → f (pair place index) ≡ None

nothing_over : {X : Type 0} (f : Pair → Option X) (plan : PlanOf) (path : List ℕ) (from many : ℕ) → ((place : ℕ) → place < from + many → Nothing f plan path place)
    → filter_map f (flat_map (pairs_at plan path) (range_with_len from many)) ≡ []
nothing_over f plan path from zero none = refl
nothing_over f plan path from (suc many) none =
    filter_map-append f (pairs_at plan path from) (flat_map (pairs_at plan path) (range_with_len (from + 1) many))
    ∙ ap (λ found. found ++ filter_map f (flat_map (pairs_at plan path) (range_with_len (from + 1) many)))
    (nothing_at f from 0 (block_at plan (get_or path from 0)).count (λ index above below. none from (omega arith) index (omega (arith, below))))
    ∙ nothing_over f plan path (from + 1) many (λ place below. none place (omega (arith, below)))

pub nothing_found : {X : Type 0} (f : Pair → Option X) (plan : PlanOf) (path : List ℕ) → ((place : ℕ) → place < length path → Nothing f plan path place)
    → filter_map f (pairs_of plan path) ≡ []
nothing_found f plan path none = nothing_over f plan path 0 (length path) (λ place below. none place (omega (arith, below)))

-- what is found at a place and an index, and not before them
pub record IsFirst {X : Type 0} (f : Pair → Option X) (plan : PlanOf) (path : List ℕ) (place index : ℕ) (x : X) : Type 0 where
  pub stands : index < (block_at plan (get_or path place 0)).count
  pub places : (earlier : ℕ) → earlier < place → Nothing f plan path earlier
  pub indexes : (earlier : ℕ) → earlier < index → f (pair place earlier) ≡ None
  pub found : f (pair place index) ≡ Some x

first_over : {X : Type 0} (f : Pair → Option X) (plan : PlanOf) (path : List ℕ) (place index : ℕ) (x : X) (from many : ℕ) → from ≤ place → place < from + many
    → IsFirst f plan path place index x → Begins (filter_map f (flat_map (pairs_at plan path) (range_with_len from many))) x
first_over f plan path place index x from zero above below first = absurd (omega (arith, above, below))
first_over f plan path place index x from (suc many) above below first =
    subst (λ list. Begins list x) (sym (filter_map-append f (pairs_at plan path from) (flat_map (pairs_at plan path) (range_with_len (from + 1) many))))
    (by_order (cases_lt from place) (λ next. first_over f plan path place index x (from + 1) many next (omega (arith, below)) first))
  where
    by_order : (from < place) ⊎ (place ≤ from) → (from + 1 ≤ place → Begins (filter_map f (flat_map (pairs_at plan path) (range_with_len (from + 1) many))) x)
        → Begins (filter_map f (pairs_at plan path from) ++ filter_map f (flat_map (pairs_at plan path) (range_with_len (from + 1) many))) x
    by_order (inl less) rest =
        begins_late (filter_map f (pairs_at plan path from)) (filter_map f (flat_map (pairs_at plan path) (range_with_len (from + 1) many))) x
        (nothing_at f from 0 (block_at plan (get_or path from 0)).count (λ at above below. first.places from less at (omega (arith, below)))) (rest (omega (arith, less)))
    by_order (inr more) rest =
        let e : place ≡ from = omega (arith, more, above) in
        begins_on (filter_map f (pairs_at plan path from)) (filter_map f (flat_map (pairs_at plan path) (range_with_len (from + 1) many))) x
        (subst (λ (n : ℕ). Begins (filter_map f (pairs_at plan path n)) x) e
        (first_at f x place 0 (block_at plan (get_or path place 0)).count index (omega arith) (omega (arith, first.stands)) (λ at above below. first.indexes at below) first.found))

pub first_found : {X : Type 0} (f : Pair → Option X) (plan : PlanOf) (path : List ℕ) (place index : ℕ) (x : X) → place < length path → IsFirst f plan path place index x
    → Begins (filter_map f (pairs_of plan path)) x
first_found f plan path place index x below first = first_over f plan path place index x 0 (length path) (omega arith) (omega (arith, below)) first
