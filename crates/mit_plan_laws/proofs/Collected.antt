-- Lists of answers that are all there, over a range of numbers.
use Rattle.std.proofs.Common.{◌≡◌, ◌∙◌, ◌<◌, ◌≤◌, ◌+◌, ℕ, zero, suc, List, [], ◌∷◌, ◌++◌, length, map, get_or, ap, subst, refl, arith, Bool, true, Option, Some, None}
use Rattle.std.specs.Prelude.{option_and_then, option_map}
use Rattle.std.specs.List.{list_all, range_with_len}
use Rattle.mit_plan.specs.Held.{all_there}

-- what is there, one by one
pub record Are {A : Type 0} (f : ℕ → Option A) (from many : ℕ) (xs : List A) : Type 0 where
  pub size : length xs ≡ many
  pub each : (k : ℕ) (d : A) → k < many → f (from + k) ≡ Some (get_or xs k d)

are_by : {A : Type 0} (f : ℕ → Option A) (from many : ℕ) (xs : List A) (first : Option A) (later : Option (List A))
    → f from ≡ first → ((ys : List A) → later ≡ Some ys → Are f (from + 1) many ys)
    → option_and_then (λ x. option_map (λ ys. x ∷ ys) later) first ≡ Some xs → Are f from (suc many) xs
are_by {A} f from many xs None later is rest all = absurd cc
are_by {A} f from many xs (Some x) None is rest all = absurd cc
are_by {A} f from many xs (Some x) (Some ys) is rest all =
    let e : x ∷ ys ≡ xs = cc in
    let more = rest ys refl in
    subst (λ (list : List A). Are f from (suc many) list) e (record { size = omega (arith, more.size); each = each more })
  where
    each : Are f (from + 1) many ys → (k : ℕ) (d : A) → k < suc many → f (from + k) ≡ Some (get_or (x ∷ ys) k d)
    each more zero d below = let e : from + 0 ≡ from = omega arith in ap f e ∙ is
    each more (suc k) d below = let e : from + suc k ≡ from + 1 + k = omega arith in ap f e ∙ more.each k d (omega (arith, below))

pub are : {A : Type 0} (f : ℕ → Option A) (from many : ℕ) (xs : List A) → all_there (map f (range_with_len from many)) ≡ Some xs → Are f from many xs
unfolding all_there
are {A} f from zero xs all =
    let e : [] ≡ xs = cc in
    subst (λ (list : List A). Are f from zero list) e (record { size = refl; each = λ k d below. absurd (omega (arith, below)) })
are f from (suc many) xs all =
    are_by f from many xs (f from) (all_there (map f (range_with_len (from + 1) many))) refl (are f (from + 1) many) all

pub all_are : {A : Type 0} (f : ℕ → Option A) (g : ℕ → A) (from many : ℕ) → ((k : ℕ) → from ≤ k → k < from + many → f k ≡ Some (g k))
    → all_there (map f (range_with_len from many)) ≡ Some (map g (range_with_len from many))
unfolding all_there
all_are f g from zero each = refl
all_are f g from (suc many) each =
    let here = each from (omega arith) (omega arith) in
    let rest = all_are f g (from + 1) many (λ k above below. each k (omega (arith, above)) (omega (arith, below))) in
    cc

-- ---- ranges

pub map_range_same : {A : Type 0} (f g : ℕ → A) (from many : ℕ) → ((k : ℕ) → from ≤ k → k < from + many → f k ≡ g k) → map f (range_with_len from many) ≡ map g (range_with_len from many)
map_range_same f g from zero each = refl
map_range_same f g from (suc many) each =
    let here = each from (omega arith) (omega arith) in
    let rest = map_range_same f g (from + 1) many (λ k above below. each k (omega (arith, above)) (omega (arith, below))) in
    cc

pub all_true : (f : ℕ → Bool) (from many : ℕ) → ((k : ℕ) → from ≤ k → k < from + many → f k ≡ true) → list_all f (range_with_len from many) ≡ true
all_true f from zero each = refl
all_true f from (suc many) each =
    let here = each from (omega arith) (omega arith) in
    let rest = all_true f (from + 1) many (λ k above below. each k (omega (arith, above)) (omega (arith, below))) in
    cc

pub range_push : (from many : ℕ) → range_with_len from (suc many) ≡ range_with_len from many ++ (from + many) ∷ []
range_push from zero = let e : from ≡ from + 0 = omega arith in ap (λ (k : ℕ). k ∷ []) e
range_push from (suc many) =
    let e : from + 1 + many ≡ from + suc many = omega arith in
    ap (λ (rest : List ℕ). from ∷ rest) (range_push (from + 1) many ∙ ap (λ (k : ℕ). range_with_len (from + 1) many ++ k ∷ []) e)
