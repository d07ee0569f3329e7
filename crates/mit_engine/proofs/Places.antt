-- What stands at a place of a list, also of one that was written or mapped, what holds of each item, and sums.
use Rattle.std.proofs.Common.{◌≡◌, ◌∙◌, ◌+◌, ◌<◌, ◌≤◌, ◌⊎◌, ◌++◌, ℕ, zero, suc, List, [], ◌∷◌, Some, Bool, true, drop, length, get_or, ap, sym, subst, refl, inl, inr, arith}
use Rattle.std.specs.Prelude.{map, slice_get, slice_set, sum_by}
use Rattle.std.specs.List.{All, list_all}
use Rattle.std.proofs.lemmas.List.{drop_more, length-append}
use Rattle.std.proofs.lemmas.List.Sums.{AllPass-from_list_all, sum_by-cons, sum_by-le, sum_by-set}
use Rattle.std.proofs.lemmas.Option.{get_or_from_slice_get, slice_get-get_or, slice_get_read, slice_get_within}

-- ---- what stands at a place

-- a place within a list has an item
pub got_within : {A : Type 0} (xs : List A) (k : ℕ) → k < length xs → (x : A) × (slice_get xs k ≡ Some x)
got_within [] k within = absurd (omega arith)
got_within (x ∷ xs) zero within = (x, refl)
got_within (x ∷ xs) (suc k) within = got_within xs k (omega arith)

-- where a list has an item, another list of that length has one, and it is the one that code reads there
pub got_beside : {A B : Type 0} (xs : List A) (ys : List B) (k : ℕ) (x : A) → length xs ≡ length ys → slice_get xs k ≡ Some x → (y : B) × (slice_get ys k ≡ Some y)
got_beside xs ys k x sized is = got_within ys k (omega (arith, slice_get_within xs k x is))

pub read_beside : {A B : Type 0} (xs : List A) (ys : List B) (k : ℕ) (x : A) (y : B) → length xs ≡ length ys → slice_get xs k ≡ Some x → y ≡ get_or ys k y → slice_get ys k ≡ Some y
read_beside xs ys k x y sized is read = slice_get_read ys (length ys) k y refl (omega (arith, slice_get_within xs k x is)) read

-- what is left from a place on begins with the item there
pub at_hand : {X : Type 0} (xs : List X) (at : ℕ) (x : X) → at < length xs → x ≡ get_or xs at x → drop at xs ≡ x ∷ drop (at + 1) xs
at_hand xs at x within is = drop_more xs at x within ∙ ap (λ y. y ∷ drop (at + 1) xs) (sym is)

-- after a write a place has the new item, or what it had; after a map it has what the map makes of its item
pub got_set : {A : Type 0} (xs : List A) (i : ℕ) (y : A) (k : ℕ) (z : A) → slice_get (slice_set xs i y) k ≡ Some z
    → ((k ≡ i) × (z ≡ y)) ⊎ ((slice_get xs k ≡ Some z) × ¬ (k ≡ i))
got_set [] i y k z is = cc
got_set (x ∷ xs) zero y zero z is = inl (refl, cc)
got_set (x ∷ xs) zero y (suc k) z is = inr (is, λ e. omega arith)
got_set (x ∷ xs) (suc i) y zero z is = inr (is, λ e. omega arith)
got_set (x ∷ xs) (suc i) y (suc k) z is = elim (got_set xs i y k z is) [ inl e ↦ inl (ap suc e.0, e.1) | inr e ↦ inr (e.0, λ same. e.1 (omega arith)) ]

pub got_map : {A B : Type 0} (f : A → B) (xs : List A) (k : ℕ) (z : B) → slice_get (map f xs) k ≡ Some z → (x : A) × (slice_get xs k ≡ Some x) × (z ≡ f x)
got_map f [] k z is = cc
got_map f (x ∷ xs) zero z is = (x, refl, cc)
got_map f (x ∷ xs) (suc k) z is = got_map f xs k z is

-- ---- what holds of each item

pub All-got : {A : Type 0} (P : A → Type 0) (xs : List A) (k : ℕ) (x : A) → All P xs → slice_get xs k ≡ Some x → P x
All-got P xs k x all is = subst P (get_or_from_slice_get xs k x x is) (all k x (slice_get_within xs k x is))

pub All-from_got : {A : Type 0} (P : A → Type 0) (xs : List A) → ((k : ℕ) (x : A) → slice_get xs k ≡ Some x → P x) → All P xs
All-from_got P xs each k d within = each k (get_or xs k d) (slice_get-get_or xs k d within)

pub list_all_got : {A : Type 0} (p : A → Bool) (xs : List A) (k : ℕ) (x : A) → list_all p xs ≡ true → slice_get xs k ≡ Some x → p x ≡ true
list_all_got p xs k x all is = All-got (λ y. p y ≡ true) xs k x (AllPass-from_list_all p xs all) is

pub map-map_kept : {A B : Type 0} (f : A → B) (g : A → A) (xs : List A) → ((x : A) → f (g x) ≡ f x) → map f (map g xs) ≡ map f xs
map-map_kept f g [] same = refl
map-map_kept f g (x ∷ xs) same = ap (λ v. v ∷ map f (map g xs)) (same x) ∙ ap (λ vs. f x ∷ vs) (map-map_kept f g xs same)

-- ---- lists that are not empty

pub longer_left : {A : Type 0} (xs ys : List A) → 0 < length xs → 0 < length (xs ++ ys)
longer_left xs ys some = omega (arith, length-append xs ys)

pub longer_right : {A : Type 0} (xs ys : List A) → 0 < length ys → 0 < length (xs ++ ys)
longer_right xs ys some = omega (arith, length-append xs ys)

-- ---- sums

pub sum_by-none : {A : Type 0} (f : A → ℕ) (xs : List A) → ((k : ℕ) (x : A) → slice_get xs k ≡ Some x → f x ≡ 0) → sum_by f xs ≡ 0
sum_by-none f xs none = omega (arith, sum_by-le f 0 xs (All-from_got (λ x. f x ≤ 0) xs (λ k x is. omega (arith, none k x is))))

pub sum_by-map_kept : {A : Type 0} (f : A → ℕ) (g : A → A) (xs : List A) → ((x : A) → f (g x) ≡ f x) → sum_by f (map g xs) ≡ sum_by f xs
sum_by-map_kept f g [] same = refl
sum_by-map_kept f g (x ∷ xs) same =
    omega (arith, sum_by-cons f (g x) (map g xs), same x, sum_by-map_kept f g xs same, sum_by-cons f x xs)

pub sum_by-set_less : {A : Type 0} (f : A → ℕ) (xs : List A) (i : ℕ) (x y : A) → slice_get xs i ≡ Some x → f y + 1 ≡ f x → sum_by f (slice_set xs i y) + 1 ≡ sum_by f xs
sum_by-set_less f xs i x y is less =
    omega (arith, sum_by-set f xs i y x (slice_get_within xs i x is), ap f (get_or_from_slice_get xs i x x is))
