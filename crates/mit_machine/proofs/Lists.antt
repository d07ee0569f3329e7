-- Lists and ranges of numbers: tests of them, rising ones, and lists that hold something.
use Rattle.std.proofs.Common.{◌≡◌, ◌∙◌, ◌<◌, ◌≤◌, ◌+◌, ◌-◌, ℕ, zero, suc, List, [], ◌∷◌, ◌++◌, length, map, take, drop, get_or, ap, sym, subst, refl, arith, eqb, cond, Bool, true, false, Some, inl, inr, flat_map}
use Rattle.std.specs.Prelude.{slice_get, Contains}
use Rattle.std.specs.List.{All, AllPairs, filter, list_all, list_any, range_with_len}
use Rattle.std.proofs.lemmas.Bool.{and_cases, both_ways, cases_lt, and_from, eqb-true, or_left}
use Rattle.std.proofs.lemmas.List.{get_or-map, get_or-take, length-map, length-take, take-append-drop, take-take, take_all}
use Rattle.std.proofs.lemmas.List.Concat.{flat_map-cons}
use Rattle.std.proofs.lemmas.List.Elements.{All-contains, All-filter, Contains-append_left, Contains-append_right, Contains-get_or}
use Rattle.std.proofs.lemmas.List.Folds.{Any-from_list_any, list_any-append, list_any_at}
use Rattle.std.proofs.lemmas.List.FromFn.{get_or-range_with_len, length-range_with_len}
use Rattle.std.proofs.lemmas.List.Sums.{AllPass-from_list_all, count_by-le-length, length-filter, list_all-from_AllPass}
use Rattle.std.proofs.lemmas.Map.Views.{any-filter_same}
use Rattle.std.proofs.lemmas.Option.{get_or_from_slice_get, slice_get-get_or, slice_get_within}

-- ---- tests of lists

-- what a list holds passes where all of it passes
pub each_passes : (test : ℕ → Bool) (xs : List ℕ) (x : ℕ) → list_all test xs ≡ true → Contains xs x → test x ≡ true
each_passes test xs x all has = All-contains (λ one. test one ≡ true) xs x (AllPass-from_list_all test xs all) has

-- what passes more tests
pub all_more : (few many : ℕ → Bool) (xs : List ℕ) → ((x : ℕ) → few x ≡ true → many x ≡ true) → list_all few xs ≡ true → list_all many xs ≡ true
all_more few many xs more all = list_all-from_AllPass many xs (λ k d below. more (get_or xs k d) (AllPass-from_list_all few xs all k d below))

-- a list has at least as many numbers as a filter keeps
pub filter_shorter : (test : ℕ → Bool) (xs : List ℕ) → length (filter test xs) ≤ length xs
filter_shorter test xs = omega (arith, length-filter test xs, count_by-le-length test xs)

-- all of the first ones pass where each does
pub front_all : (test : ℕ → Bool) (n : ℕ) (xs : List ℕ) → ((k j : ℕ) → k < n → slice_get xs k ≡ Some j → test j ≡ true) → list_all test (take n xs) ≡ true
front_all test zero xs each = refl
front_all test (suc n) [] each = refl
front_all test (suc n) (x ∷ xs) each =
    and_from (test x) (list_all test (take n xs)) (each 0 x (omega arith) refl) (front_all test n xs (λ k j below there. each (suc k) j (omega (arith, below)) there))

-- one that passes is there in a longer list
pub any_on : (test : ℕ → Bool) (xs more : List ℕ) → list_any test xs ≡ true → list_any test (xs ++ more) ≡ true
any_on test xs more some = list_any-append test xs more ∙ or_left (list_any test xs) (list_any test more) some

pub any_take : (test : ℕ → Bool) (few many : ℕ) (xs : List ℕ) → few ≤ many → list_any test (take few xs) ≡ true → list_any test (take many xs) ≡ true
any_take test few many xs below some =
    ap (list_any test) (sym (take-append-drop few (take many xs)))
    ∙ any_on test (take few (take many xs)) (drop few (take many xs)) (ap (list_any test) (take-take few many xs below) ∙ some)

-- one of the first ones is among them
pub any_at : (test : ℕ → Bool) (n k j : ℕ) (xs : List ℕ) → k < n → slice_get xs k ≡ Some j → test j ≡ true → list_any test (take n xs) ≡ true
any_at test n k j xs below there passes =
    let within = slice_get_within xs k j there in
    let item = get_or-take n xs k j below ∙ get_or_from_slice_get xs k j j there in
    list_any_at test (take n xs) k j (omega (arith, below, within, length-take n xs)) (ap test item ∙ passes)

-- what is among the first ones stands at a position there
pub any_found : (n j : ℕ) (xs : List ℕ) → list_any (λ other. eqb other j) (take n xs) ≡ true → (k : ℕ) × (k < n) × (slice_get xs k ≡ Some j)
any_found n j xs some =
    let one = Any-from_list_any (λ other. eqb other j) (take n xs) some in
    let size = length-take n xs in
    let below : one.0 < n = omega (arith, one.2, size) in
    let item = sym (get_or-take n xs one.0 one.1 below) ∙ one.3 ∙ eqb-true one.1 j one.4 in
    (one.0, below, slice_get-get_or xs one.0 one.1 (omega (arith, one.2, size)) ∙ ap Some item)

-- what passes is kept
pub any_filter : (test : ℕ → Bool) (j : ℕ) (xs : List ℕ) → test j ≡ true → list_any (λ other. eqb other j) xs ≡ true → list_any (λ other. eqb other j) (filter test xs) ≡ true
any_filter test j xs passes some = any-filter_same (λ other. eqb other j) test true (λ other same. ap test (eqb-true other j same) ∙ passes) xs ∙ some

-- what is kept was there
pub any_of_filter : (test keeps : ℕ → Bool) (xs : List ℕ) → list_any test (filter keeps xs) ≡ true → list_any test xs ≡ true
any_of_filter test keeps xs some =
    let one = Any-from_list_any test (filter keeps xs) some in
    let held = All-filter keeps (Contains xs) xs (Contains-get_or xs) one.0 one.1 one.2 in
    list_any_at test xs held.0 (get_or (filter keeps xs) one.0 one.1) held.1 (ap test (held.2 ∙ one.3) ∙ one.4)

-- where something isn't among the first ones of a list that has it, there are more
pub more_there : (taken j : ℕ) (xs : List ℕ) → list_any (λ other. eqb other j) xs ≡ true → list_any (λ other. eqb other j) (take taken xs) ≡ false → taken < length xs
more_there taken j xs some none =
    elim (cases_lt taken (length xs)) [
      | inl less ↦ less
      | inr all ↦
          absurd (both_ways (list_any (λ other. eqb other j) (take taken xs)) none (ap (list_any (λ other. eqb other j)) (take_all taken xs all) ∙ some))
    ]

-- ---- ranges

-- the numbers of a range are in it
pub range_has : (from many k : ℕ) → from ≤ k → k < from + many → Contains (range_with_len from many) k
range_has from many k low high =
    let i : ℕ = k - from in
    let within : i < many = omega (arith, low, high) in
    let size = length-range_with_len from many in
    let e : from + i ≡ k = omega (arith, low) in
    (i, omega (arith, within, size), get_or-range_with_len from many i k within ∙ e)

-- where all of a range pass, each does
pub range_each : (test : ℕ → Bool) (from many k : ℕ) → list_all test (range_with_len from many) ≡ true → from ≤ k → k < from + many → test k ≡ true
range_each test from many k all low high = each_passes test (range_with_len from many) k all (range_has from many k low high)

-- where not all pass, one fails
pub range_found : (test : ℕ → Bool) (from many : ℕ) → list_all test (range_with_len from many) ≡ false → (k : ℕ) × (from ≤ k) × (k < from + many) × (test k ≡ false)
range_found test from zero all = absurd cc
range_found test from (suc many) all =
    elim (and_cases (test from) (list_all test (range_with_len (from + 1) many)) all) [
      | inl here ↦ (from, omega arith, omega arith, here)
      | inr later ↦ let one = range_found test (from + 1) many later in (one.0, omega (arith, one.1), omega (arith, one.2), one.3)
    ]

-- what holds of each number of a range
pub range_holds : (P : ℕ → Type 0) (from many : ℕ) → ((k : ℕ) → from ≤ k → k < from + many → P k) → All P (range_with_len from many)
range_holds P from many each k d below =
    let less : k < many = omega (arith, below, length-range_with_len from many) in
    subst P (sym (get_or-range_with_len from many k d less)) (each (from + k) (omega arith) (omega (arith, less)))

pub range_append : (first n m : ℕ) → range_with_len first (n + m) ≡ range_with_len first n ++ range_with_len (first + n) m
range_append first zero m =
    let same : zero + m ≡ m = omega arith in
    let start : first ≡ first + zero = omega arith in
    ap (range_with_len first) same ∙ ap (λ at. range_with_len at m) start
range_append first (suc n) m =
    let same : suc n + m ≡ suc (n + m) = omega arith in
    let start : (first + 1) + n ≡ first + suc n = omega arith in
    ap (range_with_len first) same ∙ ap (λ later. first ∷ later) (range_append (first + 1) n m ∙ ap (λ at. range_with_len (first + 1) n ++ range_with_len at m) start)

pub filter_range : (one other : ℕ → Bool) (first n : ℕ) → ((place : ℕ) → place < first + n → one place ≡ other place) → filter one (range_with_len first n) ≡ filter other (range_with_len first n)
filter_range one other first zero same = refl
filter_range one other first (suc n) same =
    rw (same first (omega arith)) (ap (λ later. cond (other first) (first ∷ later) later) (filter_range one other (first + 1) n (λ place below. same place (omega (arith, below)))))

-- ---- rising lists

-- each number is less than all behind it
abbrev pub Rising : List ℕ → Type 0
Rising xs = AllPairs (λ (one other : ℕ). one < other) xs

pub range_rises : (from many : ℕ) → Rising (range_with_len from many)
range_rises from many i j d less below =
    let size = length-range_with_len from many in
    let one = get_or-range_with_len from many i d (omega (arith, less, below, size)) in
    let other = get_or-range_with_len from many j d (omega (arith, below, size)) in
    omega (arith, one, other, less)

pub rising_take : (n : ℕ) (xs : List ℕ) → Rising xs → Rising (take n xs)
rising_take n xs rises i j d less below =
    let size = length-take n xs in
    let one = get_or-take n xs i d (omega (arith, less, below, size)) in
    let other = get_or-take n xs j d (omega (arith, below, size)) in
    omega (arith, one, other, rises i j d less (omega (arith, below, size)))

-- ---- lists that hold something

pub in_map : {A B : Type 0} (f : A → B) (x : A) (xs : List A) → Contains xs x → Contains (map f xs) (f x)
in_map f x xs has =
    let size = length-map xs f in
    (has.0, omega (arith, has.1, size), get_or-map f xs has.0 x (f x) has.1 ∙ ap f has.2)

pub in_flat_map : {A B : Type 0} (f : A → List B) (x : A) (y : B) (xs : List A) (k : ℕ) → k < length xs → get_or xs k x ≡ x → Contains (f x) y → Contains (flat_map f xs) y
in_flat_map f x y [] k below is one = absurd (omega (arith, below))
in_flat_map {A} {B} f x y (first ∷ xs) zero below is one =
    subst (λ (list : List B). Contains list y) (sym (flat_map-cons f first xs))
    (Contains-append_left (f first) (flat_map f xs) y (subst (λ (source : A). Contains (f source) y) (sym is) one))
in_flat_map {A} {B} f x y (first ∷ xs) (suc k) below is one =
    subst (λ (list : List B). Contains list y) (sym (flat_map-cons f first xs))
    (Contains-append_right (f first) (flat_map f xs) y (in_flat_map f x y xs k (omega (arith, below)) is one))

-- what passes is kept
pub in_filter : {A : Type 0} (test : A → Bool) (x : A) (xs : List A) (k : ℕ) → k < length xs → get_or xs k x ≡ x → test x ≡ true → Contains (filter test xs) x
in_filter test x [] k below is passes = absurd (omega (arith, below))
in_filter {A} test x (first ∷ xs) zero below is passes =
    let e : test first ≡ true = ap test is ∙ passes in
    subst (λ (b : Bool). Contains (cond b (first ∷ filter test xs) (filter test xs)) x) (sym e) (0, omega arith, is)
in_filter {A} test x (first ∷ xs) (suc k) below is passes = kept (test first) (in_filter test x xs k (omega (arith, below)) is passes)
  where
    kept : (b : Bool) → Contains (filter test xs) x → Contains (cond b (first ∷ filter test xs) (filter test xs)) x
    kept true has = (suc has.0, omega (arith, has.1), has.2)
    kept false has = has
