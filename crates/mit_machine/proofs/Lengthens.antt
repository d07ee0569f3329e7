-- Lists that go on as others do.
use Rattle.std.proofs.Common.{◌∙◌, ◌≤◌, ℕ, zero, suc, List, [], ◌∷◌, ◌++◌, length, take, drop, ap, sym, refl, arith, Bool, false}
use Rattle.std.specs.List.{filter}
use Rattle.std.proofs.lemmas.List.{append-nil, length-append, take-append-drop, take-take}
use Rattle.std.proofs.lemmas.List.Elements.{filter-append}
use Rattle.mit_machine.specs.Moves.{Moves}

-- a list goes on as another one
abbrev pub Lengthens : List ℕ → List ℕ → Type 0
Lengthens before after = Moves false before after

pub lengthens_none : (xs : List ℕ) → Lengthens xs xs
lengthens_none xs = ([], sym (append-nil xs))

pub lengthens_cons : (x : ℕ) (xs ys : List ℕ) → Lengthens xs ys → Lengthens (x ∷ xs) (x ∷ ys)
lengthens_cons x xs ys longer = (longer.0, ap (λ later. x ∷ later) longer.1)

pub lengthens_filter : (test : ℕ → Bool) (xs ys : List ℕ) → Lengthens xs ys → Lengthens (filter test xs) (filter test ys)
lengthens_filter test xs ys longer = (filter test longer.0, ap (filter test) longer.1 ∙ filter-append test xs longer.0)

drop_longer : (n : ℕ) (xs ys : List ℕ) → Lengthens (drop n xs) (drop n (xs ++ ys))
drop_longer zero xs ys = (ys, refl)
drop_longer (suc n) [] ys = (drop (suc n) ys, refl)
drop_longer (suc n) (x ∷ xs) ys = drop_longer n xs ys

pub lengthens_drop : (n : ℕ) (xs ys : List ℕ) → Lengthens xs ys → Lengthens (drop n xs) (drop n ys)
lengthens_drop n xs ys longer =
    let rest = drop_longer n xs longer.0 in
    (rest.0, ap (drop n) longer.1 ∙ rest.1)

pub lengthens_take : (few many : ℕ) (xs : List ℕ) → few ≤ many → Lengthens (take few xs) (take many xs)
lengthens_take few many xs below =
    let first = take-take few many xs below in
    (drop few (take many xs), sym (take-append-drop few (take many xs)) ∙ ap (λ list. list ++ drop few (take many xs)) first)

first_longer : (n : ℕ) (xs ys : List ℕ) → Lengthens (take n xs) (take n (xs ++ ys))
first_longer zero xs ys = ([], refl)
first_longer (suc n) [] ys = (take (suc n) ys, refl)
first_longer (suc n) (x ∷ xs) ys = lengthens_cons x (take n xs) (take n (xs ++ ys)) (first_longer n xs ys)

pub lengthens_first : (n : ℕ) (xs ys : List ℕ) → Lengthens xs ys → Lengthens (take n xs) (take n ys)
lengthens_first n xs ys longer =
    let rest = first_longer n xs longer.0 in
    (rest.0, ap (take n) longer.1 ∙ rest.1)

pub lengthens_length : (xs ys : List ℕ) → Lengthens xs ys → length xs ≤ length ys
lengthens_length xs ys longer = omega (arith, ap length longer.1, length-append xs longer.0)
