-- Lists whose elements are numbered: what holds of each element with its number.
use Rattle.std.proofs.Common.{◌≡◌, ◌<◌, ◌+◌, ℕ, zero, suc, List, [], ◌∷◌, ◌++◌, length, get_or, subst, arith}
use Rattle.std.specs.Prelude.{All}

-- of each element, with its number, where the first one has this number
abbrev pub Each : {A : Type 0} → (ℕ → A → Type 0) → ℕ → List A → Type 0
Each P number [] = Unit {0}
Each P number (x ∷ xs) = P number x × Each P (suc number) xs

-- the first number may be written in another way
pub each_from : {A : Type 0} (P : ℕ → A → Type 0) (xs : List A) (m n : ℕ) → m ≡ n → Each P m xs → Each P n xs
each_from P xs m n same each = subst (λ k. Each P k xs) same each

pub each_join : {A : Type 0} (P : ℕ → A → Type 0) (xs ys : List A) (n : ℕ) → Each P n xs → Each P (n + length xs) ys → Each P n (xs ++ ys)
each_join P [] ys n first later = each_from P ys (n + 0) n (omega arith) later
each_join P (x ∷ xs) ys n first later =
    (first.0, each_join P xs ys (suc n) first.1 (each_from P ys (n + suc (length xs)) (suc n + length xs) (omega arith) later))

pub each_front : {A : Type 0} (P : ℕ → A → Type 0) (xs ys : List A) (n : ℕ) → Each P n (xs ++ ys) → Each P n xs
each_front P [] ys n all = tt
each_front P (x ∷ xs) ys n all = (all.0, each_front P xs ys (suc n) all.1)

pub each_back : {A : Type 0} (P : ℕ → A → Type 0) (xs ys : List A) (n : ℕ) → Each P n (xs ++ ys) → Each P (n + length xs) ys
each_back P [] ys n all = each_from P ys n (n + 0) (omega arith) all
each_back P (x ∷ xs) ys n all = each_from P ys (suc n + length xs) (n + suc (length xs)) (omega arith) (each_back P xs ys (suc n) all.1)

pub each_weaker : {A : Type 0} (P Q : ℕ → A → Type 0) → ((n : ℕ) (x : A) → P n x → Q n x) → (xs : List A) (n : ℕ) → Each P n xs → Each Q n xs
each_weaker P Q weaker [] n all = tt
each_weaker P Q weaker (x ∷ xs) n all = (weaker n x all.0, each_weaker P Q weaker xs (suc n) all.1)

pub each_at : {A : Type 0} (P : ℕ → A → Type 0) (xs : List A) (n i : ℕ) (d : A) → Each P n xs → i < length xs → P (n + i) (get_or xs i d)
each_at P [] n i d all short = absurd (omega (arith, short))
each_at P (x ∷ xs) n zero d all short = let e : n ≡ n + 0 = omega arith in subst (λ k. P k x) e all.0
each_at P (x ∷ xs) n (suc i) d all short =
    let e : suc n + i ≡ n + suc i = omega arith in let less : i < length xs = omega (arith, short) in
    subst (λ k. P k (get_or xs i d)) e (each_at P xs (suc n) i d all.1 less)

pub each_made : {A : Type 0} (P : ℕ → A → Type 0) (xs : List A) (n : ℕ) (d : A) → ((i : ℕ) → i < length xs → P (n + i) (get_or xs i d)) → Each P n xs
each_made P [] n d made = tt
each_made P (x ∷ xs) n d made =
    let e : n + 0 ≡ n = omega arith in let short : 0 < suc (length xs) = omega arith in (
      subst (λ k. P k x) e (made 0 short),
      each_made P xs (suc n) d (λ i less.
          let e : n + suc i ≡ suc n + i = omega arith in let more : suc i < suc (length xs) = omega (arith, less) in
          subst (λ k. P k (get_or xs i d)) e (made (suc i) more)),
    )

-- what holds of each element whatever its number
pub each_all : {A : Type 0} (P : A → Type 0) (xs : List A) (n : ℕ) → Each (λ number x. P x) n xs → All P xs
each_all P xs n all i d short = each_at (λ number x. P x) xs n i d all short
