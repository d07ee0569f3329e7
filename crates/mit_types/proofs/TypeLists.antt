-- The types of a list, one after another, and the keys of two bags side by side.
use Rattle.std.proofs.Common.{◌≡◌, ℕ, ◌==◌, ◌+◌, ◌<◌, ◌≤◌, ◌∙◌, List, [], ◌∷◌, ◌++◌, length, get_or, drop, drop-cons, add-one, append_assoc, ap, sym, false, Option, Some, None, refl, arith}
use Rattle.std.proofs.lemmas.List.{append-nil, drop_all}
use Rattle.mit_rows.specs.declared.value.ColType.{ColType}
use Rattle.mit_ops.specs.Results.{and_types, keys_fit, types_of}

-- types so far before those of the rest, where these are given
abbrev pub behind : List ColType → Option (List ColType) → Option (List ColType)
behind done None = None
behind done (Some more) = Some (done ++ more)

-- the types of what is left: the one at its head is before those of the others
types_of_rest : {A : Type 0} (f : A → Option ColType) (xs : List A) (i : ℕ) (x : A) → i < length xs
    → types_of f (drop i xs) ≡ and_types (f (get_or xs i x)) (types_of f (drop (i + 1) xs))
types_of_rest f xs i x h = rw (add-one, drop-cons xs i x h) refl

one_more : (is : ColType) (done : List ColType) (rest : Option (List ColType)) → behind done (and_types (Some is) rest) ≡ behind (done ++ is ∷ []) rest
one_more is done None = refl
one_more is done (Some rest) = ap Some (sym (append_assoc done (is ∷ []) rest))

-- a loop over a list of which each has a type: after one of them, where one has none, and at the end
pub next_type : {A : Type 0} (f : A → Option ColType) (xs : List A) (i : ℕ) (x : A) (is : ColType) (done all : List ColType) (types : Option (List ColType)) → i < length xs
    → f (get_or xs i x) ≡ Some is → all ≡ done ++ is ∷ [] → types ≡ behind done (types_of f (drop i xs)) → types ≡ behind all (types_of f (drop (i + 1) xs))
next_type f xs i x is done all types h here more e =
    e ∙ ap (behind done) (types_of_rest f xs i x h ∙ ap (λ (t : Option ColType). and_types t (types_of f (drop (i + 1) xs))) here)
    ∙ one_more is done (types_of f (drop (i + 1) xs)) ∙ ap (λ (l : List ColType). behind l (types_of f (drop (i + 1) xs))) (sym more)

pub no_type : {A : Type 0} (f : A → Option ColType) (xs : List A) (i : ℕ) (x : A) (done : List ColType) (types : Option (List ColType)) → i < length xs
    → f (get_or xs i x) ≡ None → types ≡ behind done (types_of f (drop i xs)) → types ≡ None
no_type f xs i x done types h here e =
    e ∙ ap (behind done) (types_of_rest f xs i x h ∙ ap (λ (t : Option ColType). and_types t (types_of f (drop (i + 1) xs))) here)

pub all_types : {A : Type 0} (f : A → Option ColType) (xs : List A) (i : ℕ) (done : List ColType) (types : Option (List ColType)) → length xs ≤ i
    → types ≡ behind done (types_of f (drop i xs)) → types ≡ Some done
all_types f xs i done types h e = e ∙ ap (λ l. behind done (types_of f l)) (drop_all i xs h) ∙ ap Some (append-nil done)

-- keys of the left bag fit where those of the right bag are none, and no other do
none_fits : (is : Option ColType) (more : Option (List ColType)) → keys_fit (Some []) (and_types is more) ≡ false
none_fits None more = refl
none_fits (Some is) None = refl
none_fits (Some is) (Some more) = refl

pub no_left_fits : (f g : ℕ → Option ColType) (left right : List ℕ) → length left ≡ 0 → (length right == 0) ≡ keys_fit (types_of f left) (types_of g right)
no_left_fits f g [] [] h = refl
no_left_fits f g [] (key ∷ keys) h = rw (none_fits (g key) (types_of g keys)) (grind arith)
no_left_fits f g (key ∷ keys) right h = absurd (omega arith)
