-- The numbers of names: each new name has the next number.
use Rattle.std.proofs.Common.{◌≡◌, ℕ, ◌+◌, ◌<◌, max, List, [], ◌∷◌, ◌++◌, length, map, true, false, not, ◌&&◌, ◌||◌, refl, sym, ap, ◌∙◌, append_assoc, subst, arith, ⊎_elim, ltb}
use Rattle.std.specs.Str.{bytes_eq}
use Rattle.std.specs.List.{position_or_len}
use Rattle.std.proofs.lemmas.Bool.{cases_Bool, false≢true, le-leb, lt-ltb, ltb-true, true≢false}
use Rattle.std.proofs.Math.Bool.{and_comm, or-false}
use Rattle.std.proofs.lemmas.List.{append-nil, length-append}
use Rattle.std.proofs.lemmas.List.Folds.{list_any-append}
use Rattle.std.proofs.lemmas.List.Elements.{filter_agree}
use Rattle.mit_script.specs.Grammar.{each_once, number_in}
use Rattle.mit_script.specs.Trees.{is_in_order}
use Rattle.mit_grammar.specs.NamesOnce.{bytes_eq-same, bytes_eq-true, differs, each_once-cons, each_once-nil, filter_twice, fresh, fresh_of_all, is_among, not-or}

-- the place of a word among names, or their number
abbrev place : List (List ℕ) → List ℕ → ℕ
place names word = position_or_len (λ name. bytes_eq name word) names

-- a word that is among the first names has its place there
place_seen : (seen more : List (List ℕ)) (word : List ℕ) → is_among seen word ≡ true → place (seen ++ more) word < length seen
place_seen [] more word among = absurd (false≢true among)
place_seen (name ∷ seen) more word among = ⊎_elim
    (λ (same : bytes_eq name word ≡ true). rw same (omega arith))
    (λ (apart : bytes_eq name word ≡ false).
    let among' : is_among seen word ≡ true = (rw apart at among) in
    let below : place (seen ++ more) word < length seen = place_seen seen more word among' in
    rw apart (omega (arith, below)))
    (cases_Bool (bytes_eq name word))

-- a word that is not among the names before it has its place after them
place_new : (seen more : List (List ℕ)) (word : List ℕ) → is_among seen word ≡ false → place (seen ++ word ∷ more) word ≡ length seen
place_new [] more word new = rw bytes_eq-same refl
place_new (name ∷ seen) more word new = ⊎_elim
    (λ (same : bytes_eq name word ≡ true). absurd (true≢false (rw same at new)))
    (λ (apart : bytes_eq name word ≡ false).
    let new' : is_among seen word ≡ false = (rw apart at new) in
    rw (apart, place_new seen more word new') (omega arith))
    (cases_Bool (bytes_eq name word))

number_in_is : (names : List (List ℕ)) (word : List ℕ) → place names word < length names → number_in names word ≡ place names word
number_in_is names word below = rw (lt-ltb _ _ below) refl

-- any number of a word is below the number of names, where there is one
pub number_in_below : (names : List (List ℕ)) (word : List ℕ) → 0 < length names → number_in names word < length names
number_in_below names word some = ⊎_elim
    (λ (found : ltb (place names word) (length names) ≡ true). rw found (ltb-true _ _ found))
    (λ (missing : ltb (place names word) (length names) ≡ false). rw missing some)
    (cases_Bool (ltb (place names word) (length names)))

number_in_seen : (seen more : List (List ℕ)) (word : List ℕ) → is_among seen word ≡ true → number_in (seen ++ more) word < length seen
number_in_seen seen more word among =
    let below : place (seen ++ more) word < length seen = place_seen seen more word among in
    rw (number_in_is (seen ++ more) word (rw length-append (omega (arith, below)))) below

number_in_new : (seen more : List (List ℕ)) (word : List ℕ) → is_among seen word ≡ false → number_in (seen ++ word ∷ more) word ≡ length seen
number_in_new seen more word new =
    let here : place (seen ++ word ∷ more) word ≡ length seen = place_new seen more word new in
    number_in_is (seen ++ word ∷ more) word (rw (here, length-append) (omega arith)) ∙ here

-- what a word that was seen adds, and what a new one adds
fresh-cons_seen : (seen words : List (List ℕ)) (word : List ℕ) → is_among seen word ≡ true → fresh seen (word ∷ words) ≡ fresh seen words
fresh-cons_seen seen words word among =
    rw (each_once-cons, among) (
    filter_twice (λ x. not (is_among seen x)) (differs word) (each_once words)
    ∙ filter_agree (λ x. differs word x && not (is_among seen x)) (λ x. not (is_among seen x)) (λ x. again x) (each_once words))
  where
    again : (x : List ℕ) → (differs word x && not (is_among seen x)) ≡ not (is_among seen x)
    again x = ⊎_elim
        (λ (same : bytes_eq word x ≡ true). rw (same, ← bytes_eq-true word x same, among) refl)
        (λ (apart : bytes_eq word x ≡ false). rw apart refl)
        (cases_Bool (bytes_eq word x))

-- after all words of a list stands one more
is_among-push : (seen : List (List ℕ)) (word other : List ℕ) → is_among (seen ++ word ∷ []) other ≡ (is_among seen other || bytes_eq word other)
is_among-push seen word other = list_any-append (λ name. bytes_eq name other) seen (word ∷ []) ∙ ap (λ b. is_among seen other || b) (or-false (bytes_eq word other))

fresh-cons_new : (seen words : List (List ℕ)) (word : List ℕ) → is_among seen word ≡ false
    → fresh seen (word ∷ words) ≡ word ∷ fresh (seen ++ word ∷ []) words
fresh-cons_new seen words word new =
    rw (each_once-cons, new) (ap (λ rest. word ∷ rest) (
    filter_twice (λ x. not (is_among seen x)) (differs word) (each_once words)
    ∙ filter_agree (λ x. differs word x && not (is_among seen x)) (λ x. not (is_among (seen ++ word ∷ []) x))
    (λ x. and_comm (differs word x) (not (is_among seen x)) ∙ not-or (is_among seen x) (bytes_eq word x) ∙ ap not (sym (is_among-push seen word x))) (each_once words)))

-- one more than the greatest of the numbers, or 0
abbrev pub bound_of : List ℕ → ℕ
bound_of [] = 0
bound_of (number ∷ numbers) = max (number + 1) (bound_of numbers)

-- numbers in order from here, which reach so far
record Ordered (next end : ℕ) (numbers : List ℕ) : Type 0 where
  order : is_in_order next numbers ≡ true
  reached : max next (bound_of numbers) ≡ end

known_number : (next end number : ℕ) (more : List ℕ) → number < next → Ordered next end more → Ordered next end (number ∷ more)
known_number next end number more low rest =
    let kept : max next (number + 1) ≡ next = omega arith in
    let reached = rest.reached in
    record { order = rw (le-leb number next (omega arith), kept) rest.order; reached = omega arith }

next_number : (next after end number : ℕ) (more : List ℕ) → number ≡ next → after ≡ next + 1 → Ordered after end more
    → Ordered next end (number ∷ more)
next_number next after end number more here up rest =
    let moved : max next (number + 1) ≡ after = omega arith in
    let reached = rest.reached in
    record { order = rw (le-leb number next (omega arith), moved) rest.order; reached = omega arith }

-- the numbers of words among the names that were seen and those that are added go on in order after the seen ones
abbrev GoesOn : List (List ℕ) → List (List ℕ) → List (List ℕ) → Type 0
GoesOn seen words added = Ordered (length seen) (length (seen ++ added)) (map (number_in (seen ++ added)) words)

-- after the names that were seen, each new one has the next number
ordered_from : (seen words : List (List ℕ)) → GoesOn seen words (fresh seen words)
ordered_from seen [] = rw (each_once-nil, append-nil) (record { order = refl; reached = omega arith })
ordered_from seen (word ∷ words) = ⊎_elim
    (λ (among : is_among seen word ≡ true).
    let names = seen ++ fresh seen words in
    subst (GoesOn seen (word ∷ words)) (sym (fresh-cons_seen seen words word among)) (known_number (length seen) (length names) (number_in names word) (map (number_in names) words)
    (number_in_seen seen (fresh seen words) word among) (ordered_from seen words)))
    (λ (new : is_among seen word ≡ false).
    let next = seen ++ word ∷ [] in
    let names = seen ++ word ∷ fresh next words in
    subst (GoesOn seen (word ∷ words)) (sym (fresh-cons_new seen words word new)) (next_number (length seen) (length next) (length names) (number_in names word) (map (number_in names) words)
    (number_in_new seen (fresh next words) word new) (length-append seen (word ∷ []))
    (subst (λ names. Ordered (length next) (length names) (map (number_in names) words)) (append_assoc seen (word ∷ []) (fresh next words))
    (ordered_from next words))))
    (cases_Bool (is_among seen word))

-- words are numbered in the order in which they appear first, and all numbers are used
ordered_names : (words : List (List ℕ)) → Ordered 0 (length (each_once words)) (map (number_in (each_once words)) words)
ordered_names words = subst (λ names. Ordered 0 (length names) (map (number_in names) words)) (fresh_of_all words) (ordered_from [] words)

pub names_in_order : (words : List (List ℕ)) → is_in_order 0 (map (number_in (each_once words)) words) ≡ true
names_in_order words = (ordered_names words).order

pub bound_of-names : (words : List (List ℕ)) → bound_of (map (number_in (each_once words)) words) ≡ length (each_once words)
bound_of-names words = let reached = (ordered_names words).reached in omega arith
