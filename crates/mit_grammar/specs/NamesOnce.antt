-- Devices of the proofs: nobody has to believe them. The names among tokens: each once, and how joined lists of them behave.
use Rattle.std.proofs.Common.{◌≡◌, ◌≢◌, ℕ, List, [], ◌∷◌, ◌++◌, Bool, true, false, not, ◌&&◌, ◌||◌, refl, sym, ap, ◌∙◌, subst, append_assoc, arith, ⊎_elim}
use Rattle.std.specs.Str.{bytes_eq}
use Rattle.std.specs.List.{filter, list_any, AllPairs}
use Rattle.std.proofs.Math.Bool.{and_comm}
use Rattle.std.proofs.lemmas.Bool.{cases_Bool, false≢true}
use Rattle.std.proofs.lemmas.List.Elements.{All-weaker, filter-append, filter_agree, filter_passes}
use Rattle.std.proofs.lemmas.List.Kept.{AllPairs-cons, AllPairs-filter}
use Rattle.std.proofs.lemmas.Slice.Eq.{bytes_eq-Decides}
use Rattle.mit_expr.specs.declared.expr.BinOp.{BinOp}
use Rattle.mit_expr.specs.declared.expr.BinOp.TheVariants as operator
use Rattle.mit_expr.specs.declared.expr.Call.{Call}
use Rattle.mit_expr.specs.declared.expr.Call.TheVariants as call
use Rattle.mit_script.specs.Grammar.{Kinds, call_token, each_once, names_in, operator_token}

-- one of the names is this word
abbrev pub is_among : List (List ℕ) → List ℕ → Bool
is_among names word = list_any (λ name. bytes_eq name word) names

-- the other word is not this one
abbrev pub differs : List ℕ → List ℕ → Bool
differs word other = not (bytes_eq word other)

-- those of the words that were not seen, each once
abbrev pub fresh : List (List ℕ) → List (List ℕ) → List (List ℕ)
fresh seen words = filter (λ word. not (is_among seen word)) (each_once words)

pub names_in-append : (tokens others : Kinds) → names_in (tokens ++ others) ≡ names_in tokens ++ names_in others
unfolding names_in
names_in-append [] others = refl
names_in-append (token ∷ tokens) others = rw (names_in-append tokens others, append_assoc) refl

-- no name is an operator or a function
pub names_in-operator : (op : BinOp) (tokens : Kinds) → names_in (operator_token op ∷ tokens) ≡ names_in tokens
unfolding names_in
names_in-operator operator.Add tokens = refl
names_in-operator operator.Sub tokens = refl
names_in-operator operator.Mul tokens = refl
names_in-operator operator.Div tokens = refl
names_in-operator operator.Rem tokens = refl
names_in-operator operator.Concat tokens = refl
names_in-operator operator.Eq tokens = refl
names_in-operator operator.Ne tokens = refl
names_in-operator operator.Lt tokens = refl
names_in-operator operator.Le tokens = refl
names_in-operator operator.Gt tokens = refl
names_in-operator operator.Ge tokens = refl
names_in-operator operator.And tokens = refl
names_in-operator operator.Or tokens = refl

pub names_in-call : (function : Call) (tokens : Kinds) → names_in (call_token function ∷ tokens) ≡ names_in tokens
unfolding names_in
names_in-call call.ToText tokens = refl
names_in-call call.ToInt tokens = refl
names_in-call call.Len tokens = refl

pub each_once-cons : (word : List ℕ) (words : List (List ℕ)) → each_once (word ∷ words) ≡ word ∷ filter (differs word) (each_once words)
unfolding each_once
each_once-cons word words = refl

pub each_once-nil : each_once [] ≡ []
unfolding each_once
each_once-nil = refl

-- a word is itself, and words with equal bytes are one
pub bytes_eq-same : (word : List ℕ) → bytes_eq word word ≡ true
bytes_eq-same word = (bytes_eq-Decides word word).1 refl

pub bytes_eq-true : (word other : List ℕ) → bytes_eq word other ≡ true → word ≡ other
bytes_eq-true word other same = (bytes_eq-Decides word other).0 same

-- two filters are one by both tests
pub filter_twice : {X : Type 0} (p q : X → Bool) (xs : List X) → filter p (filter q xs) ≡ filter (λ x. q x && p x) xs
filter_twice p q [] = refl
filter_twice p q (x ∷ xs) = ⊎_elim
    (λ (passes : q x ≡ true). rw (passes, filter_twice p q xs) refl)
    (λ (fails : q x ≡ false). rw (fails, filter_twice p q xs) refl)
    (cases_Bool (q x))

-- what a test keeps of each word once is each once of what it keeps
both_kept : (p : List ℕ → Bool) (word other : List ℕ) → p word ≡ false → (differs word other && p other) ≡ p other
both_kept p word other fails = ⊎_elim
    (λ (same : bytes_eq word other ≡ true). rw same (sym (subst (λ w. p w ≡ false) (bytes_eq-true word other same) fails)))
    (λ (apart : bytes_eq word other ≡ false). rw apart refl)
    (cases_Bool (bytes_eq word other))

each_once-filter : (p : List ℕ → Bool) (words : List (List ℕ)) → each_once (filter p words) ≡ filter p (each_once words)
unfolding each_once
each_once-filter p [] = refl
each_once-filter p (word ∷ words) = ⊎_elim
    (λ (passes : p word ≡ true). rw (passes, each_once-filter p words)
    (ap (λ rest. word ∷ rest) (filter_twice (differs word) p (each_once words)
    ∙ filter_agree (λ x. p x && differs word x) (λ x. differs word x && p x) (λ x. and_comm (p x) (differs word x)) (each_once words)
    ∙ sym (filter_twice p (differs word) (each_once words)))))
    (λ (fails : p word ≡ false). rw (fails, each_once-filter p words)
    (sym (filter_twice p (differs word) (each_once words)
    ∙ filter_agree (λ x. differs word x && p x) p (λ x. both_kept p word x fails) (each_once words))))
    (cases_Bool (p word))

pub each_once_twice : (words : List (List ℕ)) → each_once (each_once words) ≡ each_once words
unfolding each_once
each_once_twice [] = refl
each_once_twice (word ∷ words) = ap (λ rest. word ∷ rest)
    (ap (filter (differs word)) (each_once-filter (differs word) (each_once words) ∙ ap (filter (differs word)) (each_once_twice words))
    ∙ filter_twice (differs word) (differs word) (each_once words)
    ∙ filter_agree (λ x. differs word x && differs word x) (differs word) (λ x. and_same (differs word x)) (each_once words))
  where
    and_same : (x : Bool) → (x && x) ≡ x
    and_same true = refl
    and_same false = refl

-- the same words are among those that are left when another one is taken out
still_among : (word other : List ℕ) (words : List (List ℕ)) → bytes_eq word other ≡ false → is_among (filter (differs word) words) other ≡ is_among words other
still_among word other [] apart = refl
still_among word other (first ∷ words) apart = ⊎_elim
    (λ (same : bytes_eq word first ≡ true). rw (same, ← bytes_eq-true word first same, apart) (still_among word other words apart))
    (λ (kept : bytes_eq word first ≡ false). rw kept (ap (λ b. bytes_eq first other || b) (still_among word other words apart)))
    (cases_Bool (bytes_eq word first))

pub is_among-each_once : (words : List (List ℕ)) (other : List ℕ) → is_among (each_once words) other ≡ is_among words other
unfolding each_once
is_among-each_once [] other = refl
is_among-each_once (word ∷ words) other = ⊎_elim
    (λ (same : bytes_eq word other ≡ true). rw same refl)
    (λ (apart : bytes_eq word other ≡ false). rw apart (still_among word other (each_once words) apart ∙ is_among-each_once words other))
    (cases_Bool (bytes_eq word other))

-- where nothing was seen, each word is new once
pub fresh_of_all : (words : List (List ℕ)) → fresh [] words ≡ each_once words
fresh_of_all words = kept (each_once words)
  where
    kept : (xs : List (List ℕ)) → filter (λ x. true) xs ≡ xs
    kept [] = refl
    kept (x ∷ xs) = ap (λ rest. x ∷ rest) (kept xs)

pub not-or : (x y : Bool) → (not x && not y) ≡ not (x || y)
not-or true y = refl
not-or false y = refl

-- each word of two lists once: those of the first, and what is new in the second
pub each_once-append : (words others : List (List ℕ)) → each_once (words ++ others) ≡ each_once words ++ fresh words others
unfolding each_once
each_once-append [] others = sym (fresh_of_all others)
each_once-append (word ∷ words) others = ap (λ rest. word ∷ rest)
    (ap (filter (differs word)) (each_once-append words others)
    ∙ filter-append (differs word) (each_once words) (fresh words others)
    ∙ ap (λ rest. filter (differs word) (each_once words) ++ rest)
    (filter_twice (differs word) (λ x. not (is_among words x)) (each_once others)
    ∙ filter_agree (λ x. not (is_among words x) && differs word x) (λ x. not (is_among (word ∷ words) x))
    (λ x. and_comm (not (is_among words x)) (differs word x) ∙ not-or (bytes_eq word x) (is_among words x)) (each_once others)))

-- lists with the same words in the same order of first appearance stay so when they are joined
pub each_once_joined : (words words' others others' : List (List ℕ)) → each_once words ≡ each_once words' → each_once others ≡ each_once others'
    → each_once (words ++ others) ≡ each_once (words' ++ others')
each_once_joined words words' others others' one two =
    each_once-append words others
    ∙ ap (λ rest. each_once words ++ rest) (
    filter_agree (λ x. not (is_among words x)) (λ x. not (is_among words' x)) (λ x. ap not (
    sym (is_among-each_once words x) ∙ ap (λ names. is_among names x) one ∙ is_among-each_once words' x)) (each_once others)
    ∙ ap (filter (λ x. not (is_among words' x))) two)
    ∙ ap (λ first. first ++ fresh words' others') one
    ∙ sym (each_once-append words' others')

-- no name stands twice
pub each_once_distinct : (words : List (List ℕ)) → AllPairs (λ name other. name ≢ other) (each_once words)
unfolding each_once
each_once_distinct [] = λ i j d one two. absurd (omega arith)
each_once_distinct (word ∷ words) =
    AllPairs-cons (λ name other. name ≢ other) word (filter (differs word) (each_once words))
    (All-weaker (λ other. differs word other ≡ true) (λ other. word ≢ other)
    (λ other apart same. false≢true (ap not (sym (subst (λ w. bytes_eq word w ≡ true) same (bytes_eq-same word))) ∙ apart))
    (filter (differs word) (each_once words)) (filter_passes (differs word) (each_once words)))
    (AllPairs-filter (λ name other. name ≢ other) (differs word) (each_once words) (each_once_distinct words))
