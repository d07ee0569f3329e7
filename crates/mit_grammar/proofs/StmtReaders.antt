-- Readers and what they read. Each is put together from smaller ones.
use Rattle.std.proofs.Common.{◌≡◌, ℕ, zero, suc, ◌+◌, ◌<◌, ◌≤◌, [], ◌∷◌, ◌++◌, length, Bool, true, false, if◌then◌else◌, Option, Ok, Err, ◌⊎◌, inl, inr, refl, ap, sym, subst, ◌∙◌, arith, append_assoc, length-append}
use Rattle.std.proofs.lemmas.List.{append_cancel_right}
use Rattle.mit_lex.specs.declared.token.TokenKind.{TokenKind}
use Rattle.mit_script.specs.Grammar.{Kinds}
use Rattle.mit_script.specs.Reading.{Reading, ◌>>=◌}
use Rattle.mit_grammar.proofs.Readers.{Anything, Reads, err_once, first_of, ok_or_err, reads_as, reads_err, reads_made, reads_none, reads_ok, reads_then, reads_token, reads_where, refuses_end, refuses_token, stops_there, takes_these}

-- the tokens are within both bounds of a reader; the first bound, of the depth, is at most `top`
pub record Fits (top slack left most : ℕ) (tokens : Kinds) : Type 0 where
  pub low : left ≤ top
  pub deep : length tokens < left + slack
  pub wide : length tokens < most

-- bounds that are no smaller
pub record Larger (top left most depth bound : ℕ) : Type 0 where
  pub low : depth ≤ top
  pub deep : left ≤ depth
  pub wide : most ≤ bound

-- a reader of what a relation spells, with a parameter and two bounds
abbrev pub Reader : Type 0 → Type 0 → Type 0
Reader P A = P → ℕ → ℕ → Kinds → Reading A

abbrev pub Spelling : Type 0 → Type 0 → Type 1
Spelling P A = P → A → Kinds → Type 0

-- another parameter, with bounds that are no smaller
abbrev pub Others : Type 0 → ℕ → ℕ → ℕ → Type 0
Others P top left most = (q : P) × (depth : ℕ) × (bound : ℕ) × Larger top left most depth bound

-- what reading these tokens gives; the others are the same reader with other parameters
abbrev pub ReadsWithin : {P A : Type 0} → ℕ → Spelling P A → Reader P A → P → ℕ → ℕ → Kinds → Reading A → Type 0
ReadsWithin {P = P} top R r p left most = Reads (R p) Anything (λ (x : Others P top left most). r x.0 x.1 x.2)

-- a reader reads just what is spelled, where what may follow stands after it
pub record IsReader {P A : Type 0} (top slack : ℕ) (R : Spelling P A) (F : Option TokenKind → Type 0) (r : Reader P A) : Type 0 where
  pub some : (p : P) → (a : A) × (tokens : Kinds) × R p a tokens
  pub complete : (p : P) (left most : ℕ) (a : A) (tokens after : Kinds) → Fits top slack left most tokens → R p a tokens → F (first_of after)
      → r p left most (tokens ++ after) ≡ Ok (a, after)
  pub reads : (p : P) (left most : ℕ) (tokens : Kinds) → Fits top slack left most tokens → ReadsWithin top R r p left most tokens (r p left most tokens)

-- ---- results

-- both of two readings succeed where the second does
pub bind_ok : {A B : Type 0} (x : Reading A) (next : A × Kinds → Reading B) (done : B × Kinds) → (x >>= next) ≡ Ok done
    → (read : A × Kinds) × (x ≡ Ok read) × (next read ≡ Ok done)
bind_ok (Ok read) next done is = (read, refl, is)
bind_ok (Err rest) next done is = absurd (ok_or_err _ _ (sym is))

-- the first or the second of two readings fails
pub bind_err : {A B : Type 0} (x : Reading A) (next : A × Kinds → Reading B) (rest : Kinds) → (x >>= next) ≡ Err rest
    → (x ≡ Err rest) ⊎ ((read : A × Kinds) × (x ≡ Ok read) × (next read ≡ Err rest))
bind_err (Ok read) next rest is = inr (read, refl, is)
bind_err (Err other) next rest is = inl (ap Err (err_once _ _ is))

-- ---- bounds

pub fits_front : (top slack left most : ℕ) (front back : Kinds) → Fits top slack left most (front ++ back) → Fits top slack left most front
fits_front top slack left most front back fits = record { low = fits.low; deep = grind (arith, length-append, fits.deep); wide = grind (arith, length-append, fits.wide) }

pub fits_back : (top slack other left most : ℕ) (front back : Kinds) → slack ≤ other + length front → Fits top slack left most (front ++ back)
    → Fits top other left most back
fits_back top slack other left most front back spare fits = record { low = fits.low; deep = grind (arith, length-append, fits.deep, spare); wide = grind (arith, length-append, fits.wide) }

-- ---- one piece after another

pub data Bind {P A C : Type 0} (R : Spelling P A) (S : Spelling (P × A) C) (p : P) : C → Kinds → Type 0 where
  both : {a : A} {c : C} {front back : Kinds} → R p a front → S (p, a) c back → Bind R S p c (front ++ back)

-- the reader of two pieces
abbrev pub bound : {P A C : Type 0} → Reader P A → Reader (P × A) C → Reader P C
bound r s p left most tokens = r p left most tokens >>= λ a. s (p, a.0) left most a.1

-- what begins the second piece may follow the first one
abbrev pub Meets : {P A C : Type 0} → Spelling P A → (Option TokenKind → Type 0) → Spelling (P × A) C → (Option TokenKind → Type 0) → Type 0
Meets {P = P} {A = A} {C = C} R F S G = (p : P) (a : A) (c : C) (tokens after : Kinds) → S (p, a) c tokens → G (first_of after) → F (first_of (tokens ++ after))

-- two pieces that are spelled are read
bind_complete : {P A C : Type 0} (top slack other : ℕ) (R : Spelling P A) (F G : Option TokenKind → Type 0) (r : Reader P A) (S : Spelling (P × A) C) (s : Reader (P × A) C)
    → IsReader top slack R F r → IsReader top other S G s → ((p : P) (a : A) (tokens : Kinds) → R p a tokens → slack ≤ other + length tokens) → Meets R F S G
    → (p : P) (left most : ℕ) (c : C) (tokens after : Kinds) → Fits top slack left most tokens → Bind R S p c tokens → G (first_of after)
    → bound r s p left most (tokens ++ after) ≡ Ok (c, after)
bind_complete top slack other R F G r S s first second spare meets p left most c tokens after fits (both {a = a} {front = front} {back = back} x y) ends =
    rw (
      append_assoc front back after,
      first.complete p left most a front (back ++ after) (fits_front top slack left most front back fits) x (meets p a c back after y ends),
    )
    (second.complete (p, a) left most c back after (fits_back top slack other left most front back (spare p a front x) fits) y ends)

-- what reading two pieces gives
bind_reads : {P A C : Type 0} (top slack other : ℕ) (R : Spelling P A) (F G : Option TokenKind → Type 0) (r : Reader P A) (S : Spelling (P × A) C) (s : Reader (P × A) C)
    → IsReader top slack R F r → IsReader top other S G s → ((p : P) (a : A) (tokens : Kinds) → R p a tokens → slack ≤ other + length tokens)
    → (p : P) (left most : ℕ) (tokens : Kinds) → Fits top slack left most tokens → ReadsWithin top (Bind R S) (bound r s) p left most tokens (bound r s p left most tokens)
bind_reads {P = P} {A = A} top slack other R F G r S s first second spare p left most tokens fits =
    reads_then (R p) (λ (x : Others P top left most). r x.0 x.1 x.2) (λ a. S (p, a)) Anything (λ x read. s (x.0, read.0) x.1 x.2 read.1) (Bind R S p)
    (λ a c front back x y. both x y) (λ read. s (p, read.0) left most read.1) (λ a. second.some (p, a))
    (λ a used rest cut x ends. reads_as (S (p, a)) Anything (λ (y : Others P top left most × A) later. s (y.0.0, y.1) y.0.1 y.0.2 later) (λ c back z. z) (λ after e. e)
    (λ y. (((y.0.0, y.1), y.0.1, y.0.2, y.0.3), λ later. refl))
    (second.reads (p, a) left most rest (fits_back top slack other left most used rest (spare p a used x) (rw cut at fits))))
    (first.reads p left most tokens fits)

-- a piece whose tokens leave room for the next one
pub bind_within : {P A C : Type 0} {top slack : ℕ} (other : ℕ) {R : Spelling P A} {F G : Option TokenKind → Type 0} {r : Reader P A} {S : Spelling (P × A) C} {s : Reader (P × A) C}
    → IsReader top slack R F r → IsReader top other S G s → ((p : P) (a : A) (tokens : Kinds) → R p a tokens → slack ≤ other + length tokens) → Meets R F S G
    → IsReader top slack (Bind R S) G (bound r s)
bind_within {top = top} {slack = slack} other {R = R} {F = F} {G = G} {r = r} {S = S} {s = s} first second spare meets = record {
  some = λ p. let x = first.some p in let y = second.some (p, x.0) in (y.0, x.1 ++ y.1, both x.2 y.2);
  complete = bind_complete top slack other R F G r S s first second spare meets;
  reads = bind_reads top slack other R F G r S s first second spare;
}

-- a piece, and another one within the same bounds
pub bind : {P A C : Type 0} {top slack : ℕ} {R : Spelling P A} {F G : Option TokenKind → Type 0} {r : Reader P A} {S : Spelling (P × A) C} {s : Reader (P × A) C}
    → IsReader top slack R F r → IsReader top slack S G s → Meets R F S G → IsReader top slack (Bind R S) G (bound r s)
bind {slack = slack} first second meets = bind_within slack first second (λ p a tokens x. omega arith) meets

-- ---- a value made of the parameter and of what is read

pub data Made {P A C : Type 0} (R : Spelling P A) (f : P → A → C) (p : P) : C → Kinds → Type 0 where
  made : {a : A} {tokens : Kinds} → R p a tokens → Made R f p (f p a) tokens

-- the reader that makes the value
abbrev pub making : {P A C : Type 0} → Reader P A → (P → A → C) → Reader P C
making r f p left most tokens = r p left most tokens >>= λ a. Ok (f p a.0, a.1)

made_complete : {P A C : Type 0} (top slack : ℕ) (R : Spelling P A) (F : Option TokenKind → Type 0) (r : Reader P A) (f : P → A → C)
    → IsReader top slack R F r → (p : P) (left most : ℕ) (c : C) (tokens after : Kinds) → Fits top slack left most tokens → Made R f p c tokens → F (first_of after)
    → making r f p left most (tokens ++ after) ≡ Ok (c, after)
made_complete top slack R F r f reads p left most c tokens after fits (made {a = a} x) ends = rw (reads.complete p left most a tokens after fits x ends) refl

-- what is read, made into another value
pub make : {P A C : Type 0} {top slack : ℕ} {R : Spelling P A} {F : Option TokenKind → Type 0} {r : Reader P A} → IsReader top slack R F r → (f : P → A → C)
    → IsReader top slack (Made R f) F (making r f)
make {top = top} {slack = slack} {R = R} {F = F} {r = r} reads f = record {
  some = λ p. let x = reads.some p in (f p x.0, x.1, made x.2);
  complete = made_complete top slack R F r f reads;
  reads = λ p left most tokens fits. reads_made (Made R f p) (f p) (λ (x : Others _ top left most). f x.0) (λ a used x. made x) (reads.reads p left most tokens fits);
}

-- ---- the parameter from another one

pub along : {P Q A : Type 0} {top slack : ℕ} {R : Spelling P A} {F : Option TokenKind → Type 0} {r : Reader P A} → (f : Q → P) → IsReader top slack R F r
    → IsReader top slack (λ q. R (f q)) F (λ q. r (f q))
along {Q = Q} {top = top} {R = R} {r = r} f reads = record {
  some = λ q. reads.some (f q);
  complete = λ q. reads.complete (f q);
  reads = λ q left most tokens fits.
      reads_as (R (f q)) Anything (λ (x : Others Q top left most). r (f x.0) x.1 x.2) (λ a used x. x) (λ rest e. e) (λ x. ((f x.0, x.1, x.2, x.3), λ later. refl))
      (reads.reads (f q) left most tokens fits);
}

-- ---- the same words and the same reader in other terms

-- another relation of the same words, with another reader that gives the same, and less that may follow
pub convert : {P A : Type 0} {top slack : ℕ} {R S : Spelling P A} {F G : Option TokenKind → Type 0} {r s : Reader P A} → IsReader top slack R F r
    → ((p : P) (a : A) (tokens : Kinds) → R p a tokens → S p a tokens) → ((p : P) (a : A) (tokens : Kinds) → S p a tokens → R p a tokens)
    → ((first : Option TokenKind) → G first → F first)
    → ((p : P) (left most : ℕ) (tokens : Kinds) → r p left most tokens ≡ s p left most tokens) → IsReader top slack S G s
convert {P = P} {top = top} {S = S} {s = s} reads to from ends same = record {
  some = λ p. let x = reads.some p in (x.0, x.1, to p x.0 x.1 x.2);
  complete = λ p left most a tokens after fits x e. sym (same p left most (tokens ++ after)) ∙ reads.complete p left most a tokens after fits (from p a tokens x) (ends (first_of after) e);
  reads = λ p left most tokens fits. subst (λ result. ReadsWithin top S s p left most tokens result) (same p left most tokens)
      (reads_as (S p) Anything (λ (x : Others P top left most). s x.0 x.1 x.2) (to p) (λ rest e. e) (λ x. (x, λ later. sym (same x.0 x.1 x.2 later)))
      (reads.reads p left most tokens fits));
}

-- ---- no token

pub data Pure {P C : Type 0} (f : P → C) (p : P) : C → Kinds → Type 0 where
  pure : Pure f p (f p) []

pure_complete : {P C : Type 0} (f : P → C) (p : P) (c : C) (tokens after : Kinds) → Pure f p c tokens → Path (Reading C) (Ok (f p, tokens ++ after)) (Ok (c, after))
pure_complete f p c tokens after pure = refl

-- the reader that takes nothing
pub reads_pure : {P C : Type 0} {top slack : ℕ} (F : Option TokenKind → Type 0) (f : P → C) → IsReader top slack (Pure f) F (λ p left most tokens. Ok (f p, tokens))
reads_pure F f = record {
  some = λ p. (f p, [], pure);
  complete = λ p left most a tokens after fits x e. pure_complete f p a tokens after x;
  reads = λ p left most tokens fits. reads_none (f p) tokens pure tt (λ x later same. (f x.0, refl));
}

-- ---- one of two, by the token that comes first

pub data Or {P A : Type 0} (R S : Spelling P A) (p : P) (a : A) (tokens : Kinds) : Type 0 where
  this : R p a tokens → Or R S p a tokens
  other : S p a tokens → Or R S p a tokens

-- the reader of one of two kinds, by a test of the tokens ahead
abbrev pub choosing : {P A : Type 0} → (Kinds → Bool) → Reader P A → Reader P A → Reader P A
choosing test r s p left most tokens = if test tokens then r p left most tokens else s p left most tokens

-- what is spelled in one of two ways is read
choice_complete : {P A : Type 0} (top slack : ℕ) (R S : Spelling P A) (F : Option TokenKind → Type 0) (r s : Reader P A) (test : Kinds → Bool)
    → IsReader top slack R F r → IsReader top slack S F s
    → ((p : P) (a : A) (tokens after : Kinds) → R p a tokens → test (tokens ++ after) ≡ true)
    → ((p : P) (a : A) (tokens after : Kinds) → S p a tokens → F (first_of after) → test (tokens ++ after) ≡ false)
    → (p : P) (left most : ℕ) (a : A) (tokens after : Kinds) → Fits top slack left most tokens → Or R S p a tokens → F (first_of after)
    → choosing test r s p left most (tokens ++ after) ≡ Ok (a, after)
choice_complete top slack R S F r s test first second yes_if no_if p left most a tokens after fits (this x) ends =
    rw (yes_if p a tokens after x) (first.complete p left most a tokens after fits x ends)
choice_complete top slack R S F r s test first second yes_if no_if p left most a tokens after fits (other x) ends =
    rw (no_if p a tokens after x ends) (second.complete p left most a tokens after fits x ends)

-- the test sees the same before tokens that begin alike
abbrev pub IsLocal : (Kinds → Bool) → Type 0
IsLocal test = (one other : Kinds) → first_of one ≡ first_of other → test one ≡ test other

-- what the chosen one of two readers gives
choice_reads : {P A : Type 0} (top left most : ℕ) (R S : Spelling P A) (r s : Reader P A) (test : Kinds → Bool) → IsLocal test → (p : P) (tokens : Kinds) (chosen : Bool) → test tokens ≡ chosen
    → ReadsWithin top R r p left most tokens (r p left most tokens) → ReadsWithin top S s p left most tokens (s p left most tokens)
    → ReadsWithin top (Or R S) (choosing test r s) p left most tokens (if chosen then r p left most tokens else s p left most tokens)
choice_reads {P = P} top left most R S r s test is_local p tokens true is first second =
    reads_where (λ (x : Others P top left most). choosing test r s x.0 x.1 x.2) (λ x. (x, λ later same. rw (is_local later tokens same ∙ is) refl))
    (reads_as (Or R S p) Anything (λ (x : Others P top left most). r x.0 x.1 x.2) (λ a used x. this x) (λ rest e. e) (λ x. (x, λ later. refl)) first)
choice_reads {P = P} top left most R S r s test is_local p tokens false is first second =
    reads_where (λ (x : Others P top left most). choosing test r s x.0 x.1 x.2) (λ x. (x, λ later same. rw (is_local later tokens same ∙ is) refl))
    (reads_as (Or R S p) Anything (λ (x : Others P top left most). s x.0 x.1 x.2) (λ a used x. other x) (λ rest e. e) (λ x. (x, λ later. refl)) second)

-- one of two readers, where the test tells their words apart
pub choose : {P A : Type 0} {top slack : ℕ} {R S : Spelling P A} {F : Option TokenKind → Type 0} {r s : Reader P A} (test : Kinds → Bool) → IsLocal test
    → IsReader top slack R F r → IsReader top slack S F s
    → ((p : P) (a : A) (tokens after : Kinds) → R p a tokens → test (tokens ++ after) ≡ true)
    → ((p : P) (a : A) (tokens after : Kinds) → S p a tokens → F (first_of after) → test (tokens ++ after) ≡ false)
    → IsReader top slack (Or R S) F (choosing test r s)
choose {top = top} {slack = slack} {R = R} {S = S} {F = F} {r = r} {s = s} test is_local first second yes_if no_if = record {
  some = λ p. let x = first.some p in (x.0, x.1, this x.2);
  complete = choice_complete top slack R S F r s test first second yes_if no_if;
  reads = λ p left most tokens fits. choice_reads top left most R S r s test is_local p tokens (test tokens) refl (first.reads p left most tokens fits) (second.reads p left most tokens fits);
}

-- ---- one token

pub data One {P A : Type 0} (token : A → TokenKind) (p : P) : A → Kinds → Type 0 where
  one : {a : A} → One token p a (token a ∷ [])

-- the reader takes a token of these, and refuses any other one
pub record TakesOne {A : Type 0} (token : A → TokenKind) (reader : Kinds → Reading A) : Type 0 where
  pub sample : A
  pub at_end : reader [] ≡ Err []
  pub takes : (a : A) (rest : Kinds) → reader (token a ∷ rest) ≡ Ok (a, rest)
  pub refuses : (other : TokenKind) → ((a : A) × (other ≡ token a)) ⊎ ((rest : Kinds) → reader (other ∷ rest) ≡ Err (other ∷ rest))

-- the one token is read
one_complete : {P A : Type 0} (token : A → TokenKind) (reader : Kinds → Reading A) → TakesOne token reader → (p : P) (a : A) (tokens after : Kinds) → One token p a tokens
    → reader (tokens ++ after) ≡ Ok (a, after)
one_complete token reader takes p a tokens after (one {a = b}) = takes.takes b after

-- what reading one token gives
one_reads : {P A : Type 0} (top : ℕ) (token : A → TokenKind) (reader : Kinds → Reading A) → TakesOne token reader → (p : P) (left most : ℕ) (tokens : Kinds)
    → ReadsWithin top (One token) (λ (q : P) (depth bound : ℕ). reader) p left most tokens (reader tokens)
one_reads {P = P} top token reader takes p left most [] =
    subst (λ result. ReadsWithin top (One token) (λ (q : P) (depth bound : ℕ). reader) p left most [] result) (sym takes.at_end)
    (refuses_end takes.sample (token takes.sample ∷ []) one (λ x. takes.at_end))
one_reads {P = P} top token reader takes p left most (first ∷ tokens) = elim (takes.refuses first) [
  | inl e ↦
      let read = λ (rest : Kinds). ap (λ t. reader (t ∷ rest)) e.1 ∙ takes.takes e.0 rest in
      subst (λ result. ReadsWithin top (One token) (λ (q : P) (depth bound : ℕ). reader) p left most (first ∷ tokens) result) (sym (read tokens))
      (reads_token e.0 first tokens (rw e.1 one) (λ x later. (e.0, read later)))
  | inr refused ↦
      subst (λ result. ReadsWithin top (One token) (λ (q : P) (depth bound : ℕ). reader) p left most (first ∷ tokens) result) (sym (refused tokens))
      (refuses_token takes.sample (token takes.sample ∷ []) first tokens one (λ x later. refused later))
]

-- the reader of one token
pub reads_one : {P A : Type 0} {top slack : ℕ} (F : Option TokenKind → Type 0) (token : A → TokenKind) (reader : Kinds → Reading A) → TakesOne token reader
    → IsReader {P = P} top slack (One token) F (λ p left most. reader)
reads_one {top = top} F token reader takes = record {
  some = λ p. (takes.sample, token takes.sample ∷ [], one);
  complete = λ p left most a tokens after fits x e. one_complete token reader takes p a tokens after x;
  reads = λ p left most tokens fits. one_reads top token reader takes p left most tokens;
}

-- ---- bounds of the depth

fits_below : (top left most : ℕ) (tokens : Kinds) → Fits (suc top) 0 (suc left) most tokens → Fits top 1 left most tokens
fits_below top left most tokens fits = record { low = omega (arith, fits.low); deep = omega (arith, fits.deep); wide = fits.wide }

larger_below : (top left most depth bound : ℕ) → Larger (suc top) (suc left) most (suc depth) bound → Larger top left most depth bound
larger_below top left most depth bound larger = record { low = omega (arith, larger.low); deep = omega (arith, larger.deep); wide = larger.wide }

no_depth : (top most : ℕ) (tokens : Kinds) → Fits top 0 0 most tokens → ⊥
no_depth top most tokens fits = omega (arith, fits.deep)

no_larger : (top left most bound : ℕ) → Larger top (suc left) most 0 bound → ⊥
no_larger top left most bound larger = omega (arith, larger.deep)

-- a reader at a greater depth is one of those a level below
one_below : {P A : Type 0} (top left most : ℕ) (r : Reader P A) (q : P) (depth bound : ℕ) → Larger (suc top) (suc left) most depth bound
    → (x : Others P top left most) × ((later : Kinds) → r q depth bound later ≡ r x.0 (suc x.1) x.2 later)
one_below top left most r q zero bound larger = absurd (no_larger _ _ _ _ larger)
one_below top left most r q (suc depth) bound larger = ((q, depth, bound, larger_below _ _ _ _ _ larger), λ later. refl)

deeper_complete : {P A : Type 0} (top : ℕ) (R : Spelling P A) (F : Option TokenKind → Type 0) (r : Reader P A) → IsReader top 1 R F (λ p left most. r p (suc left) most)
    → (p : P) (left most : ℕ) (a : A) (tokens after : Kinds) → Fits (suc top) 0 left most tokens → R p a tokens → F (first_of after) → r p left most (tokens ++ after) ≡ Ok (a, after)
deeper_complete top R F r reads p zero most a tokens after fits x ends = absurd (no_depth _ _ _ fits)
deeper_complete top R F r reads p (suc left) most a tokens after fits x ends = reads.complete p left most a tokens after (fits_below _ _ _ _ fits) x ends

deeper_reads : {P A : Type 0} (top : ℕ) (R : Spelling P A) (F : Option TokenKind → Type 0) (r : Reader P A) → IsReader top 1 R F (λ p left most. r p (suc left) most)
    → (p : P) (left most : ℕ) (tokens : Kinds) → Fits (suc top) 0 left most tokens → ReadsWithin (suc top) R r p left most tokens (r p left most tokens)
deeper_reads top R F r reads p zero most tokens fits = absurd (no_depth _ _ _ fits)
deeper_reads {P = P} top R F r reads p (suc left) most tokens fits =
    reads_as (R p) Anything (λ (x : Others P (suc top) (suc left) most). r x.0 x.1 x.2) (λ a used x. x) (λ rest e. e) (λ x. one_below top left most r x.0 x.1 x.2 x.3)
    (reads.reads p left most tokens (fits_below _ _ _ _ fits))

-- one level deeper
pub deeper : {P A : Type 0} {top : ℕ} {R : Spelling P A} {F : Option TokenKind → Type 0} (r : Reader P A) → IsReader top 1 R F (λ p left most. r p (suc left) most)
    → IsReader (suc top) 0 R F r
deeper {top = top} {R = R} {F = F} r reads = record {
  some = reads.some;
  complete = deeper_complete top R F r reads;
  reads = deeper_reads top R F r reads;
}

-- no tokens are within no depth
pub at_no_depth : {P A : Type 0} {R : Spelling P A} {F : Option TokenKind → Type 0} {r : Reader P A} → ((p : P) → (a : A) × (tokens : Kinds) × R p a tokens) → IsReader 0 0 R F r
at_no_depth some = record {
  some = some;
  complete = λ p left most a tokens after fits x e. absurd (omega (arith, fits.low, fits.deep));
  reads = λ p left most tokens fits. absurd (omega (arith, fits.low, fits.deep));
}

-- where one bound serves as both
fits_wide : (top slack left most bound : ℕ) (tokens : Kinds) → most ≤ bound → Fits top slack left most tokens → Fits bound 0 most most tokens
fits_wide top slack left most bound tokens within fits = record { low = within; deep = omega (arith, fits.wide); wide = fits.wide }

larger_wide : (top left most depth bound : ℕ) → Larger top left most depth bound → Larger bound most most bound bound
larger_wide top left most depth bound larger = record { low = omega arith; deep = larger.wide; wide = larger.wide }

-- tokens before the same rest are the same
same_front : (tokens front front' rest : Kinds) → tokens ≡ front ++ rest → tokens ≡ front' ++ rest → front' ≡ front
same_front tokens front front' rest cut cut' = append_cancel_right front' front rest (sym cut' ∙ cut)

front_as : {A : Type 0} (reader : Kinds → Reading A) (front front' later : Kinds) (result : Reading A) → front' ≡ front → reader (front' ++ later) ≡ result → reader (front ++ later) ≡ result
front_as reader front front' later result same is = subst (λ tokens. reader (tokens ++ later) ≡ result) same is

-- what reading with one bound gives, it gives with greater ones
wide_reads : {P A : Type 0} (top slack : ℕ) (R : Spelling P A) (F : Option TokenKind → Type 0) (r : Reader P A) → ((top : ℕ) → IsReader top 0 R F r)
    → (p : P) (left most : ℕ) (tokens : Kinds) (result : Reading A) → Fits top slack left most tokens → r p most most tokens ≡ result
    → ReadsWithin top R (λ p left most. r p most most) p left most tokens result
wide_reads top slack R F r reads p left most tokens (Ok (a, rest)) fits is =
    let read = λ (bound : ℕ) (wide : most ≤ bound). reads_ok a rest ((reads bound).reads p most most tokens (fits_wide _ _ _ _ _ _ wide fits)) is in
    let x = read most (omega arith) in
    takes_these a x.0 rest tokens x.1 x.2 tt (λ o later same.
    let y = read o.2 o.3.wide in
    let z = y.4 (o.0, o.2, o.2, larger_wide _ _ _ _ _ o.3) later same in
    (z.0, front_as (r o.0 o.2 o.2) x.0 y.0 later (Ok (z.0, later)) (same_front tokens x.0 y.0 rest x.1 y.1) z.1))
wide_reads top slack R F r reads p left most tokens (Err rest) fits is =
    let stuck = λ (bound : ℕ) (wide : most ≤ bound). reads_err rest ((reads bound).reads p most most tokens (fits_wide _ _ _ _ _ _ wide fits)) is in
    let x = stuck most (omega arith) in
    stops_there x.1 x.0 rest x.2 tokens x.3 x.4 (λ o later same.
    let y = stuck o.2 o.3.wide in
    front_as (r o.0 o.2 o.2) x.0 y.0 later (Err later) (same_front tokens x.0 y.0 rest x.3 y.3)
    (y.5 (o.0, o.2, o.2, larger_wide _ _ _ _ _ o.3) later same))

-- the bound of the tokens bounds the depth too
pub widely : {P A : Type 0} {top slack : ℕ} {R : Spelling P A} {F : Option TokenKind → Type 0} {r : Reader P A} → ((top : ℕ) → IsReader top 0 R F r)
    → IsReader top slack R F (λ p left most. r p most most)
widely {top = top} {slack = slack} {R = R} {F = F} {r = r} reads = record {
  some = (reads 0).some;
  complete = λ p left most a tokens after fits x e. (reads most).complete p most most a tokens after (fits_wide _ _ _ _ _ _ (omega arith) fits) x e;
  reads = λ p left most tokens fits. wide_reads top slack R F r reads p left most tokens (r p most most tokens) fits refl;
}
