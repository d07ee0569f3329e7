-- The names among tokens.
use Rattle.std.proofs.Common.{◌≡◌, ◌<◌, ◌+◌, ℕ, zero, suc, List, [], ◌∷◌, ◌++◌, drop, length, true, ltb, Some, slice_get, refl, ap, ◌∙◌, arith, inl, inr}
use Rattle.std.specs.List.{AllByRecursion as Each, position_or_len}
use Rattle.std.specs.Str.{bytes_eq}
use Rattle.std.proofs.lemmas.Bool.{cases_Bool}
use Rattle.std.proofs.lemmas.Bool.Decides.{nat_tests}
use Rattle.std.proofs.lemmas.List.{append-nil}
use Rattle.mit_expr.specs.declared.expr.Call.{Call}
use Rattle.mit_lex.specs.declared.token.TokenKind.{TokenKind}
use Rattle.mit_lex.specs.declared.token.TokenKind.TheVariants.{Name, Number, Symbol}
use Rattle.mit_lex.specs.declared.symbol.TheConstants as symbol
use Rattle.mit_script.specs.Grammar.{Kinds, call_token, each_once, name_in, names_in, number_in}
use Rattle.mit_grammar.specs.NamesOnce.{bytes_eq-same, bytes_eq-true, is_among, is_among-each_once, names_in-append, names_in-call}

pub names_in-cons : (token : TokenKind) (tokens : Kinds) → names_in (token ∷ tokens) ≡ name_in token ++ names_in tokens
unfolding names_in
names_in-cons token tokens = refl

pub names_in-name : (name : List ℕ) → names_in (Name name ∷ []) ≡ name ∷ []
unfolding names_in
names_in-name name = refl

pub names_in-signed : (size : ℕ) → names_in (Number size ∷ []) ≡ names_in (Symbol symbol.MINUS ∷ Number size ∷ [])
unfolding names_in
names_in-signed size = refl

-- a symbol after tokens adds no name
pub names_in-closed : (tokens : Kinds) (place : ℕ) → names_in (tokens ++ Symbol place ∷ []) ≡ names_in tokens
unfolding names_in
names_in-closed tokens place = names_in-append tokens (Symbol place ∷ []) ∙ append-nil (names_in tokens)

pub names_in-enclosed : (tokens : Kinds) → names_in (Symbol symbol.LEFT_PAREN ∷ tokens ++ Symbol symbol.RIGHT_PAREN ∷ []) ≡ names_in tokens
names_in-enclosed tokens = names_in-cons (Symbol symbol.LEFT_PAREN) (tokens ++ Symbol symbol.RIGHT_PAREN ∷ []) ∙ names_in-closed tokens symbol.RIGHT_PAREN

pub names_in-called : (function : Call) (tokens : Kinds)
    → names_in (call_token function ∷ Symbol symbol.LEFT_PAREN ∷ tokens ++ Symbol symbol.RIGHT_PAREN ∷ []) ≡ names_in tokens
names_in-called function tokens = names_in-call function (Symbol symbol.LEFT_PAREN ∷ tokens ++ Symbol symbol.RIGHT_PAREN ∷ []) ∙ names_in-enclosed tokens

-- ---- a name among these is found again by its number

-- where it stands first
place_found : (names : List (List ℕ)) (name : List ℕ) → is_among names name ≡ true
    → (position_or_len (λ other. bytes_eq other name) names < length names) × (slice_get names (position_or_len (λ other. bytes_eq other name) names) ≡ Some name)
place_found [] name has = cc
place_found (first ∷ names) name has =
    elim (cases_Bool (bytes_eq first name)) [
      | inl here ↦ rw here (omega arith, ap Some (bytes_eq-true first name here))
      | inr not_here ↦
          let later = place_found names name (rw not_here at has) in
          let one : 1 + position_or_len (λ other. bytes_eq other name) names ≡ suc (position_or_len (λ other. bytes_eq other name) names) = omega arith in
          rw (not_here, one) (omega arith, later.1)
    ]

pub number_found : (names : List (List ℕ)) (name : List ℕ) → is_among names name ≡ true → slice_get names (number_in names name) ≡ Some name
number_found names name has =
    let found = place_found names name has in
    let inside : ltb (position_or_len (λ other. bytes_eq other name) names) (length names) ≡ true = let h = found.0 in grind (arith, nat_tests) in
    rw inside found.1

-- ---- what holds of each

pub each_weaker : {X : Type 0} (P Q : X → Type 0) → ((x : X) → P x → Q x) → (xs : List X) → Each P xs → Each Q xs
each_weaker P Q more [] each = tt
each_weaker P Q more (x ∷ xs) each = (more x each.0, each_weaker P Q more xs each.1)

pub each_both : {X : Type 0} (P Q R : X → Type 0) → ((x : X) → P x → Q x → R x) → (xs : List X) → Each P xs → Each Q xs → Each R xs
each_both P Q R more [] each also = tt
each_both P Q R more (x ∷ xs) each also = (more x each.0 also.0, each_both P Q R more xs each.1 also.1)

pub each_front : {X : Type 0} (P : X → Type 0) (xs ys : List X) → Each P (xs ++ ys) → Each P xs
each_front P [] ys each = tt
each_front P (x ∷ xs) ys each = (each.0, each_front P xs ys each.1)

pub each_back : {X : Type 0} (P : X → Type 0) (xs ys : List X) → Each P (xs ++ ys) → Each P ys
each_back P [] ys each = each
each_back P (x ∷ xs) ys each = each_back P xs ys each.1

pub each_append : {X : Type 0} (P : X → Type 0) (xs ys : List X) → Each P xs → Each P ys → Each P (xs ++ ys)
each_append P [] ys each later = later
each_append P (x ∷ xs) ys each later = (each.0, each_append P xs ys each.1 later)

pub each_drop : {X : Type 0} (P : X → Type 0) (n : ℕ) (xs : List X) → Each P xs → Each P (drop n xs)
each_drop P zero xs each = each
each_drop P (suc n) [] each = tt
each_drop P (suc n) (x ∷ xs) each = each_drop P n xs each.1

has_later : (first : List ℕ) (names : List (List ℕ)) (name : List ℕ) → is_among names name ≡ true → is_among (first ∷ names) name ≡ true
has_later first names name has = elim (cases_Bool (bytes_eq first name)) [ inl here ↦ rw here refl | inr not_here ↦ rw not_here has ]

all_had : (words : List (List ℕ)) → Each (λ name. is_among words name ≡ true) words
all_had [] = tt
all_had (first ∷ words) =
    (rw (bytes_eq-same first) refl, each_weaker (λ name. is_among words name ≡ true) (λ name. is_among (first ∷ words) name ≡ true) (has_later first words) words (all_had words))

-- the name is found again by its number among these
abbrev pub IsFound : List (List ℕ) → List ℕ → Type 0
IsFound names name = slice_get names (number_in names name) ≡ Some name

pub once_found : (words : List (List ℕ)) → Each (IsFound (each_once words)) words
once_found words =
    each_weaker (λ name. is_among words name ≡ true) (IsFound (each_once words))
    (λ name has. number_found (each_once words) name (is_among-each_once words name ∙ has)) words (all_had words)
