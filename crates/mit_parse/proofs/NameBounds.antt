-- How many names stand among tokens, and how long they are.
use Rattle.std.proofs.Common.{◌≡◌, ◌≤◌, ◌<◌, ℕ, List, [], ◌∷◌, length, drop, get_or, Bool, true, not, subst, arith, length-append, length-drop}
use Rattle.std.specs.Prelude.{All}
use Rattle.std.specs.Borrow.{Bor}
use Rattle.std.specs.Str.{bytes_eq}
use Rattle.std.proofs.lemmas.List.{get_or-map, length-map}
use Rattle.std.proofs.lemmas.List.Elements.{All-append, All-cons, All-filter, All-get_or, All-head, All-nil, All-tail}
use Rattle.std.proofs.lemmas.List.Sums.{count_by-le-length, length-filter}
use Rattle.mit_lex.specs.Valid.{IsToken, is_word}
use Rattle.mit_lex.specs.declared.limits.TheConstants.{MAX_RUN, MAX_SCRIPT}
use Rattle.mit_lex.specs.declared.token.Token.{Token}
use Rattle.mit_lex.specs.declared.token.TokenKind.{TokenKind}
use Rattle.mit_lex.specs.declared.token.TokenKind.TheVariants.{Name}
use Rattle.mit_script.specs.Grammar.{Kinds, each_once, kinds, name_in, names_in}
use Rattle.mit_parse.specs.Words.{IsShortName, texts_of}

-- a token is at most one name
length-name_in : (token : TokenKind) → length (name_in token) ≤ 1
length-name_in (Name name) = omega arith
length-name_in _ = omega arith

-- no more names than tokens, each once or not
pub length-names_in : (tokens : Kinds) → length (names_in tokens) ≤ length tokens
unfolding names_in
length-names_in [] = omega arith
length-names_in (token ∷ tokens) = omega (arith, length-name_in token, length-names_in tokens, length-append (name_in token) (names_in tokens))

pub length-each_once : (words : List (List ℕ)) → length (each_once words) ≤ length words
unfolding each_once
length-each_once [] = omega arith
length-each_once (word ∷ words) =
    let other : List ℕ → Bool = λ name. not (bytes_eq word name) in
    omega (arith, length-each_once words, length-filter other (each_once words), count_by-le-length other (each_once words))

-- the names that are captured in a run
pub captured-few : (bags : ℕ) (run : Kinds) → length run ≤ MAX_RUN → length (each_once (drop bags (names_in run))) ≤ MAX_RUN
captured-few bags run few =
    omega (arith, length-each_once (drop bags (names_in run)), length-drop bags (names_in run), length-names_in run)

-- a word has a byte
word-some : (word : List ℕ) → is_word word ≡ true → 1 ≤ length word
word-some [] is = absurd cc
word-some (first ∷ rest) is = omega arith

-- the names of tokens are short, each once or not
name_in-short : (token : TokenKind) → IsToken token → All IsShortName (name_in token)
name_in-short (Name name) is = All-cons IsShortName name [] (word-some name is.word, is.short) (All-nil IsShortName)
name_in-short _ is = All-nil IsShortName

names_in-short : (tokens : List Token) → All (λ token. IsToken token.kind) tokens → All IsShortName (names_in (kinds tokens))
unfolding names_in
names_in-short [] valid = All-nil IsShortName
names_in-short (token ∷ tokens) valid =
    All-append IsShortName (name_in token.kind) (names_in (kinds tokens)) (name_in-short token.kind (All-head (λ t. IsToken t.kind) token tokens valid))
    (names_in-short tokens (All-tail (λ t. IsToken t.kind) token tokens valid))

each_once-short : (words : List (List ℕ)) → All IsShortName words → All IsShortName (each_once words)
unfolding each_once
each_once-short [] short = short
each_once-short (word ∷ words) short =
    All-cons IsShortName word _ (All-head IsShortName word words short)
    (All-filter _ IsShortName (each_once words) (each_once-short words (All-tail IsShortName word words short)))

-- the names of a script's variables are few and short
pub variables-bounded : (tokens : List Token) → length tokens ≤ MAX_SCRIPT → All (λ token. IsToken token.kind) tokens
    → (length (each_once (names_in (kinds tokens))) ≤ MAX_SCRIPT) × All IsShortName (each_once (names_in (kinds tokens)))
variables-bounded tokens few valid = (
  omega (arith, length-each_once (names_in (kinds tokens)), length-names_in (kinds tokens), length-map tokens (λ (token : Token). token.kind)),
  each_once-short (names_in (kinds tokens)) (names_in-short tokens valid),
)

-- each of borrowed names is short
pub word-short : (words : List (Bor (List ℕ))) (i : ℕ) (word : Bor (List ℕ)) → i < length words → All IsShortName (texts_of words)
    → IsShortName (get_or words i word).now
word-short words i word lt short =
    let inside : i < length (texts_of words) = omega (arith, length-map words (λ (w : Bor (List ℕ)). w.now)) in
    subst IsShortName (get_or-map (λ (w : Bor (List ℕ)). w.now) words i word [] lt) (All-get_or IsShortName (texts_of words) i [] inside short)
