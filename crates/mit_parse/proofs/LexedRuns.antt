-- The runs of a text's tokens are short.
use Rattle.std.proofs.Common.{◌≡◌, ℕ, ◌+◌, ◌≤◌, List, [], ◌∷◌, length, Bool, true, false, not, ◌&&◌, ◌||◌, if◌then◌else◌, Option, Some, None, Ok, Err, refl, subst, ap, arith, ⊎_elim}
use Rattle.std.specs.Prelude.{nat_le, nat_lt}
use Rattle.std.specs.Option.{option_or}
use Rattle.std.specs.Str.{is_utf8}
use Rattle.std.specs.Str.Lossy.{utf8_valid_len}
use Rattle.std.proofs.lemmas.Bool.{cases_Bool}
use Rattle.std.proofs.lemmas.Bool.Decides.{nat_tests}
use Rattle.mit_lex.specs.Limits.{ends_run, first_too_many, is_too_many, open_after, opens}
use Rattle.mit_lex.specs.declared.limits.TheConstants.{MAX_OPEN, MAX_RUN, MAX_SCRIPT}
use Rattle.mit_lex.specs.Tokens.{Scan, lexed, refused_or, scanned, tokens_of}
use Rattle.mit_lex.specs.declared.token.Token.{Token}
use Rattle.mit_lex.specs.declared.token.TokenKind.{TokenKind}
use Rattle.mit_script.specs.Grammar.{Kinds, kinds}
use Rattle.mit_script.specs.Reading.{run_of}
use Rattle.mit_parse.specs.Runs.{HasShortRuns}
use Rattle.mit_parse.proofs.Numbering.{run-in}

-- a token that ends a run stands in none
run-ended : (token : TokenKind) (rest : Kinds) → ends_run token ≡ true → length (run_of (token ∷ rest)) ≡ 0
run-ended token rest ends = rw ends refl

-- where nothing is refused, neither this token is nor a later one
not_here : (many : Bool) (place : ℕ) (later : Option ℕ) → (if many then Some place else later) ≡ None → (many ≡ false) × (later ≡ None)
not_here true place later none = absurd cc
not_here false place later none = (refl, none)

-- where a token that ends no run is not one too many, the run is not full
not_full : (ends full other : Bool) → ends ≡ false → ((not ends && full) || other) ≡ false → full ≡ false
not_full true full other inside few = absurd cc
not_full false true other inside few = absurd cc
not_full false false other inside few = refl

-- where no token is one too many, the runs are short, and so is the first one with the tokens before it
first_short : (run braces : ℕ) (tokens : List Token) → run ≤ MAX_RUN → first_too_many run braces tokens ≡ None
    → (run + length (run_of (kinds tokens)) ≤ MAX_RUN) × HasShortRuns (kinds tokens)
unfolding HasShortRuns
first_short run braces [] few none = (omega arith, tt)
first_short run braces (token ∷ tokens) few none =
    let parts = not_here (is_too_many run braces token.kind) token.start _ none in
    let next : Bool → Type 0 = λ ends. first_too_many (if ends then 0 else run + 1) (open_after braces token.kind) tokens ≡ None in
    ⊎_elim
    (λ (ends : ends_run token.kind ≡ true).
    let later = first_short 0 (open_after braces token.kind) tokens (omega arith) (subst next ends parts.1) in
    (omega (arith, run-ended token.kind (kinds tokens) ends), (omega (arith, run-ended token.kind (kinds tokens) ends), later.1)))
    (λ (inside : ends_run token.kind ≡ false).
    let full : nat_le MAX_RUN run ≡ false = not_full (ends_run token.kind) (nat_le MAX_RUN run) (opens token.kind && nat_le MAX_OPEN braces) inside parts.0 in
    let limit : run + 1 ≤ MAX_RUN = grind (arith, nat_tests, full) in
    let later = first_short (run + 1) (open_after braces token.kind) tokens limit (subst next inside parts.1) in
    let size = ap (λ (l : Kinds). length l) (run-in token.kind (kinds tokens) inside) in
    (omega (arith, size, later.0), (omega (arith, size, later.0), later.1)))
    (cases_Bool (ends_run token.kind))

-- tokens that are not refused are those of the text, and none is one too many
none_refused : (first stop : Option ℕ) (found tokens : List Token) → refused_or (option_or first stop) found ≡ Ok tokens → (first ≡ None) × (found ≡ tokens)
none_refused None None found tokens is = (refl, cc)
none_refused None (Some place) found tokens is = absurd cc
none_refused (Some place) stop found tokens is = absurd cc

-- where a text is not refused, no token is one too many
none_many : (large utf8 : Bool) (scan : Scan) (one other : ℕ) (tokens : List Token)
    → (if large then Err one else (if utf8 then lexed scan else Err other)) ≡ Ok tokens → first_too_many 0 0 tokens ≡ None
none_many true utf8 scan one other tokens is = absurd cc
none_many false false scan one other tokens is = absurd cc
none_many false true scan one other tokens is =
    let parts = none_refused (first_too_many 0 0 scan.tokens) scan.stop scan.tokens tokens is in
    subst (λ (l : List Token). first_too_many 0 0 l ≡ None) parts.1 parts.0

-- the runs of a text's tokens are short
pub tokens_short : (text : List ℕ) (tokens : List Token) → tokens_of text ≡ Ok tokens → HasShortRuns (kinds tokens)
unfolding tokens_of
tokens_short text tokens read =
    (first_short 0 0 tokens (omega arith)
    (none_many (nat_lt MAX_SCRIPT (length text)) (is_utf8 text) (scanned 0 0 text) MAX_SCRIPT (utf8_valid_len text) tokens read)).1
