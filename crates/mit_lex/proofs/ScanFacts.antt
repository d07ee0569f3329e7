-- How a loop reads a text piece by piece.
use Rattle.std.proofs.Common.{◌≡◌, ℕ, zero, suc, ◌+◌, ◌-◌, ◌<◌, ◌≤◌, true, false, List, [], ◌∷◌, ◌++◌, length, get_or, drop, Option, Some, None, Result, Ok, Err, refl, sym, ap, subst, ◌∙◌, arith, add-zero, inl, inr, ltb}
use Rattle.std.specs.Option.{option_or}
use Rattle.std.proofs.lemmas.List.{append_assoc, append-nil, drop-drop, drop_all, drop_more, length-append, length-drop}
use Rattle.std.proofs.lemmas.Bool.{cases_Bool}
use Rattle.std.proofs.lemmas.Bool.Decides.{nat_tests}
use Rattle.std.proofs.lemmas.Str.{IsUtf8-from_is_utf8, is_utf8-from_IsUtf8}
use Rattle.std.specs.Str.{IsUtf8, is_utf8}
use Rattle.std.specs.Str.Lossy.{utf8_valid_len}
use Rattle.mit_lex.proofs.PieceSizes.{Fitting, piece_fits}
use Rattle.mit_lex.specs.declared.limits.TheConstants.{MAX_SCRIPT}
use Rattle.mit_lex.specs.Limits.{first_too_many, is_too_many, open_after, run_after}
use Rattle.mit_lex.specs.Pieces.{piece_at}
use Rattle.mit_lex.specs.Tokens.{Scan, TellsLexFault, lexed, refused_or, scanned, tokens_of, with_piece}
use Rattle.mit_lex.specs.declared.piece.Piece.{Piece}
use Rattle.mit_lex.specs.declared.piece.Piece.TheVariants.{Skipped, Found, Refused}
use Rattle.mit_lex.specs.declared.token.LexStop.{LexStop}
use Rattle.mit_lex.specs.declared.token.Token.{Token}
use Rattle.mit_lex.specs.declared.token.TokenKind.{TokenKind}

-- ---- the definition, piece by piece

pub covered_is : (n place : ℕ) (text : List ℕ) → scanned place n text ≡ scanned (place + n) 0 (drop n text)
unfolding scanned
covered_is zero place text = ap (λ (at : ℕ). scanned at 0 text) (sym (add-zero place))
covered_is (suc n) place [] = refl
covered_is (suc n) place (byte ∷ rest) =
    let at : suc place + n ≡ place + suc n = omega arith in
    covered_is n (suc place) rest ∙ ap (λ (from : ℕ). scanned from 0 (drop n rest)) at

pub front_is : (place byte : ℕ) (rest : List ℕ) → scanned place 0 (byte ∷ rest) ≡ with_piece place (piece_at (byte ∷ rest)) (λ size. scanned (suc place) (size - 1) rest)
unfolding scanned
front_is place byte rest = refl

later_is : (text : List ℕ) (at size : ℕ) → 0 < size → scanned (suc at) (size - 1) (drop (at + 1) text) ≡ scanned (at + size) 0 (drop (at + size) text)
later_is text at size some =
    let place : suc at + (size - 1) ≡ at + size = omega arith in
    let from : (at + 1) + (size - 1) ≡ at + size = omega arith in
    covered_is (size - 1) (suc at) (drop (at + 1) text)
    ∙ (ap (λ (n : ℕ). scanned n 0 (drop (size - 1) (drop (at + 1) text))) place
    ∙ ap (λ (rest : List ℕ). scanned (at + size) 0 rest) (drop-drop (size - 1) (at + 1) text ∙ ap (λ (n : ℕ). drop n text) from))

-- what is read from this place on
abbrev pub from_place : List ℕ → ℕ → Scan
from_place text at = scanned at 0 (drop at text)

piece_here : (text : List ℕ) (at : ℕ) → at < length text → from_place text at ≡ with_piece at (piece_at (drop at text)) (λ size. scanned (suc at) (size - 1) (drop (at + 1) text))
piece_here text at inside = rw (drop_more text at 0 inside) (front_is at (get_or text at 0) (drop (at + 1) text))

fits_here : (text : List ℕ) (at : ℕ) (piece : Piece) → piece ≡ piece_at (drop at text) → Fitting piece (length text - at)
fits_here text at piece is = rw (is, ← length-drop at text) (piece_fits (drop at text))

skip_here : (text : List ℕ) (at size : ℕ) → at < length text → Skipped size ≡ piece_at (drop at text) → from_place text at ≡ from_place text (at + size)
skip_here text at size inside is =
    let fits = fits_here text at (Skipped size) is in
    piece_here text at inside ∙ (ap (λ (piece : Piece). with_piece at piece (λ size. scanned (suc at) (size - 1) (drop (at + 1) text))) (sym is) ∙ later_is text at size fits.0)

refused_here : (text : List ℕ) (at : ℕ) → at < length text → Refused ≡ piece_at (drop at text) → from_place text at ≡ record { tokens = []; stop = Some at }
refused_here text at inside is =
    piece_here text at inside ∙ ap (λ (piece : Piece). with_piece at piece (λ size. scanned (suc at) (size - 1) (drop (at + 1) text))) (sym is)

-- tokens before what is read later
abbrev pub joined : List Token → Scan → Scan
joined tokens later = record { tokens = tokens ++ later.tokens; stop = later.stop }

found_here : (text : List ℕ) (at size : ℕ) (kind : TokenKind) → at < length text → Found kind size ≡ piece_at (drop at text)
    → from_place text at ≡ joined (record { kind = kind; start = at; end = at + size } ∷ []) (from_place text (at + size))
found_here text at size kind inside is =
    let fits = fits_here text at (Found kind size) is in
    piece_here text at inside ∙ (ap (λ (piece : Piece). with_piece at piece (λ size. scanned (suc at) (size - 1) (drop (at + 1) text))) (sym is)
    ∙ ap (λ (later : Scan). joined (record { kind = kind; start = at; end = at + size } ∷ []) later) (later_is text at size fits.0))

joined_joined : (first second : List Token) (later : Scan) → joined first (joined second later) ≡ joined (first ++ second) later
joined_joined first second later = ap (λ (tokens : List Token). record { tokens = tokens; stop = later.stop }) (sym (append_assoc first second later.tokens))

-- ---- the state of the loop

-- these tokens and what is read from this place on give the whole, and the tokens keep the limits
pub record Reading (text : List ℕ) (tokens : List Token) (run braces at : ℕ) : Type 0 where
  pub within : at ≤ length text
  pub so_far : scanned 0 0 text ≡ joined tokens (scanned at 0 (drop at text))
  pub limits : (more : List Token) → first_too_many 0 0 (tokens ++ more) ≡ first_too_many run braces more

pub reading_start : (text : List ℕ) → Reading text [] 0 0 0
reading_start text = record { within = omega arith; so_far = refl; limits = λ more. refl }

pub reading_skip : (text : List ℕ) (tokens : List Token) (run braces at size : ℕ) → Reading text tokens run braces at → at < length text
    → Skipped size ≡ piece_at (drop at text) → Reading text tokens run braces (at + size)
reading_skip text tokens run braces at size r inside is =
    let fits = fits_here text at (Skipped size) is in
    record { within = omega arith; so_far = r.so_far ∙ ap (joined tokens) (skip_here text at size inside is); limits = r.limits }

one_more : (tokens more : List Token) (token : Token) (run braces next_run next_braces : ℕ)
    → ((more : List Token) → first_too_many 0 0 (tokens ++ more) ≡ first_too_many run braces more)
    → is_too_many run braces token.kind ≡ false → next_run ≡ run_after run token.kind → next_braces ≡ open_after braces token.kind
    → first_too_many 0 0 ((tokens ++ token ∷ []) ++ more) ≡ first_too_many next_run next_braces more
one_more tokens more token run braces next_run next_braces limits allowed is_run is_braces =
    ap (first_too_many 0 0) (append_assoc tokens (token ∷ []) more) ∙ (limits (token ∷ more) ∙ rw (allowed, is_run, is_braces) refl)

pub reading_found : (text : List ℕ) (tokens : List Token) (run braces next_run next_braces at size : ℕ) (kind : TokenKind)
    → Reading text tokens run braces at → at < length text → Found kind size ≡ piece_at (drop at text)
    → is_too_many run braces kind ≡ false → next_run ≡ run_after run kind → next_braces ≡ open_after braces kind
    → Reading text (tokens ++ record { kind = kind; start = at; end = at + size } ∷ []) next_run next_braces (at + size)
reading_found text tokens run braces next_run next_braces at size kind r inside is allowed is_run is_braces =
    let fits = fits_here text at (Found kind size) is in
    let token : Token = record { kind = kind; start = at; end = at + size } in
    record {
      within = omega arith;
      so_far = r.so_far ∙ (ap (joined tokens) (found_here text at size kind inside is) ∙ joined_joined tokens (token ∷ []) (from_place text (at + size)));
      limits = λ more. one_more tokens more token run braces next_run next_braces r.limits allowed is_run is_braces;
    }

-- ---- how the reading ends

pub reading_refused : (text : List ℕ) (tokens : List Token) (run braces at : ℕ) → Reading text tokens run braces at → at < length text
    → Refused ≡ piece_at (drop at text) → lexed (scanned 0 0 text) ≡ Err at
reading_refused text tokens run braces at r inside is =
    let whole : scanned 0 0 text ≡ joined tokens (record { tokens = []; stop = Some at }) = r.so_far ∙ ap (joined tokens) (refused_here text at inside is) in
    ap lexed whole ∙ ap (λ (first : Option ℕ). refused_or (option_or first (Some at)) (tokens ++ [])) (r.limits [])

pub reading_too_many : (text : List ℕ) (tokens : List Token) (run braces at size : ℕ) (kind : TokenKind)
    → Reading text tokens run braces at → at < length text → Found kind size ≡ piece_at (drop at text)
    → is_too_many run braces kind ≡ true → lexed (scanned 0 0 text) ≡ Err at
reading_too_many text tokens run braces at size kind r inside is many =
    let token : Token = record { kind = kind; start = at; end = at + size } in
    let later = from_place text (at + size) in
    let whole : scanned 0 0 text ≡ joined tokens (joined (token ∷ []) later) = r.so_far ∙ ap (joined tokens) (found_here text at size kind inside is) in
    let first : first_too_many 0 0 (tokens ++ (token ∷ later.tokens)) ≡ Some at = r.limits (token ∷ later.tokens) ∙ rw many refl in
    ap lexed whole ∙ ap (λ (place : Option ℕ). refused_or (option_or place later.stop) (tokens ++ (token ∷ later.tokens))) first

pub reading_end : (text : List ℕ) (tokens : List Token) (run braces at : ℕ) → Reading text tokens run braces at → length text ≤ at
    → lexed (scanned 0 0 text) ≡ Ok tokens
unfolding scanned
reading_end text tokens run braces at r done =
    let whole : scanned 0 0 text ≡ joined tokens (record { tokens = []; stop = None }) = r.so_far ∙ ap (λ (rest : List ℕ). joined tokens (scanned at 0 rest)) (drop_all at text done) in
    ap lexed whole ∙ (ap (λ (first : Option ℕ). refused_or (option_or first None) (tokens ++ [])) (r.limits []) ∙ ap (λ (list : List Token). Ok list) (append-nil tokens))

-- a piece that is no refusal has its bytes within the text
pub found_fits : (text : List ℕ) (at size : ℕ) (kind : TokenKind) → at < length text → Found kind size ≡ piece_at (drop at text) → (0 < size) × (at + size ≤ length text)
found_fits text at size kind inside is = let fits = fits_here text at (Found kind size) is in (fits.0, omega arith)

pub skipped_fits : (text : List ℕ) (at size : ℕ) → at < length text → Skipped size ≡ piece_at (drop at text) → (0 < size) × (at + size ≤ length text)
skipped_fits text at size inside is = let fits = fits_here text at (Skipped size) is in (fits.0, omega arith)

-- ---- the text as a whole

pub too_long : (text : List ℕ) → MAX_SCRIPT < length text → tokens_of text ≡ Err MAX_SCRIPT
unfolding tokens_of
too_long text long = let test : ltb MAX_SCRIPT (length text) ≡ true = grind (arith, nat_tests) in rw test refl

pub no_text : (text : List ℕ) → length text ≤ MAX_SCRIPT → (IsUtf8 text → ⊥) → tokens_of text ≡ Err (utf8_valid_len text)
unfolding tokens_of
no_text text short bad =
    let test : ltb MAX_SCRIPT (length text) ≡ false = grind (arith, nat_tests) in
    elim (cases_Bool (is_utf8 text)) [ inl good ↦ absurd (bad (IsUtf8-from_is_utf8 text good)) | inr none ↦ rw (test, none) refl ]

pub whole_is : (text : List ℕ) → length text ≤ MAX_SCRIPT → IsUtf8 text → tokens_of text ≡ lexed (scanned 0 0 text)
unfolding tokens_of
whole_is text short good =
    let test : ltb MAX_SCRIPT (length text) ≡ false = grind (arith, nat_tests) in
    rw (test, is_utf8-from_IsUtf8 text good) refl

pub tells : (found other : Result (List Token) ℕ) (stop : LexStop) → found ≡ other → TellsLexFault found stop → TellsLexFault other stop
tells found other stop same told = subst (λ (from : Result (List Token) ℕ). TellsLexFault from stop) same told

-- one token more, and at least one byte
pub count_more : (tokens : List Token) (token : Token) (at size : ℕ) → length tokens ≤ at → 0 < size → length (tokens ++ token ∷ []) ≤ at + size
count_more tokens token at size few some = omega (arith, length-append tokens (token ∷ []), few, some)
