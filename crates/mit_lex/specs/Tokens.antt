-- The tokens of a text, or the place where it is refused.
use Rattle.std.specs.Prelude.{◌≡◌, ℕ, suc, zero, ◌+◌, ◌-◌, List, [], ◌∷◌, length, nat_lt, if◌then◌else◌, Option, Some, None, Result, Ok, Err, ⊤}
use Rattle.std.specs.Option.{option_or}
use Rattle.std.specs.Str.{is_utf8}
use Rattle.std.specs.Str.Lossy.{utf8_valid_len}
use Rattle.mit_lex.specs.declared.limits.TheConstants.{MAX_SCRIPT}
use Rattle.mit_lex.specs.Limits.{first_too_many}
use Rattle.mit_lex.specs.Pieces.{piece_at}
use Rattle.mit_lex.specs.declared.piece.Piece.{Piece}
use Rattle.mit_lex.specs.declared.piece.Piece.TheVariants.{Skipped, Found, Refused}
use Rattle.mit_lex.specs.declared.token.LexStop.{LexStop}
use Rattle.mit_lex.specs.declared.token.LexStop.TheVariants.{Fault, NoMemory}
use Rattle.mit_lex.specs.declared.token.Token.{Token}

-- the tokens up to the end of a text, or up to what is no token and where that stands
pub record Scan : Type 0 where
  pub tokens : List Token
  pub stop : Option ℕ

-- a piece at this place, and then what is read after its bytes
abbrev pub with_piece : ℕ → Piece → (ℕ → Scan) → Scan
with_piece place (Skipped size) later = later size
with_piece place (Found kind size) later = record {
  tokens = record { kind = kind; start = place; end = place + size } ∷ (later size).tokens;
  stop = (later size).stop;
}
with_piece place Refused later = record { tokens = []; stop = Some place }

-- what is read from this place on, where the first so many bytes belong to the piece before
unfoldable pub scanned : ℕ → ℕ → List ℕ → Scan
scanned place covered [] = record { tokens = []; stop = None }
scanned place (suc covered) (byte ∷ rest) = scanned (suc place) covered rest
scanned place zero (byte ∷ rest) = with_piece place (piece_at (byte ∷ rest)) (λ size. scanned (suc place) (size - 1) rest)

-- the place of a refusal, or else all the tokens
abbrev pub refused_or : Option ℕ → List Token → Result (List Token) ℕ
refused_or None tokens = Ok tokens
refused_or (Some place) tokens = Err place

-- all tokens, or where the first one starts that is refused
abbrev pub lexed : Scan → Result (List Token) ℕ
lexed scan = refused_or (option_or (first_too_many 0 0 scan.tokens) scan.stop) scan.tokens

-- the tokens of a text, or the place where it is refused: for its size, for its bytes, or at a token
unfoldable pub tokens_of : List ℕ → Result (List Token) ℕ
tokens_of text =
    if nat_lt MAX_SCRIPT (length text) then Err MAX_SCRIPT
    else (if is_utf8 text then lexed (scanned 0 0 text)
    else Err (utf8_valid_len text))

-- what a refusal tells of these tokens; out of memory tells nothing
abbrev pub TellsLexFault : Result (List Token) ℕ → LexStop → Type 0
TellsLexFault found (Fault place) = found ≡ Err place
TellsLexFault found NoMemory = ⊤
