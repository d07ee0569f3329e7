-- How a token is written, and the texts in which tokens stand so, with gaps between.
use Rattle.std.specs.Prelude.{◌≡◌, ℕ, List, [], ◌∷◌, ◌++◌, codes, decimal, flat_map, ◌==◌, if◌then◌else◌, ◌⊎◌, slice_get, unwrap_or}
use Rattle.mit_lex.specs.Tables.{keywords, symbols}
use Rattle.mit_lex.specs.Valid.{IsToken}
use Rattle.mit_lex.specs.declared.token.TokenKind.{TokenKind}
use Rattle.mit_lex.specs.declared.token.TokenKind.TheVariants.{Name, Number, Column, Text, Symbol, Keyword}

-- a byte as it is written between quotes
abbrev pub escaped_as : ℕ → List ℕ
escaped_as byte =
    if byte == 34 then codes "\\\"" else if byte == 92 then codes "\\\\"
    else if byte == 10 then codes "\\n" else if byte == 9 then codes "\\t" else byte ∷ []

-- a text between its quotes
abbrev pub between_quotes : List ℕ → List ℕ
between_quotes bytes = codes "\"" ++ flat_map escaped_as bytes ++ codes "\""

-- a token as it is written: a number without zeros before it, and a text with an escape only where it needs one
abbrev pub token_text : TokenKind → List ℕ
token_text (Name word) = word
token_text (Number value) = decimal value
token_text (Column value) = codes "$" ++ decimal value
token_text (Text bytes) = between_quotes bytes
token_text (Symbol place) = unwrap_or (slice_get symbols place) []
token_text (Keyword place) = unwrap_or (slice_get keywords place) []

-- a blank or a line feed
abbrev pub IsGap : ℕ → Type 0
IsGap byte = (byte ≡ 32) ⊎ (byte ≡ 10)

-- the text is these tokens as they are written, each with a gap after it, and any more gaps
pub data IsWrittenAs : List ℕ → List TokenKind → Type 0 where
  nothing_written : IsWrittenAs [] []
  gap_first : {text : List ℕ} {kinds : List TokenKind} → (gap : ℕ) → IsGap gap → IsWrittenAs text kinds → IsWrittenAs (gap ∷ text) kinds
  token_first : {text : List ℕ} {kinds : List TokenKind} → (kind : TokenKind) → (gap : ℕ) → IsToken kind → IsGap gap → IsWrittenAs text kinds
      → IsWrittenAs (token_text kind ++ gap ∷ text) (kind ∷ kinds)
