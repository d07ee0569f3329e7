-- Which tokens a text can have.
use Rattle.std.specs.Prelude.{◌≡◌, ◌≤◌, ◌<◌, ◌^◌, ℕ, List, [], ◌∷◌, length, Bool, true, false, not, ◌==◌, ◌&&◌, None}
use Rattle.std.specs.Char.{is_ascii_digit}
use Rattle.std.specs.List.{list_all}
use Rattle.std.specs.Str.{is_utf8}
use Rattle.mit_rows.specs.declared.row.TheConstants.{MAX_COLUMNS}
use Rattle.mit_rows.specs.declared.text.TheConstants.{MAX_TEXT}
use Rattle.mit_lex.specs.declared.limits.TheConstants.{MAX_WORD}
use Rattle.mit_lex.specs.Pieces.{is_word_byte}
use Rattle.mit_lex.specs.Tables.{keywords, place_of}
use Rattle.mit_lex.specs.declared.token.TokenKind.{TokenKind}
use Rattle.mit_lex.specs.declared.token.TokenKind.TheVariants.{Name, Number, Column, Text, Symbol, Keyword}

-- a letter or `_`, and then letters, digits and `_`
abbrev pub is_word : List ℕ → Bool
is_word [] = false
is_word (first ∷ rest) = not (is_ascii_digit first) && list_all is_word_byte (first ∷ rest)

-- a name is a word of at most `MAX_WORD` bytes that is no keyword
pub record IsName (name : List ℕ) : Type 0 where
  pub word : is_word name ≡ true
  pub short : length name ≤ MAX_WORD
  pub free : place_of name keywords ≡ None

-- a text has at most `MAX_TEXT` bytes, which are UTF-8, and no carriage return among them
pub record IsText (bytes : List ℕ) : Type 0 where
  pub short : length bytes ≤ MAX_TEXT
  pub utf8 : is_utf8 bytes ≡ true
  pub lines : list_all (λ byte. not (byte == 13)) bytes ≡ true

-- the token can be one of a text
abbrev pub IsToken : TokenKind → Type 0
IsToken (Name name) = IsName name
IsToken (Number value) = value ≤ 2 ^ 63
IsToken (Column value) = value < MAX_COLUMNS
IsToken (Text bytes) = IsText bytes
IsToken (Symbol place) = place < 21
IsToken (Keyword place) = place < 34
