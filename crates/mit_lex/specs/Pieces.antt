-- What stands at the front of a text: the longest token that begins there, or what is skipped.
use Rattle.std.specs.Prelude.{ℕ, ◌+◌, ◌^◌, List, [], ◌∷◌, length, take, Bool, not, nat_lt, nat_le, ◌==◌, ◌&&◌, ◌||◌, if◌then◌else◌, Option, Some, None, option_map, option_and_then, unwrap_or}
use Rattle.std.specs.Option.{option_or}
use Rattle.std.specs.List.{prefix_len, take_while}
use Rattle.std.specs.Char.{is_ascii_alphanumeric, is_ascii_digit}
use Rattle.std.specs.Str.Parse.{digits_value}
use Rattle.mit_rows.specs.declared.row.TheConstants.{MAX_COLUMNS}
use Rattle.mit_rows.specs.declared.text.TheConstants.{MAX_TEXT}
use Rattle.mit_lex.specs.declared.limits.TheConstants.{MAX_WORD}
use Rattle.mit_lex.specs.Tables.{keywords, place_of, symbols}
use Rattle.mit_lex.specs.declared.piece.Piece.{Piece}
use Rattle.mit_lex.specs.declared.piece.Piece.TheVariants.{Skipped, Found, Refused}
use Rattle.mit_lex.specs.declared.token.TokenKind.{TokenKind}
use Rattle.mit_lex.specs.declared.token.TokenKind.TheVariants.{Name, Number, Column, Text, Symbol, Keyword}

-- white space is space, tab, carriage return and line feed
abbrev pub is_blank : ℕ → Bool
is_blank byte = (byte == 32) || (byte == 9) || (byte == 13) || (byte == 10)

-- a letter, a digit or `_`
abbrev pub is_word_byte : ℕ → Bool
is_word_byte byte = is_ascii_alphanumeric byte || (byte == 95)

-- the bytes of a comment after its `#`, up to a line feed or the end of the text
abbrev pub comment_len : List ℕ → ℕ
comment_len text = prefix_len (λ byte. not (byte == 10)) text

-- a word that has a place among the keywords is one of them, any other is a name
abbrev pub word_kind : List ℕ → Option ℕ → TokenKind
word_kind word (Some place) = Keyword place
word_kind word None = Name word

-- a word: the longest run of letters, digits and `_`, of at most `MAX_WORD` bytes
unfoldable pub word_piece : List ℕ → Piece
word_piece text =
    let word = take_while is_word_byte text in
    if nat_le (length word) MAX_WORD then Found (word_kind word (place_of word keywords)) (length word) else Refused

-- a number: the longest run of digits, of a value of at most 2 to the 63rd
unfoldable pub number_piece : List ℕ → Piece
number_piece text =
    let digits = take_while is_ascii_digit text in
    if nat_le (digits_value 10 digits) (2 ^ 63) then Found (Number (digits_value 10 digits)) (length digits) else Refused

-- a column, from the byte after its `$` on: one or two digits of a value below the most columns, and two where there are two
unfoldable pub column_piece : List ℕ → Piece
column_piece text =
    let digits = take 2 (take_while is_ascii_digit text) in
    if nat_lt 0 (length digits) && nat_lt (digits_value 10 digits) MAX_COLUMNS then Found (Column (digits_value 10 digits)) (1 + length digits) else Refused

-- the byte that is written as `\` and this one: `\"`, `\\`, `\n` and `\t`
abbrev pub escaped : ℕ → Option ℕ
escaped byte =
    if (byte == 34) || (byte == 92) then Some byte
    else (if byte == 110 then Some 10 else (if byte == 116 then Some 9 else None))

-- one byte, which is written in so many, in front of what was read later
abbrev pub with_byte : ℕ → ℕ → Option (List ℕ × ℕ) → Option (List ℕ × ℕ)
with_byte byte size later = option_map (λ read. (byte ∷ read.0, size + read.1)) later

-- a text, from the byte after its first `"` on: its bytes after the escapes, and in how many bytes they and the last `"` are written.
-- There is none where it is not ended, has another escape, or has a line feed or a carriage return in it.
unfoldable pub quoted : List ℕ → Option (List ℕ × ℕ)
quoted [] = None
quoted (byte ∷ []) = if byte == 34 then Some ([], 1) else None
quoted (byte ∷ next ∷ rest) =
    if byte == 34 then Some ([], 1)
    else (if byte == 92 then option_and_then (λ meant. with_byte meant 2 (quoted rest)) (escaped next)
    else (if (byte == 10) || (byte == 13) then None
    else with_byte byte 1 (quoted (next ∷ rest))))

-- it is a token where it has at most `MAX_TEXT` bytes
abbrev pub text_piece : Option (List ℕ × ℕ) → Piece
text_piece None = Refused
text_piece (Some read) = if nat_le (length read.0) MAX_TEXT then Found (Text read.0) (1 + read.1) else Refused

-- these bytes, where they are a symbol
abbrev pub symbol_of : List ℕ → Option Piece
symbol_of bytes = option_map (λ place. Found (Symbol place) (length bytes)) (place_of bytes symbols)

-- a symbol: of two bytes where there is one, else of one
unfoldable pub symbol_piece : List ℕ → Piece
symbol_piece text = unwrap_or (option_or (symbol_of (take 2 text)) (symbol_of (take 1 text))) Refused

-- what stands at the front of a text: `#` begins a comment, `$` a column and `"` a text
unfoldable pub piece_at : List ℕ → Piece
piece_at [] = Refused
piece_at (byte ∷ rest) =
    if is_blank byte then Skipped 1
    else (if byte == 35 then Skipped (1 + comment_len rest)
    else (if byte == 36 then column_piece rest
    else (if byte == 34 then text_piece (quoted rest)
    else (if is_ascii_digit byte then number_piece (byte ∷ rest)
    else (if is_word_byte byte then word_piece (byte ∷ rest)
    else symbol_piece (byte ∷ rest))))))
