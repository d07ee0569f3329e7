-- A piece has at least one byte, and no more than the text.
use Rattle.std.proofs.Common.{◌≡◌, ℕ, ◌+◌, ◌<◌, ◌≤◌, ◌^◌, Bool, true, false, not, cond, List, [], ◌∷◌, ◌&&◌, ◌||◌, ◌==◌, length, take, suc, eqb, leb, ltb, Option, Some, None, refl, arith}
use Rattle.std.specs.Option.{option_and_then, option_map, option_or}
use Rattle.std.specs.Prelude.{unwrap_or}
use Rattle.std.specs.Bool.{⊤}
use Rattle.std.specs.List.{prefix_len, take_while}
use Rattle.std.specs.Char.{is_ascii_digit}
use Rattle.std.specs.Str.Parse.{digits_value}
use Rattle.std.proofs.lemmas.List.{length-take}
use Rattle.std.proofs.lemmas.List.Sums.{prefix_len-le-length}
use Rattle.std.proofs.lemmas.List.Folds.{length-prefix_len}
use Rattle.mit_rows.specs.declared.row.TheConstants.{MAX_COLUMNS}
use Rattle.mit_rows.specs.declared.text.TheConstants.{MAX_TEXT}
use Rattle.mit_lex.specs.declared.limits.TheConstants.{MAX_WORD}
use Rattle.mit_lex.specs.Tables.{keywords, place_of, symbols}
use Rattle.mit_lex.specs.Pieces.{column_piece, comment_len, escaped, is_blank, is_word_byte, number_piece, piece_at, quoted, symbol_piece, symbol_of, text_piece, with_byte, word_piece, word_kind}
use Rattle.mit_lex.specs.declared.piece.Piece.{Piece}
use Rattle.mit_lex.specs.declared.piece.Piece.TheVariants.{Skipped, Found, Refused}
use Rattle.mit_lex.specs.declared.token.TokenKind.TheVariants.{Column, Number, Symbol, Text}

abbrev pub Fitting : Piece → ℕ → Type 0
Fitting (Skipped size) most = (0 < size) × (size ≤ most)
Fitting (Found kind size) most = (0 < size) × (size ≤ most)
Fitting Refused most = ⊤

fits_if : (b : Bool) (p q : Piece) (most : ℕ) → (b ≡ true → Fitting p most) → (b ≡ false → Fitting q most) → Fitting (cond b p q) most
fits_if true p q most yes_fits no_fits = yes_fits refl
fits_if false p q most yes_fits no_fits = no_fits refl

-- the longest run of a text whose first byte passes
run_some : (p : ℕ → Bool) (first : ℕ) (rest : List ℕ) → p first ≡ true → 0 < length (take_while p (first ∷ rest))
run_some p first rest passes =
    let size : prefix_len p (first ∷ rest) ≡ 1 + prefix_len p rest = rw passes refl in
    let len = length-prefix_len p (first ∷ rest) in omega (arith, len, size)

run_fits : (p : ℕ → Bool) (text : List ℕ) → length (take_while p text) ≤ length text
run_fits p text = let len = length-prefix_len p text in let most = prefix_len-le-length p text in omega (arith, len, most)

number_fits : (first : ℕ) (rest : List ℕ) → is_ascii_digit first ≡ true → Fitting (number_piece (first ∷ rest)) (length (first ∷ rest))
unfolding number_piece
number_fits first rest digit =
    let digits = take_while is_ascii_digit (first ∷ rest) in
    fits_if (leb (digits_value 10 digits) (2 ^ 63)) (Found (Number (digits_value 10 digits)) (length digits)) Refused (length (first ∷ rest))
    (λ _. (run_some is_ascii_digit first rest digit, run_fits is_ascii_digit (first ∷ rest))) (λ _. tt)

word_fits : (first : ℕ) (rest : List ℕ) → is_word_byte first ≡ true → Fitting (word_piece (first ∷ rest)) (length (first ∷ rest))
unfolding word_piece
word_fits first rest letter =
    let word = take_while is_word_byte (first ∷ rest) in
    fits_if (leb (length word) MAX_WORD) (Found (word_kind word (place_of word keywords)) (length word)) Refused (length (first ∷ rest))
    (λ _. (run_some is_word_byte first rest letter, run_fits is_word_byte (first ∷ rest))) (λ _. tt)

column_fits : (rest : List ℕ) → Fitting (column_piece rest) (suc (length rest))
unfolding column_piece
column_fits rest =
    let len = length-take 2 (take_while is_ascii_digit rest) in
    let most = run_fits is_ascii_digit rest in
    let digits = take 2 (take_while is_ascii_digit rest) in
    let fits : 1 + length digits ≤ suc (length rest) = omega (arith, len, most) in
    fits_if (ltb 0 (length digits) && ltb (digits_value 10 digits) MAX_COLUMNS) (Found (Column (digits_value 10 digits)) (1 + length digits)) Refused (suc (length rest))
    (λ _. (omega arith, fits)) (λ _. tt)

-- what was read of a quoted text is at least its last quote, and no more than the text
abbrev ReadFits : Option (List ℕ × ℕ) → ℕ → Type 0
ReadFits None most = ⊤
ReadFits (Some read) most = read.1 ≤ most

reads_if : (b : Bool) (p q : Option (List ℕ × ℕ)) (most : ℕ) → ReadFits p most → ReadFits q most → ReadFits (cond b p q) most
reads_if true p q most first second = first
reads_if false p q most first second = second

with_fits : (byte size most : ℕ) (later : Option (List ℕ × ℕ)) → ReadFits later most → ReadFits (with_byte byte size later) (size + most)
with_fits byte size most None fits = tt
with_fits byte size most (Some read) fits = omega arith

escape_fits : (meant : Option ℕ) (most : ℕ) (later : Option (List ℕ × ℕ)) → ReadFits later most → ReadFits (option_and_then (λ byte. with_byte byte 2 later) meant) (2 + most)
escape_fits None most later fits = tt
escape_fits (Some byte) most later fits = with_fits byte 2 most later fits

larger : (o : Option (List ℕ × ℕ)) (m n : ℕ) → m ≤ n → ReadFits o m → ReadFits o n
larger None m n h fits = tt
larger (Some read) m n h fits = omega arith

quoted_fits : (text : List ℕ) → ReadFits (quoted text) (length text)
unfolding quoted
quoted_fits [] = tt
quoted_fits (byte ∷ []) = reads_if (eqb byte 34) (Some ([], 1)) None 1 (omega arith) tt
quoted_fits (byte ∷ next ∷ rest) =
    let most = length (byte ∷ next ∷ rest) in
    let later = quoted_fits (next ∷ rest) in
    let after = quoted_fits rest in
    reads_if (eqb byte 34) _ _ most (omega arith)
    (reads_if (eqb byte 92) _ _ most (larger _ (2 + length rest) most (omega arith) (escape_fits (escaped next) (length rest) (quoted rest) after))
    (reads_if ((byte == 10) || (byte == 13)) _ _ most tt
    (larger _ (1 + length (next ∷ rest)) most (omega arith) (with_fits byte 1 (length (next ∷ rest)) (quoted (next ∷ rest)) later))))

text_fits : (read : Option (List ℕ × ℕ)) (most : ℕ) → ReadFits read most → Fitting (text_piece read) (suc most)
text_fits None most fits = tt
text_fits (Some read) most fits =
    fits_if (leb (length read.0) MAX_TEXT) (Found (Text read.0) (1 + read.1)) Refused (suc most) (λ _. (omega arith, omega arith)) (λ _. tt)

symbol_case : (one two : Option Piece) (most : ℕ) → Fitting (unwrap_or one Refused) most → Fitting (unwrap_or two Refused) most → Fitting (unwrap_or (option_or one two) Refused) most
symbol_case None two most first second = second
symbol_case (Some piece) two most first second = first

of_fits : (place : Option ℕ) (bytes : List ℕ) (most : ℕ) → 0 < length bytes → length bytes ≤ most → Fitting (unwrap_or (option_map (λ at. Found (Symbol at) (length bytes)) place) Refused) most
of_fits None bytes most some fits = tt
of_fits (Some place) bytes most some fits = (some, fits)

symbol_fits : (first : ℕ) (rest : List ℕ) → Fitting (symbol_piece (first ∷ rest)) (length (first ∷ rest))
unfolding symbol_piece
symbol_fits first rest =
    let text = first ∷ rest in
    let two = length-take 2 text in
    let one = length-take 1 text in
    symbol_case (symbol_of (take 2 text)) (symbol_of (take 1 text)) (length text)
    (of_fits (place_of (take 2 text) symbols) (take 2 text) (length text) (omega (arith, two)) (omega (arith, two)))
    (of_fits (place_of (take 1 text) symbols) (take 1 text) (length text) (omega (arith, one)) (omega (arith, one)))

word_or_symbol_fits : (first : ℕ) (rest : List ℕ) → Fitting (cond (is_word_byte first) (word_piece (first ∷ rest)) (symbol_piece (first ∷ rest))) (length (first ∷ rest))
word_or_symbol_fits first rest =
    fits_if (is_word_byte first) (word_piece (first ∷ rest)) (symbol_piece (first ∷ rest)) (length (first ∷ rest)) (word_fits first rest) (λ _. symbol_fits first rest)

comment_fits : (rest : List ℕ) → Fitting (Skipped (1 + comment_len rest)) (suc (length rest))
comment_fits rest = let size = prefix_len-le-length (λ byte. not (eqb byte 10)) rest in (omega arith, omega (arith, size))

pub piece_fits : (text : List ℕ) → Fitting (piece_at text) (length text)
unfolding piece_at
piece_fits [] = tt
piece_fits (first ∷ rest) =
    let most = length (first ∷ rest) in
    let word = cond (is_word_byte first) (word_piece (first ∷ rest)) (symbol_piece (first ∷ rest)) in
    let number = cond (is_ascii_digit first) (number_piece (first ∷ rest)) word in
    let quote = cond (eqb first 34) (text_piece (quoted rest)) number in
    let column = cond (eqb first 36) (column_piece rest) quote in
    let comment = cond (eqb first 35) (Skipped (1 + comment_len rest)) column in
    fits_if (is_blank first) (Skipped 1) comment most (λ _. (omega arith, omega arith))
    (λ _. fits_if (eqb first 35) (Skipped (1 + comment_len rest)) column most (λ _. comment_fits rest)
    (λ _. fits_if (eqb first 36) (column_piece rest) quote most (λ _. column_fits rest)
    (λ _. fits_if (eqb first 34) (text_piece (quoted rest)) number most (λ _. text_fits (quoted rest) (length rest) (quoted_fits rest))
    (λ _. fits_if (is_ascii_digit first) (number_piece (first ∷ rest)) word most (number_fits first rest)
    (λ _. word_or_symbol_fits first rest)))))
