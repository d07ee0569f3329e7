-- The tokens of a text are such as a text can have.
use Rattle.std.proofs.Common.{◌≡◌, ◌<◌, ◌≤◌, ◌+◌, ◌-◌, ◌^◌, ℕ, zero, suc, List, [], ◌∷◌, ◌++◌, length, take, drop, get_or, Bool, true, false, not, cond, ltb, leb, eqb, ◌==◌, ◌&&◌, ◌||◌, Option, Some, None, Ok, Err, Result, refl, arith, append_assoc, length-append, ◌⊎◌, inl, inr}
use Rattle.std.specs.Bool.{⊤}
use Rattle.std.specs.Option.{option_and_then, option_map, option_or}
use Rattle.std.specs.Prelude.{unwrap_or}
use Rattle.std.specs.List.{All, AllByRecursion as Each, list_all, prefix_len, take_while}
use Rattle.std.specs.Char.{is_ascii_digit}
use Rattle.std.specs.Str.{IsUtf8, bytes_eq, is_utf8}
use Rattle.std.specs.Str.Lossy.{utf8_valid_len}
use Rattle.std.specs.Str.Parse.{digits_value}
use Rattle.std.proofs.Math.Seq.{drop-append-add, get_or-append_seam, take-append_seam}
use Rattle.std.proofs.lemmas.Bool.{and_parts, cases_Bool, cases_lt, eqb-true}
use Rattle.std.proofs.lemmas.Bool.Decides.{nat_tests}
use Rattle.std.proofs.lemmas.List.{append-nil, drop_all, length-take}
use Rattle.std.proofs.lemmas.List.Elements.{All-from_recursion}
use Rattle.std.proofs.lemmas.List.Quantifiers.{position-Some}
use Rattle.std.proofs.lemmas.List.Sums.{prefix_len-le-length, take_while-cons}
use Rattle.std.proofs.lemmas.List.Folds.{length-prefix_len}
use Rattle.std.proofs.lemmas.Slice.Eq.{bytes_eq-Decides}
use Rattle.std.proofs.lemmas.Str.{IsCharBoundary-after_ascii, IsCharBoundary-before_ascii, IsUtf8-append, IsUtf8-drop, IsUtf8-from_ascii, IsUtf8-from_is_utf8, IsUtf8-nil, IsUtf8-take, is_utf8-from_IsUtf8}
use Rattle.std.proofs.lemmas.Str.Ascii.{IsAscii-cons, IsAscii-nil}
use Rattle.mit_rows.specs.declared.row.TheConstants.{MAX_COLUMNS}
use Rattle.mit_rows.specs.declared.text.TheConstants.{MAX_TEXT}
use Rattle.mit_lex.specs.declared.limits.TheConstants.{MAX_SCRIPT, MAX_WORD}
use Rattle.mit_lex.specs.Limits.{first_too_many}
use Rattle.mit_lex.specs.Pieces.{column_piece, comment_len, escaped, is_blank, is_word_byte, number_piece, piece_at, quoted, symbol_piece, symbol_of, text_piece, with_byte, word_piece, word_kind}
use Rattle.mit_lex.specs.Tables.{keywords, place_of, symbols}
use Rattle.mit_lex.specs.Tokens.{Scan, lexed, refused_or, scanned, tokens_of, with_piece}
use Rattle.mit_lex.specs.Valid.{IsToken, is_word}
use Rattle.mit_lex.specs.declared.piece.Piece.{Piece}
use Rattle.mit_lex.specs.declared.piece.Piece.TheVariants.{Skipped, Found, Refused}
use Rattle.mit_lex.specs.declared.token.Token.{Token}
use Rattle.mit_lex.specs.declared.token.TokenKind.TheVariants.{Number, Column, Text, Symbol}
use Rattle.mit_lex.proofs.PieceSizes.{Fitting, piece_fits}
use Rattle.mit_lex.proofs.Runs.{run_passes, stops_at}

-- ---- cuts of UTF-8

-- after an ASCII byte, and before it
after_ascii : (first : List ℕ) (byte : ℕ) (rest : List ℕ) → byte < 128 → IsUtf8 (first ++ byte ∷ rest) → IsUtf8 first × IsUtf8 rest
after_ascii first byte rest ascii utf8 =
    let text = first ++ byte ∷ rest in
    let inside : length first < length text = omega (arith, length-append first (byte ∷ rest)) in
    let here : get_or text (length first) 0 ≡ byte = get_or-append_seam first byte rest 0 in
    let small : get_or text (length first) 0 < 128 = omega arith in
    let front = IsUtf8-take text (length first) utf8 (IsCharBoundary-before_ascii text (length first) inside small) in
    let back = IsUtf8-drop text (length first + 1) utf8 (IsCharBoundary-after_ascii text (length first) utf8 inside small) in
    (rw take-append_seam at front, rw (drop-append-add first (byte ∷ rest) 1) at back)

later_utf8 : (byte : ℕ) (rest : List ℕ) → byte < 128 → IsUtf8 (byte ∷ rest) → IsUtf8 rest
later_utf8 byte rest ascii utf8 = (after_ascii [] byte rest ascii utf8).1

-- after a run of ASCII bytes
behind_run : (p : ℕ → Bool) → ((byte : ℕ) → p byte ≡ true → byte < 128) → (n : ℕ) (text : List ℕ) → list_all p (take n text) ≡ true → IsUtf8 text → IsUtf8 (drop n text)
behind_run p small zero text all utf8 = utf8
behind_run p small (suc n) [] all utf8 = utf8
behind_run p small (suc n) (byte ∷ rest) all utf8 =
    let parts = and_parts (p byte) (list_all p (take n rest)) all in
    behind_run p small n rest parts.1 (later_utf8 byte rest (small byte parts.0) utf8)

-- ---- quoted texts

-- what was read of a quoted text, after bytes that were read before
abbrev ReadWell : List ℕ → List ℕ → Option (List ℕ × ℕ) → Type 0
ReadWell before text None = ⊤
ReadWell before text (Some read) = IsUtf8 (before ++ read.0) × IsUtf8 (drop read.1 text) × (list_all (λ byte. not (eqb byte 13)) read.0 ≡ true)

well_if : (b : Bool) (p q : Option (List ℕ × ℕ)) (before text : List ℕ) → (b ≡ true → ReadWell before text p) → (b ≡ false → ReadWell before text q) → ReadWell before text (cond b p q)
well_if true p q before text first second = first refl
well_if false p q before text first second = second refl

closed_well : (before : List ℕ) (byte : ℕ) (rest : List ℕ) → byte ≡ 34 → IsUtf8 (before ++ byte ∷ rest) → ReadWell before (byte ∷ rest) (Some ([], 1))
closed_well before byte rest is utf8 =
    let parts = after_ascii before byte rest (omega arith) utf8 in (rw (append-nil before) parts.0, parts.1, refl)

-- a byte as it is
plain_well : (before : List ℕ) (byte : ℕ) (rest : List ℕ) (later : Option (List ℕ × ℕ)) → eqb byte 13 ≡ false → ReadWell (before ++ byte ∷ []) rest later
    → ReadWell before (byte ∷ rest) (with_byte byte 1 later)
plain_well before byte rest None line well = tt
plain_well before byte rest (Some read) line well =
    let one : 1 + read.1 ≡ suc read.1 = omega arith in
    (rw (append_assoc before (byte ∷ []) read.0) at well.0, rw one well.1, rw line well.2)

-- an escape
escape_well : (before : List ℕ) (byte next : ℕ) (rest : List ℕ) (meant : Option ℕ) (later : Option (List ℕ × ℕ)) → IsUtf8 before
    → ((is : ℕ) → meant ≡ Some is → (is < 128) × (eqb is 13 ≡ false)) → ReadWell [] rest later
    → ReadWell before (byte ∷ next ∷ rest) (option_and_then (λ is. with_byte is 2 later) meant)
escape_well before byte next rest None later utf8 small well = tt
escape_well before byte next rest (Some is) None utf8 small well = tt
escape_well before byte next rest (Some is) (Some read) utf8 small well =
    let two : 2 + read.1 ≡ suc (suc read.1) = omega arith in
    let facts = small is refl in
    let byte_utf8 : IsUtf8 (is ∷ []) = IsUtf8-from_ascii (is ∷ []) (IsAscii-cons is [] facts.0 IsAscii-nil) in
    (IsUtf8-append before (is ∷ read.0) utf8 (IsUtf8-append (is ∷ []) read.0 byte_utf8 well.0), rw two well.1, rw facts.1 well.2)

escaped_small : (byte meant : ℕ) → escaped byte ≡ Some meant → (meant < 128) × (eqb meant 13 ≡ false)
escaped_small byte meant e = (grind (arith, nat_tests), grind (arith, nat_tests))

escaped_next : (byte meant : ℕ) → escaped byte ≡ Some meant → byte < 128
escaped_next byte meant e = grind (arith, nat_tests)

-- after an escape the text goes on
escape_rest : (before : List ℕ) (next : ℕ) (rest : List ℕ) (meant : Option ℕ) → escaped next ≡ meant → IsUtf8 (before ++ 92 ∷ next ∷ rest) → (meant ≡ None) ⊎ IsUtf8 rest
escape_rest before next rest None e utf8 = inl refl
escape_rest before next rest (Some is) e utf8 =
    inr (later_utf8 next rest (escaped_next next is e) (after_ascii before 92 (next ∷ rest) (omega arith) utf8).1)

quoted_well : (text before : List ℕ) → IsUtf8 (before ++ text) → ReadWell before text (quoted text)
unfolding quoted
quoted_well [] before utf8 = tt
quoted_well (byte ∷ []) before utf8 =
    well_if (eqb byte 34) (Some ([], 1)) None before (byte ∷ []) (λ e. closed_well before byte [] (eqb-true byte 34 e) utf8) (λ e. tt)
quoted_well (byte ∷ next ∷ rest) before utf8 =
    let text = byte ∷ next ∷ rest in
    let later = with_byte byte 1 (quoted (next ∷ rest)) in
    let ended = cond ((byte == 10) || (byte == 13)) None later in
    let other = cond (eqb byte 92) (option_and_then (λ is. with_byte is 2 (quoted rest)) (escaped next)) ended in
    let whole : (before ++ byte ∷ []) ++ next ∷ rest ≡ before ++ text = append_assoc before (byte ∷ []) (next ∷ rest) in
    well_if (eqb byte 34) (Some ([], 1)) other before text (λ e. closed_well before byte (next ∷ rest) (eqb-true byte 34 e) utf8)
    (λ quote. well_if (eqb byte 92) (option_and_then (λ is. with_byte is 2 (quoted rest)) (escaped next)) ended before text
    (λ back. let is : byte ≡ 92 = eqb-true byte 92 back in
    elim (escape_rest before next rest (escaped next) refl (rw is at utf8)) [
      | inl none ↦ rw none tt
      | inr utf8_rest ↦ escape_well before byte next rest (escaped next) (quoted rest)
          (after_ascii before byte (next ∷ rest) (omega arith) utf8).0 (λ meant e. escaped_small next meant e) (quoted_well rest [] utf8_rest)
    ])
    (λ plain. well_if ((byte == 10) || (byte == 13)) None later before text (λ e. tt)
    (λ lines. plain_well before byte (next ∷ rest) (quoted (next ∷ rest)) (grind (arith, nat_tests)) (quoted_well (next ∷ rest) (before ++ byte ∷ []) (rw whole utf8)))))

-- ---- pieces

-- a token is one of a text, and the text goes on after the piece
abbrev Good : Piece → List ℕ → Type 0
Good (Skipped size) text = IsUtf8 (drop size text)
Good (Found kind size) text = IsToken kind × IsUtf8 (drop size text)
Good Refused text = ⊤

good_if : (b : Bool) (p q : Piece) (text : List ℕ) → (b ≡ true → Good p text) → (b ≡ false → Good q text) → Good (cond b p q) text
good_if true p q text first second = first refl
good_if false p q text first second = second refl

digit_small : (byte : ℕ) → is_ascii_digit byte ≡ true → byte < 128
digit_small byte digit = grind (arith, nat_tests)

word_small : (byte : ℕ) → is_word_byte byte ≡ true → byte < 128
word_small byte word = grind (arith, nat_tests)

-- after the longest run
behind_longest : (p : ℕ → Bool) → ((byte : ℕ) → p byte ≡ true → byte < 128) → (text : List ℕ) → IsUtf8 text → IsUtf8 (drop (length (take_while p text)) text)
behind_longest p small text utf8 = rw (length-prefix_len p text) (behind_run p small (prefix_len p text) text (run_passes p text) utf8)

number_good : (text : List ℕ) → IsUtf8 text → Good (number_piece text) text
unfolding number_piece
number_good text utf8 =
    let digits = take_while is_ascii_digit text in
    good_if (leb (digits_value 10 digits) (2 ^ 63)) (Found (Number (digits_value 10 digits)) (length digits)) Refused text
    (λ low. (grind (arith, nat_tests), behind_longest is_ascii_digit digit_small text utf8)) (λ high. tt)

word_kind_good : (word : List ℕ) (place : Option ℕ) → place_of word keywords ≡ place → is_word word ≡ true → length word ≤ MAX_WORD → IsToken (word_kind word place)
unfolding keywords
word_kind_good word None is letters short = record { word = letters; short = short; free = is }
word_kind_good word (Some place) is letters short = (position-Some (λ listed. bytes_eq listed word) keywords place [] is).0

word_is_word : (first : ℕ) (rest : List ℕ) → is_ascii_digit first ≡ false → is_word_byte first ≡ true → is_word (take_while is_word_byte (first ∷ rest)) ≡ true
word_is_word first rest digit letter =
    rw (take_while-cons is_word_byte first rest, letter, letter, digit) (run_passes is_word_byte rest)

word_good : (first : ℕ) (rest : List ℕ) → is_ascii_digit first ≡ false → is_word_byte first ≡ true → IsUtf8 (first ∷ rest) → Good (word_piece (first ∷ rest)) (first ∷ rest)
unfolding word_piece
word_good first rest digit letter utf8 =
    let word = take_while is_word_byte (first ∷ rest) in
    good_if (leb (length word) MAX_WORD) (Found (word_kind word (place_of word keywords)) (length word)) Refused (first ∷ rest)
    (λ low. (
      word_kind_good word (place_of word keywords) refl (word_is_word first rest digit letter) (grind (arith, nat_tests)),
      behind_longest is_word_byte word_small (first ∷ rest) utf8,
    )) (λ high. tt)

passes_below : (p : ℕ → Bool) (n : ℕ) (xs : List ℕ) → n ≤ prefix_len p xs → list_all p (take n xs) ≡ true
passes_below p zero xs most = refl
passes_below p (suc n) [] most = refl
passes_below p (suc n) (x ∷ xs) most =
    elim (cases_Bool (p x)) [
      | inl passes ↦ let more = rw passes at most in rw passes (passes_below p n xs (omega arith))
      | inr fails ↦ let none = rw fails at most in absurd (omega arith)
    ]

column_low : (size value : ℕ) → ltb 0 size && ltb value MAX_COLUMNS ≡ true → value < MAX_COLUMNS
column_low size value low = let parts = and_parts (ltb 0 size) (ltb value MAX_COLUMNS) low in grind (arith, nat_tests, parts.1)

column_good : (rest : List ℕ) → IsUtf8 rest → Good (column_piece rest) (36 ∷ rest)
unfolding column_piece
column_good rest utf8 =
    let digits = take 2 (take_while is_ascii_digit rest) in
    let one : 1 + length digits ≡ suc (length digits) = omega arith in
    let run = length-prefix_len is_ascii_digit rest in
    let short : length digits ≤ prefix_len is_ascii_digit rest = omega (arith, length-take 2 (take_while is_ascii_digit rest), run) in
    let behind = behind_run is_ascii_digit digit_small (length digits) rest (passes_below is_ascii_digit (length digits) rest short) utf8 in
    good_if (ltb 0 (length digits) && ltb (digits_value 10 digits) MAX_COLUMNS) (Found (Column (digits_value 10 digits)) (1 + length digits)) Refused (36 ∷ rest)
    (λ low. (column_low (length digits) (digits_value 10 digits) low, rw one behind)) (λ high. tt)

feed_small : (byte : ℕ) → not (eqb byte 10) ≡ false → byte < 128
feed_small byte feed = grind (arith, nat_tests)

comment_good : (rest : List ℕ) → IsUtf8 rest → IsUtf8 (drop (1 + comment_len rest) (35 ∷ rest))
comment_good rest utf8 =
    let p = λ (byte : ℕ). not (eqb byte 10) in
    let n = prefix_len p rest in
    let one : 1 + n ≡ suc n = omega arith in
    let most = prefix_len-le-length p rest in
    rw one (elim (cases_lt n (length rest)) [
      | inl inside ↦
          let stop = stops_at p rest inside in
          IsUtf8-drop rest n utf8 (IsCharBoundary-before_ascii rest n inside (feed_small (get_or rest n 0) stop))
      | inr end ↦ let whole : drop n rest ≡ [] = drop_all n rest end in rw whole IsUtf8-nil
    ])

read_good : (rest : List ℕ) (read : Option (List ℕ × ℕ)) → ReadWell [] rest read → Good (text_piece read) (34 ∷ rest)
read_good rest None well = tt
read_good rest (Some read) well =
    let one : 1 + read.1 ≡ suc read.1 = omega arith in
    good_if (leb (length read.0) MAX_TEXT) (Found (Text read.0) (1 + read.1)) Refused (34 ∷ rest)
    (λ low. (record { short = grind (arith, nat_tests); utf8 = is_utf8-from_IsUtf8 read.0 well.0; lines = well.2 }, rw one well.1)) (λ high. tt)

text_good : (rest : List ℕ) → IsUtf8 rest → Good (text_piece (quoted rest)) (34 ∷ rest)
text_good rest utf8 = read_good rest (quoted rest) (quoted_well rest [] utf8)

-- ---- symbols

abbrev is_small : ℕ → Bool
is_small byte = ltb byte 128

each_at : (P : List ℕ → Type 0) (xs : List (List ℕ)) (place : ℕ) → place < length xs → Each P xs → P (get_or xs place [])
each_at P [] place inside each = absurd (omega arith)
each_at P (x ∷ xs) zero inside each = each.0
each_at P (x ∷ xs) (suc place) inside each = each_at P xs place (omega arith) each.1

symbols_small : Each (λ bytes. list_all is_small bytes ≡ true) symbols
unfolding symbols
symbols_small = search

symbol_is : (bytes : List ℕ) (place : ℕ) → place_of bytes symbols ≡ Some place → (place < length symbols) × (list_all is_small bytes ≡ true)
symbol_is bytes place is =
    let found = position-Some (λ listed. bytes_eq listed bytes) symbols place [] is in
    let same : get_or symbols place [] ≡ bytes = (bytes_eq-Decides (get_or symbols place []) bytes).0 found.1 in
    (found.0, rw (← same) (each_at (λ symbol. list_all is_small symbol ≡ true) symbols place found.0 symbols_small))

small_below : (byte : ℕ) → is_small byte ≡ true → byte < 128
small_below byte small = grind (arith, nat_tests)

symbol_count : length symbols ≡ 21
unfolding symbols
symbol_count = refl

-- a symbol of so many bytes
of_good : (bytes : List ℕ) (place : Option ℕ) (text : List ℕ) → place_of bytes symbols ≡ place → bytes ≡ take (length bytes) text → IsUtf8 text
    → Good (unwrap_or (option_map (λ at. Found (Symbol at) (length bytes)) place) Refused) text
of_good bytes None text is front utf8 = tt
of_good bytes (Some place) text is front utf8 =
    let facts = symbol_is bytes place is in
    let count = symbol_count in
    let all : list_all is_small (take (length bytes) text) ≡ true = rw (← front) facts.1 in
    (omega arith, behind_run is_small small_below (length bytes) text all utf8)

either_good : (one two : Option Piece) (text : List ℕ) → Good (unwrap_or one Refused) text → Good (unwrap_or two Refused) text → Good (unwrap_or (option_or one two) Refused) text
either_good None two text first second = second
either_good (Some piece) two text first second = first

symbol_good : (first : ℕ) (rest : List ℕ) → IsUtf8 (first ∷ rest) → Good (symbol_piece (first ∷ rest)) (first ∷ rest)
unfolding symbol_piece
symbol_good first [] utf8 =
    let one = of_good (first ∷ []) (place_of (first ∷ []) symbols) (first ∷ []) refl refl utf8 in
    either_good (symbol_of (first ∷ [])) (symbol_of (first ∷ [])) (first ∷ []) one one
symbol_good first (next ∷ rest) utf8 =
    let text = first ∷ next ∷ rest in
    either_good (symbol_of (first ∷ next ∷ [])) (symbol_of (first ∷ [])) text
    (of_good (first ∷ next ∷ []) (place_of (first ∷ next ∷ []) symbols) text refl refl utf8) (of_good (first ∷ []) (place_of (first ∷ []) symbols) text refl refl utf8)

-- ---- any piece

blank_small : (byte : ℕ) → is_blank byte ≡ true → byte < 128
blank_small byte blank = grind (arith, nat_tests)

piece_good : (first : ℕ) (rest : List ℕ) → IsUtf8 (first ∷ rest) → Good (piece_at (first ∷ rest)) (first ∷ rest)
unfolding piece_at
piece_good first rest utf8 =
    let text = first ∷ rest in
    let word = cond (is_word_byte first) (word_piece text) (symbol_piece text) in
    let number = cond (is_ascii_digit first) (number_piece text) word in
    let quote = cond (eqb first 34) (text_piece (quoted rest)) number in
    let column = cond (eqb first 36) (column_piece rest) quote in
    let comment = cond (eqb first 35) (Skipped (1 + comment_len rest)) column in
    good_if (is_blank first) (Skipped 1) comment text (λ blank. later_utf8 first rest (blank_small first blank) utf8)
    (λ _. good_if (eqb first 35) (Skipped (1 + comment_len rest)) column text
    (λ e. let is : first ≡ 35 = eqb-true first 35 e in rw is (comment_good rest (later_utf8 first rest (omega arith) utf8)))
    (λ _. good_if (eqb first 36) (column_piece rest) quote text
    (λ e. let is : first ≡ 36 = eqb-true first 36 e in rw is (column_good rest (later_utf8 first rest (omega arith) utf8)))
    (λ _. good_if (eqb first 34) (text_piece (quoted rest)) number text
    (λ e. let is : first ≡ 34 = eqb-true first 34 e in rw is (text_good rest (later_utf8 first rest (omega arith) utf8)))
    (λ _. good_if (is_ascii_digit first) (number_piece text) word text (λ digit. number_good text utf8)
    (λ digit. good_if (is_word_byte first) (word_piece text) (symbol_piece text) text (λ letter. word_good first rest digit letter utf8) (λ _. symbol_good first rest utf8))))))

-- ---- all tokens

abbrev IsValid : Token → Type 0
IsValid token = IsToken token.kind

-- after a piece the text goes on
rest_utf8 : (byte size : ℕ) (rest : List ℕ) → 0 < size → IsUtf8 (drop size (byte ∷ rest)) → IsUtf8 (drop (size - 1) rest)
rest_utf8 byte zero rest some utf8 = absurd (omega arith)
rest_utf8 byte (suc size) rest some utf8 = let same : suc size - 1 ≡ size = omega arith in rw same utf8

piece_valid : (place : ℕ) (piece : Piece) (later : ℕ → Scan) → (byte : ℕ) (rest : List ℕ) → Good piece (byte ∷ rest) → Fitting piece (length (byte ∷ rest))
    → ((size : ℕ) → IsUtf8 (drop (size - 1) rest) → Each IsValid (later size).tokens) → Each IsValid (with_piece place piece later).tokens
piece_valid place (Skipped size) later byte rest good fits more = more size (rest_utf8 byte size rest fits.0 good)
piece_valid place (Found kind size) later byte rest good fits more = (good.0, more size (rest_utf8 byte size rest fits.0 good.1))
piece_valid place Refused later byte rest good fits more = tt

scan_valid : (text : List ℕ) (place covered : ℕ) → IsUtf8 (drop covered text) → Each IsValid (scanned place covered text).tokens
unfolding scanned
scan_valid [] place covered utf8 = tt
scan_valid (byte ∷ rest) place (suc covered) utf8 = scan_valid rest (suc place) covered utf8
scan_valid (byte ∷ rest) place zero utf8 =
    piece_valid place (piece_at (byte ∷ rest)) (λ size. scanned (suc place) (size - 1) rest) byte rest (piece_good byte rest utf8) (piece_fits (byte ∷ rest))
    (λ size later. scan_valid rest (suc place) (size - 1) later)

found_valid : (stop : Option ℕ) (tokens found : List Token) → refused_or stop tokens ≡ Ok found → Each IsValid tokens → Each IsValid found
found_valid None tokens found is valid = let same : tokens ≡ found = cc in rw same at valid
found_valid (Some place) tokens found is valid = cc

-- the tokens of a text can be those of a text
pub tokens_valid : (text : List ℕ) (tokens : List Token) → tokens_of text ≡ Ok tokens → All (λ token. IsToken token.kind) tokens
unfolding tokens_of
tokens_valid text tokens is =
    elim (cases_Bool (ltb MAX_SCRIPT (length text))) [
      | inl long ↦ let none : ◌≡◌ {A = Result (List Token) ℕ} (Err MAX_SCRIPT) (Ok tokens) = rw long at is in cc
      | inr short ↦ elim (cases_Bool (is_utf8 text)) [
        | inl utf8 ↦
            let scan = scanned 0 0 text in
            let all : lexed scan ≡ Ok tokens = rw (short, utf8) at is in
            All-from_recursion (λ token. IsToken token.kind) tokens
            (found_valid (option_or (first_too_many 0 0 scan.tokens) scan.stop) scan.tokens tokens all (scan_valid text 0 0 (IsUtf8-from_is_utf8 text utf8)))
        | inr no_text ↦ let none : ◌≡◌ {A = Result (List Token) ℕ} (Err (utf8_valid_len text)) (Ok tokens) = rw (short, no_text) at is in cc
      ]
    ]
