-- Which written words are cut as which tokens, and how a text of such words is cut.
use Rattle.std.proofs.Common.{◌≡◌, ◌<◌, ◌≤◌, ◌+◌, ◌-◌, ◌^◌, ℕ, suc, List, [], ◌∷◌, ◌++◌, map, length, decimal, inl, inr, Bool, true, false, not, ltb, leb, Some, None, refl, sym, ap, ◌∙◌, arith, append_assoc, add-zero, length-append}
use Rattle.std.specs.List.{list_all, take_while}
use Rattle.std.specs.Char.{is_ascii_digit}
use Rattle.std.specs.Str.{IsAscii, IsUtf8, all_ascii_digits}
use Rattle.std.specs.Str.Parse.{digits_value}
use Rattle.std.proofs.lemmas.Bool.{and_parts}
use Rattle.std.proofs.lemmas.Bool.Decides.{nat_tests}
use Rattle.std.proofs.lemmas.Fmt.{IsAscii-decimal, decimal_is_IsNumeral, length-decimal-le}
use Rattle.std.proofs.lemmas.List.{append-nil, take_all}
use Rattle.std.proofs.Math.Seq.{drop-append_seam}
use Rattle.std.proofs.lemmas.List.Sums.{take_while-cons}
use Rattle.std.proofs.lemmas.Str.{IsUtf8-append, IsUtf8-from_ascii, IsUtf8-nil}
use Rattle.std.proofs.lemmas.Str.Ascii.{IsAscii-cons, IsAscii-nil}
use Rattle.std.proofs.lemmas.Str.Parse.{numerals_by_value, tells_all_ascii_digits}
use Rattle.mit_rows.specs.declared.row.TheConstants.{MAX_COLUMNS}
use Rattle.mit_rows.specs.declared.text.TheConstants.{MAX_TEXT}
use Rattle.mit_lex.specs.declared.limits.TheConstants.{MAX_WORD}
use Rattle.mit_lex.specs.Pieces.{column_piece, is_blank, is_word_byte, number_piece, piece_at, quoted, text_piece, word_piece, word_kind}
use Rattle.mit_lex.specs.Tables.{keywords, place_of}
use Rattle.mit_lex.specs.Tokens.{Scan, scanned, with_piece}
use Rattle.mit_lex.specs.Valid.{IsName, is_word}
use Rattle.mit_lex.specs.Written.{IsGap}
use Rattle.mit_lex.specs.declared.piece.Piece.TheVariants.{Skipped, Found}
use Rattle.mit_lex.specs.declared.token.Token.{Token}
use Rattle.mit_lex.specs.declared.token.TokenKind.{TokenKind}
use Rattle.mit_lex.specs.declared.token.TokenKind.TheVariants.{Name, Number, Column, Text}
use Rattle.mit_lex.proofs.PieceFacts.{blank_is, column_is, number_is, text_is, word_is}
use Rattle.mit_lex.proofs.Runs.{all_ascii}
use Rattle.mit_lex.proofs.ScanFacts.{covered_is, front_is}

-- these bytes, before a gap, are cut as this token
pub record ReadsAs (bytes : List ℕ) (kind : TokenKind) : Type 0 where
  pub some : 0 < length bytes
  pub utf8 : IsUtf8 bytes
  pub cut : (gap : ℕ) (rest : List ℕ) → IsGap gap → piece_at (bytes ++ gap ∷ rest) ≡ Found kind (length bytes)

-- ---- runs before a gap

gap_word : (gap : ℕ) → IsGap gap → is_word_byte gap ≡ false
gap_word gap (inl e) = rw e refl
gap_word gap (inr e) = rw e refl

gap_digit : (gap : ℕ) → IsGap gap → is_ascii_digit gap ≡ false
gap_digit gap (inl e) = rw e refl
gap_digit gap (inr e) = rw e refl

run_whole : (p : ℕ → Bool) (run rest : List ℕ) (gap : ℕ) → list_all p run ≡ true → p gap ≡ false → take_while p (run ++ gap ∷ rest) ≡ run
run_whole p [] rest gap all stops = take_while-cons p gap rest ∙ rw stops refl
run_whole p (x ∷ run) rest gap all stops =
    let parts = and_parts (p x) (list_all p run) all in
    take_while-cons p x (run ++ gap ∷ rest) ∙ rw (parts.0, run_whole p run rest gap parts.1 stops) refl

-- ---- words

no_digit : (b : Bool) → not b ≡ true → b ≡ false
no_digit true e = sym e
no_digit false e = refl

pub reads_word : (word : List ℕ) (kind : TokenKind) → is_word word ≡ true → leb (length word) MAX_WORD ≡ true → word_kind word (place_of word keywords) ≡ kind → ReadsAs word kind
unfolding word_piece
reads_word [] kind letters short is = cc
reads_word (first ∷ word) kind letters short is =
    let parts = and_parts (not (is_ascii_digit first)) (list_all is_word_byte (first ∷ word)) letters in
    let head = and_parts (is_word_byte first) (list_all is_word_byte word) parts.1 in
    record {
      some = omega arith;
      utf8 = IsUtf8-from_ascii (first ∷ word) (all_ascii (first ∷ word) parts.1);
      cut = λ gap rest is_gap.
          let run = run_whole is_word_byte (first ∷ word) rest gap parts.1 (gap_word gap is_gap) in
          let at : Found kind (length (first ∷ word)) ≡ word_piece ((first ∷ word) ++ gap ∷ rest) = rw (run, short, is) refl in
          sym (word_is _ ((first ∷ word) ++ gap ∷ rest) (word ++ gap ∷ rest) first refl (no_digit (is_ascii_digit first) parts.0) head.0 at);
    }

pub reads_name : (name : List ℕ) → IsName name → ReadsAs name (Name name)
reads_name name valid = reads_word name (Name name) valid.word (let h = valid.short in grind (arith, nat_tests)) (rw valid.free refl)

-- ---- numbers

digits_all : (ds : List ℕ) → all_ascii_digits ds ≡ true → list_all is_ascii_digit ds ≡ true
digits_all [] all = refl
digits_all (d ∷ ds) all =
    let parts = and_parts (is_ascii_digit d) (all_ascii_digits ds) all in rw (parts.0) (digits_all ds parts.1)

-- the digits of a number
record Digits (value : ℕ) (ds : List ℕ) : Type 0 where
  some : 0 < length ds
  all : list_all is_ascii_digit ds ≡ true
  worth : digits_value 10 ds ≡ value
  ascii : IsAscii ds

digits_of : (value : ℕ) → value < 2 ^ 64 → Digits value (decimal value)
digits_of value most =
    let numeral = decimal_is_IsNumeral value most in
    let all = digits_all (decimal value) ((numerals_by_value (λ ds. all_ascii_digits ds ≡ true) tells_all_ascii_digits).from (decimal value) numeral.0.1) in
    record { some = numeral.0.0; all = all; worth = numeral.1; ascii = IsAscii-decimal value most }

number_reads : (value : ℕ) (ds : List ℕ) → value ≤ 2 ^ 63 → Digits value ds → ReadsAs ds (Number value)
unfolding number_piece
number_reads value [] most digits = absurd (let h = digits.some in omega arith)
number_reads value (first ∷ more) most digits =
    let parts = and_parts (is_ascii_digit first) (list_all is_ascii_digit more) digits.all in
    let small : leb value (2 ^ 63) ≡ true = grind (arith, nat_tests) in
    record {
      some = digits.some;
      utf8 = IsUtf8-from_ascii (first ∷ more) digits.ascii;
      cut = λ gap rest is_gap.
          let run = run_whole is_ascii_digit (first ∷ more) rest gap digits.all (gap_digit gap is_gap) in
          let at : Found (Number value) (length (first ∷ more)) ≡ number_piece ((first ∷ more) ++ gap ∷ rest) = rw (run, digits.worth, small) refl in
          sym (number_is _ ((first ∷ more) ++ gap ∷ rest) (more ++ gap ∷ rest) first refl parts.0 at);
    }

pub reads_number : (value : ℕ) → value ≤ 2 ^ 63 → ReadsAs (decimal value) (Number value)
reads_number value most = number_reads value (decimal value) most (digits_of value (let more : 2 ^ 63 < 2 ^ 64 = omega arith in omega arith))

-- ---- columns

column_reads : (value : ℕ) (ds : List ℕ) → value < MAX_COLUMNS → length ds ≤ 2 → Digits value ds → ReadsAs (36 ∷ ds) (Column value)
unfolding column_piece
column_reads value ds most short digits =
    let small : ltb value MAX_COLUMNS ≡ true = grind (arith, nat_tests) in
    let some : ltb 0 (length ds) ≡ true = let h = digits.some in grind (arith, nat_tests) in
    let size : 1 + length ds ≡ length (36 ∷ ds) = omega arith in
    record {
      some = omega arith;
      utf8 = IsUtf8-from_ascii (36 ∷ ds) (IsAscii-cons 36 ds (omega arith) digits.ascii);
      cut = λ gap rest is_gap.
          let run = run_whole is_ascii_digit ds rest gap digits.all (gap_digit gap is_gap) in
          let at : Found (Column value) (length (36 ∷ ds)) ≡ column_piece (ds ++ gap ∷ rest) =
          rw (run, take_all 2 ds short, digits.worth, some, small, size) refl in
          sym (column_is _ ((36 ∷ ds) ++ gap ∷ rest) (ds ++ gap ∷ rest) 36 refl refl at);
    }

pub reads_column : (value : ℕ) → value < MAX_COLUMNS → ReadsAs (36 ∷ decimal value) (Column value)
reads_column value most =
    let small : value < 2 ^ 64 = omega arith in
    let short : length (decimal value) ≤ 2 = length-decimal-le 2 value (omega arith) (omega arith) small in
    column_reads value (decimal value) most short (digits_of value small)

-- ---- texts

pub reads_quoted : (written bytes : List ℕ) → IsUtf8 written → length bytes ≤ MAX_TEXT
    → ((rest : List ℕ) → quoted (written ++ 34 ∷ rest) ≡ Some (bytes, length written + 1)) → ReadsAs (34 ∷ written ++ 34 ∷ []) (Text bytes)
reads_quoted written bytes utf8 most back =
    let quote : IsUtf8 (34 ∷ []) = IsUtf8-from_ascii (34 ∷ []) (IsAscii-cons 34 [] (omega arith) IsAscii-nil) in
    let small : leb (length bytes) MAX_TEXT ≡ true = grind (arith, nat_tests) in
    record {
      some = omega arith;
      utf8 = IsUtf8-append (34 ∷ []) (written ++ 34 ∷ []) quote (IsUtf8-append written (34 ∷ []) utf8 quote);
      cut = λ gap rest is_gap.
          let whole : (written ++ 34 ∷ []) ++ gap ∷ rest ≡ written ++ 34 ∷ gap ∷ rest = append_assoc written (34 ∷ []) (gap ∷ rest) in
          let size : 1 + (length written + 1) ≡ length (34 ∷ written ++ 34 ∷ []) = omega (arith, length-append written (34 ∷ [])) in
          let at : Found (Text bytes) (length (34 ∷ written ++ 34 ∷ [])) ≡ text_piece (quoted ((written ++ 34 ∷ []) ++ gap ∷ rest)) =
          rw (whole, back (gap ∷ rest), small, size) refl in
          sym (text_is _ ((34 ∷ written ++ 34 ∷ []) ++ gap ∷ rest) ((written ++ 34 ∷ []) ++ gap ∷ rest) 34 refl refl at);
    }

-- ---- texts of such words

abbrev pub kinds_of : List Token → List TokenKind
kinds_of tokens = map (λ token. token.kind) tokens

-- the text is cut into these tokens, whatever follows
pub record Cuts (text : List ℕ) (kinds : List TokenKind) : Type 0 where
  pub utf8 : IsUtf8 text
  pub tokens : (place : ℕ) (rest : List ℕ) → kinds_of (scanned place 0 (text ++ rest)).tokens ≡ kinds ++ kinds_of (scanned (place + length text) 0 rest).tokens
  pub stop : (place : ℕ) (rest : List ℕ) → (scanned place 0 (text ++ rest)).stop ≡ (scanned (place + length text) 0 rest).stop

pub cuts_nil : Cuts [] []
cuts_nil = record {
  utf8 = IsUtf8-nil;
  tokens = λ place rest. rw (add-zero place) refl;
  stop = λ place rest. rw (add-zero place) refl;
}

pub cuts_append : {text later : List ℕ} {kinds others : List TokenKind} → Cuts text kinds → Cuts later others → Cuts (text ++ later) (kinds ++ others)
cuts_append {text = text} {later = later} {kinds = kinds} {others = others} first second = record {
  utf8 = IsUtf8-append text later first.utf8 second.utf8;
  tokens = λ place rest.
      let at : place + length (text ++ later) ≡ (place + length text) + length later = omega (arith, length-append text later) in
      rw (append_assoc text later rest, at, append_assoc kinds others, first.tokens place (later ++ rest), second.tokens (place + length text) rest) refl;
  stop = λ place rest.
      let at : place + length (text ++ later) ≡ (place + length text) + length later = omega (arith, length-append text later) in
      rw (append_assoc text later rest, at, first.stop place (later ++ rest), second.stop (place + length text) rest) refl;
}

gap_blank : (gap : ℕ) → IsGap gap → is_blank gap ≡ true
gap_blank gap (inl e) = rw e refl
gap_blank gap (inr e) = rw e refl

gap_ascii : (gap : ℕ) → IsGap gap → gap < 128
gap_ascii gap (inl e) = omega arith
gap_ascii gap (inr e) = omega arith

gap_skipped : (place gap : ℕ) (rest : List ℕ) → IsGap gap → scanned place 0 (gap ∷ rest) ≡ scanned (place + 1) 0 rest
gap_skipped place gap rest is_gap =
    let next : suc place ≡ place + 1 = omega arith in
    let piece : piece_at (gap ∷ rest) ≡ Skipped 1 = sym (blank_is (gap ∷ rest) rest gap refl (gap_blank gap is_gap)) in
    front_is place gap rest ∙ rw (piece, next) refl

pub cuts_gap : (gap : ℕ) → IsGap gap → Cuts (gap ∷ []) []
cuts_gap gap is_gap = record {
  utf8 = IsUtf8-from_ascii (gap ∷ []) (IsAscii-cons gap [] (gap_ascii gap is_gap) IsAscii-nil);
  tokens = λ place rest. ap (λ (scan : Scan). kinds_of scan.tokens) (gap_skipped place gap rest is_gap);
  stop = λ place rest. ap (λ (scan : Scan). scan.stop) (gap_skipped place gap rest is_gap);
}

found_scan : (place : ℕ) (bytes rest : List ℕ) (kind : TokenKind) → 0 < length bytes → piece_at (bytes ++ rest) ≡ Found kind (length bytes)
    → scanned place 0 (bytes ++ rest) ≡ with_piece place (Found kind (length bytes)) (λ size. scanned (place + length bytes) 0 rest)
found_scan place [] rest kind some piece = absurd (omega arith)
found_scan place (byte ∷ bytes) rest kind some piece =
    let size : length (byte ∷ bytes) - 1 ≡ length bytes = omega arith in
    let at : suc place + length bytes ≡ place + length (byte ∷ bytes) = omega arith in
    let skip : scanned (suc place) (length (byte ∷ bytes) - 1) (bytes ++ rest) ≡ scanned (place + length (byte ∷ bytes)) 0 rest =
    rw size (covered_is (length bytes) (suc place) (bytes ++ rest) ∙ rw (at, drop-append_seam bytes rest) refl) in
    front_is place byte (bytes ++ rest) ∙ rw (piece, skip) refl

pub cuts_token : {bytes : List ℕ} {kind : TokenKind} → (gap : ℕ) → IsGap gap → ReadsAs bytes kind → Cuts (bytes ++ gap ∷ []) (kind ∷ [])
cuts_token {bytes = bytes} {kind = kind} gap is_gap reads = record {
  utf8 = IsUtf8-append bytes (gap ∷ []) reads.utf8 (cuts_gap gap is_gap).utf8;
  tokens = λ place rest.
      let at : place + length (bytes ++ gap ∷ []) ≡ (place + length bytes) + 1 = omega (arith, length-append bytes (gap ∷ [])) in
      let whole = found_scan place bytes (gap ∷ rest) kind reads.some (reads.cut gap rest is_gap) in
      rw (append_assoc bytes (gap ∷ []) rest, whole, gap_skipped (place + length bytes) gap rest is_gap, at) refl;
  stop = λ place rest.
      let at : place + length (bytes ++ gap ∷ []) ≡ (place + length bytes) + 1 = omega (arith, length-append bytes (gap ∷ [])) in
      let whole = found_scan place bytes (gap ∷ rest) kind reads.some (reads.cut gap rest is_gap) in
      rw (append_assoc bytes (gap ∷ []) rest, whole, gap_skipped (place + length bytes) gap rest is_gap, at) refl;
}

-- the whole text
pub cuts_whole : (text : List ℕ) (kinds : List TokenKind) → Cuts text kinds → (kinds_of (scanned 0 0 text).tokens ≡ kinds) × ((scanned 0 0 text).stop ≡ None)
unfolding scanned
cuts_whole text kinds cuts =
    (rw (append-nil text, append-nil kinds) at (cuts.tokens 0 []), rw (append-nil text) at (cuts.stop 0 []))
