-- The written form of a text is UTF-8, and is read as this text.
use Rattle.std.proofs.Common.{◌≡◌, ◌≤◌, ◌<◌, ◌+◌, ◌/◌, ltb, ℕ, List, [], ◌∷◌, ◌++◌, flat_map, length, true, false, not, eqb, Some, refl, ap, ◌∙◌, arith, append_assoc, length-append, inl, inr}
use Rattle.std.specs.List.{list_all}
use Rattle.std.specs.Str.{IsUtf8}
use Rattle.std.proofs.lemmas.Bool.{and_parts, cases_Bool, eqb-true}
use Rattle.std.proofs.lemmas.Bool.Decides.{nat_tests}
use Rattle.std.proofs.lemmas.Str.Ascii.{IsAscii-cons, IsAscii-nil}
use Rattle.std.proofs.Math.Utf8.{encode, encodes, next, scalar, scalars}
use Rattle.std.proofs.lemmas.Grind.{flat_map-append}
use Rattle.std.proofs.lemmas.List.{append-nil}
use Rattle.std.proofs.lemmas.Str.{IsUtf8-append, IsUtf8-from_ascii, IsUtf8-from_is_utf8, IsUtf8-nil}
use Rattle.mit_lex.specs.Pieces.{quoted, with_byte}
use Rattle.mit_lex.specs.Quotes.{is_plain}
use Rattle.mit_lex.specs.Valid.{IsText}
use Rattle.mit_lex.specs.Written.{between_quotes, escaped_as}
use Rattle.mit_lex.specs.declared.token.TokenKind.TheVariants.{Text}
use Rattle.mit_lex.proofs.Cuts.{ReadsAs, reads_quoted}
use Rattle.mit_lex.proofs.QuoteFacts.{quoted_close, quoted_plain}

plain_byte : (byte : ℕ) → eqb byte 34 ≡ false → eqb byte 92 ≡ false → eqb byte 10 ≡ false → not (eqb byte 13) ≡ true → is_plain byte ≡ true
plain_byte byte quote back feed line = rw (quote, back, feed) line

-- a byte that is no carriage return is read as it was written
escaped_back : (byte : ℕ) (rest : List ℕ) → not (eqb byte 13) ≡ true → quoted (escaped_as byte ++ rest) ≡ with_byte byte (length (escaped_as byte)) (quoted rest)
unfolding quoted
escaped_back byte rest line =
    elim (cases_Bool (eqb byte 34)) [
      | inl quote ↦ let is : byte ≡ 34 = eqb-true byte 34 quote in rw is refl
      | inr quote ↦ elim (cases_Bool (eqb byte 92)) [
        | inl back ↦ let is : byte ≡ 92 = eqb-true byte 92 back in rw is refl
        | inr back ↦ elim (cases_Bool (eqb byte 10)) [
          | inl feed ↦ let is : byte ≡ 10 = eqb-true byte 10 feed in rw is refl
          | inr feed ↦ elim (cases_Bool (eqb byte 9)) [
            | inl tab ↦ let is : byte ≡ 9 = eqb-true byte 9 tab in rw is refl
            | inr tab ↦ rw (quote, back, feed, tab) (quoted_plain byte rest (plain_byte byte quote back feed line))
          ]
        ]
      ]
    ]

text_back : (bytes rest : List ℕ) → list_all (λ byte. not (eqb byte 13)) bytes ≡ true
    → quoted (flat_map escaped_as bytes ++ 34 ∷ rest) ≡ Some (bytes, length (flat_map escaped_as bytes) + 1)
text_back [] rest lines = quoted_close rest
text_back (byte ∷ bytes) rest lines =
    let parts = and_parts (not (eqb byte 13)) (list_all (λ byte. not (eqb byte 13)) bytes) lines in
    let size : length (escaped_as byte) + (length (flat_map escaped_as bytes) + 1) ≡ length (escaped_as byte ++ flat_map escaped_as bytes) + 1 =
    omega (arith, length-append (escaped_as byte) (flat_map escaped_as bytes)) in
    ap quoted (append_assoc (escaped_as byte) (flat_map escaped_as bytes) (34 ∷ rest))
    ∙ (escaped_back byte (flat_map escaped_as bytes ++ 34 ∷ rest) parts.0
    ∙ (ap (with_byte byte (length (escaped_as byte))) (text_back bytes rest parts.1)
    ∙ ap (λ (n : ℕ). Some (byte ∷ bytes, n)) size))

-- ---- the written form of a text is UTF-8

escaped_ascii : (byte : ℕ) → byte < 128 → IsUtf8 (escaped_as byte)
escaped_ascii byte ascii =
    let two : (next : ℕ) → next < 128 → IsUtf8 (92 ∷ next ∷ []) =
    λ next small. IsUtf8-from_ascii (92 ∷ next ∷ []) (IsAscii-cons 92 (next ∷ []) (omega arith) (IsAscii-cons next [] small IsAscii-nil)) in
    elim (cases_Bool (eqb byte 34)) [
      | inl quote ↦ rw quote (two 34 (omega arith))
      | inr quote ↦ elim (cases_Bool (eqb byte 92)) [
        | inl back ↦ rw (quote, back) (two 92 (omega arith))
        | inr back ↦ elim (cases_Bool (eqb byte 10)) [
          | inl feed ↦ rw (quote, back, feed) (two 110 (omega arith))
          | inr feed ↦ elim (cases_Bool (eqb byte 9)) [
            | inl tab ↦ rw (quote, back, feed, tab) (two 116 (omega arith))
            | inr tab ↦ rw (quote, back, feed, tab) (IsUtf8-from_ascii (byte ∷ []) (IsAscii-cons byte [] ascii IsAscii-nil))
          ]
        ]
      ]
    ]

escaped_high : (byte : ℕ) → 128 ≤ byte → escaped_as byte ≡ byte ∷ []
escaped_high byte high =
    let a : eqb byte 34 ≡ false = grind (arith, nat_tests) in
    let b : eqb byte 92 ≡ false = grind (arith, nat_tests) in
    let c : eqb byte 10 ≡ false = grind (arith, nat_tests) in
    let d : eqb byte 9 ≡ false = grind (arith, nat_tests) in
    rw (a, b, c, d) refl

-- the written form of one character, and of all
char_written : (c : ℕ) → scalar c ≡ true → IsUtf8 (flat_map escaped_as (encode c))
unfolding encode
char_written c is =
    let whole : IsUtf8 (encode c) = (c ∷ [], (rw is refl, append-nil (encode c))) in
    elim (cases_Bool (ltb c 128)) [
      | inl one ↦ rw (one, append-nil (escaped_as c)) (escaped_ascii c (grind (arith, nat_tests)))
      | inr more ↦ elim (cases_Bool (ltb c 2048)) [
        | inl two ↦ rw (more, two, escaped_high (192 + c / 64) (omega arith), escaped_high (next c) (omega arith)) (rw (more, two) at whole)
        | inr more' ↦ elim (cases_Bool (ltb c 65536)) [
          | inl three ↦ rw (more, more', three, escaped_high (224 + c / 4096) (omega arith), escaped_high (next (c / 64)) (omega arith), escaped_high (next c) (omega arith)) (rw (more, more', three) at whole)
          | inr four ↦ rw (more, more', four, escaped_high (240 + c / 262144) (omega arith), escaped_high (next (c / 4096)) (omega arith), escaped_high (next (c / 64)) (omega arith), escaped_high (next c) (omega arith)) (rw (more, more', four) at whole)
        ]
      ]
    ]

chars_written : (cs : List ℕ) → scalars cs ≡ true → IsUtf8 (flat_map escaped_as (encodes cs))
chars_written [] all = IsUtf8-nil
chars_written (c ∷ cs) all =
    let parts = and_parts (scalar c) (scalars cs) all in
    rw (flat_map-append escaped_as (encode c) (encodes cs))
    (IsUtf8-append (flat_map escaped_as (encode c)) (flat_map escaped_as (encodes cs)) (char_written c parts.0) (chars_written cs parts.1))

written_utf8 : (bytes : List ℕ) → IsUtf8 bytes → IsUtf8 (flat_map escaped_as bytes)
written_utf8 bytes utf8 = rw (utf8.1.1) at (chars_written utf8.0 utf8.1.0)

pub reads_text : (bytes : List ℕ) → IsText bytes → ReadsAs (between_quotes bytes) (Text bytes)
reads_text bytes valid =
    reads_quoted (flat_map escaped_as bytes) bytes (written_utf8 bytes (IsUtf8-from_is_utf8 bytes valid.utf8)) valid.short (λ rest. text_back bytes rest valid.lines)
