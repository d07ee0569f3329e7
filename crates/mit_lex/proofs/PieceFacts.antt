-- What stands at the front of a text, by its first byte.
use Rattle.std.proofs.Common.{◌≡◌, ◌≢◌, ℕ, ◌+◌, ◌<◌, true, false, List, ◌∷◌, length, get_or, drop, eqb, refl, sym, ap, ◌∙◌, arith}
use Rattle.std.specs.Str.{IsCharBoundary, IsUtf8}
use Rattle.std.specs.Char.{is_ascii_digit}
use Rattle.std.proofs.lemmas.Bool.{ne_eqb}
use Rattle.std.proofs.lemmas.Bool.Decides.{nat_tests}
use Rattle.std.proofs.lemmas.List.{drop_more}
use Rattle.std.proofs.lemmas.Str.{IsCharBoundary-after_ascii}
use Rattle.mit_lex.specs.Pieces.{column_piece, comment_len, is_blank, is_word_byte, number_piece, piece_at, quoted, symbol_piece, text_piece, word_piece}
use Rattle.mit_lex.specs.declared.piece.Piece.{Piece}
use Rattle.mit_lex.specs.declared.piece.Piece.TheVariants.{Skipped}

pub blank_is : (text rest : List ℕ) (first : ℕ) → text ≡ first ∷ rest → is_blank first ≡ true → Skipped 1 ≡ piece_at text
unfolding piece_at
blank_is text rest first e blank = rw (e, blank) refl

pub comment_is : (text rest : List ℕ) (first size : ℕ) → text ≡ first ∷ rest → first ≡ 35 → size ≡ comment_len rest → Skipped (1 + size) ≡ piece_at text
unfolding piece_at
comment_is text rest first size e mark len = rw (e, mark, len) refl

pub column_is : (piece : Piece) (text rest : List ℕ) (first : ℕ) → text ≡ first ∷ rest → first ≡ 36 → piece ≡ column_piece rest → piece ≡ piece_at text
unfolding piece_at
column_is piece text rest first e mark is = rw (e, mark, is) refl

pub text_is : (piece : Piece) (text rest : List ℕ) (first : ℕ) → text ≡ first ∷ rest → first ≡ 34 → piece ≡ text_piece (quoted rest) → piece ≡ piece_at text
unfolding piece_at
text_is piece text rest first e mark is = rw (e, mark, is) refl

digit_alone : (first : ℕ) → is_ascii_digit first ≡ true → (is_blank first ≡ false) × (eqb first 35 ≡ false) × (eqb first 36 ≡ false) × (eqb first 34 ≡ false)
digit_alone first digit = (grind (arith, nat_tests), grind (arith, nat_tests), grind (arith, nat_tests), grind (arith, nat_tests))

pub number_is : (piece : Piece) (text rest : List ℕ) (first : ℕ) → text ≡ first ∷ rest → is_ascii_digit first ≡ true → piece ≡ number_piece text → piece ≡ piece_at text
unfolding piece_at
number_is piece text rest first e digit is =
    let alone = digit_alone first digit in
    let here : piece ≡ number_piece (first ∷ rest) = rw e at is in
    rw (e, alone.0, alone.1, alone.2, alone.3, digit, here) refl

word_alone : (first : ℕ) → is_word_byte first ≡ true → (is_blank first ≡ false) × (eqb first 35 ≡ false) × (eqb first 36 ≡ false) × (eqb first 34 ≡ false)
word_alone first word = (grind (arith, nat_tests), grind (arith, nat_tests), grind (arith, nat_tests), grind (arith, nat_tests))

pub word_is : (piece : Piece) (text rest : List ℕ) (first : ℕ) → text ≡ first ∷ rest → is_ascii_digit first ≡ false → is_word_byte first ≡ true → piece ≡ word_piece text → piece ≡ piece_at text
unfolding piece_at
word_is piece text rest first e digit word is =
    let alone = word_alone first word in
    let here : piece ≡ word_piece (first ∷ rest) = rw e at is in
    rw (e, alone.0, alone.1, alone.2, alone.3, word, digit, here) refl

pub symbol_is : (piece : Piece) (text rest : List ℕ) (first : ℕ) → text ≡ first ∷ rest → is_blank first ≡ false → first ≢ 35 → first ≢ 36 → first ≢ 34
    → is_ascii_digit first ≡ false → is_word_byte first ≡ false → piece ≡ symbol_piece text → piece ≡ piece_at text
unfolding piece_at
symbol_is piece text rest first e blank no_comment no_column no_text digit word is =
    let a = ne_eqb first 35 no_comment in
    let b = ne_eqb first 36 no_column in
    let d = ne_eqb first 34 no_text in
    let here : piece ≡ symbol_piece (first ∷ rest) = rw e at is in
    rw (e, blank, a, b, d, word, digit, here) refl

-- a text may be cut after a quote
pub boundary_after_quote : (text bytes left rest : List ℕ) (at first : ℕ) → IsUtf8 text → at < length text → bytes ≡ text → left ≡ drop at bytes
    → left ≡ first ∷ rest → first ≡ 34 → IsCharBoundary text (at + 1)
boundary_after_quote text bytes left rest at first utf8 inside is_text is_left e quote =
    let here : get_or text at 0 ∷ drop (at + 1) text ≡ first ∷ rest = sym (drop_more text at 0 inside) ∙ (ap (drop at) (sym is_text) ∙ (sym is_left ∙ e)) in
    let byte : get_or text at 0 ≡ first = cc in
    IsCharBoundary-after_ascii text at utf8 inside (omega arith)

pub rest_after_quote : (text bytes left rest : List ℕ) (at first : ℕ) → at < length text → bytes ≡ text → left ≡ drop at bytes → left ≡ first ∷ rest
    → rest ≡ drop (at + 1) text
rest_after_quote text bytes left rest at first inside is_text is_left e =
    let here : get_or text at 0 ∷ drop (at + 1) text ≡ first ∷ rest = sym (drop_more text at 0 inside) ∙ (ap (drop at) (sym is_text) ∙ (sym is_left ∙ e)) in
    cc
