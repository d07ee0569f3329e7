-- How a loop reads a quoted text part by part.
use Rattle.std.proofs.Common.{◌≡◌, ℕ, suc, ◌+◌, ◌<◌, ◌≤◌, true, false, List, [], ◌∷◌, ◌++◌, length, take, drop, get_or, Option, Some, None, ◌==◌, ◌||◌, eqb, refl, sym, ap, ◌∙◌, arith, inl, inr, zero-add}
use Rattle.std.specs.Option.{option_map}
use Rattle.std.specs.List.{list_all, prefix_len}
use Rattle.std.specs.Char.{encode_utf8}
use Rattle.std.specs.Str.{IsCharBoundary, IsUtf8}
use Rattle.std.proofs.lemmas.Bool.{and_parts, cases_Bool, cases_lt, eqb-true}
use Rattle.std.proofs.lemmas.Bool.Decides.{nat_tests}
use Rattle.std.proofs.lemmas.List.{append_assoc, append-nil, take-append-drop}
use Rattle.std.proofs.lemmas.List.Folds.{length-prefix_len}
use Rattle.std.proofs.lemmas.Str.{IsCharBoundary-after_ascii, IsCharBoundary-before_ascii, IsCharBoundary-end}
use Rattle.mit_lex.proofs.Runs.{Stops, run_passes, run_stops, stops_at}
use Rattle.mit_lex.specs.Pieces.{escaped, quoted, with_byte}
use Rattle.mit_lex.specs.Quotes.{escape_at, is_closed, is_plain}

-- what was read before and what is read later
abbrev pub after : List ℕ → ℕ → Option (List ℕ × ℕ) → Option (List ℕ × ℕ)
after kept size later = option_map (λ read. (kept ++ read.0, size + read.1)) later

pub after_nothing : (later : Option (List ℕ × ℕ)) → after [] 0 later ≡ later
after_nothing None = refl
after_nothing (Some read) = ap (λ (n : ℕ). Some (read.0, n)) (zero-add read.1)

after_after : (a b : List ℕ) (m n : ℕ) (later : Option (List ℕ × ℕ)) → after a m (after b n later) ≡ after (a ++ b) (m + n) later
after_after a b m n None = refl
after_after a b m n (Some read) =
    let bytes : a ++ (b ++ read.0) ≡ (a ++ b) ++ read.0 = sym (append_assoc a b read.0) in
    let size : m + (n + read.1) ≡ (m + n) + read.1 = omega arith in
    rw (bytes, size) refl

with_is_after : (byte size : ℕ) (later : Option (List ℕ × ℕ)) → with_byte byte size later ≡ after (byte ∷ []) size later
with_is_after byte size None = refl
with_is_after byte size (Some read) = refl

-- ---- the parts

no_quote : (byte : ℕ) → is_plain byte ≡ true → eqb byte 34 ≡ false
no_quote byte plain = grind (arith, nat_tests)

no_escape : (byte : ℕ) → is_plain byte ≡ true → eqb byte 92 ≡ false
no_escape byte plain = grind (arith, nat_tests)

no_line_end : (byte : ℕ) → is_plain byte ≡ true → ((byte == 10) || (byte == 13)) ≡ false
no_line_end byte plain = grind (arith, nat_tests)

pub quoted_plain : (byte : ℕ) (rest : List ℕ) → is_plain byte ≡ true → quoted (byte ∷ rest) ≡ with_byte byte 1 (quoted rest)
unfolding quoted
quoted_plain byte [] plain = rw (no_quote byte plain) refl
quoted_plain byte (next ∷ rest) plain = rw (no_quote byte plain, no_escape byte plain, no_line_end byte plain) refl

first_size : (byte : ℕ) (run : List ℕ) (later : Option (List ℕ × ℕ)) → after (byte ∷ []) 1 (after run (length run) later) ≡ after (byte ∷ run) (length (byte ∷ run)) later
first_size byte run later = let size : 1 + length run ≡ suc (length run) = omega arith in rw (after_after (byte ∷ []) run 1 (length run) later, size) refl

quoted_run : (run rest : List ℕ) → list_all is_plain run ≡ true → quoted (run ++ rest) ≡ after run (length run) (quoted rest)
quoted_run [] rest plain = sym (after_nothing (quoted rest))
quoted_run (byte ∷ run) rest plain =
    let parts = and_parts (is_plain byte) (list_all is_plain run) plain in
    quoted_plain byte (run ++ rest) parts.0
    ∙ (with_is_after byte 1 (quoted (run ++ rest)) ∙ (ap (after (byte ∷ []) 1) (quoted_run run rest parts.1) ∙ first_size byte run (quoted rest)))

pub quoted_close : (rest : List ℕ) → quoted (34 ∷ rest) ≡ Some ([], 1)
unfolding quoted
quoted_close [] = refl
quoted_close (next ∷ rest) = refl

-- a run of plain bytes first
pub plain_step : (text kept left : List ℕ) (size n : ℕ) → quoted text ≡ after kept size (quoted left) → n ≡ prefix_len is_plain left
    → quoted text ≡ after (kept ++ take n left) (size + n) (quoted (drop n left))
plain_step text kept left size n so_far e =
    let run = quoted_run (take n left) (drop n left) (rw e (run_passes is_plain left)) in
    let len : length (take n left) ≡ n = rw e (length-prefix_len is_plain left) in
    let here : quoted left ≡ after (take n left) n (quoted (drop n left)) = rw (take-append-drop n left, len) at run in
    so_far ∙ (ap (after kept size) here ∙ after_after kept (take n left) size n (quoted (drop n left)))

-- then the last quote
closed_is : (rest : List ℕ) → is_closed rest ≡ true → quoted rest ≡ Some ([], 1)
closed_is [] closed = cc
closed_is (byte ∷ rest) closed = rw (eqb-true byte 34 closed) (quoted_close rest)

pub close_step : (text kept rest : List ℕ) (size : ℕ) → quoted text ≡ after kept size (quoted rest) → is_closed rest ≡ true → Some (kept, size + 1) ≡ quoted text
close_step text kept rest size so_far closed =
    sym (so_far ∙ (ap (after kept size) (closed_is rest closed) ∙ ap (λ (bytes : List ℕ). Some (bytes, size + 1)) (append-nil kept)))

-- or an escape
escape_is : (text : List ℕ) (meant : ℕ) → escape_at text ≡ Some meant → quoted text ≡ after (meant ∷ []) 2 (quoted (drop 2 text))
unfolding quoted
escape_is [] meant e = cc
escape_is (byte ∷ []) meant e = cc
escape_is (byte ∷ next ∷ rest) meant e =
    elim (cases_Bool (eqb byte 92)) [
      | inl here ↦
          let quote : eqb byte 34 ≡ false = grind (arith, nat_tests) in
          let means : escaped next ≡ Some meant = rw here at e in
          rw (quote, here, means) (with_is_after meant 2 (quoted rest))
      | inr other ↦ let none : ◌≡◌ {A = Option ℕ} None (Some meant) = rw other at e in cc
    ]

pub escape_step : (text kept rest : List ℕ) (size meant : ℕ) → quoted text ≡ after kept size (quoted rest) → escape_at rest ≡ Some meant
    → quoted text ≡ after (kept ++ meant ∷ []) (size + 2) (quoted (drop 2 rest))
escape_step text kept rest size meant so_far e =
    so_far ∙ (ap (after kept size) (escape_is rest meant e) ∙ after_after kept (meant ∷ []) size 2 (quoted (drop 2 rest)))

-- or no more
none_is : (left : List ℕ) → Stops is_plain left → is_closed left ≡ false → escape_at left ≡ None → quoted left ≡ None
unfolding quoted
none_is [] stops quote e = refl
none_is (byte ∷ []) stops quote e = rw quote refl
none_is (byte ∷ next ∷ rest) stops quote e =
    elim (cases_Bool (eqb byte 92)) [
      | inl here ↦ let means : escaped next ≡ None = rw here at e in rw (quote, here, means) refl
      | inr plain ↦ let line : ((byte == 10) || (byte == 13)) ≡ true = grind (arith, nat_tests) in rw (quote, plain, line) refl
    ]

pub none_step : (text kept left : List ℕ) (size n : ℕ) → quoted text ≡ after kept size (quoted (drop n left)) → n ≡ prefix_len is_plain left
    → is_closed (drop n left) ≡ false → escape_at (drop n left) ≡ None → quoted text ≡ None
none_step text kept left size n so_far is_run quote e =
    so_far ∙ ap (after kept size) (none_is (drop n left) (rw is_run (run_stops is_plain left)) quote e)

-- ---- where the text is cut

not_plain_ascii : (byte : ℕ) → is_plain byte ≡ false → byte < 128
not_plain_ascii byte plain = grind (arith, nat_tests)

pub boundary_after_run : (left : List ℕ) (n : ℕ) → n ≡ prefix_len is_plain left → n ≤ length left → IsCharBoundary left n
boundary_after_run left n e fits =
    elim (cases_lt n (length left)) [
      | inl inside ↦ IsCharBoundary-before_ascii left n inside (not_plain_ascii (get_or left n 0) (rw e (stops_at is_plain left (rw e at inside))))
      | inr end ↦ let whole : n ≡ length left = omega arith in rw whole (IsCharBoundary-end left)
    ]

escaped_ascii : (byte meant : ℕ) → escaped byte ≡ Some meant → (byte < 128) × (meant < 128)
escaped_ascii byte meant e = grind (arith, nat_tests)

pub escape_ascii : (text : List ℕ) (meant : ℕ) → escape_at text ≡ Some meant → (1 < length text) × (get_or text 1 0 < 128) × (meant < 128)
escape_ascii [] meant e = cc
escape_ascii (byte ∷ []) meant e = cc
escape_ascii (byte ∷ next ∷ rest) meant e =
    elim (cases_Bool (eqb byte 92)) [
      | inl here ↦ let both = escaped_ascii next meant (rw here at e) in (omega arith, both.0, both.1)
      | inr other ↦ let none : ◌≡◌ {A = Option ℕ} None (Some meant) = rw other at e in cc
    ]

pub boundary_after_escape : (text : List ℕ) (meant : ℕ) → IsUtf8 text → escape_at text ≡ Some meant → IsCharBoundary text 2
boundary_after_escape text meant utf8 e =
    let facts = escape_ascii text meant e in IsCharBoundary-after_ascii text 1 utf8 facts.0 facts.1

-- ---- the same at the values of the loop

pub run_read : (text kept left bytes plain rest more : List ℕ) (size n : ℕ) → quoted text ≡ after kept size (quoted left) → bytes ≡ left
    → n ≡ prefix_len is_plain bytes → plain ≡ take n left → rest ≡ drop n left → more ≡ kept ++ plain
    → quoted text ≡ after more (size + length plain) (quoted rest)
run_read text kept left bytes plain rest more size n so_far is_left e is_plain_run is_rest is_more =
    let run = rw is_left at e in
    let len : length plain ≡ n = ap (λ (xs : List ℕ). length xs) is_plain_run ∙ rw run (length-prefix_len is_plain left) in
    rw (is_more, len, is_plain_run, is_rest) (plain_step text kept left size n so_far run)

pub run_boundary : (left bytes : List ℕ) (n : ℕ) → bytes ≡ left → n ≡ prefix_len is_plain bytes → n ≤ length bytes → IsCharBoundary left n
run_boundary left bytes n is_left e fits = rw (← is_left) (boundary_after_run bytes n e fits)

pub escape_read : (text kept rest bytes more left : List ℕ) (size meant : ℕ) → quoted text ≡ after kept size (quoted rest) → bytes ≡ rest
    → escape_at bytes ≡ Some meant → more ≡ kept ++ encode_utf8 meant → (meant < 128 → encode_utf8 meant ≡ meant ∷ []) → left ≡ drop 2 rest
    → quoted text ≡ after more (size + 2) (quoted left)
escape_read text kept rest bytes more left size meant so_far is_rest e is_more ascii is_left =
    let here = rw is_rest at e in
    let byte : encode_utf8 meant ≡ meant ∷ [] = ascii (escape_ascii rest meant here).2 in
    rw (is_more, byte, is_left) (escape_step text kept rest size meant so_far here)

pub escape_boundary : (rest bytes : List ℕ) (meant : ℕ) → bytes ≡ rest → IsUtf8 bytes → escape_at bytes ≡ Some meant → IsCharBoundary rest 2
escape_boundary rest bytes meant is_rest utf8 e = rw (← is_rest) (boundary_after_escape bytes meant utf8 e)

pub end_read : (text kept rest bytes shown : List ℕ) (size : ℕ) → quoted text ≡ after kept size (quoted rest) → bytes ≡ rest
    → is_closed bytes ≡ true → shown ≡ kept → Some (shown, size + 1) ≡ quoted text
end_read text kept rest bytes shown size so_far is_rest closed is_shown =
    rw is_shown (close_step text kept rest size so_far (rw is_rest at closed))

pub refusal_read : (text kept left bytes rest first second : List ℕ) (size n : ℕ) → quoted text ≡ after kept size (quoted rest) → bytes ≡ left
    → n ≡ prefix_len is_plain bytes → rest ≡ drop n left → first ≡ rest → second ≡ rest → is_closed first ≡ false → escape_at second ≡ None
    → quoted text ≡ None
refusal_read text kept left bytes rest first second size n so_far is_left e is_rest is_first is_second quote none =
    none_step text kept left size n (rw is_rest at so_far) (rw is_left at e) (rw (is_first, is_rest) at quote) (rw (is_second, is_rest) at none)
