-- Runs of bytes that pass a test, at the front of a text.
use Rattle.std.proofs.Common.{◌≡◌, ℕ, suc, ◌+◌, ◌<◌, List, [], ◌∷◌, Bool, true, false, take, drop, length, get_or, refl, arith, inl, inr}
use Rattle.std.proofs.lemmas.Bool.{and_parts, cases_Bool}
use Rattle.std.proofs.lemmas.Bool.Decides.{nat_tests}
use Rattle.std.proofs.lemmas.Str.Ascii.{IsAscii-cons, IsAscii-nil}
use Rattle.std.specs.List.{list_all, prefix_len}
use Rattle.std.specs.Bool.{⊤}
use Rattle.std.specs.Str.{IsAscii}
use Rattle.std.specs.Char.{is_ascii_digit}
use Rattle.mit_lex.specs.Pieces.{is_word_byte}

-- the longest run passes
pub run_passes : (p : ℕ → Bool) (xs : List ℕ) → list_all p (take (prefix_len p xs) xs) ≡ true
run_passes p [] = refl
run_passes p (x ∷ xs) =
    let one : 1 + prefix_len p xs ≡ suc (prefix_len p xs) = omega arith in
    elim (cases_Bool (p x)) [ inl passes ↦ rw (passes, one, passes) (run_passes p xs) | inr fails ↦ rw fails refl ]

pub digits_pass : (n : ℕ) (text : List ℕ) → n ≡ prefix_len is_ascii_digit text → list_all is_ascii_digit (take n text) ≡ true
digits_pass n text e = rw e (run_passes is_ascii_digit text)

word_byte_ascii : (byte : ℕ) → is_word_byte byte ≡ true → byte < 128
word_byte_ascii byte word = grind (arith, nat_tests)

-- bytes that pass a test which ASCII alone passes
pub passing_ascii : (p : ℕ → Bool) → ((byte : ℕ) → p byte ≡ true → byte < 128) → (bytes : List ℕ) → list_all p bytes ≡ true → IsAscii bytes
passing_ascii p ascii [] all = IsAscii-nil
passing_ascii p ascii (byte ∷ bytes) all =
    let parts = and_parts (p byte) (list_all p bytes) all in
    IsAscii-cons byte bytes (ascii byte parts.0) (passing_ascii p ascii bytes parts.1)

pub all_ascii : (bytes : List ℕ) → list_all is_word_byte bytes ≡ true → IsAscii bytes
all_ascii = passing_ascii is_word_byte word_byte_ascii

pub word_ascii : (n : ℕ) (text : List ℕ) → n ≡ prefix_len is_word_byte text → IsAscii (take n text)
word_ascii n text e = rw e (all_ascii (take (prefix_len is_word_byte text) text) (run_passes is_word_byte text))

-- the list does not begin with a byte that passes
abbrev pub Stops : (ℕ → Bool) → List ℕ → Type 0
Stops p [] = ⊤
Stops p (byte ∷ rest) = p byte ≡ false

-- what follows the longest run stops
pub run_stops : (p : ℕ → Bool) (xs : List ℕ) → Stops p (drop (prefix_len p xs) xs)
run_stops p [] = tt
run_stops p (x ∷ xs) =
    let one : 1 + prefix_len p xs ≡ suc (prefix_len p xs) = omega arith in
    elim (cases_Bool (p x)) [ inl passes ↦ rw (passes, one) (run_stops p xs) | inr fails ↦ rw fails fails ]

pub stops_at : (p : ℕ → Bool) (xs : List ℕ) → prefix_len p xs < length xs → p (get_or xs (prefix_len p xs) 0) ≡ false
stops_at p [] inside = absurd (omega arith)
stops_at p (x ∷ xs) inside =
    let one : 1 + prefix_len p xs ≡ suc (prefix_len p xs) = omega arith in
    elim (cases_Bool (p x)) [
      | inl passes ↦ let more = rw passes at inside in rw (passes, one) (stops_at p xs (omega arith))
      | inr fails ↦ rw fails fails
    ]
