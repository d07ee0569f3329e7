-- How a loop reads the digits of a number.
use Rattle.std.proofs.Common.{◌≡◌, ℕ, ◌+◌, ◌*◌, ◌^◌, ◌<◌, ◌≤◌, true, List, [], ◌∷◌, length, get_or, drop, Option, Some, None, cond, leb, arith}
use Rattle.std.proofs.lemmas.Bool.{and_parts}
use Rattle.std.proofs.lemmas.Bool.Decides.{nat_tests}
use Rattle.std.proofs.lemmas.List.{drop_more, drop_all}
use Rattle.std.specs.List.{list_all}
use Rattle.std.specs.Char.{digit_value, is_ascii_digit}
use Rattle.std.specs.Str.Parse.{digits_value, digits_value_after}

-- the value so far and the digits left give the whole
pub record Reads (digits : List ℕ) (value : ℕ) (left : List ℕ) : Type 0 where
  pub whole : digits_value 10 digits ≡ digits_value_after 10 value left
  pub tests : list_all is_ascii_digit left ≡ true
  pub small : value ≤ 2 ^ 63

-- digits only raise a value
value_grows : (value : ℕ) (digits : List ℕ) → value ≤ digits_value_after 10 value digits
value_grows value [] = omega arith
value_grows value (c ∷ cs) = omega (arith, value_grows (value * 10 + digit_value c) cs)

pub reads_digit : (digits : List ℕ) (value i : ℕ) → i < length digits → Reads digits value (drop i digits) → is_ascii_digit (get_or digits i 0) ≡ true
reads_digit digits value i h r =
    (and_parts (is_ascii_digit (get_or digits i 0)) (list_all is_ascii_digit (drop (i + 1) digits)) (rw (drop_more digits i 0 h) at r.tests)).0

pub reads_more : (digits : List ℕ) (value next i : ℕ) → i < length digits → Reads digits value (drop i digits)
    → next ≡ value * 10 + digit_value (get_or digits i 0) → next ≤ 2 ^ 63 → Reads digits next (drop (i + 1) digits)
reads_more digits value next i h r e s = record {
  whole = rw e (rw (drop_more digits i 0 h) at r.whole);
  tests = (and_parts (is_ascii_digit (get_or digits i 0)) (list_all is_ascii_digit (drop (i + 1) digits)) (rw (drop_more digits i 0 h) at r.tests)).1;
  small = s;
}

abbrev pub number_in : List ℕ → Option ℕ
number_in digits = cond (leb (digits_value 10 digits) (2 ^ 63)) (Some (digits_value 10 digits)) None

none_of_size : (digits : List ℕ) → 2 ^ 63 < digits_value 10 digits → ◌≡◌ {A = Option ℕ} None (number_in digits)
none_of_size digits h = grind (arith, nat_tests)

some_of : (digits : List ℕ) (value : ℕ) → digits_value 10 digits ≡ value → value ≤ 2 ^ 63 → ◌≡◌ {A = Option ℕ} (Some value) (number_in digits)
some_of digits value e h = grind (arith, nat_tests)

pub none_beyond : (digits : List ℕ) (value i : ℕ) → i < length digits → Reads digits value (drop i digits)
    → 2 ^ 63 < value * 10 + digit_value (get_or digits i 0) → ◌≡◌ {A = Option ℕ} None (number_in digits)
none_beyond digits value i h r s =
    let whole = rw (drop_more digits i 0 h) at r.whole in
    none_of_size digits (omega (arith, whole, value_grows (value * 10 + digit_value (get_or digits i 0)) (drop (i + 1) digits)))

pub some_at_end : (digits : List ℕ) (value i : ℕ) → length digits ≤ i → Reads digits value (drop i digits) → ◌≡◌ {A = Option ℕ} (Some value) (number_in digits)
some_at_end digits value i h r = some_of digits value (rw (drop_all i digits h) at r.whole) r.small
