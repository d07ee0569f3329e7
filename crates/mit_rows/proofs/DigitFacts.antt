-- How a loop reads the digits of a number.
use Rattle.std.proofs.Common.{◌≡◌, ℕ, ◌+◌, ◌*◌, ◌^◌, ◌<◌, ◌≤◌, ◌⊎◌, inl, inr, true, false, List, [], ◌∷◌, length, get_or, drop, Option, Some, None, refl, arith}
use Rattle.std.proofs.lemmas.Grind.{common_steps}
use Rattle.std.proofs.lemmas.List.{drop_more, drop_all, take_all, length-drop}
use Rattle.std.specs.List.{list_all}
use Rattle.std.specs.Char.{digit_value, is_ascii_digit}
use Rattle.std.specs.Str.Parse.{digits_value, digits_value_after, starts_with_minus}
use Rattle.std.specs.Prelude.{pos, neg_ℤ, take, ◌-◌, option_map}
use Rattle.mit_rows.specs.Integers.{int_of, magnitude}

-- the value so far and the digits left give the whole
pub record Reads (digits : List ℕ) (value : ℕ) (left : List ℕ) : Type 0 where
  pub tests : list_all is_ascii_digit digits ≡ list_all is_ascii_digit left
  pub whole : digits_value 10 digits ≡ digits_value_after 10 value left

-- digits only raise a value
value_grows : (value : ℕ) (digits : List ℕ) → value ≤ digits_value_after 10 value digits
value_grows value [] = omega arith
value_grows value (c ∷ cs) = omega (arith, value_grows (value * 10 + digit_value c) cs)

step : (digits : List ℕ) (value c : ℕ) (left : List ℕ) → Reads digits value (c ∷ left) → is_ascii_digit c ≡ true
    → Reads digits (value * 10 + digit_value c) left
step digits value c left r d = record { tests = rw d at r.tests; whole = r.whole }

pub reads_more : (digits : List ℕ) (value i : ℕ) → i < length digits → Reads digits value (drop i digits)
    → is_ascii_digit (get_or digits i 0) ≡ true → Reads digits (value * 10 + digit_value (get_or digits i 0)) (drop (i + 1) digits)
reads_more digits value i h r d = step digits value (get_or digits i 0) (drop (i + 1) digits) (rw (drop_more digits i 0 h) at r) d

-- what gives no number: no byte, a byte that is no digit, and a value beyond the most
pub none_of_empty : (most : ℕ) (digits : List ℕ) → length digits ≡ 0 → ◌≡◌ {A = Option ℕ} None (magnitude most digits)
unfolding magnitude
none_of_empty most digits h = grind (arith, common_steps)

none_of_tests : (most : ℕ) (digits : List ℕ) → list_all is_ascii_digit digits ≡ false → ◌≡◌ {A = Option ℕ} None (magnitude most digits)
unfolding magnitude
none_of_tests most digits h = grind (arith, common_steps)

none_of_size : (most : ℕ) (digits : List ℕ) → most < digits_value 10 digits → ◌≡◌ {A = Option ℕ} None (magnitude most digits)
unfolding magnitude
none_of_size most digits h = grind (arith, common_steps)

pub some_of : (most : ℕ) (digits : List ℕ) → 0 < length digits → list_all is_ascii_digit digits ≡ true → digits_value 10 digits ≤ most
    → Some (digits_value 10 digits) ≡ magnitude most digits
unfolding magnitude
some_of most digits n t s = grind (arith, common_steps)

pub reads_start : (digits : List ℕ) → Reads digits 0 (drop 0 digits)
reads_start digits = record { tests = refl; whole = refl }

-- a step that cannot be taken
none_step : (most : ℕ) (digits : List ℕ) (value c : ℕ) (left : List ℕ) → most < 2 ^ 64 → Reads digits value (c ∷ left)
    → (is_ascii_digit c ≡ false) ⊎ (2 ^ 64 ≤ value * 10 + digit_value c) → ◌≡◌ {A = Option ℕ} None (magnitude most digits)
none_step most digits value c left m r (inl d) = none_of_tests most digits (rw d at r.tests)
none_step most digits value c left m r (inr d) =
    none_of_size most digits (let grows = value_grows (value * 10 + digit_value c) left in omega (arith, r.whole))

pub reads_none : (most : ℕ) (digits : List ℕ) (value i : ℕ) → most < 2 ^ 64 → i < length digits → Reads digits value (drop i digits)
    → (is_ascii_digit (get_or digits i 0) ≡ false) ⊎ (2 ^ 64 ≤ value * 10 + digit_value (get_or digits i 0)) → ◌≡◌ {A = Option ℕ} None (magnitude most digits)
reads_none most digits value i m h r d = none_step most digits value (get_or digits i 0) (drop (i + 1) digits) m (rw (drop_more digits i 0 h) at r) d

-- a value of all digits
reads_all : (digits : List ℕ) (value : ℕ) → Reads digits value [] → (list_all is_ascii_digit digits ≡ true) × (digits_value 10 digits ≡ value)
reads_all digits value r = (r.tests, r.whole)

pub reads_end : (digits : List ℕ) (value i : ℕ) → length digits ≤ i → Reads digits value (drop i digits)
    → (list_all is_ascii_digit digits ≡ true) × (digits_value 10 digits ≡ value)
reads_end digits value i h r = reads_all digits value (rw (drop_all i digits h) at r)

pub some_of_all : (most : ℕ) (digits : List ℕ) (value i : ℕ) → 0 < length digits → length digits ≤ i → Reads digits value (drop i digits)
    → value ≤ most → Some value ≡ magnitude most digits
some_of_all most digits value i n h r s =
    let all = reads_end digits value i h r in let whole = some_of most digits n all.0 (rw all.1 s) in rw all.1 at whole

pub none_of_large : (most : ℕ) (digits : List ℕ) (value i : ℕ) → length digits ≤ i → Reads digits value (drop i digits)
    → most < value → ◌≡◌ {A = Option ℕ} None (magnitude most digits)
none_of_large most digits value i h r s = none_of_size most digits (rw (reads_end digits value i h r).1 s)

-- a text after its minus
pub below_is : (text : List ℕ) → 1 ≤ length text → true ≡ starts_with_minus text
    → option_map (λ size. neg_ℤ (pos size)) (magnitude (2 ^ 63) (take (length text - 1) (drop 1 text))) ≡ int_of text
unfolding int_of
below_is text n h =
    let all : take (length text - 1) (drop 1 text) ≡ drop 1 text = take_all _ (drop 1 text) (omega (arith, length-drop 1 text)) in
    rw (all, ← h) refl

-- a text with none
pub above_is : (text : List ℕ) → false ≡ starts_with_minus text → option_map pos (magnitude (2 ^ 63 - 1) text) ≡ int_of text
unfolding int_of
above_is text h = rw (← h) refl
