-- The word for a number of decisions, as an integer.
use Rattle.std.proofs.Common.{◌≡◌, ◌∙◌, ◌<◌, ◌≤◌, ◌&&◌, ℕ, List, [], ◌∷◌, length, refl, sym, ap, subst, arith, Bool, true, false, if◌then◌else◌, Option, Some, None, option_map, nat_le, nat_lt}
use Rattle.std.specs.Prelude.{ℤ, pos, neg_ℤ, ◌≤ℤ◌, ◌<ℤ◌, ◌-◌, ◌^◌, drop}
use lib.IntN.{nat_abs}
use Rattle.std.specs.Char.{is_ascii_digit}
use Rattle.std.specs.List.{list_all}
use Rattle.std.specs.Str.Parse.{digits_value, starts_with_minus}
use Rattle.std.proofs.lemmas.Bool.{and_parts, leb-true}
use Rattle.std.proofs.lemmas.Grind.{common_steps}
use Rattle.std.proofs.lemmas.Int.{ints}
use Rattle.std.proofs.lemmas.Option.{same_Some}
use Rattle.mit_rows.specs.Integers.{int_of, magnitude}
use Rattle.mit_words.specs.Words.{AreDecisions}
use Rattle.mit_words.specs.declared.words.TheConstants.{MAX_DECISIONS}

-- ---- digits

-- where a test guards a number that is there, the test holds
given_by : (test : Bool) (found number : ℕ) → (if test then Some found else None) ≡ Some number → (test ≡ true) × (found ≡ number)
given_by true found number is = (refl, same_Some found number is)
given_by false found number is = absurd cc

-- where digits have a value, they are one or more, and it is at most this
record Has (bound : ℕ) (digits : List ℕ) (value : ℕ) : Type 0 where
  some : 0 < length digits
  tests : list_all is_ascii_digit digits ≡ true
  most : value ≤ bound
  is : digits_value 10 digits ≡ value

has : (most : ℕ) (digits : List ℕ) (value : ℕ) → magnitude most digits ≡ Some value → Has most digits value
unfolding magnitude
has most digits value is =
    let held = given_by (nat_lt 0 (length digits) && list_all is_ascii_digit digits && nat_le (digits_value 10 digits) most) (digits_value 10 digits) value is in
    let parts = and_parts (nat_lt 0 (length digits) && list_all is_ascii_digit digits) (nat_le (digits_value 10 digits) most) held.0 in
    let first = and_parts (nat_lt 0 (length digits)) (list_all is_ascii_digit digits) parts.0 in
    record {
      some = grind (arith, common_steps, first.0);
      tests = first.1;
      most = subst (λ (v : ℕ). v ≤ most) held.1 (leb-true (digits_value 10 digits) most parts.1);
      is = held.1;
    }

-- the value is the same where more is allowed, or less that it still fits
magnitude_of : (most : ℕ) (digits : List ℕ) → 0 < length digits → list_all is_ascii_digit digits ≡ true → digits_value 10 digits ≤ most
    → magnitude most digits ≡ Some (digits_value 10 digits)
unfolding magnitude
magnitude_of most digits n t s = grind (arith, common_steps)

magnitude_moved : (most other : ℕ) (digits : List ℕ) (value : ℕ) → magnitude most digits ≡ Some value → value ≤ other → magnitude other digits ≡ Some value
magnitude_moved most other digits value is small =
    let found = has most digits value is in
    magnitude_of other digits found.some found.tests (omega (arith, found.is)) ∙ ap Some found.is

-- digits begin with no minus
no_minus : (digits : List ℕ) → 0 < length digits → list_all is_ascii_digit digits ≡ true → starts_with_minus digits ≡ false
no_minus [] some tests = absurd (omega (arith, some))
no_minus (c ∷ cs) some tests = grind (arith, common_steps)

-- ---- texts

-- a positive integer is one without a minus
below_zero : (size : ℕ) (number : ℤ) → neg_ℤ (pos size) ≡ number → pos 1 ≤ℤ number → ⊥
below_zero size number is one = grind arith

positive : (minus : Bool) (low high : Option ℕ) (number : ℤ) → (if minus then option_map (λ size. neg_ℤ (pos size)) low else option_map pos high) ≡ Some number
    → pos 1 ≤ℤ number → (size : ℕ) × (number ≡ pos size) × (high ≡ Some size)
positive true None high number is one = absurd cc
positive true (Some size) high number is one = absurd (below_zero size number (same_Some (neg_ℤ (pos size)) number is) one)
positive false low None number is one = absurd cc
positive false low (Some size) number is one = (size, sym (same_Some (pos size) number is), refl)

-- an integer from 1 to the most decisions is a number of decisions
pub number_given : (word : List ℕ) (number : ℤ) → int_of word ≡ Some number → pos 1 ≤ℤ number → number ≤ℤ pos MAX_DECISIONS → length word ≤ 20
    → (decisions : ℕ) × (number ≡ pos decisions) × AreDecisions word decisions
unfolding int_of
number_given word number is one most short =
    let size = positive (starts_with_minus word) (magnitude (2 ^ 63) (drop 1 word)) (magnitude (2 ^ 63 - 1) word) number is one in
    let low : pos 1 ≤ℤ pos size.0 = subst (λ (z : ℤ). pos 1 ≤ℤ z) size.1 one in
    let high : pos size.0 ≤ℤ pos MAX_DECISIONS = subst (λ (z : ℤ). z ≤ℤ pos MAX_DECISIONS) size.1 most in
    (size.0, size.1, (magnitude_moved (2 ^ 63 - 1) MAX_DECISIONS word size.0 size.2 (grind (arith, ints, high)), short, grind (arith, ints, low)))

-- and the other way
pub given_number : (word : List ℕ) (decisions : ℕ) → AreDecisions word decisions → (int_of word ≡ Some (pos decisions)) × (decisions ≤ MAX_DECISIONS)
unfolding int_of
given_number word decisions are =
    let found = has MAX_DECISIONS word decisions are.0 in (
      ap (λ (minus : Bool). if minus then option_map (λ size. neg_ℤ (pos size)) (magnitude (2 ^ 63) (drop 1 word)) else option_map pos (magnitude (2 ^ 63 - 1) word))
          (no_minus word found.some found.tests)
          ∙ ap (option_map pos) (magnitude_moved MAX_DECISIONS (2 ^ 63 - 1) word decisions are.0 (omega (arith, found.most))),
      found.most,
    )

-- the same of a number that is cast
pub same_number : (decisions : ℕ) (number cast : ℤ) → number ≡ pos decisions → cast ≡ number → nat_abs cast ≡ decisions
same_number decisions number cast is same = ap nat_abs (same ∙ is)

-- an integer that is none from 1 to the most decisions is no number of decisions
pub too_large : (word : List ℕ) (number : ℤ) (decisions : ℕ) → int_of word ≡ Some number → pos MAX_DECISIONS <ℤ number → ¬ AreDecisions word decisions
too_large word number decisions is large are =
    let given = given_number word decisions are in
    let same : number ≡ pos decisions = same_Some number (pos decisions) (sym is ∙ given.0) in
    let above : pos MAX_DECISIONS <ℤ pos decisions = subst (λ (z : ℤ). pos MAX_DECISIONS <ℤ z) same large in
    grind (arith, ints, above, given.1)

pub too_small : (word : List ℕ) (number : ℤ) (decisions : ℕ) → int_of word ≡ Some number → number <ℤ pos 1 → ¬ AreDecisions word decisions
too_small word number decisions is small are =
    let given = given_number word decisions are in
    let same : number ≡ pos decisions = same_Some number (pos decisions) (sym is ∙ given.0) in
    let below : pos decisions <ℤ pos 1 = subst (λ (z : ℤ). z <ℤ pos 1) same small in
    grind (arith, ints, below, are.2)

pub none_given : (word : List ℕ) (decisions : ℕ) → int_of word ≡ None → ¬ AreDecisions word decisions
none_given word decisions none are =
    let e = sym none ∙ (given_number word decisions are).0 in cc
