-- What is chosen is the last place that fits.
use Rattle.std.proofs.Common.{◌≡◌, ℕ, zero, suc, List, get_or, ap, ◌∙◌, refl, arith, inl, inr, Option, Some, None}
use Rattle.std.specs.Option.{MatchOption}
use Rattle.std.proofs.lemmas.Bool.{cases_lt}
use Rattle.mit_path.specs.Choice.{found_or, last_below, operand_of}
use Rattle.mit_path.specs.Last.{HasNone, IsLast}

-- with one place more, which is no operand's
no_operand : (path operands : List ℕ) (bound : ℕ) (found : Option (ℕ × ℕ)) → operand_of operands (get_or path bound 0) ≡ None
    → MatchOption found (HasNone path operands bound) (IsLast path operands bound) → MatchOption found (HasNone path operands (suc bound)) (IsLast path operands (suc bound))
no_operand path operands bound None none before = λ place lt. elim (cases_lt place bound) [
  | inl below ↦ before place below
  | inr here ↦ let same : place ≡ bound = omega arith in ap (λ (at : ℕ). operand_of operands (get_or path at 0)) same ∙ none
]
no_operand path operands bound (Some choice) none before = record {
  below = omega (arith, before.below);
  is = before.is;
  last = λ later after lt. elim (cases_lt later bound) [
    | inl below ↦ before.last later after below
    | inr here ↦ let same : later ≡ bound = omega arith in ap (λ (at : ℕ). operand_of operands (get_or path at 0)) same ∙ none
  ];
}

pub last_below_is : (path operands : List ℕ) (bound : ℕ) → MatchOption (last_below path operands bound) (HasNone path operands bound) (IsLast path operands bound)
unfolding last_below
last_below_is path operands zero = λ place lt. absurd (omega arith)
last_below_is path operands (suc bound) =
    elim (operand_of operands (get_or path bound 0)) as (λ here. operand_of operands (get_or path bound 0) ≡ here
    → MatchOption (found_or here bound (last_below path operands bound)) (HasNone path operands (suc bound)) (IsLast path operands (suc bound))) [
      | None ↦ λ none. no_operand path operands bound (last_below path operands bound) none (last_below_is path operands bound)
      | Some operand ↦ λ here. record { below = omega arith; is = here; last = λ later after lt. absurd (omega arith) }
    ] refl
