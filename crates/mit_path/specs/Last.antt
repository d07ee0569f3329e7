-- Choice in other words: the last place that fits.
use Rattle.std.specs.Prelude.{◌≡◌, ◌<◌, ℕ, List, Some, None, slice_index}
use Rattle.mit_path.specs.Choice.{operand_of}

-- this choice, an operand and a place, is below the bound, the place is one of the operand's block, and no place after it is one of any operand's block
pub record IsLast (path operands : List ℕ) (bound : ℕ) (choice : ℕ × ℕ) : Type 0 where
  pub below : choice.1 < bound
  pub is : operand_of operands (slice_index path choice.1) ≡ Some choice.0
  pub last : (later : ℕ) → choice.1 < later → later < bound → operand_of operands (slice_index path later) ≡ None

-- no place below the bound is one of an operand's block
abbrev pub HasNone : List ℕ → List ℕ → ℕ → Type 0
HasNone path operands bound = (place : ℕ) → place < bound → operand_of operands (slice_index path place) ≡ None
