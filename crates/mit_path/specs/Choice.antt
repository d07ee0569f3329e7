-- Choice: which bag an operator takes at a place of the path. A path is the list of the blocks entered, and its places are counted from 0.
use Rattle.std.specs.Prelude.{◌==◌, ℕ, zero, suc, List, Bool, Option, Some, None, if◌then◌else◌, slice_index}
use Rattle.std.specs.List.{position_from}

-- the number of the first operand whose block this is
abbrev pub operand_of : List ℕ → ℕ → Option ℕ
operand_of operands block = position_from (λ operand. block == operand) 0 operands

-- the operand that a place belongs to, with the place; where it belongs to none, what was found before it
abbrev pub found_or : Option ℕ → ℕ → Option (ℕ × ℕ) → Option (ℕ × ℕ)
found_or None place earlier = earlier
found_or (Some operand) place earlier = Some (operand, place)

-- the last place below this one that is a place of any operand's block, and which operand's
unfoldable pub last_below : List ℕ → List ℕ → ℕ → Option (ℕ × ℕ)
last_below path operands zero = None
last_below path operands (suc place) = found_or (operand_of operands (slice_index path place)) place (last_below path operands place)

-- an input takes the bag of the last place at or before `at` that is one of its source's block; a phi, of the last place before `at` that is one of any operand's block
abbrev pub chosen_operand : List ℕ → List ℕ → ℕ → Bool → Option (ℕ × ℕ)
chosen_operand path operands at phi = last_below path operands (if phi then at else suc at)
