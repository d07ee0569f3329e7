-- Devices of the proofs: nobody has to believe them. Choice and fate from the places of one block after another.
use Rattle.std.specs.Prelude.{◌==◌, ℕ, zero, suc, List, Bool, Option, Some, None, if◌then◌else◌, nat_lt, slice_index, drop}
use Rattle.std.specs.List.{position_from}
use Rattle.mit_path.specs.declared.fate.Fate.{Fate}
use Rattle.mit_path.specs.declared.fate.Fate.TheVariants.{Send, Drop, Undecided}
use Rattle.mit_path.specs.Fate.{is_among}

-- the last place of a block below this place
unfoldable pub last_place : List ℕ → ℕ → ℕ → Option ℕ
last_place path block zero = None
last_place path block (suc place) = if slice_index path place == block then Some place else last_place path block place

-- the later of a choice and a place of the operand with this number; the choice where they are at one place
abbrev pub later : Option (ℕ × ℕ) → ℕ → Option ℕ → Option (ℕ × ℕ)
later best number None = best
later None number (Some place) = Some (number, place)
later (Some (taken, before)) number (Some place) = if nat_lt before place then Some (number, place) else Some (taken, before)

-- the first place of any of these blocks, at or after this place
abbrev pub next_among : List ℕ → List ℕ → ℕ → Option ℕ
next_among path blocks from = position_from (is_among blocks) from (drop from path)

abbrev pub earlier : Option ℕ → Option ℕ → Option ℕ
earlier None other = other
earlier (Some place) None = Some place
earlier (Some place) (Some other) = if nat_lt other place then Some other else Some place

-- which of a place of the target and a place of a source comes first
abbrev pub whichever : Option ℕ → Option ℕ → Bool → Fate
whichever None None complete = if complete then Drop else Undecided
whichever None (Some dropped) complete = Drop
whichever (Some sent) None complete = Send
whichever (Some sent) (Some dropped) complete = if nat_lt dropped sent then Drop else Send
