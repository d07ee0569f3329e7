-- Fate: what becomes of the bag that an operator made at a place of the path, on an edge to a target, as far as the path tells. The sources of an edge are its operator's block and, where the edge is a phi's, the blocks of the phi's other operands.
use Rattle.std.specs.Prelude.{◌==◌, ℕ, suc, List, [], ◌∷◌, Bool, not, ◌&&◌, ◌||◌, if◌then◌else◌, drop}
use Rattle.std.specs.List.{list_any}
use Rattle.mit_path.specs.declared.fate.Fate.{Fate}
use Rattle.mit_path.specs.declared.fate.Fate.TheVariants.{Send, Drop, Undecided}

-- this block is one of these
abbrev pub is_among : List ℕ → ℕ → Bool
is_among blocks block = list_any (λ other. block == other) blocks

-- what the blocks after the bag's place decide, in the order in which they are entered: the first of the target sends the bag, and the first of a source drops it, whichever comes first; where neither comes, the bag is dropped if the path is complete
unfoldable pub first_decides : ℕ → List ℕ → Bool → List ℕ → Fate
first_decides target sources complete [] = if complete then Drop else Undecided
first_decides target sources complete (block ∷ later) =
    if block == target then Send else (if is_among sources block then Drop else first_decides target sources complete later)

-- an edge inside one block that is no phi's sends at once; any other goes by the blocks after the place
abbrev pub fate : List ℕ → ℕ → ℕ → ℕ → List ℕ → Bool → Bool → Fate
fate path source place target siblings phi complete =
    if not phi && (source == target) then Send else first_decides target (source ∷ siblings) complete (drop (suc place) path)

-- a bag is superseded where a source's block has a later place, or the path is complete
abbrev pub is_superseded : List ℕ → ℕ → ℕ → List ℕ → Bool → Bool
is_superseded path source place siblings complete = complete || list_any (is_among (source ∷ siblings)) (drop (suc place) path)
