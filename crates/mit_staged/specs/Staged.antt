-- The writes of a run until they are its files, in rising order of their places in the run and of their indexes there.
use Rattle.std.specs.Prelude.{◌≡◌, ℕ, List, [], ◌∷◌, Bool, false, if◌then◌else◌, nat_lt, ◌==◌, ◌&&◌, ◌||◌, map}
use Rattle.std.specs.List.{list_any}
use Rattle.mit_rows.specs.Bags.{BagOf}
use Rattle.mit_files.specs.Printed.{Write}

-- a pair of place and index, and what was written: the name and the bag
abbrev pub Put : Type 0
Put = (ℕ × ℕ) × (List ℕ × BagOf)

-- a pair is below another: by the place first, and then by the index
abbrev pub is_below : ℕ × ℕ → ℕ × ℕ → Bool
is_below pair other = nat_lt pair.0 other.0 || ((pair.0 == other.0) && nat_lt pair.1 other.1)

-- a put in its place among rising ones
unfoldable pub with_put : Put → List Put → List Put
with_put put [] = put ∷ []
with_put put (next ∷ rest) = if is_below put.0 next.0 then put ∷ next ∷ rest else next ∷ with_put put rest

-- no put has this pair
abbrev pub IsFree : List Put → ℕ × ℕ → Type 0
IsFree puts pair = list_any (λ put. (put.0.0 == pair.0) && (put.0.1 == pair.1)) puts ≡ false

-- what was written, in that order
abbrev pub writes_put : List Put → List Write
writes_put puts = map (λ put. record { name = put.1.0; bag = put.1.1 }) puts
