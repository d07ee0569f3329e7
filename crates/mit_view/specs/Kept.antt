-- Devices of the proofs: nobody has to believe them. What a view keeps beside its path: the places of each block.
use Rattle.std.specs.Prelude.{◌≡◌, ◌<◌, ◌≤◌, ℕ, List, [], length, slice_index, slice_index_or, Option, Some, None}

-- these places are those of this block
pub record ArePlaces (path : List ℕ) (block : ℕ) (places : List ℕ) : Type 0 where
  pub within : (k : ℕ) → k < length places → slice_index places k < length path
  pub entered : (k : ℕ) → k < length places → slice_index path (slice_index places k) ≡ block
  pub found : (at : ℕ) → at < length path → slice_index path at ≡ block → (k : ℕ) × (k < length places) × (slice_index places k ≡ at)

-- the list of each block has its places
pub record KeepsPlaces (path : List ℕ) (places : List (List ℕ)) : Type 0 where
  pub known : (at : ℕ) → at < length path → slice_index path at < length places
  pub each : (block : ℕ) → block < length places → ArePlaces path block (slice_index_or places block [])

-- the greatest of rising places that are below this one
pub record IsGreatestBelow (places : List ℕ) (bound : ℕ) (found : ℕ) : Type 0 where
  pub below : found < bound
  pub is : (k : ℕ) × (k < length places) × (slice_index places k ≡ found)
  pub others : (k : ℕ) → k < length places → slice_index places k < bound → slice_index places k ≤ found

abbrev pub IsLastBelow : List ℕ → ℕ → Option ℕ → Type 0
IsLastBelow places bound None = (k : ℕ) → k < length places → bound ≤ slice_index places k
IsLastBelow places bound (Some place) = IsGreatestBelow places bound place

-- the least of rising places that are at or after this one
pub record IsLeastFrom (places : List ℕ) (from : ℕ) (found : ℕ) : Type 0 where
  pub after : from ≤ found
  pub is : (k : ℕ) × (k < length places) × (slice_index places k ≡ found)
  pub others : (k : ℕ) → k < length places → from ≤ slice_index places k → found ≤ slice_index places k

abbrev pub IsFirstFrom : List ℕ → ℕ → Option ℕ → Type 0
IsFirstFrom places from None = (k : ℕ) → k < length places → slice_index places k < from
IsFirstFrom places from (Some place) = IsLeastFrom places from place
