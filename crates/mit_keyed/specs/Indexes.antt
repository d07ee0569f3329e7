-- Devices of the proofs: nobody has to believe them. An index of a join's left rows, and what it finds.
use Rattle.std.specs.Prelude.{◌≡◌, ◌<◌, ◌≤◌, ◌+◌, ◌-◌, ◌==◌, ℕ, Bool, List, [], ◌∷◌, ◌++◌, length, map, take, if◌then◌else◌, slice_index_or, nat_eq}
use Rattle.std.specs.List.{All, filter}
use Rattle.std.specs.Map.{lookup}
use Rattle.std.specs.Option.{unwrap_or}
use Rattle.mit_rows.specs.Bags.{RowOf}
use Rattle.mit_rows.specs.declared.row.TheConstants.{MAX_COLUMNS}
use Rattle.mit_ops.specs.Forms.{same_row, with_key}
use Rattle.mit_ops.specs.Keys.{key_hash, key_of}
use Rattle.mit_keyed.specs.declared.index.Index.{Index}

-- places but for the last one
abbrev pub without_last : List ℕ → List ℕ
without_last places = take (length places - 1) places

-- the places of a hash
abbrev pub places_of : Index → ℕ → List ℕ
places_of index hash = unwrap_or (lookup (nat_eq hash) index.places.entries) []

-- a place was noted at a hash, and nothing else changed
abbrev pub Notes : Index → Index → ℕ → ℕ → Type 0
Notes before after hash place = (other : ℕ) → places_of after other ≡ (if other == hash then places_of before hash ++ place ∷ [] else places_of before other)

-- the rows at these places
abbrev pub rows_at_places : List RowOf → List ℕ → List RowOf
rows_at_places rows places = map (λ place. slice_index_or rows place []) places

-- the left rows with the key of a right one, each followed by it
abbrev pub matches_of : List ℕ → List ℕ → List RowOf → RowOf → List RowOf
matches_of left right lefts row = map (λ before. before ++ row) (with_key (key_of left) (key_of right row) lefts)

-- the rows whose keys have this hash
abbrev pub with_hash : List ℕ → ℕ → List RowOf → List RowOf
with_hash columns hash rows = filter (λ row. hash == key_hash (key_of columns row)) rows

-- for each hash, the places of those of these rows whose keys have it, in their order
pub record IsIndex (columns : List ℕ) (rows : List RowOf) (index : Index) : Type 0 where
  pub found : (hash : ℕ) → rows_at_places rows (places_of index hash) ≡ with_hash columns hash rows
  pub within : (hash : ℕ) → All (λ place. place < length rows) (places_of index hash)

-- ---- pairs of a left row and a right one
-- these left rows, each with a right one
abbrev pub pairs_with : RowOf → List RowOf → List (RowOf × RowOf)
pairs_with row lefts = map (λ before. (before, row)) lefts

-- the left rows at the hash of a right row's key, each with it
abbrev pub pairs_by_hash : Index → List RowOf → List ℕ → RowOf → List (RowOf × RowOf)
pairs_by_hash index lefts right row = pairs_with row (rows_at_places lefts (places_of index (key_hash (key_of right row))))

-- both rows have the same key
abbrev pub has_one_key : List ℕ → List ℕ → RowOf × RowOf → Bool
has_one_key left right pair = same_row (key_of right pair.1) (key_of left pair.0)

-- both rows are one row together
abbrev pub IsNarrow : RowOf × RowOf → Type 0
IsNarrow pair = length pair.0 + length pair.1 ≤ MAX_COLUMNS

-- the left row followed by the right one
abbrev pub joined_row : RowOf × RowOf → RowOf
joined_row pair = pair.0 ++ pair.1
