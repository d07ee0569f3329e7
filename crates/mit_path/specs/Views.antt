-- Views: a path as far as it is known.
use Rattle.std.specs.Prelude.{◌==◌, ℕ, List, Option, drop}
use Rattle.std.specs.List.{position_from}

-- what contracts see of a view
pub record Seen : Type 0 where
  -- the blocks entered, in order
  pub path : List ℕ
  -- how many blocks there are to enter
  pub blocks : ℕ

-- the first place of a block, at or after this place
abbrev pub first_place_from : List ℕ → ℕ → ℕ → Option ℕ
first_place_from path block from = position_from (λ entered. entered == block) from (drop from path)
