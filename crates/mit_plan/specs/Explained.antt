-- What the laws of held parts say of a history.
use Rattle.std.specs.Prelude.{◌≡◌, ◌<◌, ℕ, List, ◌++◌, length, map, slice_index}
use Rattle.std.specs.List.{range_with_len}
use Rattle.mit_plan.specs.Held.{History, Job, Part, part, row_at}
use Rattle.mit_plan.specs.Plans.{block_at}

-- the longer history begins with the shorter one
pub record Extends (one other : History) : Type 0 where
  pub more : List ℕ
  pub made : List (List (List Part))
  pub path : other.path ≡ one.path ++ more
  pub parts : other.parts ≡ one.parts ++ made

-- at each place of the history, each operator of the block there has the parts to which the history itself leads
abbrev pub Explained : Job → History → Type 0
Explained job history = (place index : ℕ) → place < length history.path → index < (block_at job.plan (slice_index history.path place)).count
    → row_at history place index ≡ map (part job history place index) (range_with_len 0 job.partitions)
