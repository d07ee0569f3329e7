-- How many actions a run of a plan takes at most.
use Rattle.std.specs.Prelude.{ℕ, ◌+◌, ◌*◌, ◌-◌, ◌^◌, length, min}
use Rattle.mit_plan.specs.Plans.{PlanOf}

-- how many places a path has at most: after each decision, and at the start, as many as there are blocks
abbrev pub most_places : PlanOf → ℕ → ℕ
most_places plan decisions = (decisions + 1) * length plan.blocks

-- at each place each partition learns the block, makes each operator's part and is heard of it, and takes a bag of each edge from each
-- partition
abbrev pub most_actions : PlanOf → ℕ → ℕ → ℕ
most_actions plan decisions parts = most_places plan decisions * parts * (1 + 2 * length plan.ops + length plan.edges * parts)

-- the number, or the greatest one of 64 bits where it is larger
abbrev pub bound_of : PlanOf → ℕ → ℕ → ℕ
bound_of plan decisions parts = min (most_actions plan decisions parts) (2 ^ 64 - 1)
