-- Devices of the proofs: nobody has to believe them. Which edges a plan keeps in the lists of its operators.
use Rattle.std.specs.Prelude.{◌≡◌, ◌<◌, ◌==◌, ◌^◌, ◌++◌, ◌∷◌, ℕ, List, [], length, slice_index_or, slice_set, if◌then◌else◌, nat_lt}
use Rattle.mit_plan.specs.Plans.{numbers_where}
use Rattle.mit_plan.specs.declared.plan.Edge.{Edge}
use Rattle.mit_plan.specs.declared.plan.PlanBlock.{PlanBlock}
use Rattle.mit_plan.specs.declared.plan.PlanOp.{PlanOp}

-- a number more in the list of this name, where there is one
abbrev pub added_to_list : List (List ℕ) → ℕ → ℕ → List (List ℕ)
added_to_list lists name number = if nat_lt name (length lists) then slice_set lists name (slice_index_or lists name [] ++ number ∷ []) else lists

-- for each name below a count, the list of the numbers of these edges by name
pub record AreLists (name_of : Edge → ℕ) (count : ℕ) (edges : List Edge) (lists : List (List ℕ)) : Type 0 where
  pub many : length lists ≡ count
  pub each : (op : ℕ) → op < count → slice_index_or lists op [] ≡ numbers_where (λ edge. name_of edge == op) 0 edges

-- what a plan keeps: its numbers are within 32 bits, and its lists are those of its operators
pub record IsKept (blocks : List PlanBlock) (ops : List PlanOp) (edges : List Edge) (into out : List (List ℕ)) : Type 0 where
  pub few_blocks : length blocks < 2 ^ 32
  pub few_ops : length ops < 2 ^ 32
  pub few_edges : length edges < 2 ^ 32
  pub lead_to : AreLists (λ edge. edge.to) (length ops) edges into
  pub leave : AreLists (λ edge. edge.from) (length ops) edges out
