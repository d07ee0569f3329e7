-- Devices of the proofs: nobody has to believe them. Places to choose, edge by edge and phi by phi, and the marks that decide them.
use Rattle.std.specs.Prelude.{◌≡◌, ◌<◌, ◌==◌, ◌&&◌, ℕ, List, [], ◌∷◌, Bool, true, false, not, IsSome, IsTrue, fold, length, slice_index, slice_set}
use Rattle.mit_path.specs.Choice.{chosen_operand}
use Rattle.mit_plan.specs.Paths.{IsPath}
use Rattle.mit_plan.specs.Plans.{EachEdge, PlanOf, edge_at, is_phi, op_at, source_block, target_block}
use Rattle.mit_plan.specs.Valid.{source_blocks}
use Rattle.mit_valid.specs.Searched.{is_marked}

-- wherever its target stands, if that is no phi, an edge has a place of its source
pub record EdgePasses (plan : PlanOf) (edge : ℕ) : Type 0 where
  pub chooses : is_phi (op_at plan (edge_at plan edge).to) ≡ false → (path : List ℕ) → IsPath plan path → (place : ℕ) → place < length path
      → target_block plan (edge_at plan edge) ≡ slice_index path place → IsSome (chosen_operand path (source_block plan (edge_at plan edge) ∷ []) place false)

-- so does each edge that leaves an operator of a block
pub record BlockPasses (plan : PlanOf) (block : ℕ) : Type 0 where
  pub each : EachEdge plan (λ edge. source_block plan (edge_at plan edge) ≡ block → EdgePasses plan edge)

-- wherever it stands, if it is a phi, an operator has a place of an operand
pub record PhiPasses (plan : PlanOf) (op : ℕ) : Type 0 where
  pub chooses : IsTrue (is_phi (op_at plan op)) → (path : List ℕ) → IsPath plan path → (place : ℕ) → place < length path
      → (op_at plan op).block ≡ slice_index path place → IsSome (chosen_operand path (source_blocks plan op) place true)

-- whether an edge leads to an operator, no phi, of a marked block other than this one
abbrev pub feeds : PlanOf → List Bool → ℕ → ℕ → Bool
feeds plan marks block edge =
    not (is_phi (op_at plan (edge_at plan edge).to)) && not (target_block plan (edge_at plan edge) == block)
    && is_marked marks (target_block plan (edge_at plan edge))

-- an edge of that kind leaves an operator of the block
pub record BlockFeeds (plan : PlanOf) (marks : List Bool) (block : ℕ) : Type 0 where
  pub edge : ℕ
  pub below : edge < length plan.edges
  pub from_block : source_block plan (edge_at plan edge) ≡ block
  pub leads : feeds plan marks block edge ≡ true

-- with the blocks marked from which these edges come
abbrev pub sources_marked : PlanOf → List Bool → List ℕ → List Bool
sources_marked plan marks edges = fold (λ marks edge. slice_set marks (source_block plan (edge_at plan edge)) true) marks edges
