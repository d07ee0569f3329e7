-- Plans: blocks of operators and the edges between these, and what everything looks up in them. All are numbered from 0.
use Rattle.std.specs.Prelude.{◌==◌, ◌<◌, ℕ, suc, List, [], ◌∷◌, length, map, Bool, if◌then◌else◌, nat_lt, slice_index_or}
use Rattle.mit_ops.specs.declared.kinds.OpSpec.TheVariants.{Copy}
use Rattle.mit_ops.specs.declared.leave.Leave.TheVariants.{End}
use Rattle.mit_ops.specs.declared.routes.Route.TheVariants.{Forward}
use Rattle.mit_plan.specs.declared.plan.Edge.{Edge}
use Rattle.mit_plan.specs.declared.plan.PlanBlock.{PlanBlock}
use Rattle.mit_plan.specs.declared.plan.PlanOp.{PlanOp}

-- a plan
pub record PlanOf : Type 0 where
  pub blocks : List PlanBlock
  pub ops : List PlanOp
  pub edges : List Edge

-- what stands at a number of no block, operator or edge, so that a look-up always gives one
abbrev pub no_block : PlanBlock
no_block = record { first = 0; count = 0; leave = End }

abbrev pub no_op : PlanOp
no_op = record { block = 0; index = 0; statement = 0; spec = Copy; phi = 0 }

abbrev pub no_edge : Edge
no_edge = record { from = 0; to = 0; input = 0; route = Forward }

-- the block, the operator and the edge of a number
abbrev pub block_at : PlanOf → ℕ → PlanBlock
block_at plan block = slice_index_or plan.blocks block no_block

abbrev pub op_at : PlanOf → ℕ → PlanOp
op_at plan op = slice_index_or plan.ops op no_op

abbrev pub edge_at : PlanOf → ℕ → Edge
edge_at plan edge = slice_index_or plan.edges edge no_edge

-- the numbers, counted from this one, of those of these that pass
unfoldable pub numbers_where : {A : Type 0} → (A → Bool) → ℕ → List A → List ℕ
numbers_where passes number [] = []
numbers_where passes number (one ∷ more) =
    if passes one then number ∷ numbers_where passes (suc number) more else numbers_where passes (suc number) more

-- the numbers of the edges that lead to an operator, and of those that leave it
abbrev pub edges_to : PlanOf → ℕ → List ℕ
edges_to plan op = numbers_where (λ edge. edge.to == op) 0 plan.edges

abbrev pub edges_from : PlanOf → ℕ → List ℕ
edges_from plan op = numbers_where (λ edge. edge.from == op) 0 plan.edges

-- the edges that lead to an operator, in order: one for each input, or for each operand of a phi
abbrev pub inputs_of : PlanOf → ℕ → List Edge
inputs_of plan op = map (edge_at plan) (edges_to plan op)

-- whether an operator is a phi, which takes one of its operands
abbrev pub is_phi : PlanOp → Bool
is_phi operator = nat_lt 0 operator.phi

-- the block of the operator that an edge leaves
abbrev pub source_block : PlanOf → Edge → ℕ
source_block plan edge = (op_at plan edge.from).block

-- the block of the operator that an edge leads to
abbrev pub target_block : PlanOf → Edge → ℕ
target_block plan edge = (op_at plan edge.to).block

-- what holds of each block, operator or edge, by its number
abbrev pub EachBlock : PlanOf → (ℕ → Type 0) → Type 0
EachBlock plan P = (block : ℕ) → block < length plan.blocks → P block

abbrev pub EachOp : PlanOf → (ℕ → Type 0) → Type 0
EachOp plan P = (op : ℕ) → op < length plan.ops → P op

abbrev pub EachEdge : PlanOf → (ℕ → Type 0) → Type 0
EachEdge plan P = (edge : ℕ) → edge < length plan.edges → P edge
