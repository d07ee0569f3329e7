-- Which plans are valid: the fifteen conditions.
use Rattle.std.specs.Prelude.{◌≡◌, ◌≢◌, ◌<◌, ◌≤◌, ◌+◌, ◌-◌, ◌⊎◌, ℕ, zero, suc, List, [], ◌∷◌, length, map, All, Bool, true, false, IsTrue, IsSome, count_by, if◌then◌else◌, slice_index, slice_index_or, MatchBool, ⊤}
use Rattle.std.specs.List.{range_with_len}
use Rattle.mit_rows.specs.declared.value.ColType.TheVariants.{Bool as Truth}
use Rattle.mit_path.specs.Choice.{chosen_operand}
use Rattle.mit_ops.specs.Kinds.{bag_inputs_of, captures_of, kind_of}
use Rattle.mit_ops.specs.Results.{scalar}
use Rattle.mit_ops.specs.Routes.{route_to}
use Rattle.mit_ops.specs.declared.kinds.OpSpec.TheVariants.{Copy}
use Rattle.mit_ops.specs.declared.leave.Leave.{Leave}
use Rattle.mit_ops.specs.declared.leave.Leave.TheVariants.{Jump, Branch, End}
use Rattle.mit_ops.specs.declared.routes.Route.{Route}
use Rattle.mit_ops.specs.declared.routes.Route.TheVariants.{Forward}
use Rattle.mit_ops.specs.declared.types.VarType.{VarType}
use Rattle.mit_plan.specs.declared.plan.TheConstants.{MAX_OPS, MAX_EDGES, MAX_PLAN_BLOCKS}
use Rattle.mit_plan.specs.declared.plan.Edge.{Edge}
use Rattle.mit_plan.specs.declared.plan.PlanBlock.{PlanBlock}
use Rattle.mit_plan.specs.declared.plan.PlanOp.{PlanOp}
use Rattle.mit_plan.specs.Paths.{IsPath}
use Rattle.mit_plan.specs.Plans.{EachBlock, EachEdge, EachOp, PlanOf, block_at, edge_at, inputs_of, is_phi, no_block, no_op, op_at, source_block}
use Rattle.mit_plan.specs.Types.{AreTypes, type_at}

-- ---- 1: the ranges of operators

-- blocks whose ranges follow each other from one operator up to another
abbrev pub Follow : ℕ → List PlanBlock → ℕ → Type 0
Follow first [] end = first ≡ end
Follow first (block ∷ more) end = (block.first ≡ first) × Follow (first + block.count) more end

-- the operator of a number stands in the block that it names, at the index that it names
pub record StandsAt (blocks : List PlanBlock) (operator : PlanOp) (op : ℕ) : Type 0 where
  pub block : operator.block < length blocks
  pub index : operator.index < (slice_index_or blocks operator.block no_block).count
  pub number : op ≡ (slice_index_or blocks operator.block no_block).first + operator.index

-- the blocks' ranges follow each other from 0 to the last operator, and each operator names its block and its index there
pub record RangesFollow (plan : PlanOf) : Type 0 where
  pub follow : Follow 0 plan.blocks (length plan.ops)
  pub each : EachOp plan (λ op. StandsAt plan.blocks (op_at plan op) op)

-- ---- 2: phis

-- a phi has the kind Copy
abbrev pub CopiesPhi : PlanOp → Type 0
CopiesPhi operator = IsTrue (is_phi operator) → operator.spec ≡ Copy

abbrev pub PhisCopy : PlanOf → Type 0
PhisCopy plan = EachOp plan (λ op. CopiesPhi (op_at plan op))

-- ---- 3: the order of the edges

-- by the operator that they lead to, and then by the input
abbrev pub Before : Edge → Edge → Type 0
Before edge other = (edge.to < other.to) ⊎ ((edge.to ≡ other.to) × (edge.input < other.input))

-- each edge stands before the next one
abbrev pub EdgesInOrder : PlanOf → Type 0
EdgesInOrder plan = (edge : ℕ) → edge + 1 < length plan.edges → Before (edge_at plan edge) (edge_at plan (edge + 1))

-- ---- 4: the blocks that come next

-- jumps and branches name blocks
abbrev pub NamesBlocks : ℕ → Leave → Type 0
NamesBlocks blocks (Jump next) = next < blocks
NamesBlocks blocks (Branch on_true on_false) = (on_true < blocks) × (on_false < blocks)
NamesBlocks blocks End = ⊤

abbrev pub LeavesNameBlocks : PlanOf → Type 0
LeavesNameBlocks plan = EachBlock plan (λ block. NamesBlocks (length plan.blocks) (block_at plan block).leave)

-- ---- 5: what decides a branch

abbrev pub is_branch : Leave → Bool
is_branch (Branch on_true on_false) = true
is_branch _ = false

-- the number of a block's last operator
abbrev pub last_of : PlanBlock → ℕ
last_of block = block.first + block.count - 1

-- a block has a last operator, which is no phi
pub record HasLast (ops : List PlanOp) (block : PlanBlock) : Type 0 where
  pub some : 0 < block.count
  pub no_phi : is_phi (slice_index_or ops (last_of block) no_op) ≡ false

-- the last operator of a block gives a truth value as a scalar, by types that fit
abbrev pub GivesTruth : PlanOf → PlanBlock → Type 0
GivesTruth plan block = (types : List VarType) → AreTypes plan types → type_at types (last_of block) ≡ scalar Truth

-- the last operator of a block that is left by a branch isn't a phi and gives a truth value as a scalar
abbrev pub BranchesDecide : PlanOf → Type 0
BranchesDecide plan = EachBlock plan (λ block. IsTrue (is_branch (block_at plan block).leave)
    → HasLast plan.ops (block_at plan block) × GivesTruth plan (block_at plan block))

-- ---- 6: no cycle of jumps

-- whether jumps alone lead from a block, in fewer than so many steps, to one that is not left by a jump
abbrev pub by_leave : (ℕ → Bool) → Leave → Bool
by_leave settled (Jump next) = settled next
by_leave settled _ = true

unfoldable pub settles : PlanOf → ℕ → ℕ → Bool
settles plan zero block = false
settles plan (suc steps) block = by_leave (settles plan steps) (block_at plan block).leave

-- no cycle of blocks has only jumps: from each block jumps alone come to an end, in fewer steps than there are blocks
abbrev pub JumpsEnd : PlanOf → Type 0
JumpsEnd plan = EachBlock plan (λ block. IsTrue (settles plan (length plan.blocks) block))

-- ---- 7: each block is reached, and one is the end

-- a path leads to a block
pub record IsReached (plan : PlanOf) (block : ℕ) : Type 0 where
  pub path : List ℕ
  pub is_path : IsPath plan path
  pub ends : slice_index path (length path - 1) ≡ block

abbrev pub is_end : Leave → Bool
is_end End = true
is_end _ = false

-- every block is reached from block 0 by jumps and branches, and exactly one is left by End
pub record BlocksReached (plan : PlanOf) : Type 0 where
  pub each : EachBlock plan (IsReached plan)
  pub one_end : count_by (λ block. is_end block.leave) plan.blocks ≡ 1

-- ---- 8: the edges of each operator

-- how many edges lead to an operator: one for each of its bags and captured scalars, or one for each operand of a phi
abbrev pub inputs_wanted : PlanOp → ℕ
inputs_wanted operator = if is_phi operator then operator.phi else bag_inputs_of operator.spec + captures_of operator.spec

-- these edges, and no others, lead to it
abbrev pub HasEdges : PlanOf → ℕ → Type 0
HasEdges plan op = map (λ edge. edge.input) (inputs_of plan op) ≡ range_with_len 0 (inputs_wanted (op_at plan op))

-- an edge leads from an operator to an operator
pub record NamesOps (ops : List PlanOp) (edge : Edge) : Type 0 where
  pub from : edge.from < length ops
  pub to : edge.to < length ops

-- each operator has its inputs' edges, and no edge leads elsewhere; a phi has two operands or more
pub record InputsHaveEdges (plan : PlanOf) : Type 0 where
  pub name : EachEdge plan (λ edge. NamesOps plan.ops (edge_at plan edge))
  pub each : EachOp plan (HasEdges plan)
  pub phis : EachOp plan (λ op. (op_at plan op).phi ≢ 1)

-- ---- 9: the blocks of a phi's operands

-- the blocks from which an operator's inputs come
abbrev pub source_blocks : PlanOf → ℕ → List ℕ
source_blocks plan op = map (source_block plan) (inputs_of plan op)

-- blocks are distinct, and none of them is this one
pub record AreApart (blocks : List ℕ) (own : ℕ) : Type 0 where
  pub distinct : (one other : ℕ) → one < other → other < length blocks → slice_index blocks one ≢ slice_index blocks other
  pub others : (one : ℕ) → one < length blocks → slice_index blocks one ≢ own

-- a phi's operand blocks are distinct, and none is its own
abbrev pub OperandsApart : PlanOf → Type 0
OperandsApart plan = EachOp plan (λ op. IsTrue (is_phi (op_at plan op)) → AreApart (source_blocks plan op) (op_at plan op).block)

-- ---- 10: edges inside a block

-- an edge that leads from an operator to another one, which isn't a phi, in the same block goes to a higher index
abbrev pub GoesUp : PlanOp → PlanOp → Type 0
GoesUp from to = is_phi to ≡ false → from.block ≡ to.block → from.index < to.index

abbrev pub EdgesGoUp : PlanOf → Type 0
EdgesGoUp plan = EachEdge plan (λ edge. GoesUp (op_at plan (edge_at plan edge).from) (op_at plan (edge_at plan edge).to))

-- ---- 11: places to choose

-- at a place of a path an operator has a place to choose: a phi one of all its operands, another operator one for each input
abbrev pub Chooses : PlanOf → List ℕ → ℕ → ℕ → Type 0
Chooses plan path place op =
    MatchBool (is_phi (op_at plan op))
    (IsSome (chosen_operand path (source_blocks plan op) place true))
    (All (λ block. IsSome (chosen_operand path (block ∷ []) place false)) (source_blocks plan op))

-- on every path from block 0 each operator has a place to choose at each place of its block
abbrev pub PlacesToChoose : PlanOf → Type 0
PlacesToChoose plan = (path : List ℕ) → IsPath plan path → (place : ℕ) → place < length path
    → EachOp plan (λ op. (op_at plan op).block ≡ slice_index path place → Chooses plan path place op)

-- ---- 12: writes

-- no edge comes from a write
abbrev pub WritesGiveNothing : PlanOf → Type 0
WritesGiveNothing plan = EachEdge plan (λ edge. kind_of (op_at plan (edge_at plan edge).from).spec ≢ 14)

-- ---- 13: types

-- there are types that fit
abbrev pub HasTypes : PlanOf → Type 0
HasTypes plan = (types : List VarType) × AreTypes plan types

-- ---- 14: routes

-- the route of an edge: a phi's operands stay where they are, and other inputs go as their operator's kind wants them
abbrev pub route_wanted : PlanOf → List VarType → Edge → Route
route_wanted plan types edge =
    if is_phi (op_at plan edge.to) then Forward else route_to (op_at plan edge.to).spec edge.input (length (type_at types edge.from).cols)

abbrev pub RoutesFit : PlanOf → Type 0
RoutesFit plan = (types : List VarType) → AreTypes plan types
    → EachEdge plan (λ edge. (edge_at plan edge).route ≡ route_wanted plan types (edge_at plan edge))

-- ---- 15: limits

pub record IsWithinLimits (plan : PlanOf) : Type 0 where
  pub ops : length plan.ops ≤ MAX_OPS
  pub edges : length plan.edges ≤ MAX_EDGES
  pub blocks : length plan.blocks ≤ MAX_PLAN_BLOCKS

-- ---- the list

pub record IsValid (plan : PlanOf) : Type 0 where
  pub ranges : RangesFollow plan
  pub phis : PhisCopy plan
  pub order : EdgesInOrder plan
  pub leaves : LeavesNameBlocks plan
  pub branches : BranchesDecide plan
  pub jumps : JumpsEnd plan
  pub reached : BlocksReached plan
  pub inputs : InputsHaveEdges plan
  pub operands : OperandsApart plan
  pub upward : EdgesGoUp plan
  pub places : PlacesToChoose plan
  pub writes : WritesGiveNothing plan
  pub types : HasTypes plan
  pub routes : RoutesFit plan
  pub limits : IsWithinLimits plan
