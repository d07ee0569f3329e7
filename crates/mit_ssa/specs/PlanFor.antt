-- The plan of a script: its blocks, with their operators numbered through, and an edge for each input.
use Rattle.std.specs.Prelude.{◌<◌, ◌⊎◌, ⊤, ℕ, suc, ◌+◌, ◌*◌, List, [], ◌∷◌, ◌++◌, length, flat_map}
use Rattle.mit_ops.specs.declared.types.VarType.{VarType}
use Rattle.mit_plan.specs.Plans.{PlanOf}
use Rattle.mit_plan.specs.declared.plan.Edge.{Edge}
use Rattle.mit_plan.specs.declared.plan.PlanBlock.{PlanBlock}
use Rattle.mit_plan.specs.declared.plan.PlanOp.{PlanOp}
use Rattle.mit_plan.specs.declared.plan.TheConstants.{MAX_OPS}
use Rattle.mit_script.specs.declared.tree.Script.{Script}
use Rattle.mit_ssa.specs.Woven.{woven_blocks}
use Rattle.mit_ssa.specs.declared.block.Block.{Block}
use Rattle.mit_ssa.specs.declared.block.Operator.{Operator}
use Rattle.mit_ssa.specs.declared.block.Source.{Source}
use Rattle.mit_ssa.specs.declared.stop.PlanStop.{PlanStop}
use Rattle.mit_ssa.specs.declared.stop.PlanStop.TheVariants.{TooLarge, NoMemory}

-- blocks whose operators are numbered from this number on
unfoldable pub blocks_from : ℕ → List Block → List PlanBlock
blocks_from first [] = []
blocks_from first (block ∷ blocks) =
    record { first = first; count = length block.operators; leave = block.leave } ∷ blocks_from (first + length block.operators) blocks

-- operators of this block, from this place in it on
unfoldable pub ops_in : ℕ → ℕ → List Operator → List PlanOp
ops_in block index [] = []
ops_in block index (operator ∷ operators) =
    record { block = block; index = index; statement = operator.statement; spec = operator.spec; phi = operator.phi }
    ∷ ops_in block (suc index) operators

-- the operators of blocks, whose numbers begin with this one
unfoldable pub ops_from : ℕ → List Block → List PlanOp
ops_from number [] = []
ops_from number (block ∷ blocks) = ops_in number 0 block.operators ++ ops_from (suc number) blocks

-- an edge for each source of an operator, from this input on
unfoldable pub edges_in : ℕ → ℕ → List Source → List Edge
edges_in operator input [] = []
edges_in operator input (source ∷ sources) =
    record { from = source.from; to = operator; input = input; route = source.route } ∷ edges_in operator (suc input) sources

-- the edges of operators, which are numbered from this number on
unfoldable pub operator_edges : ℕ → List Operator → List Edge
operator_edges number [] = []
operator_edges number (operator ∷ operators) = edges_in number 0 operator.inputs ++ operator_edges (suc number) operators

abbrev pub operators_of : List Block → List Operator
operators_of blocks = flat_map (λ block. block.operators) blocks

abbrev pub plan_of_blocks : List Block → PlanOf
plan_of_blocks blocks = record { blocks = blocks_from 0 blocks; ops = ops_from 0 blocks; edges = operator_edges 0 (operators_of blocks) }

-- the plan of a script whose variables have these types
abbrev pub plan_for : Script → List VarType → PlanOf
plan_for script types = plan_of_blocks (woven_blocks script types)

-- more operators than a plan may have, or edges that times 256 pass 1,048,576
abbrev pub IsLarge : PlanOf → Type 0
IsLarge plan = (MAX_OPS < length plan.ops) ⊎ (1048576 < 256 * length plan.edges)

-- a plan that is said to be too large is so; out of memory says nothing
abbrev pub TellsLarge : PlanOf → PlanStop → Type 0
TellsLarge plan TooLarge = IsLarge plan
TellsLarge plan NoMemory = ⊤
