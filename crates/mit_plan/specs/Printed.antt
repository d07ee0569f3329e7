-- The text of a plan: how many blocks, operators and edges it has; then each block, followed by its operators.
use Rattle.std.specs.Prelude.{ℕ, ◌+◌, ◌-◌, List, [], ◌∷◌, ◌++◌, length, min, codes, decimal, if◌then◌else◌}
use Rattle.std.specs.List.{flat_map, join_by, range_with_len}
use Rattle.mit_ops.specs.declared.kinds.OpSpec.{OpSpec}
use Rattle.mit_ops.specs.declared.kinds.OpSpec.TheVariants as op
use Rattle.mit_ops.specs.declared.leave.Leave.{Leave}
use Rattle.mit_ops.specs.declared.leave.Leave.TheVariants.{Jump, Branch, End}
use Rattle.mit_ops.specs.declared.routes.Route.{Route}
use Rattle.mit_ops.specs.declared.routes.Route.TheVariants.{Forward, Gather, Broadcast, ByKey}
use Rattle.mit_plan.specs.declared.plan.Edge.{Edge}
use Rattle.mit_plan.specs.declared.plan.PlanBlock.{PlanBlock}
use Rattle.mit_plan.specs.declared.plan.PlanOp.{PlanOp}
use Rattle.mit_plan.specs.Plans.{PlanOf, block_at, edge_at, edges_to, is_phi, op_at}

-- the word of each kind
abbrev pub kind_word : OpSpec → List ℕ
kind_word (op.Scalar expr) = codes "scalar"
kind_word (op.Read name types) = codes "read"
kind_word (op.Map exprs) = codes "map"
kind_word (op.Filter expr) = codes "filter"
kind_word (op.FlatMap flat) = codes "flat"
kind_word (op.Join left right) = codes "join"
kind_word (op.Reduce keys agg) = codes "reduce"
kind_word op.Union = codes "union"
kind_word op.Distinct = codes "distinct"
kind_word op.Only = codes "only"
kind_word op.Count = codes "count"
kind_word (op.Sum column) = codes "sum"
kind_word (op.MakeRow exprs) = codes "row"
kind_word (op.Empty types) = codes "empty"
kind_word (op.Write name) = codes "write"
kind_word op.Copy = codes "copy"

-- a column as `$0`, with a blank before it
abbrev pub column_text : ℕ → List ℕ
column_text column = codes " $" ++ decimal column

-- a route: `forward`, `gather`, `broadcast`, or `key` and its columns
abbrev pub route_text : Route → List ℕ
route_text Forward = codes "forward"
route_text Gather = codes "gather"
route_text Broadcast = codes "broadcast"
route_text (ByKey columns) = codes "key" ++ flat_map column_text columns

-- an edge, where it leads to: the operator that gives, and the route
abbrev pub edge_text : Edge → List ℕ
edge_text edge = decimal edge.from ++ codes " " ++ route_text edge.route

-- the edges of these numbers, where there are any: `from` and each of them
abbrev pub inputs_text : PlanOf → List ℕ → List ℕ
inputs_text plan [] = []
inputs_text plan (edge ∷ more) = codes " from " ++ join_by (λ number. edge_text (edge_at plan number)) (codes ", ") (edge ∷ more)

-- `phi`; or else the kind and the statement
abbrev pub word_text : PlanOp → List ℕ
word_text operator =
    if is_phi operator then codes "phi" else kind_word operator.spec ++ codes " statement " ++ decimal operator.statement

-- the line of an operator
abbrev pub op_line : PlanOf → ℕ → List ℕ
op_line plan op = codes "op " ++ decimal op ++ codes " " ++ word_text (op_at plan op) ++ inputs_text plan (edges_to plan op) ++ codes "\n"

-- how a block is left; at a branch its last operator decides
abbrev pub leave_text : PlanBlock → Leave → List ℕ
leave_text block (Jump next) = codes " jump " ++ decimal next
leave_text block (Branch on_true on_false) =
    codes " branch op " ++ decimal (block.first + block.count - 1) ++ codes " to " ++ decimal on_true ++ codes " else " ++ decimal on_false
leave_text block End = codes " end"

-- the numbers of a block's operators, of those that the plan has
abbrev pub ops_of : PlanOf → PlanBlock → List ℕ
ops_of plan block = range_with_len block.first (min block.count (length plan.ops - block.first))

-- the line of a block, and those of its operators
abbrev pub block_text : PlanOf → ℕ → List ℕ
block_text plan number =
    let block = block_at plan number in
    codes "block " ++ decimal number ++ leave_text block block.leave ++ codes "\n" ++ flat_map (op_line plan) (ops_of plan block)

-- the first line
abbrev pub counts_line : PlanOf → List ℕ
counts_line plan =
    codes "blocks " ++ decimal (length plan.blocks) ++ codes ", ops " ++ decimal (length plan.ops)
    ++ codes ", edges " ++ decimal (length plan.edges) ++ codes "\n"

-- the text of a plan
abbrev pub plan_text : PlanOf → List ℕ
plan_text plan = counts_line plan ++ flat_map (block_text plan) (range_with_len 0 (length plan.blocks))
