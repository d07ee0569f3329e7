-- Where the operators of a plan stand, and which edges lead to them.
use Rattle.std.proofs.Common.{◌≡◌, ◌∙◌, ◌<◌, ◌≤◌, ◌+◌, ℕ, List, length, get_or, ap, sym, subst, arith, All, eqb, eqb-true, inl, inr}
use Rattle.std.specs.Prelude.{◌⊎◌}
use Rattle.std.proofs.lemmas.Bool.{cases_lt}
use Rattle.std.proofs.lemmas.List.{get_or-map, get_or_past, length-map}
use Rattle.std.proofs.lemmas.List.FromFn.{get_or-range_with_len, length-range_with_len}
use Rattle.mit_plan.specs.Plans.{PlanOf, block_at, edge_at, edges_to, inputs_of, no_block, no_edge, op_at}
use Rattle.mit_plan.specs.Standing.{Names, all_where, names as stands_there}
use Rattle.mit_plan.specs.Valid.{HasEdges, RangesFollow, inputs_wanted}
use Rattle.mit_plan.specs.declared.plan.Edge.{Edge}
use Rattle.mit_plan.specs.declared.plan.PlanBlock.{PlanBlock}

-- ---- operators

-- a block in which an operator stands is there
is_block : (plan : PlanOf) (block index : ℕ) → index < (block_at plan block).count → block < length plan.blocks
is_block plan block index stands = by_order (cases_lt block (length plan.blocks))
  where
    by_order : (block < length plan.blocks) ⊎ (length plan.blocks ≤ block) → block < length plan.blocks
    by_order (inl below) = below
    by_order (inr past) =
        let none : (block_at plan block).count ≡ 0 = ap (λ (one : PlanBlock). one.count) (get_or_past plan.blocks block no_block past) in
        absurd (omega (arith, none, stands))

-- an operator of a block names that block and its index there
pub names : (plan : PlanOf) (block index : ℕ) → RangesFollow plan → index < (block_at plan block).count → Names plan block index
names plan block index ranges stands = stands_there plan block index ranges (is_block plan block index stands) stands

-- an operator of a block is the one of its index there
pub record StandsIn (plan : PlanOf) (block op : ℕ) : Type 0 where
  pub below : (op_at plan op).index < (block_at plan block).count
  pub number : op ≡ (block_at plan block).first + (op_at plan op).index

pub stands_in : (plan : PlanOf) (block op : ℕ) → RangesFollow plan → op < length plan.ops → (op_at plan op).block ≡ block → StandsIn plan block op
stands_in plan block op ranges some is =
    let own = ranges.each op some in
    subst (λ (b : ℕ). StandsIn plan b op) is (record { below = own.index; number = own.number })

-- ---- edges

-- an edge that leads to an operator
pub record LeadsTo (plan : PlanOf) (op edge : ℕ) : Type 0 where
  pub below : edge < length plan.edges
  pub to : (edge_at plan edge).to ≡ op

pub edges_lead : (plan : PlanOf) (op : ℕ) → All (LeadsTo plan op) (edges_to plan op)
edges_lead plan op =
    all_where (λ (edge : Edge). eqb edge.to op) (LeadsTo plan op) 0 plan.edges (λ k below pass.
    let z : k ≡ 0 + k = omega arith in
    subst (LeadsTo plan op) z (record { below = below; to = eqb-true (edge_at plan k).to op (pass no_edge) }))

-- how many edges lead to an operator
many_edges : (plan : PlanOf) (op : ℕ) → HasEdges plan op → length (edges_to plan op) ≡ inputs_wanted (op_at plan op)
many_edges plan op has =
    sym (length-map (edges_to plan op) (edge_at plan)) ∙ sym (length-map (inputs_of plan op) (λ (edge : Edge). edge.input))
    ∙ ap length has ∙ length-range_with_len 0 (inputs_wanted (op_at plan op))

-- the input of an edge is its number among those that lead to the operator
pub input_is : (plan : PlanOf) (op k : ℕ) → HasEdges plan op → k < length (edges_to plan op) → (edge_at plan (get_or (edges_to plan op) k 0)).input ≡ k
input_is plan op k has below =
    let many = many_edges plan op has in
    let within : k < inputs_wanted (op_at plan op) = omega (arith, many, below) in
    let size = length-map (edges_to plan op) (edge_at plan) in
    let found : k < length (inputs_of plan op) = omega (arith, size, below) in
    let z : 0 + k ≡ k = omega arith in
    ap (λ (edge : Edge). edge.input) (sym (get_or-map (edge_at plan) (edges_to plan op) k 0 no_edge below))
    ∙ sym (get_or-map (λ (edge : Edge). edge.input) (inputs_of plan op) k no_edge 0 found)
    ∙ ap (λ (numbers : List ℕ). get_or numbers k 0) has
    ∙ get_or-range_with_len 0 (inputs_wanted (op_at plan op)) k 0 within ∙ z
