-- Edges inside a block go up, and jumps alone come to an end, in the words in which the proofs need it.
use Rattle.std.proofs.Common.{◌≡◌, ◌∙◌, ◌<◌, ◌≤◌, ◌+◌, ℕ, zero, suc, length, ap, sym, subst, arith, All, true, false, eqb, eqb-true, inl, inr}
use Rattle.std.specs.Prelude.{◌⊎◌}
use Rattle.std.proofs.lemmas.Bool.{cases_lt}
use Rattle.std.proofs.lemmas.List.{get_or_past}
use Rattle.mit_plan.specs.Plans.{PlanOf, block_at, edge_at, edges_to, is_phi, no_block, no_edge, op_at}
use Rattle.mit_plan.specs.Standing.{Names, all_where, names}
use Rattle.mit_plan.specs.Valid.{EdgesGoUp as ValidEdges, JumpsEnd, RangesFollow, by_leave, settles}
use Rattle.mit_plan.specs.declared.plan.Edge.{Edge}
use Rattle.mit_plan.specs.declared.plan.PlanBlock.{PlanBlock}

-- an edge into a block comes from another block, or from a lower index
abbrev pub GoesUp : PlanOf → ℕ → ℕ → ℕ → Type 0
GoesUp plan block index edge = (op_at plan (edge_at plan edge).from).block ≡ block → (op_at plan (edge_at plan edge).from).index < index

-- the same of each operator that stands in a block and is no phi
abbrev pub EdgesGoUp : PlanOf → Type 0
EdgesGoUp plan = (block index : ℕ) → index < (block_at plan block).count → is_phi (op_at plan ((block_at plan block).first + index)) ≡ false
    → All (GoesUp plan block index) (edges_to plan ((block_at plan block).first + index))

-- ---- edges

goes : (plan : PlanOf) (block index k : ℕ) → ValidEdges plan → is_phi (op_at plan ((block_at plan block).first + index)) ≡ false → Names plan block index → k < length plan.edges
    → (edge_at plan k).to ≡ (block_at plan block).first + index → GoesUp plan block index k
goes plan block index k up plain own less to from_here =
    let no_phi : is_phi (op_at plan (edge_at plan k).to) ≡ false = ap (λ (op : ℕ). is_phi (op_at plan op)) to ∙ plain in
    let at_block : (op_at plan (edge_at plan k).to).block ≡ block = ap (λ (op : ℕ). (op_at plan op).block) to ∙ own.block_is in
    let at_index : (op_at plan (edge_at plan k).to).index ≡ index = ap (λ (op : ℕ). (op_at plan op).index) to ∙ own.index_is in
    let higher = up k less no_phi (from_here ∙ sym at_block) in
    omega (arith, higher, at_index)

pub edges_go_up : (plan : PlanOf) → RangesFollow plan → ValidEdges plan → EdgesGoUp plan
edges_go_up plan ranges up block index stands plain = by_order (cases_lt block (length plan.blocks))
  where
    by_order : (block < length plan.blocks) ⊎ (length plan.blocks ≤ block) → All (GoesUp plan block index) (edges_to plan ((block_at plan block).first + index))
    by_order (inr past) =
        let none : (block_at plan block).count ≡ 0 = ap (λ (one : PlanBlock). one.count) (get_or_past plan.blocks block no_block past) in
        absurd (omega (arith, none, stands))
    by_order (inl below) =
        let own = names plan block index ranges below stands in
        all_where (λ (edge : Edge). eqb edge.to ((block_at plan block).first + index)) (GoesUp plan block index) 0 plan.edges (λ k less pass.
        let z : k ≡ 0 + k = omega arith in
        subst (λ (n : ℕ). GoesUp plan block index n) z (goes plan block index k up plain own less (eqb-true (edge_at plan k).to ((block_at plan block).first + index) (pass no_edge))))

-- ---- jumps

-- a block that is not there is left by no jump
settles_past : (plan : PlanOf) (blocks block : ℕ) → 0 < blocks → length plan.blocks ≤ block → settles plan blocks block ≡ true
unfolding settles
settles_past plan zero block some past = absurd (omega (arith, some))
settles_past plan (suc blocks) block some past = ap (λ (one : PlanBlock). by_leave (settles plan blocks) one.leave) (get_or_past plan.blocks block no_block past)

pub jumps_end : (plan : PlanOf) → 0 < length plan.blocks → JumpsEnd plan → (block : ℕ) → settles plan (length plan.blocks) block ≡ true
jumps_end plan some ends block = by_order (cases_lt block (length plan.blocks))
  where
    by_order : (block < length plan.blocks) ⊎ (length plan.blocks ≤ block) → settles plan (length plan.blocks) block ≡ true
    by_order (inl below) = ends block below
    by_order (inr past) = settles_past plan (length plan.blocks) block some past
