-- The edges of an operator and of a block, and whether one of them feeds a marked block.
use Rattle.std.proofs.Common.{◌≡◌, ◌∙◌, ◌<◌, ◌≤◌, ◌+◌, ℕ, zero, suc, List, [], ◌∷◌, length, get_or, cond, eqb, eqb-true, ap, subst, refl, ⊎_elim, arith, Bool, true, false, All, Contains}
use Rattle.std.specs.Prelude.{◌==◌}
use Rattle.std.specs.List.{list_any}
use Rattle.std.proofs.lemmas.Bool.{both_ways, cases_Bool, eq-eqb}
use Rattle.std.proofs.lemmas.List.{get_or_default}
use Rattle.std.proofs.lemmas.List.Elements.{All-contains, Contains-append_right}
use Rattle.std.proofs.lemmas.List.Folds.{Any-from_list_any, list_any_at}
use Rattle.mit_plan.specs.Plans.{EachEdge, PlanOf, block_at, edge_at, edges_from, edges_to, no_block, no_edge, numbers_where, op_at}
use Rattle.mit_plan.specs.Valid.{NamesOps, RangesFollow}
use Rattle.mit_plan.specs.declared.plan.Edge.{Edge}
use Rattle.mit_plan.specs.declared.plan.PlanBlock.{PlanBlock}
use Rattle.mit_plan.specs.Standing.{all_where, names}
use Rattle.mit_valid.specs.Passed.{BlockFeeds, feeds}

-- ---- the edges of an operator

-- the numbers behind a test
where_by : (holds : Bool) (number one : ℕ) (more : List ℕ) → Contains more one → Contains (cond holds (number ∷ more) more) one
where_by true number one more is = Contains-append_right (number ∷ []) more one is
where_by false number one more is = is

-- each number that passes is there
pub Contains-where : {A : Type 0} (passes : A → Bool) (from : ℕ) (xs : List A) (k : ℕ) (d : A) → k < length xs → passes (get_or xs k d) ≡ true
    → Contains (numbers_where passes from xs) (from + k)
unfolding numbers_where
Contains-where passes from [] k d below pass = absurd (omega (arith, below))
Contains-where passes from (x ∷ xs) zero d below pass = let e : from ≡ from + 0 = omega arith in rw pass (0, omega arith, e)
Contains-where passes from (x ∷ xs) (suc k) d below pass =
    let e : suc from + k ≡ from + suc k = omega arith in
    let more = Contains-where passes (suc from) xs k d (omega (arith, below)) pass in
    where_by (passes x) from (from + suc k) (numbers_where passes (suc from) xs) (rw e at more)

-- an edge whose end, as this function reads it, is this operator
abbrev EndsAt : PlanOf → (Edge → ℕ) → ℕ → ℕ → Type 0
EndsAt plan end op edge = (edge < length plan.edges) × (end (edge_at plan edge) ≡ op)

-- each number is one of an edge that ends there, and the other way round
ends_at : (plan : PlanOf) (end : Edge → ℕ) (op : ℕ) → All (EndsAt plan end op) (numbers_where (λ edge. end edge == op) 0 plan.edges)
ends_at plan end op =
    all_where (λ (edge : Edge). eqb (end edge) op) (EndsAt plan end op) 0 plan.edges (λ k below pass.
    let e : k ≡ 0 + k = omega arith in
    subst (λ (n : ℕ). EndsAt plan end op n) e (below, eqb-true (end (edge_at plan k)) op (pass no_edge)))

is_end_of : (plan : PlanOf) (end : Edge → ℕ) (op edge : ℕ) → edge < length plan.edges → end (edge_at plan edge) ≡ op
    → Contains (numbers_where (λ edge. end edge == op) 0 plan.edges) edge
is_end_of plan end op edge below is =
    let e : 0 + edge ≡ edge = omega arith in
    let found = Contains-where (λ (edge : Edge). eqb (end edge) op) 0 plan.edges edge no_edge below (eq-eqb (end (edge_at plan edge)) op is) in
    rw e at found

-- the edges that lead to an operator
pub leads_to : (plan : PlanOf) (op : ℕ) → All (EndsAt plan (λ edge. edge.to) op) (edges_to plan op)
leads_to plan op = ends_at plan (λ edge. edge.to) op

pub is_input : (plan : PlanOf) (edge : ℕ) → edge < length plan.edges → Contains (edges_to plan (edge_at plan edge).to) edge
is_input plan edge below = is_end_of plan (λ edge. edge.to) (edge_at plan edge).to edge below refl

-- some edge that leaves an operator passes, or none
record Leaves (plan : PlanOf) (passes : ℕ → Bool) (op : ℕ) : Type 0 where
  edge : ℕ
  below : edge < length plan.edges
  from_op : (edge_at plan edge).from ≡ op
  pass : passes edge ≡ true

some_leaves : (plan : PlanOf) (passes : ℕ → Bool) (op : ℕ) → list_any passes (edges_from plan op) ≡ true → Leaves plan passes op
some_leaves plan passes op any =
    let (k, edge, within, is, pass) = Any-from_list_any passes (edges_from plan op) any in
    let ends = All-contains (EndsAt plan (λ edge. edge.from) op) (edges_from plan op) edge (ends_at plan (λ edge. edge.from) op) (k, within, is) in
    record { edge = edge; below = ends.0; from_op = ends.1; pass = pass }

none_leaves : (plan : PlanOf) (passes : ℕ → Bool) (op edge : ℕ) → list_any passes (edges_from plan op) ≡ false → edge < length plan.edges → (edge_at plan edge).from ≡ op
    → passes edge ≡ false
none_leaves plan passes op edge none below is =
    let (k, within, same) = is_end_of plan (λ edge. edge.from) op edge below is in
    ⊎_elim
    (λ (pass : passes edge ≡ true).
    absurd (both_ways (list_any passes (edges_from plan op)) none (list_any_at passes (edges_from plan op) k edge within (ap passes same ∙ pass))))
    (λ (fails : passes edge ≡ false). fails) (cases_Bool (passes edge))

-- ---- the edges of a block

-- one of them feeds a marked block, or none
block_feeds : (plan : PlanOf) (marks : List Bool) (block index : ℕ) → RangesFollow plan → block < length plan.blocks → index < (block_at plan block).count
    → list_any (feeds plan marks block) (edges_from plan ((block_at plan block).first + index)) ≡ true → BlockFeeds plan marks block
block_feeds plan marks block index ranges below stands any =
    let some = some_leaves plan (feeds plan marks block) ((block_at plan block).first + index) any in
    let own = names plan block index ranges below stands in
    record { edge = some.edge; below = some.below; from_block = ap (λ (op : ℕ). (op_at plan op).block) some.from_op ∙ own.block_is; leads = some.pass }

block_feeds_none : (plan : PlanOf) (marks : List Bool) (block : ℕ) → RangesFollow plan → EachEdge plan (λ edge. NamesOps plan.ops (edge_at plan edge))
    → ((index : ℕ) → index < (block_at plan block).count → list_any (feeds plan marks block) (edges_from plan ((block_at plan block).first + index)) ≡ false)
    → BlockFeeds plan marks block → ⊥
block_feeds_none plan marks block ranges ends none some =
    let from = (edge_at plan some.edge).from in
    let stands = ranges.each from (ends some.edge some.below).from in
    let index = (op_at plan from).index in
    let same : (block_at plan (op_at plan from).block) ≡ block_at plan block = ap (λ (one : ℕ). block_at plan one) some.from_block in
    let below : index < (block_at plan block).count = rw same at stands.index in
    let number : from ≡ (block_at plan block).first + index = rw same at stands.number in
    both_ways (feeds plan marks block some.edge) (none_leaves plan (feeds plan marks block) ((block_at plan block).first + index) some.edge (none index below) some.below number) some.leads

-- the block as it is read
module _ (plan : PlanOf) (blocks : List PlanBlock) (block : ℕ) (other : PlanBlock) (ranges : RangesFollow plan) (value : blocks ≡ plan.blocks) (below : block < length plan.blocks) where
  abbrev read : PlanBlock
  read = get_or blocks block other

  read_is : read ≡ block_at plan block
  read_is = ap (λ (all : List PlanBlock). get_or all block other) value ∙ get_or_default plan.blocks block other no_block below

  -- an operator of it is there
  pub index_below : (index : ℕ) → index < read.count → read.first + index < length plan.ops
  index_below index stands =
      let there : index < (block_at plan block).count = rw read_is at stands in
      rw read_is (names plan block index ranges below there).below

  -- one of them feeds a block, or none
  pub index_feeds : (marks : List Bool) (index : ℕ) → index < read.count → list_any (feeds plan marks block) (edges_from plan (read.first + index)) ≡ true → BlockFeeds plan marks block
  index_feeds marks index stands any =
      let there : index < (block_at plan block).count = rw read_is at stands in
      block_feeds plan marks block index ranges below there (rw read_is at any)

  pub no_index_feeds : (marks : List Bool) (end : ℕ) → EachEdge plan (λ edge. NamesOps plan.ops (edge_at plan edge)) → read.count ≤ end
      → ((index : ℕ) → index < end → list_any (feeds plan marks block) (edges_from plan ((block_at plan block).first + index)) ≡ false) → BlockFeeds plan marks block → ⊥
  no_index_feeds marks end ends last none =
      let count : read.count ≡ (block_at plan block).count = ap (λ (one : PlanBlock). one.count) read_is in
      block_feeds_none plan marks block ranges ends (λ index less. none index (omega arith))
