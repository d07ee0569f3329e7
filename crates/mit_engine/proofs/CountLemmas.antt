-- The number of actions that are left: all at first, none at the end, at least one while the job runs.
use Rattle.std.proofs.Common.{◌≡◌, ◌<◌, ◌≤◌, ◌+◌, ◌*◌, ℕ, List, [], ◌∷◌, length, inl, inr, ap, refl, arith}
use Rattle.std.specs.Prelude.{Bool, true, map, Some, slice_index_or, sum_by}
use Rattle.std.proofs.lemmas.List.Sums.{get_or-le-sum_by, sum_by-cons, sum_by-le}
use Rattle.std.proofs.lemmas.Option.{get_or_from_slice_get, slice_get_within}
use Rattle.mit_rows.specs.Bags.{BagOf}
use Rattle.mit_shelf.specs.Shelf.{Kept}
use Rattle.mit_engine.specs.Operators.{JobState, actions_left, assigned_after, edge_left, first_edge, first_job, first_operator, left_of, operator_left, sources_from, sources_of, unheard}
use Rattle.mit_engine.specs.Running.{AtFault, EdgeHolds, JobStands, Made, MadePart, PathHolds, Unmade, verdict_of}
use Rattle.mit_engine.specs.Thin.{edges_of}
use Rattle.mit_engine.specs.declared.edges.Received.{Received}
use Rattle.mit_engine.specs.declared.operators.Operator.{Operator}
use Rattle.mit_engine.specs.declared.operators.Outcome.TheVariants as outcome
use Rattle.mit_engine.specs.declared.job.Verdict.TheVariants as verdict
use Rattle.mit_engine.specs.declared.thin.TheConstants.{MAX_STATEMENTS}
use Rattle.mit_engine.specs.declared.thin.ThinStep.{ThinStep}
use Rattle.mit_engine.specs.declared.thin.ThinStep.TheVariants as step
use Rattle.mit_engine.proofs.HeldLemmas.{HeldAt, held_at}
use Rattle.mit_engine.proofs.Places.{got_within, sum_by-none}
use Rattle.mit_engine.proofs.SourceLemmas.{length-sources_of}
use Rattle.mit_engine.proofs.VerdictLemmas.{all_done, bag_of, done_made, first_unheard}

-- ---- before the first action

first_edges_left : (from : List ℕ) → sum_by edge_left (map first_edge from) ≡ length from
first_edges_left [] = refl
first_edges_left (source ∷ from) = omega (arith, sum_by-cons edge_left (first_edge source) (map first_edge from), first_edges_left from)

first_operators_left : (assigned : List ℕ) (at : ℕ) (steps : List ThinStep)
    → sum_by operator_left (map first_operator (sources_from assigned at steps)) ≡ 2 * length steps + sum_by edges_of steps
unfolding sources_from
first_operators_left assigned at [] = refl
first_operators_left assigned at (first ∷ steps) =
    let from = sources_of assigned first in
    let later = sources_from (assigned_after assigned at first) (at + 1) steps in
    let own : operator_left (first_operator from) ≡ 2 + edges_of first = omega (arith, first_edges_left from, length-sources_of assigned first) in
    let rest = first_operators_left (assigned_after assigned at first) (at + 1) steps in
    omega (arith, own, rest, sum_by-cons operator_left (first_operator from) (map first_operator later), sum_by-cons edges_of first steps)

-- before the first action all of them are left
pub first_left : (steps : List ThinStep) → actions_left (first_job steps) ≡ 1 + 2 * length steps + sum_by edges_of steps
first_left steps = omega (arith, first_operators_left [] 0 steps)

-- ---- where each operator is heard Done

-- an edge of a polled operator is fed
polled_edge : (part : MadePart) (polled : Bool) (parts : List BagOf) (received : Received) → EdgeHolds part polled parts received → polled ≡ true
    → left_of received ≡ 0
polled_edge Unmade polled parts received holds is = cc
polled_edge (AtFault kind) polled parts received holds is = cc
polled_edge (Made bag) polled parts received (inl sent) is = cc
polled_edge (Made bag) polled parts received (inr (inl here)) is = cc
polled_edge (Made bag) polled parts received (inr (inr fed)) is = rw fed.2

-- of an operator that is heard Done none is left
operator_done : (steps : List ThinStep) (parts : ℕ → MadePart) (at : ℕ) (operator : Operator) → HeldAt steps parts at operator
    → operator.heard ≡ Some outcome.Done → operator_left operator ≡ 0
operator_done steps parts at operator here done =
    let made = done_made (parts at) operator.polled operator.reports operator.heard here.held.reports done in
    let edges = sum_by-none edge_left operator.inputs (λ input edge there.
    polled_edge (parts edge.from) operator.polled edge.parts edge.received (here.held.edges input edge there) made.1) in
    rw (made.1, done, edges)

-- where an operator has made its bag, the path is learned
path_learned : (parts : ℕ → MadePart) (path : List ℕ) (learned : Bool) (at : ℕ) (bag : BagOf) → PathHolds parts path learned → parts at ≡ Made bag
    → path ≡ []
path_learned parts path learned at bag (inl (known, waits, unmade)) made = cc (unmade at)
path_learned parts path learned at bag (inr known) made = known.1

-- where each operator is heard Done none is left
pub complete_left : {steps : List ThinStep} {shelf : Kept} {job : JobState} → JobStands steps shelf job → verdict_of job ≡ verdict.Complete
    → 0 < length steps → actions_left job ≡ 0
complete_left {steps} {job = job} stands complete some =
    let holds = stands.holds in
    let done = all_done 0 job.operators complete in
    let none = sum_by-none operator_left job.operators (λ at operator there.
    operator_done steps stands.parts at operator (held_at holds at operator there) (done at operator there)) in
    let first = got_within job.operators 0 (omega (arith, holds.sized)) in
    let told = (held_at holds 0 first.0 first.1).held.reports in
    let made = done_made (stands.parts 0) first.0.polled first.0.reports first.0.heard told (done 0 first.0 first.1) in
    omega (arith, none, ap length (path_learned stands.parts job.path job.learned 0 (bag_of (stands.parts 0)) holds.begun made.0))

-- ---- while the job runs

-- at least one is left: the first operator that is not heard has one
pub something_left : (job : JobState) → verdict_of job ≡ verdict.Running → 0 < actions_left job
something_left job runs =
    let first = first_unheard 0 job.operators runs in
    omega (
      arith,
      get_or-le-sum_by operator_left job.operators first.place first.operator (slice_get_within job.operators first.place first.operator first.there),
      ap operator_left (get_or_from_slice_get job.operators first.place first.operator first.operator first.there),
      ap unheard first.unheard,
    )

-- ---- few actions

two_edges : (first : ThinStep) → edges_of first ≤ 2
two_edges (step.Read target name count) = omega arith
two_edges (step.Union target left right) = omega arith
two_edges (step.Write source name) = omega arith

pub few_actions : (steps : List ThinStep) → length steps ≤ MAX_STATEMENTS → 1 + 2 * length steps + sum_by edges_of steps ≤ 4001
few_actions steps few = omega (arith, sum_by-le edges_of 2 steps (λ k d within. two_edges (slice_index_or steps k d)))
