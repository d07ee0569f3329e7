-- Where everything known is done the run has ended: the known path is the whole path, and it stops at the end or for want of a decision.
use Rattle.std.proofs.Common.{◌≡◌, ◌∙◌, ◌<◌, ◌≤◌, ◌+◌, ◌-◌, ℕ, List, length, take, get_or, ap, sym, subst, refl, arith, cond, Bool, true, false, Option, None, inl, inr}
use Rattle.std.specs.Prelude.{◌⊎◌}
use Rattle.std.proofs.lemmas.Bool.{both_ways, cases_lt, eq-eqb, lt-ltb}
use Rattle.std.proofs.lemmas.List.{get_or_past, take_all}
use Rattle.std.proofs.lemmas.List.Sums.{count_by-le-length}
use Rattle.mit_ops.specs.declared.leave.Leave.{Leave}
use Rattle.mit_ops.specs.declared.leave.Leave.TheVariants.{Jump, Branch, End}
use Rattle.mit_plan.specs.Bound.{most_places}
use Rattle.mit_plan.specs.Held.{History, Job, Part, decided_block, decisions_before, failed, follows, held, is_ok, ok, run, void}
use Rattle.mit_plan.specs.Meant.{last_block}
use Rattle.mit_plan.specs.Plans.{PlanOf, block_at, no_block}
use Rattle.mit_plan.specs.Valid.{IsValid, JumpsEnd, is_branch, is_end, last_of}
use Rattle.mit_plan.specs.declared.plan.PlanBlock.{PlanBlock}
use Rattle.mit_plan.specs.Standing.{Names}
use Rattle.mit_machine.specs.Places.{Reports, front, known, leads_on}
use Rattle.mit_machine.specs.Runs.{Runs, known_end}
use Rattle.mit_machine.specs.State.{Machine}
use Rattle.mit_machine.proofs.Fronts.{done_before, done_in, known_ends}
use Rattle.mit_machine.proofs.Standing.{names}
use Rattle.mit_machine.proofs.WholePaths.{IsRun, run_is}

-- ---- the condition of a branch

-- the last operator of a block
record IsLastOf (plan : PlanOf) (block : ℕ) : Type 0 where
  names : Names plan block ((block_at plan block).count - 1)
  number : last_of (block_at plan block) ≡ (block_at plan block).first + ((block_at plan block).count - 1)

branch_there : (plan : PlanOf) (block : ℕ) → is_branch (block_at plan block).leave ≡ true → block < length plan.blocks
branch_there plan block branch =
    elim (cases_lt block (length plan.blocks)) [
      | inl below ↦ below
      | inr past ↦ let none : is_branch (block_at plan block).leave ≡ false = ap (λ (one : PlanBlock). is_branch one.leave) (get_or_past plan.blocks block no_block past) in absurd cc
    ]

last_is : (plan : PlanOf) (block : ℕ) → IsValid plan → is_branch (block_at plan block).leave ≡ true → IsLastOf plan block
last_is plan block valid branch =
    let some = (valid.branches block (branch_there plan block branch) branch).0.some in
    record { names = names plan block ((block_at plan block).count - 1) valid.ranges (omega (arith, some)); number = omega (arith, some) }

-- behind a place before the front the condition was heard, and is ok
condition_done : (machine : Machine) (reports : Reports) (place : ℕ) → Runs machine → place < front machine reports → place < known machine reports
    → is_branch (block_at machine.job.plan (get_or machine.history.path place 0)).leave ≡ true
    → (reports (last_of (block_at machine.job.plan (get_or machine.history.path place 0))) place 0 ≡ true)
    × (is_ok (held machine.history place ((block_at machine.job.plan (get_or machine.history.path place 0)).count - 1) 0) ≡ true)
condition_done machine reports place runs less below branch =
    let plan = machine.job.plan in
    let block = get_or machine.history.path place 0 in
    let last = last_is plan block runs.plan branch in
    let op = (block_at plan block).first + ((block_at plan block).count - 1) in
    let done = done_before machine reports place op runs.plan.ranges less below last.names.below last.names.block_is in
    let both = done_in machine reports op place 0 runs.some done in (
      ap (λ (one : ℕ). reports one place 0) last.number ∙ both.0,
      ap (λ (index : ℕ). is_ok (held machine.history place index 0)) (sym last.names.index_is) ∙ both.1,
    )

-- ---- the known path is the whole path

pub all_known : (machine : Machine) (reports : Reports) → Runs machine → known machine reports ≤ front machine reports → known machine reports ≡ length machine.history.path
all_known machine reports runs done = by_end (known_ends machine reports)
  where
    by_end : (known machine reports ≡ length machine.history.path)
        ⊎ ((k : ℕ) × (k < length machine.history.path) × (known machine reports ≡ k + 1) × (leads_on machine reports k (get_or machine.history.path k 0) ≡ false))
        → known machine reports ≡ length machine.history.path
    by_end (inl all) = all
    by_end (inr one) =
        by_leave one.0 (omega (arith, one.2)) (is_branch (block_at machine.job.plan (get_or machine.history.path one.0 0)).leave) refl one.3
      where
        by_leave : (place : ℕ) → place < known machine reports → (branch : Bool) → is_branch (block_at machine.job.plan (get_or machine.history.path place 0)).leave ≡ branch
            → cond branch (reports (last_of (block_at machine.job.plan (get_or machine.history.path place 0))) place 0) true ≡ false → known machine reports ≡ length machine.history.path
        by_leave place below true is unheard =
            absurd (both_ways (reports (last_of (block_at machine.job.plan (get_or machine.history.path place 0))) place 0) unheard
            (condition_done machine reports place runs (omega (arith, below, done)) below is).0)
        by_leave place below false is unheard = absurd cc

-- ---- it ends

-- where a part is ok it decides
decided_some : (part : Part) (on_true on_false : ℕ) → is_ok part ≡ true → decided_block part on_true on_false ≡ None → ⊥
decided_some (ok bag) on_true on_false is none = cc
decided_some (failed fault) on_true on_false is none = cc
decided_some void on_true on_false is none = cc

-- a path that stops has come to the end, or has no decision left
stops_at : (machine : Machine) (path : List ℕ) (place : ℕ) (block : PlanBlock) (leave : Leave)
    → (is_branch leave ≡ true → is_ok (held machine.history place (block.count - 1) 0) ≡ true)
    → decisions_before machine.job.plan machine.history.path place ≤ machine.job.decisions
    → decisions_before machine.job.plan path (length path - 1) ≡ decisions_before machine.job.plan machine.history.path place
    → follows machine.job machine.history place block leave ≡ None → known_end machine path block leave ≡ None → ⊥
stops_at machine path place block End decides most same stops none = cc
stops_at machine path place block (Jump next) decides most same stops none = cc
stops_at machine path place block (Branch on_true on_false) decides most same stops none =
    by_order (cases_lt (decisions_before machine.job.plan machine.history.path place) machine.job.decisions)
  where
    by_order : (decisions_before machine.job.plan machine.history.path place < machine.job.decisions) ⊎ (machine.job.decisions ≤ decisions_before machine.job.plan machine.history.path place) → ⊥
    by_order (inl left) =
        let e = lt-ltb (decisions_before machine.job.plan machine.history.path place) machine.job.decisions left in
        decided_some (held machine.history place (block.count - 1) 0) on_true on_false (decides refl)
        (subst (λ (test : Bool). cond test (decided_block (held machine.history place (block.count - 1) 0) on_true on_false) None ≡ None) e stops)
    by_order (inr all) =
        let e = eq-eqb (decisions_before machine.job.plan path (length path - 1)) machine.job.decisions (omega (arith, same, most, all)) in
        absurd cc

-- a valid plan has a block, since one is the end
some_block : (plan : PlanOf) → IsValid plan → 0 < length plan.blocks
some_block plan valid =
    let few = count_by-le-length (λ (block : PlanBlock). is_end block.leave) plan.blocks in
    omega (arith, few, valid.reached.one_end)

-- that a path stops, from the number of blocks
abbrev pub PathStops : Type 0
PathStops = (job : Job) → 0 < length job.plan.blocks → JumpsEnd job.plan → (run job (most_places job.plan job.decisions)).next ≡ None

-- the whole run
whole_run : PathStops → (machine : Machine) → Runs machine → IsRun machine.job (record { history = machine.history; next = None })
whole_run stops machine runs =
    let state = run machine.job (most_places machine.job.plan machine.job.decisions) in
    let next = stops machine.job (some_block machine.job.plan runs.plan) runs.plan.jumps in
    subst (λ (history : History). IsRun machine.job (record { history = history; next = None })) (sym runs.history)
    (subst (λ (next : Option ℕ). IsRun machine.job (record { history = state.history; next = next })) next (run_is machine.job (most_places machine.job.plan machine.job.decisions)))

some_place : (machine : Machine) → IsRun machine.job (record { history = machine.history; next = None }) → 0 < length machine.history.path
some_place machine is =
    elim (cases_lt 0 (length machine.history.path)) [
      | inl some ↦ some
      | inr none ↦ let e = is.starts (omega (arith, none)) in absurd cc
    ]

-- the run has ended where everything known is done
pub ended_there : PathStops → (machine : Machine) (reports : Reports) → Runs machine → known machine reports ≤ front machine reports
    → let path = take (known machine reports) machine.history.path in known_end machine path (last_block machine.job.plan path) (last_block machine.job.plan path).leave ≡ None → ⊥
ended_there stops machine reports runs done none =
    let path = machine.history.path in
    let is = whole_run stops machine runs in
    let some = some_place machine is in
    let all = all_known machine reports runs done in
    let whole = take_all (known machine reports) path (omega (arith, all)) in
    let last : length path - 1 < known machine reports = omega (arith, all, some) in
    stops_at machine path (length path - 1) (last_block machine.job.plan path) (last_block machine.job.plan path).leave
    (λ branch. (condition_done machine reports (length path - 1) runs (omega (arith, last, done)) last branch).1)
    is.used refl (sym (is.goes some))
    (subst (λ (one : List ℕ). known_end machine one (last_block machine.job.plan one) (last_block machine.job.plan one).leave ≡ None) whole none)
