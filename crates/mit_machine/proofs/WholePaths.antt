-- Runs: their paths are paths of the plan, they go on from their last block, and they take no more places and decisions than they may.
use Rattle.std.proofs.Common.{◌≡◌, ◌∙◌, ◌<◌, ◌≤◌, ◌+◌, ◌-◌, ℕ, zero, suc, List, [], ◌∷◌, ◌++◌, length, take, get_or, ap, ap₂, sym, subst, refl, arith, cond, ltb-true, Bool, true, false, Option, Some, None, inl, inr}
use Rattle.std.specs.Prelude.{◌⊎◌, Contains, count_by, nat_lt}
use Rattle.std.proofs.lemmas.Bool.{and_right, cases_lt}
use Rattle.std.proofs.lemmas.List.{get_or-take, get_or_append_left, get_or_push, length-take-le, length_push, take_all, take_at}
use Rattle.std.proofs.lemmas.List.Sums.{sum_by_push}
use Rattle.std.proofs.lemmas.Option.{same_Some}
use Rattle.mit_ops.specs.Endings.{truth_in}
use Rattle.mit_ops.specs.declared.leave.Leave.{Leave}
use Rattle.mit_ops.specs.declared.leave.Leave.TheVariants.{Jump, Branch, End}
use Rattle.mit_plan.specs.Bound.{most_places}
use Rattle.mit_plan.specs.Explained.{Explained}
use Rattle.mit_plan.specs.Held.{History, Job, Part, Run, decided_block, decisions_before, enters, failed, follows, grown_run, held, ok, run, void}
use Rattle.mit_plan.specs.Meant.{last_block}
use Rattle.mit_plan.specs.Paths.{IsPath, next_of}
use Rattle.mit_plan.specs.Plans.{PlanOf, block_at}
use Rattle.mit_plan.specs.Valid.{EdgesGoUp, RangesFollow, is_branch, is_end}
use Rattle.mit_plan.specs.declared.plan.PlanBlock.{PlanBlock}
use Rattle.mit_machine.specs.Channels.{is_complete}
use Rattle.mit_machine.specs.Runs.{Runs}
use Rattle.mit_machine.specs.State.{Machine}

-- ---- what comes next

decided_next : (part : Part) (on_true on_false next : ℕ) → decided_block part on_true on_false ≡ Some next → Contains (on_true ∷ on_false ∷ []) next
decided_next (ok bag) on_true on_false next is = by_value (truth_in bag) is
  where
    by_value : (value : Bool) → Some (cond value on_true on_false) ≡ Some next → Contains (on_true ∷ on_false ∷ []) next
    by_value true is = (0, omega arith, same_Some on_true next is)
    by_value false is = (1, omega arith, same_Some on_false next is)
decided_next (failed fault) on_true on_false next is = absurd cc
decided_next void on_true on_false next is = absurd cc

-- what follows is one of the blocks that may come next
follows_next : (job : Job) (history : History) (place : ℕ) (block : PlanBlock) (leave : Leave) (next : ℕ) → follows job history place block leave ≡ Some next → Contains (next_of leave) next
follows_next job history place block (Jump one) next is = (0, omega arith, same_Some one next is)
follows_next job history place block (Branch on_true on_false) next is = by_test (nat_lt (decisions_before job.plan history.path place) job.decisions) is
  where
    by_test : (test : Bool) → cond test (decided_block (held history place (block.count - 1) 0) on_true on_false) None ≡ Some next → Contains (on_true ∷ on_false ∷ []) next
    by_test true is = decided_next (held history place (block.count - 1) 0) on_true on_false next is
    by_test false is = absurd cc
follows_next job history place block End next is = absurd cc

-- ---- decisions

whole_path : (path : List ℕ) → take (length path) path ≡ path
whole_path path = take_all (length path) path (omega arith)

-- with one place more
decided_before : (plan : PlanOf) (path : List ℕ) (block : ℕ) → decisions_before plan (path ++ block ∷ []) (length path) ≡ decisions_before plan path (length path)
decided_before plan path block =
    ap (λ (blocks : List ℕ). count_by (λ one. is_branch (block_at plan one).leave) blocks) (take_at path (block ∷ []) (length path) refl ∙ sym (whole_path path))

decided_push : (plan : PlanOf) (path : List ℕ) (block : ℕ)
    → decisions_before plan (path ++ block ∷ []) (length (path ++ block ∷ [])) ≡ decisions_before plan path (length path) + cond (is_branch (block_at plan block).leave) 1 0
decided_push plan path block =
    let count : List ℕ → ℕ = λ blocks. count_by (λ one. is_branch (block_at plan one).leave) blocks in
    ap count (whole_path (path ++ block ∷ [])) ∙ sum_by_push (λ (one : ℕ). cond (is_branch (block_at plan one).leave) 1 0) path block
    ∙ ap (λ n. n + cond (is_branch (block_at plan block).leave) 1 0) (ap count (sym (whole_path path)))

-- where a block follows, a decision was left for it
decision_left : (job : Job) (history : History) (place used : ℕ) (block : PlanBlock) (leave : Leave) (next : ℕ) → follows job history place block leave ≡ Some next
    → decisions_before job.plan history.path place ≡ used → used ≤ job.decisions → used + cond (is_branch leave) 1 0 ≤ job.decisions
decision_left job history place used block (Jump one) next is here most = omega (arith, most)
decision_left job history place used block End next is here most = omega (arith, most)
decision_left job history place used block (Branch on_true on_false) next is here most = by_test (nat_lt (decisions_before job.plan history.path place) job.decisions) refl is
  where
    by_test : (test : Bool) → nat_lt (decisions_before job.plan history.path place) job.decisions ≡ test
        → cond test (decided_block (held history place (block.count - 1) 0) on_true on_false) None ≡ Some next → used + 1 ≤ job.decisions
    by_test true less is = let h = ltb-true (decisions_before job.plan history.path place) job.decisions less in omega (arith, h, here)
    by_test false less is = absurd cc

-- ---- a run

-- how a run stands after so many places
pub record IsRun (job : Job) (state : Run) : Type 0 where
  pub starts : length state.history.path ≡ 0 → state.next ≡ Some 0
  pub goes : 0 < length state.history.path
      → state.next ≡ follows job state.history (length state.history.path - 1) (last_block job.plan state.history.path) (last_block job.plan state.history.path).leave
  pub path : 0 < length state.history.path → IsPath job.plan state.history.path
  pub used : decisions_before job.plan state.history.path (length state.history.path - 1) ≤ job.decisions
  pub most : (next : ℕ) → state.next ≡ Some next → decisions_before job.plan state.history.path (length state.history.path) ≤ job.decisions

-- a block that may come next makes a longer path
longer : (plan : PlanOf) (path : List ℕ) (block : ℕ) → (length path ≡ 0 → block ≡ 0) → (0 < length path → IsPath plan path)
    → (0 < length path → Contains (next_of (last_block plan path).leave) block) → IsPath plan (path ++ block ∷ [])
longer plan path block starts is leads = record {
  starts = omega (arith, length_push path block);
  first = first (cases_lt 0 (length path));
  leads = λ place below. step place (cases_lt (suc place) (length path)) below;
}
  where
    first : (0 < length path) ⊎ (length path ≤ 0) → get_or (path ++ block ∷ []) 0 0 ≡ 0
    first (inl some) = get_or_append_left path (block ∷ []) 0 0 some ∙ (is some).first
    first (inr none) =
        let e : length path ≡ 0 = omega (arith, none) in
        get_or_push path block 0 0 e ∙ starts e

    step : (place : ℕ) → (suc place < length path) ⊎ (length path ≤ suc place) → suc place < length (path ++ block ∷ [])
        → Contains (next_of (block_at plan (get_or (path ++ block ∷ []) place 0)).leave) (get_or (path ++ block ∷ []) (suc place) 0)
    step place (inl inside) below =
        let some : 0 < length path = omega (arith, inside) in
        let here = get_or_append_left path (block ∷ []) 0 place (omega (arith, inside)) in
        let next = get_or_append_left path (block ∷ []) 0 (suc place) inside in
        subst (λ (one : ℕ). Contains (next_of (block_at plan one).leave) (get_or (path ++ block ∷ []) (suc place) 0)) (sym here)
        (subst (λ (one : ℕ). Contains (next_of (block_at plan (get_or path place 0)).leave) one) (sym next) ((is some).leads place inside))
    step place (inr last) below =
        let size = length_push path block in
        let e : length path ≡ suc place = omega (arith, last, below, size) in
        let f : place ≡ length path - 1 = omega (arith, e) in
        let here : get_or (path ++ block ∷ []) place 0 ≡ get_or path (length path - 1) 0 =
        get_or_append_left path (block ∷ []) 0 place (omega (arith, e)) ∙ ap (λ (n : ℕ). get_or path n 0) f in
        let next : get_or (path ++ block ∷ []) (suc place) 0 ≡ block = get_or_push path block 0 (suc place) e in
        subst (λ (one : ℕ). Contains (next_of (block_at plan one).leave) (get_or (path ++ block ∷ []) (suc place) 0)) (sym here)
        (subst (λ (one : ℕ). Contains (next_of (last_block plan path).leave) one) (sym next) (leads (omega (arith, e))))

goes_on_is : (job : Job) (history : History) (next : Option ℕ) → IsRun job (record { history = history; next = next }) → IsRun job (grown_run job history next)
goes_on_is job history None is = is
goes_on_is job history (Some block) is = record {
  starts = λ none. absurd (omega (arith, none, size));
  goes = λ some. ap₂ (λ (place one : ℕ). follows job after place (block_at job.plan one) (block_at job.plan one).leave) (sym last) (sym entered);
  path = λ some. longer job.plan path block
      (λ none. let e : Some block ≡ Some 0 = is.starts none in same_Some block 0 e) is.path
      (λ some. follows_next job history (length path - 1) (last_block job.plan path) (last_block job.plan path).leave block (sym (is.goes some)));
  used = subst (λ (n : ℕ). n ≤ job.decisions) (sym (ap (decisions_before job.plan (path ++ block ∷ [])) last ∙ before)) most;
  most = λ next goes. subst (λ (n : ℕ). n ≤ job.decisions) (sym (decided_push job.plan path block))
      (decision_left job after (length path) (decisions_before job.plan path (length path)) (block_at job.plan block) (block_at job.plan block).leave next goes before most);
}
  where
    path : List ℕ
    path = history.path

    after : History
    after = enters job history block

    size : length (history.path ++ block ∷ []) ≡ length history.path + 1
    size = length_push history.path block

    last : length (history.path ++ block ∷ []) - 1 ≡ length history.path
    last = omega (arith, size)

    entered : get_or (history.path ++ block ∷ []) (length (history.path ++ block ∷ []) - 1) 0 ≡ block
    entered = get_or_push history.path block 0 (length (history.path ++ block ∷ []) - 1) (sym last)

    before : decisions_before job.plan (history.path ++ block ∷ []) (length history.path) ≡ decisions_before job.plan history.path (length history.path)
    before = decided_before job.plan history.path block

    most : decisions_before job.plan history.path (length history.path) ≤ job.decisions
    most = is.most block refl

pub run_is : (job : Job) (places : ℕ) → IsRun job (run job places)
unfolding run
run_is job zero = record {
  starts = λ none. refl;
  goes = λ some. absurd (omega (arith, some));
  path = λ some. absurd (omega (arith, some));
  used = omega arith;
  most = λ next is. omega arith;
}
run_is job (suc places) = goes_on_is job (run job places).history (run job places).next (run_is job places)

goes_on_length : (job : Job) (history : History) (next : Option ℕ) → length (grown_run job history next).history.path ≤ length history.path + 1
goes_on_length job history None = omega arith
goes_on_length job history (Some block) = omega (arith, length_push history.path block)

run_length : (job : Job) (places : ℕ) → length (run job places).history.path ≤ places
unfolding run
run_length job zero = omega arith
run_length job (suc places) = omega (arith, goes_on_length job (run job places).history (run job places).next, run_length job places)

-- ---- the path of what runs

pub path_length : (machine : Machine) → Runs machine → length machine.history.path ≤ most_places machine.job.plan machine.job.decisions
path_length machine runs =
    subst (λ (history : History). length history.path ≤ most_places machine.job.plan machine.job.decisions) (sym runs.history)
    (run_length machine.job (most_places machine.job.plan machine.job.decisions))

pub path_is : (machine : Machine) → Runs machine → 0 < length machine.history.path → IsPath machine.job.plan machine.history.path
path_is machine runs =
    subst (λ (history : History). 0 < length history.path → IsPath machine.job.plan history.path) (sym runs.history)
    (run_is machine.job (most_places machine.job.plan machine.job.decisions)).path

-- a block after which one may come isn't the end
no_end : (leave : Leave) (next : ℕ) → Contains (next_of leave) next → is_end leave ≡ false
no_end (Jump other) next has = refl
no_end (Branch on_true on_false) next has = refl
no_end End next has = absurd (omega (arith, has.1))

-- what is seen of a path is complete where it is the whole path alone
pub part_incomplete : (machine : Machine) → Runs machine → (seen : ℕ) → seen < length machine.history.path → is_complete machine.job.plan (take seen machine.history.path) ≡ false
part_incomplete machine runs zero below = refl
part_incomplete machine runs (suc n) below =
    let path = machine.history.path in
    let many : length (take (suc n) path) ≡ suc n = length-take-le (suc n) path (omega (arith, below)) in
    let last : length (take (suc n) path) - 1 ≡ n = omega (arith, many) in
    and_right (nat_lt 0 (length (take (suc n) path))) (is_end (block_at machine.job.plan (get_or (take (suc n) path) (length (take (suc n) path) - 1) 0)).leave)
    (ap (λ (at : ℕ). is_end (block_at machine.job.plan (get_or (take (suc n) path) at 0)).leave) last
    ∙ ap (λ (block : ℕ). is_end (block_at machine.job.plan block).leave) (get_or-take (suc n) path n 0 (omega arith))
    ∙ no_end (block_at machine.job.plan (get_or path n 0)).leave (get_or path (suc n) 0) ((path_is machine runs (omega (arith, below))).leads n below))

-- that the parts of a run are explained
abbrev pub PartsExplained : Type 0
PartsExplained = (job : Job) (places : ℕ) → RangesFollow job.plan → EdgesGoUp job.plan → Explained job (run job places).history

pub explained_is : PartsExplained → (machine : Machine) → Runs machine → Explained machine.job machine.history
explained_is explained machine runs =
    subst (Explained machine.job) (sym runs.history) (explained machine.job (most_places machine.job.plan machine.job.decisions) runs.plan.ranges runs.plan.upward)
