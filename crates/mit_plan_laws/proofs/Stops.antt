-- The path stops within the stated number of places.
use Rattle.std.proofs.Common.{◌≡◌, ◌∙◌, ◌<◌, ◌≤◌, ◌+◌, ◌*◌, ◌-◌, ℕ, zero, suc, List, [], ◌∷◌, ◌++◌, length, take, ap, sym, subst, refl, arith, cond, ltb-true, Bool, true, false, Option, Some, None}
use Rattle.std.specs.Prelude.{nat_lt, count_by}
use Rattle.std.proofs.lemmas.List.{take_all, take_at}
use Rattle.std.proofs.lemmas.List.Sums.{sum_by_push}
use Rattle.mit_ops.specs.Endings.{truth_in}
use Rattle.mit_ops.specs.declared.leave.Leave.{Leave}
use Rattle.mit_ops.specs.declared.leave.Leave.TheVariants.{Jump, Branch, End}
use Rattle.mit_plan.specs.Valid.{by_leave, is_branch, settles}
use Rattle.mit_plan.specs.Held.{History, Job, Part, Run, decided_block, decisions_before, enters, failed, follows, grown_run, held, ok, run, void}
use Rattle.mit_plan.specs.Plans.{PlanOf, block_at}
use Rattle.mit_plan.specs.declared.plan.PlanBlock.{PlanBlock}

-- so many places on from a run
go : Job → ℕ → Run → Run
go job zero state = state
go job (suc k) state = go job k (grown_run job state.history state.next)

go_last : (job : Job) (k : ℕ) (state : Run) → go job (suc k) state ≡ grown_run job (go job k state).history (go job k state).next
unfolding go
go_last job zero state = refl
go_last job (suc k) state = go_last job k (grown_run job state.history state.next)

run_is : (job : Job) (k : ℕ) → run job k ≡ go job k (run job 0)
unfolding run go
run_is job zero = refl
run_is job (suc k) = ap (λ (state : Run). grown_run job state.history state.next) (run_is job k) ∙ sym (go_last job k (run job 0))

stays_none : (job : Job) (k : ℕ) (state : Run) → state.next ≡ None → (go job k state).next ≡ None
unfolding go
stays_none job zero state none = none
stays_none job (suc k) state none = stays_none job k (grown_run job state.history state.next) (ap (λ (next : Option ℕ). (grown_run job state.history next).next) none)

more_none : (job : Job) (few more : ℕ) (state : Run) → (go job few state).next ≡ None → (go job (few + more) state).next ≡ None
unfolding go
more_none job zero more state none = let e : more ≡ 0 + more = omega arith in subst (λ (k : ℕ). (go job k state).next ≡ None) e (stays_none job more state none)
more_none job (suc few) more state none =
    let e : suc (few + more) ≡ suc few + more = omega arith in
    subst (λ (k : ℕ). (go job k state).next ≡ None) e (more_none job few more (grown_run job state.history state.next) none)

-- ---- decisions

-- the decisions of a whole path
abbrev used : PlanOf → List ℕ → ℕ
used plan path = decisions_before plan path (length path)

-- the path stops within so many places, and `most` for each decision that is left
abbrev Stops : Job → ℕ → ℕ → ℕ → Type 0
Stops job most left within = (state : Run) (block : ℕ) → settles job.plan within block ≡ true → state.next ≡ Some block
    → job.decisions ≤ used job.plan state.history.path + left → (go job (within + left * most) state).next ≡ None

whole_path : (path : List ℕ) → take (length path) path ≡ path
whole_path path = take_all (length path) path (omega arith)

-- with one place more
used_before : (plan : PlanOf) (path : List ℕ) (block : ℕ) → decisions_before plan (path ++ block ∷ []) (length path) ≡ used plan path
used_before plan path block =
    ap (λ (blocks : List ℕ). count_by (λ one. is_branch (block_at plan one).leave) blocks) (take_at path (block ∷ []) (length path) refl ∙ sym (whole_path path))

used_push : (plan : PlanOf) (path : List ℕ) (block : ℕ) → used plan (path ++ block ∷ []) ≡ used plan path + cond (is_branch (block_at plan block).leave) 1 0
used_push plan path block =
    let count : List ℕ → ℕ = λ blocks. count_by (λ one. is_branch (block_at plan one).leave) blocks in
    ap count (whole_path (path ++ block ∷ [])) ∙ sum_by_push (λ (one : ℕ). cond (is_branch (block_at plan one).leave) 1 0) path block
    ∙ ap (λ n. n + cond (is_branch (block_at plan block).leave) 1 0) (ap count (sym (whole_path path)))

once_more : (most fewer within : ℕ) → most + fewer * most + within ≡ within + suc fewer * most
once_more most fewer within = omega arith

-- a block is left
leaves_it : (job : Job) (most left within : ℕ) (before : List ℕ) (history : History) (place : ℕ) (block : PlanBlock) (leave : Leave) → ((block : ℕ) → settles job.plan most block ≡ true)
    → ((fewer : ℕ) → left ≡ suc fewer → Stops job most fewer most) → Stops job most left within → by_leave (settles job.plan within) leave ≡ true
    → decisions_before job.plan history.path place ≡ used job.plan before
    → used job.plan history.path ≡ used job.plan before + cond (is_branch leave) 1 0 → job.decisions ≤ used job.plan before + left
    → (go job (within + left * most) (record { history = history; next = follows job history place block leave })).next ≡ None
leaves_it job most left within before history place block (Jump next) all later rest steady here count enough =
    rest (record { history = history; next = Some next }) next steady refl (omega (arith, count, enough))
leaves_it job most left within before history place block End all later rest steady here count enough = stays_none job (within + left * most) (record { history = history; next = None }) refl
leaves_it job most left within before history place block (Branch yes_to no_to) all later rest steady here count enough =
    by_test (nat_lt (decisions_before job.plan history.path place) job.decisions) refl (held history place (block.count - 1) 0)
  where
    on_to : (next fewer : ℕ) → left ≡ suc fewer → (go job (within + left * most) (record { history = history; next = Some next })).next ≡ None
    on_to next fewer is =
        let e : most + fewer * most + within ≡ within + left * most = once_more most fewer within ∙ ap (λ n. within + n * most) (sym is) in
        subst (λ (k : ℕ). (go job k (record { history = history; next = Some next })).next ≡ None) e
        (more_none job (most + fewer * most) within (record { history = history; next = Some next })
        (later fewer is (record { history = history; next = Some next }) next (all next) refl (omega (arith, count, enough, is))))

    a_left : used job.plan before < job.decisions → (fewer : ℕ) × (left ≡ suc fewer)
    a_left less = by_number left enough
      where
        by_number : (n : ℕ) → job.decisions ≤ used job.plan before + n → (fewer : ℕ) × (n ≡ suc fewer)
        by_number zero few = absurd (omega (arith, few, less))
        by_number (suc n) few = (n, refl)

    by_part : used job.plan before < job.decisions → (part : Part) → (go job (within + left * most) (record { history = history; next = decided_block part yes_to no_to })).next ≡ None
    by_part less (ok bag) = let one = a_left less in by_value (truth_in bag) one.0 one.1
      where
        by_value : (value : Bool) (fewer : ℕ) → left ≡ suc fewer → (go job (within + left * most) (record { history = history; next = Some (cond value yes_to no_to) })).next ≡ None
        by_value true fewer is = on_to yes_to fewer is
        by_value false fewer is = on_to no_to fewer is
    by_part less (failed fault) = stays_none job (within + left * most) (record { history = history; next = None }) refl
    by_part less void = stays_none job (within + left * most) (record { history = history; next = None }) refl

    by_test : (test : Bool) → nat_lt (decisions_before job.plan history.path place) job.decisions ≡ test → (part : Part)
        → (go job (within + left * most) (record { history = history; next = cond test (decided_block part yes_to no_to) None })).next ≡ None
    by_test true is part = let less = ltb-true (decisions_before job.plan history.path place) job.decisions is in by_part (omega (arith, less, here)) part
    by_test false is part = stays_none job (within + left * most) (record { history = history; next = None }) refl

stops_within : (job : Job) (most left within : ℕ) → ((block : ℕ) → settles job.plan most block ≡ true) → ((fewer : ℕ) → left ≡ suc fewer → Stops job most fewer most) → Stops job most left within
unfolding go settles
stops_within job most left zero all later state block settled next enough = absurd cc
stops_within job most left (suc within) all later state block settled next enough =
    let e : suc (within + left * most) ≡ suc within + left * most = omega arith in
    let path = state.history.path in
    subst (λ (k : ℕ). (go job k state).next ≡ None) e
    (subst (λ (some : Option ℕ). (go job (within + left * most) (grown_run job state.history some)).next ≡ None) (sym next)
    (leaves_it job most left within path (enters job state.history block) (length path) (block_at job.plan block) (block_at job.plan block).leave all later
    (stops_within job most left within all later) settled (used_before job.plan path block) (used_push job.plan path block) enough))

stops : (job : Job) (most left : ℕ) → ((block : ℕ) → settles job.plan most block ≡ true) → Stops job most left most
stops job most zero all = stops_within job most zero most all (λ fewer is. absurd cc)
stops job most (suc left) all = stops_within job most (suc left) most all (λ fewer is. let e : left ≡ fewer = cc in subst (λ (n : ℕ). Stops job most n most) e (stops job most left all))

-- the bound of the path
pub run_stops : (job : Job) (most : ℕ) → ((block : ℕ) → settles job.plan most block ≡ true) → (run job ((job.decisions + 1) * most)).next ≡ None
unfolding run
run_stops job most all =
    let e : most + job.decisions * most ≡ (job.decisions + 1) * most = grind arith in
    let enough : job.decisions ≤ used job.plan [] + job.decisions = omega arith in
    subst (λ (k : ℕ). (run job k).next ≡ None) e
    (ap (λ (state : Run). state.next) (run_is job (most + job.decisions * most)) ∙ stops job most job.decisions all (run job 0) 0 (all 0) refl enough)

-- and there it stays
pub run_stays : (job : Job) (places more : ℕ) → (run job places).next ≡ None → run job (more + places) ≡ run job places
unfolding run
run_stays job places zero none = let e : 0 + places ≡ places = omega arith in ap (run job) e
run_stays job places (suc more) none =
    let e : suc more + places ≡ suc (more + places) = omega arith in
    ap (run job) e ∙ ap (λ (state : Run). grown_run job state.history state.next) (run_stays job places more none) ∙ still (run job places) none
  where
    still : (state : Run) → state.next ≡ None → grown_run job state.history state.next ≡ state
    still state none = ap (λ (next : Option ℕ). grown_run job state.history next) none ∙ ap (λ (next : Option ℕ). record { history = state.history; next = next }) (sym none)
