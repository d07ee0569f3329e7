-- The run of a plan and the walk of its script go on side by side.
use Rattle.std.proofs.Common.{◌≡◌, ◌∙◌, ◌<◌, ◌+◌, ◌-◌, ℕ, zero, suc, List, [], ◌∷◌, ◌++◌, length, map, take, get_or, ap, sym, subst, refl, arith, cond, Bool, true, false, Option, Some, None, Result, Ok, Err, inl, inr}
use Rattle.std.specs.Prelude.{◌⊎◌, Contains, IsTrue, count_by, filter_map, nat_lt, option_map}
use Rattle.std.specs.List.{range_with_len}
use Rattle.std.proofs.lemmas.Bool.{le-ltb, lt-ltb}
use Rattle.std.proofs.lemmas.List.{get_or_append_left, get_or_push, length_push, take_all, take_at}
use Rattle.std.proofs.lemmas.List.Sums.{sum_by_push}
use Rattle.mit_rows.specs.Bags.{bag_sum}
use Rattle.mit_files.specs.Printed.{Write}
use Rattle.mit_ops.specs.Endings.{Ending, finished, stopped, truth_in}
use Rattle.mit_ops.specs.declared.faults.FaultKind.TheVariants.{DecisionLimit}
use Rattle.mit_ops.specs.declared.faults.ScriptFault.{ScriptFault}
use Rattle.mit_ops.specs.declared.leave.Leave.{Leave}
use Rattle.mit_ops.specs.declared.leave.Leave.TheVariants.{Jump, Branch, End}
use Rattle.mit_script.specs.Execution.{ScriptState, start}
use Rattle.mit_cfg.specs.Walk.{Place, Reached, at_ending, before, decided, does, leaves, next_place, numbered_block, through, walk, walk_from}
use Rattle.mit_cfg.specs.Walk.{entered}
use Rattle.mit_cfg.specs.declared.block.Block.{Block as Code}
use Rattle.mit_plan.specs.Explained.{Explained}
use Rattle.mit_plan.specs.Held.{History, Job, Part, Run, all_there, bag_in, decided_block, decisions_before, enters, follows, grown_run, held, ok, rows, run, void}
use Rattle.mit_plan.specs.Meant.{at_end, fault_at, faults_of, first_or, history_ending, last_block, pairs_at, write_at, writes_of}
use Rattle.mit_plan.specs.Paths.{next_of}
use Rattle.mit_plan.specs.Plans.{PlanOf, block_at, op_at}
use Rattle.mit_plan.specs.Sums.{bag_at}
use Rattle.mit_plan.specs.Valid.{NamesBlocks, is_branch, last_of}
use Rattle.mit_ssa.specs.Reaching.{IsBlockOf, Reaching}
use Rattle.mit_meaning.proofs.Good.{Good, OneOperator, Stands}
use Rattle.mit_meaning.proofs.PlanLaws.{PlanLaws}
use Rattle.mit_meaning.proofs.OneBlock.{Behind, Comes, LastDecides, PlaceFacts, Ran, block_comes, block_decides, count_there}

-- ---- decisions

-- the decisions of a whole path
abbrev pub taken_on : PlanOf → List ℕ → ℕ
taken_on plan path = decisions_before plan path (length path)

whole_path : (path : List ℕ) → take (length path) path ≡ path
whole_path path = take_all (length path) path (omega arith)

-- with one place more: the decisions before it, and on the whole path
taken_before : (plan : PlanOf) (path : List ℕ) (block : ℕ) → decisions_before plan (path ++ block ∷ []) (length path) ≡ taken_on plan path
taken_before plan path block =
    ap (λ (blocks : List ℕ). count_by (λ one. is_branch (block_at plan one).leave) blocks) (take_at path (block ∷ []) (length path) refl ∙ sym (whole_path path))

taken_push : (plan : PlanOf) (path : List ℕ) (block : ℕ) → taken_on plan (path ++ block ∷ []) ≡ taken_on plan path + cond (is_branch (block_at plan block).leave) 1 0
taken_push plan path block =
    let count : List ℕ → ℕ = λ blocks. count_by (λ one. is_branch (block_at plan one).leave) blocks in
    ap count (whole_path (path ++ block ∷ [])) ∙ sum_by_push (λ (one : ℕ). cond (is_branch (block_at plan one).leave) 1 0) path block
    ∙ ap (λ n. n + cond (is_branch (block_at plan block).leave) 1 0) (ap count (sym (whole_path path)))

-- ---- a place more

-- bags stay
bag_stays : (job : Job) (history : History) (block other index : ℕ) → length history.parts ≡ length history.path → other < length history.path
    → bag_at job (enters job history block) other index ≡ bag_at job history other index
bag_stays job history block other index even below =
    let made = rows job history block (block_at job.plan block).count in
    ap (λ (parts : List (List Part)). option_map bag_sum (all_there (map (λ partition. bag_in (get_or (get_or parts index []) partition void)) (range_with_len 0 job.partitions))))
    (get_or_append_left history.parts (made ∷ []) [] other (omega (arith, even, below)))

-- ---- the run and the walk side by side

-- a plan whose run may be compared with the walk
pub record Compared (job : Job) (code : List Code) (known : Reaching) : Type 0 where
  pub laws : PlanLaws
  pub stands : Stands job code known
  pub one : OneOperator job code known

-- both are before a block
pub record Going (job : Job) (code : List Code) (known : Reaching) (state : Run) (block : ℕ) (walked : ScriptState) : Type 0 where
  pub next : state.next ≡ Some block
  pub within : block < length code
  pub quiet : faults_of job state.history ≡ []
  pub writes : walked.writes ≡ writes_of job state.history
  pub used : taken_on job.plan state.history.path ≡ walked.used
  pub sum : walked.used + walked.left ≡ job.decisions
  -- where this block is entered
  pub good : (longer : History) → longer.path ≡ state.history.path ++ block ∷ []
      → ((other at : ℕ) → other < length state.history.path → bag_at job longer other at ≡ bag_at job state.history other at)
      → Good job known longer (length state.history.path) 0 walked.store

-- a fault came first
abbrev pub FaultIsFirst : Job → History → ScriptFault → Type 0
FaultIsFirst job history fault = (later : List ScriptFault) × (faults_of job history ≡ fault ∷ later)

-- the run has stopped, or it goes on behind a fault
pub record Over (job : Job) (state : Run) (ending : Ending) : Type 0 where
  pub ends : history_ending job state.history ≡ ending
  pub stays : (state.next ≡ None) ⊎ ((fault : ScriptFault) × FaultIsFirst job state.history fault)

-- both have come to the same
abbrev pub InStep : Job → List Code → Reaching → Run → Place → Type 0
InStep job code known state (before block walked) = Going job code known state block walked
InStep job code known state (at_ending ending) = Over job state ending

-- ---- once it is over

-- then it is the ending
first_ends : (job : Job) (history : History) (fault : ScriptFault) → FaultIsFirst job history fault → history_ending job history ≡ stopped fault
first_ends job history fault first =
    let last = last_block job.plan history.path in
    ap (λ (faults : List ScriptFault). first_or faults (at_end job history last last.leave)) first.1

-- and it stays the first one, however the path goes on
first_stays : PlanLaws → (job : Job) (history : History) (next : Option ℕ) (fault : ScriptFault) → length history.parts ≡ length history.path
    → FaultIsFirst job history fault → FaultIsFirst job (grown_run job history next).history fault
first_stays laws job history None fault even first = first
first_stays laws job history (Some block) fault even first =
    let after = enters job history block in
    let more = filter_map (fault_at job.plan after) (pairs_at job.plan after.path (length history.path)) in
    (first.0 ++ more, laws.faults job history block even ∙ ap (λ (faults : List ScriptFault). faults ++ more) first.1)

-- with one place more the ending stays
over_on : PlanLaws → (job : Job) (state : Run) (ending : Ending) → length state.history.parts ≡ length state.history.path → Over job state ending → Over job (grown_run job state.history state.next) ending
over_on laws job state ending even is = by_way is.stays
  where
    by_way : (state.next ≡ None) ⊎ ((fault : ScriptFault) × FaultIsFirst job state.history fault) → Over job (grown_run job state.history state.next) ending
    by_way (inl none) = subst (λ (next : Option ℕ). Over job (grown_run job state.history next) ending) (sym none) (record { ends = is.ends; stays = inl refl })
    by_way (inr fault) =
        let first = first_stays laws job state.history state.next fault.0 even fault.1 in
        record {
          ends = first_ends job (grown_run job state.history state.next).history fault.0 first ∙ sym (first_ends job state.history fault.0 fault.1) ∙ is.ends;
          stays = inr (fault.0, first);
        }

-- ---- a block is left

-- a block has run without a fault
pub record Left (job : Job) (code : List Code) (known : Reaching) (after : History) (place block : ℕ) (reached : Reached) : Type 0 where
  pub placed : PlaceFacts job code known after place
  pub size : length after.path ≡ suc place
  pub own : get_or after.path place 0 ≡ block
  pub quiet : faults_of job after ≡ []
  pub writes : reached.state.writes ≡ writes_of job after
  pub used : decisions_before job.plan after.path place ≡ reached.state.used
  pub taken : taken_on job.plan after.path ≡ reached.state.used + cond (is_branch (block_at job.plan block).leave) 1 0
  pub sum : reached.state.used + reached.state.left ≡ job.decisions
  pub good : Good job known after place (count_there job after place) reached.state.store
  pub decides : IsTrue (is_branch (block_at job.plan block).leave) → LastDecides job after place reached

-- the run as it is left
abbrev pub run_left : Job → History → ℕ → ℕ → Leave → Run
run_left job after place block leave = record { history = after; next = follows job after place (block_at job.plan block) leave }

-- the state with other counts of decisions
abbrev with_counts : Reached → ℕ → ℕ → ScriptState
with_counts reached used left = record reached.state { used = used; left = left }

-- to a next block
going_on : (job : Job) (code : List Code) (known : Reaching) (after : History) (place block : ℕ) (reached : Reached) (leave : Leave) (next used left : ℕ)
    → Left job code known after place block reached → (block_at job.plan block).leave ≡ leave → Contains (next_of leave) next → next < length code
    → used ≡ reached.state.used + cond (is_branch leave) 1 0 → used + left ≡ job.decisions
    → Going job code known (record { history = after; next = Some next }) next (with_counts reached used left)
going_on job code known after place block reached leave next used left is same leads within count sum = record {
  next = refl;
  within = within;
  quiet = is.quiet;
  writes = is.writes;
  used = is.taken ∙ ap (λ (some : Leave). reached.state.used + cond (is_branch some) 1 0) same ∙ sym count;
  sum = sum;
  good = λ longer path stays.
      subst (λ (k : ℕ). Good job known longer k 0 reached.state.store) (sym is.size)
      (is.placed.one.enter after longer place next reached.state.store is.size path
      (subst (λ (some : Leave). Contains (next_of some) next) (sym (ap (λ (b : ℕ). (block_at job.plan b).leave) is.own ∙ same)) leads) stays is.good);
}

-- an ending without a fault
ends_so : (job : Job) (code : List Code) (known : Reaching) (after : History) (place block : ℕ) (reached : Reached) (leave : Leave)
    → Left job code known after place block reached → (block_at job.plan block).leave ≡ leave → history_ending job after ≡ at_end job after (block_at job.plan block) leave
ends_so job code known after place block reached leave is same =
    let last = last_block job.plan after.path in
    let e : length after.path - 1 ≡ place = let size = is.size in omega arith in
    ap (λ (faults : List ScriptFault). first_or faults (at_end job after last last.leave)) is.quiet
    ∙ ap (λ (k : ℕ). at_end job after (block_at job.plan (get_or after.path k 0)) (block_at job.plan (get_or after.path k 0)).leave) e
    ∙ ap (λ (b : ℕ). at_end job after (block_at job.plan b) (block_at job.plan b).leave) is.own
    ∙ ap (at_end job after (block_at job.plan block)) same

-- at the end of the plan
left_at_end : (job : Job) (code : List Code) (known : Reaching) (after : History) (place block : ℕ) (reached : Reached)
    → Left job code known after place block reached → (block_at job.plan block).leave ≡ End
    → Over job (run_left job after place block End) (finished reached.state.writes reached.state.used)
left_at_end job code known after place block reached is same =
    let used : taken_on job.plan after.path ≡ reached.state.used =
    is.taken ∙ ap (λ (some : Leave). reached.state.used + cond (is_branch some) 1 0) same ∙ (let z : reached.state.used + 0 ≡ reached.state.used = omega arith in z) in
    record {
      ends = ends_so job code known after place block reached End is same
          ∙ ap (λ (writes : List Write). finished writes (taken_on job.plan after.path)) (sym is.writes)
          ∙ ap (finished reached.state.writes) used;
      stays = inl refl;
    }

-- at a branch, where a decision is left or none
left_at_branch : (job : Job) (code : List Code) (known : Reaching) (after : History) (place block : ℕ) (reached : Reached) (on_true on_false left : ℕ)
    → Left job code known after place block reached → (block_at job.plan block).leave ≡ Branch on_true on_false → on_true < length code → on_false < length code
    → reached.state.left ≡ left → LastDecides job after place reached
    → InStep job code known (run_left job after place block (Branch on_true on_false)) (decided reached left on_true on_false)
left_at_branch job code known after place block reached on_true on_false zero is same within other none decides =
    let sum = is.sum in
    let all : reached.state.used ≡ job.decisions = omega (arith, sum, none) in
    let used = is.used in
    let test : nat_lt (decisions_before job.plan after.path place) job.decisions ≡ false = le-ltb (decisions_before job.plan after.path place) job.decisions (omega (arith, used, all)) in
    let statement : (op_at job.plan (last_of (block_at job.plan block))).statement ≡ reached.statement =
    ap (λ (b : ℕ). (op_at job.plan (last_of (block_at job.plan b))).statement) (sym is.own) ∙ decides.statement in
    subst (λ (some : Bool). Over job (record { history = after; next = cond some (decided_block (held after place ((block_at job.plan block).count - 1) 0) on_true on_false) None })
    (stopped (record { statement = reached.statement; decisions = reached.state.used; kind = DecisionLimit }))) (sym test)
    (record {
      ends = ends_so job code known after place block reached (Branch on_true on_false) is same
          ∙ ap (λ (number : ℕ). stopped (record { statement = number; decisions = job.decisions; kind = DecisionLimit })) statement
          ∙ ap (λ (number : ℕ). stopped (record { statement = reached.statement; decisions = number; kind = DecisionLimit })) (sym all);
      stays = inl refl;
    })
left_at_branch job code known after place block reached on_true on_false (suc left) is same within other some decides =
    let sum = is.sum in
    let used = is.used in
    let test : nat_lt (decisions_before job.plan after.path place) job.decisions ≡ true = lt-ltb (decisions_before job.plan after.path place) job.decisions (omega (arith, used, sum, some)) in
    let part : held after place ((block_at job.plan block).count - 1) 0 ≡ ok reached.bag =
    ap (λ (b : ℕ). held after place ((block_at job.plan b).count - 1) 0) (sym is.own) ∙ decides.part in
    subst (λ (some : Bool). InStep job code known (record { history = after; next = cond some (decided_block (held after place ((block_at job.plan block).count - 1) 0) on_true on_false) None })
    (decided reached (suc left) on_true on_false)) (sym test)
    (subst (λ (some : Part). InStep job code known (record { history = after; next = decided_block some on_true on_false })
    (decided reached (suc left) on_true on_false)) (sym part) (by_truth (truth_in reached.bag)))
  where
    more : reached.state.used + 1 + left ≡ job.decisions
    more = let sum = is.sum in omega (arith, sum, some)

    by_truth : (truth : Bool) → Going job code known (record { history = after; next = Some (cond truth on_true on_false) }) (cond truth on_true on_false) (with_counts reached (reached.state.used + 1) left)
    by_truth true =
        going_on job code known after place block reached (Branch on_true on_false) on_true (reached.state.used + 1) left is same
        (0, omega arith, refl) within refl more
    by_truth false =
        going_on job code known after place block reached (Branch on_true on_false) on_false (reached.state.used + 1) left is same
        (1, omega arith, refl) other refl more

-- however it is left
left_in_step : (job : Job) (code : List Code) (known : Reaching) (after : History) (place block : ℕ) (reached : Reached) (leave : Leave)
    → Left job code known after place block reached → (block_at job.plan block).leave ≡ leave → NamesBlocks (length code) leave
    → InStep job code known (run_left job after place block leave) (leaves (Ok reached) leave)
left_in_step job code known after place block reached (Jump next) is same named =
    let z : reached.state.used ≡ reached.state.used + 0 = omega arith in
    going_on job code known after place block reached (Jump next) next reached.state.used reached.state.left is same (0, omega arith, refl) named z is.sum
left_in_step job code known after place block reached (Branch on_true on_false) is same named =
    left_at_branch job code known after place block reached on_true on_false reached.state.left is same named.0 named.1 refl
    (is.decides (ap is_branch same))
left_in_step job code known after place block reached End is same named =
    left_at_end job code known after place block reached is same

-- ---- a block is run

-- what is known of a history after a block is entered
record EnteredBlock (job : Job) (code : List Code) (known : Reaching) (history : History) (block : ℕ) (walked : ScriptState) : Type 0 where
  size : length (history.path ++ block ∷ []) ≡ suc (length history.path)
  own : get_or (history.path ++ block ∷ []) (length history.path) 0 ≡ block
  placed : PlaceFacts job code known (enters job history block) (length history.path)
  used : decisions_before job.plan (history.path ++ block ∷ []) (length history.path) ≡ walked.used
  good : Good job known (enters job history block) (length history.path) 0 walked.store
  is : IsBlockOf job.plan known (get_or (history.path ++ block ∷ []) (length history.path) 0) (numbered_block code block)

entered_is : (job : Job) (code : List Code) (known : Reaching) (history : History) (block : ℕ) (walked : ScriptState) → Compared job code known
    → length history.parts ≡ length history.path → Explained job (enters job history block)
    → Going job code known (record { history = history; next = Some block }) block walked → EnteredBlock job code known history block walked
entered_is job code known history block walked compared even explained going = record {
  size = size;
  own = own;
  placed = record { some = compared.stands.some; one = compared.one; explained = explained; below = omega (arith, size) };
  used = taken_before job.plan history.path block ∙ going.used;
  good = going.good (enters job history block) refl (λ other at below. bag_stays job history block other at even below);
  is = subst (λ (b : ℕ). IsBlockOf job.plan known b (numbered_block code block)) (sym own) (compared.stands.reaches.blocks block going.within);
}
  where
    size : length (history.path ++ block ∷ []) ≡ suc (length history.path)
    size = omega (arith, length_push history.path block)

    own : get_or (history.path ++ block ∷ []) (length history.path) 0 ≡ block
    own = get_or_push history.path block 0 (length history.path) refl

-- its operators come to what its steps come to
entered_comes : (job : Job) (code : List Code) (known : Reaching) (history : History) (block : ℕ) (walked : ScriptState) → Compared job code known
    → EnteredBlock job code known history block walked
    → Comes job known (enters job history block) (length history.path) 0 (count_there job (enters job history block) (length history.path)) walked
    (does job.files (numbered_block code block).steps (entered walked))
entered_comes job code known history block walked compared is =
    block_comes compared.laws job code known (enters job history block) (length history.path) (numbered_block code block) walked is.placed is.is is.good is.used

-- a fault there is the first one
fault_first : (job : Job) (code : List Code) (known : Reaching) (history : History) (block : ℕ) (walked : ScriptState) (fault : ScriptFault) → Compared job code known
    → length history.parts ≡ length history.path → Going job code known (record { history = history; next = Some block }) block walked
    → Comes job known (enters job history block) (length history.path) 0 (count_there job (enters job history block) (length history.path)) walked (Err fault)
    → Over job (grown_run job history (Some block)) (stopped fault)
fault_first job code known history block walked fault compared even going comes =
    let after = enters job history block in
    let first : FaultIsFirst job after fault = (
      comes.0,
      compared.laws.faults job history block even
          ∙ ap (λ (faults : List ScriptFault). faults ++ filter_map (fault_at job.plan after) (pairs_at job.plan after.path (length history.path))) going.quiet
          ∙ comes.1,
    ) in
    record { ends = first_ends job after fault first; stays = inr (fault, first) }

-- without one the block is left
block_left : (job : Job) (code : List Code) (known : Reaching) (history : History) (block : ℕ) (walked : ScriptState) (reached : Reached) → Compared job code known
    → length history.parts ≡ length history.path → Going job code known (record { history = history; next = Some block }) block walked
    → EnteredBlock job code known history block walked
    → Ran job known (enters job history block) (length history.path) 0 (count_there job (enters job history block) (length history.path)) walked reached
    → Left job code known (enters job history block) (length history.path) block reached
block_left job code known history block walked reached compared even going is ran =
    let after = enters job history block in
    let place = length history.path in
    let z : 0 + count_there job after place ≡ count_there job after place = omega arith in
    let sum = going.sum in
    let used = ran.used in
    let left = ran.left in
    record {
      placed = is.placed;
      size = is.size;
      own = is.own;
      quiet = compared.laws.faults job history block even
          ∙ ap (λ (faults : List ScriptFault). faults ++ filter_map (fault_at job.plan after) (pairs_at job.plan after.path place)) going.quiet
          ∙ ran.quiet;
      writes = ran.writes
          ∙ ap (λ (writes : List Write). writes ++ filter_map (write_at job after) (pairs_at job.plan after.path place)) going.writes
          ∙ sym (compared.laws.writes job history block even);
      used = is.used ∙ sym ran.used;
      taken = taken_push job.plan history.path block
          ∙ ap (λ (n : ℕ). n + cond (is_branch (block_at job.plan block).leave) 1 0) (going.used ∙ sym ran.used);
      sum = omega (arith, sum, used, left);
      good = subst (λ (k : ℕ). Good job known after place k reached.state.store) z ran.good;
      decides = λ branch. block_decides job known after place (numbered_block code block) reached is.is
          (is.is.decided (ap is_branch (sym (compared.stands.reaches.blocks block going.within).leave) ∙ branch))
          (subst (λ (k : ℕ). Behind job after place k reached) z ran.last);
    }

-- both have come to the same behind a block
block_in_step : (job : Job) (code : List Code) (known : Reaching) (history : History) (block : ℕ) (walked : ScriptState) → Compared job code known
    → length history.parts ≡ length history.path → Explained job (enters job history block)
    → Going job code known (record { history = history; next = Some block }) block walked
    → InStep job code known (grown_run job history (Some block)) (through job.files (numbered_block code block) (entered walked))
block_in_step job code known history block walked compared even explained going =
    by_result (does job.files (numbered_block code block).steps (entered walked)) (entered_comes job code known history block walked compared is)
  where
    is : EnteredBlock job code known history block walked
    is = entered_is job code known history block walked compared even explained going

    own : (block_at job.plan block).leave ≡ (numbered_block code block).leave
    own = (compared.stands.reaches.blocks block going.within).leave

    many : length job.plan.blocks ≡ length code
    many = compared.stands.reaches.many

    named : NamesBlocks (length code) (block_at job.plan block).leave
    named = subst (λ (blocks : ℕ). NamesBlocks blocks (block_at job.plan block).leave) many (compared.stands.leaves block (let within = going.within in omega (arith, within, many)))

    by_result : (result : Result Reached ScriptFault)
        → Comes job known (enters job history block) (length history.path) 0 (count_there job (enters job history block) (length history.path)) walked result
        → InStep job code known (grown_run job history (Some block)) (leaves result (numbered_block code block).leave)
    by_result (Err fault) comes = fault_first job code known history block walked fault compared even going comes
    by_result (Ok reached) ran =
        subst (λ (leave : Leave). InStep job code known (grown_run job history (Some block)) (leaves (Ok reached) leave)) own
        (left_in_step job code known (enters job history block) (length history.path) block reached (block_at job.plan block).leave
        (block_left job code known history block walked reached compared even going is ran) refl named)

-- ---- all places

-- and behind one more place
next_in_step : (job : Job) (code : List Code) (known : Reaching) (state : Run) (place : Place) → Compared job code known
    → length state.history.parts ≡ length state.history.path → Explained job (grown_run job state.history state.next).history
    → InStep job code known state place → InStep job code known (grown_run job state.history state.next) (next_place code job.files place)
next_in_step job code known state (at_ending ending) compared even explained is = over_on compared.laws job state ending even is
next_in_step job code known state (before block walked) compared even explained going =
    subst (λ (next : Option ℕ). InStep job code known (grown_run job state.history next) (through job.files (numbered_block code block) (entered walked))) (sym going.next)
    (block_in_step job code known state.history block walked compared even
    (subst (λ (next : Option ℕ). Explained job (grown_run job state.history next).history) going.next explained)
    (record { next = refl; within = going.within; quiet = going.quiet; writes = going.writes; used = going.used; sum = going.sum; good = going.good }))

-- after as many places both have come to the same
pub in_step : (job : Job) (code : List Code) (known : Reaching) (places : ℕ) → Compared job code known → 0 < length code
    → InStep job code known (run job places) (walk code job.files job.decisions places)
unfolding run walk_from
in_step job code known zero compared some = record {
  next = refl;
  within = some;
  quiet = refl;
  writes = refl;
  used = refl;
  sum = omega arith;
  good = λ longer path stays. compared.one.first longer (start job.decisions).store (ap (λ (blocks : List ℕ). get_or blocks 0 0) path);
}
in_step job code known (suc places) compared some =
    next_in_step job code known (run job places) (walk code job.files job.decisions places) compared (compared.laws.even job places)
    (compared.laws.rows job (suc places) compared.stands.ranges compared.stands.upward) (in_step job code known places compared some)
