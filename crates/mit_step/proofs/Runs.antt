-- Statements and turns, one after another, over all files that agree with the shelf.
use Rattle.std.proofs.Common.{◌≡◌, ◌∙◌, ◌≤◌, ◌<◌, ◌+◌, ℕ, zero, suc, List, [], ◌∷◌, Bool, true, false, Result, Ok, Err, add-one, ap, arith, drop, drop-cons, get_or, length, map, refl, subst, sym}
use Rattle.std.specs.Prelude.{OnOk, if◌then◌else◌}
use Rattle.mit_files.specs.Files.{FileMap}
use Rattle.mit_shelf.specs.Shelf.{Agrees, Kept}
use Rattle.mit_shelf.specs.declared.stop.Stop.{Stop}
use Rattle.mit_shelf.specs.declared.stop.Stop.TheVariants as stop
use Rattle.mit_ops.specs.declared.faults.ScriptFault.{ScriptFault}
use Rattle.mit_ops.specs.declared.kinds.OpSpec.{OpSpec}
use Rattle.mit_script.specs.Execution.{Doing, counts, Ended, ScriptState, if_goes_on, by_condition, exec_of, goes_on, in_turn, turns}
use Rattle.mit_script.specs.Trees.{count_of, count_of_all}
use Rattle.mit_script.specs.declared.tree.Stmt.{Stmt}
use Rattle.mit_script.specs.declared.tree.Stmt.TheVariants as stmt
use Rattle.mit_step.proofs.Execs.{all_counted, counted, exec_of-If}
use Rattle.mit_step.specs.Running.{Faults, LeavesRun, Stands}
use Rattle.mit_step.specs.declared.run.Run.{Run}

-- what is done over these files from a state on
abbrev pub Does : Type 0
Does = FileMap → ScriptState → Ended

-- a run came from one place to another, and what is left there does what was to be done before
abbrev pub Reached : Does → Does → Kept → Run → Run → Type 0
Reached whole rest shelf old now = (files : FileMap) (state : ScriptState) → Agrees shelf files → Stands state old → (later : ScriptState) × Stands later now × (whole files state ≡ rest files later)

pub reached_none : (whole : Does) (shelf : Kept) (run : Run) → Reached whole whole shelf run run
reached_none whole shelf run files state agrees stands = (state, stands, refl)

-- the statements of a block from one on
abbrev pub block_does : List Stmt → ℕ → Does
block_does block number files = in_turn (map (exec_of files) block) number

-- a statement is the first of those that are left
pub first_does : (stmt : Stmt) (more : List Stmt) (number : ℕ) (files : FileMap) (state : ScriptState)
    → block_does (stmt ∷ more) number files state ≡ if_goes_on ((exec_of files stmt).does number state) (block_does more (number + count_of stmt) files)
unfolding in_turn
first_does stmt more number files state =
    ap (λ count. if_goes_on ((exec_of files stmt).does number state) (in_turn (map (exec_of files) more) (number + count))) (counted files stmt)

pub none_does : (number : ℕ) (files : FileMap) (state : ScriptState) → block_does [] number files state ≡ goes_on state
unfolding in_turn
none_does number files state = refl

-- one statement more
pub reached_more : {block : List Stmt} {stmt : Stmt} {more : List Stmt} (number count : ℕ) {whole : Does} (shelf shelf' : Kept) {old now next : Run} → block ≡ stmt ∷ more
    → Reached whole (block_does block number) shelf old now → ((files : FileMap) → Agrees shelf' files → Agrees shelf files)
    → ((files : FileMap) (state : ScriptState) → Agrees shelf' files → Stands state now → (later : ScriptState) × Stands later next × ((exec_of files stmt).does number state ≡ goes_on later))
    → count ≡ count_of stmt → Reached whole (block_does more (number + count)) shelf' old next
reached_more {stmt = stmt} {more = more} number count shelf shelf' is before grows does counts files state agrees stands =
    let here = before files state (grows files agrees) stands in
    let there = does files here.0 agrees here.1 in
    let rest = block_does more (number + count) files in (
      there.0,
      there.1,
      here.2 ∙ (ap (λ b. block_does b number files here.0) is ∙ (first_does stmt more number files here.0
          ∙ (ap (λ n. if_goes_on ((exec_of files stmt).does number here.0) (block_does more (number + n) files)) (sym counts) ∙ ap (λ ended. if_goes_on ended rest) there.2))),
    )

faults_then : (ended : Ended) (rest : ScriptState → Ended) (why : Stop ScriptFault) → Faults ended why → Faults (if_goes_on ended rest) why
faults_then ended rest (stop.Fault fault) is = ap (λ e. if_goes_on e rest) is
faults_then ended rest stop.Folder is = tt
faults_then ended rest stop.NoMemory is = tt

-- or a stop
pub reached_stop : {block : List Stmt} {stmt : Stmt} {more : List Stmt} (number : ℕ) {whole : Does} (shelf shelf' : Kept) {old now : Run} (why : Stop ScriptFault) → block ≡ stmt ∷ more
    → Reached whole (block_does block number) shelf old now → ((files : FileMap) → Agrees shelf' files → Agrees shelf files)
    → ((files : FileMap) (state : ScriptState) → Agrees shelf' files → Stands state now → Faults ((exec_of files stmt).does number state) why)
    → (files : FileMap) (state : ScriptState) → Agrees shelf' files → Stands state old → Faults (whole files state) why
reached_stop {stmt = stmt} {more = more} number shelf shelf' why is before grows does files state agrees stands =
    let here = before files state (grows files agrees) stands in
    let rest = block_does more (number + count_of stmt) files in
    subst (λ ended. Faults ended why) (sym (here.2 ∙ (ap (λ b. block_does b number files here.0) is ∙ first_does stmt more number files here.0)))
    (faults_then ((exec_of files stmt).does number here.0) rest why (does files here.0 agrees here.1))

-- ---- turns

-- a loop's turns that are left are at least as many as the decisions that are left
abbrev pub Turned : OpSpec → List ℕ → List Stmt → ℕ → Kept → Run → Run → Type 0
Turned op args body number shelf old now = (files : FileMap) (state : ScriptState) → Agrees shelf files → Stands state old →
    (more : ℕ) × (later : ScriptState) × (now.decisions.left ≤ more) × Stands later now
    × (turns state.left (by_condition files number op args) (block_does body (number + 1) files) state ≡ turns more (by_condition files number op args) (block_does body (number + 1) files) later)

pub turned_none : (op : OpSpec) (args : List ℕ) (body : List Stmt) (number : ℕ) (shelf : Kept) (run : Run) → Turned op args body number shelf run run
turned_none op args body number shelf run files state agrees stands = (state.left, state, omega (arith, stands.left), stands, refl)

-- what a condition decided
abbrev pub Decided : OpSpec → List ℕ → ℕ → Kept → Run → Run → Bool → Type 0
Decided op args number shelf now mid truth = (files : FileMap) (state : ScriptState) (next : Bool → ScriptState → Ended) → Agrees shelf files → Stands state now →
    (later : ScriptState) × Stands later mid × (by_condition files number op args state next ≡ next truth later)

-- what follows the condition of a turn, where so many more may come after it
abbrev turn_next : OpSpec → List ℕ → List Stmt → ℕ → ℕ → FileMap → Bool → ScriptState → Ended
turn_next op args body number more files truth later =
    if truth then if_goes_on (block_does body (number + 1) files later) (turns more (by_condition files number op args) (block_does body (number + 1) files)) else goes_on later

abbrev last_next : Bool → ScriptState → Ended
last_next truth later = goes_on later

abbrev loop_does : OpSpec → List ℕ → List Stmt → ℕ → ℕ → Does
loop_does op args body number more files = turns more (by_condition files number op args) (block_does body (number + 1) files)

-- a turn begins with its condition
turn_begins : (op : OpSpec) (args : List ℕ) (body : List Stmt) (number more : ℕ) (files : FileMap) (here : ScriptState)
    → loop_does op args body number (suc more) files here ≡ by_condition files number op args here (turn_next op args body number more files)
unfolding turns
turn_begins op args body number more files here = refl

last_begins : (op : OpSpec) (args : List ℕ) (body : List Stmt) (number : ℕ) (files : FileMap) (here : ScriptState)
    → loop_does op args body number zero files here ≡ by_condition files number op args here last_next
unfolding turns
last_begins op args body number files here = refl

-- the condition was true, and one decision was taken
abbrev pub Entered : OpSpec → List ℕ → List Stmt → ℕ → Kept → Run → Run → Run → Type 0
Entered op args body number shelf old now mid = (files : FileMap) (state : ScriptState) → Agrees shelf files → Stands state old →
    (more : ℕ) × (later : ScriptState) × (now.decisions.left ≤ suc more) × Stands later mid
    × (loop_does op args body number state.left files state ≡ if_goes_on (block_does body (number + 1) files later) (loop_does op args body number more files))

pub entered : (op : OpSpec) (args : List ℕ) (body : List Stmt) (number : ℕ) (shelf shelf' : Kept) {old now mid : Run} → Turned op args body number shelf old now
    → ((files : FileMap) → Agrees shelf' files → Agrees shelf files) → Decided op args number shelf' now mid true → mid.decisions.left < now.decisions.left
    → Entered op args body number shelf' old now mid
entered op args body number shelf shelf' {old} {now} {mid} turned grows decided less files state agrees stands =
    let here = turned files state (grows files agrees) stands in by_more here.0 here.1 here.2 here.3 here.4
  where
    by_more : (more : ℕ) (here : ScriptState) → now.decisions.left ≤ more → Stands here now → loop_does op args body number state.left files state ≡ loop_does op args body number more files here
        → (left : ℕ) × (later : ScriptState) × (now.decisions.left ≤ suc left) × Stands later mid
        × (loop_does op args body number state.left files state ≡ if_goes_on (block_does body (number + 1) files later) (loop_does op args body number left files))
    by_more zero here few stands is = absurd (omega (arith, few, less))
    by_more (suc left) here few stands is =
        let there = decided files here (turn_next op args body number left files) agrees stands in
        (left, there.0, few, there.1, is ∙ (turn_begins op args body number left files here ∙ there.2))

-- after the body the next turn begins
pub turned_more : (op : OpSpec) (args : List ℕ) (body : List Stmt) (number : ℕ) (shelf shelf' : Kept) {old : Run} (now : Run) {mid next : Run} → Entered op args body number shelf old now mid
    → ((files : FileMap) → Agrees shelf' files → Agrees shelf files)
    → ((files : FileMap) (state : ScriptState) → Agrees shelf' files → Stands state mid → (later : ScriptState) × Stands later next × (block_does body (number + 1) files state ≡ goes_on later))
    → next.decisions.left < now.decisions.left → Turned op args body number shelf' old next
turned_more op args body number shelf shelf' now before grows does less files state agrees stands =
    let here = before files state (grows files agrees) stands in
    let there = does files here.1 agrees here.3 in
    (here.0, there.0, omega (arith, here.2, less), there.1, here.4 ∙ ap (λ ended. if_goes_on ended (loop_does op args body number here.0 files)) there.2)

-- or the body stops
pub turned_stop : (op : OpSpec) (args : List ℕ) (body : List Stmt) (number : ℕ) (shelf shelf' : Kept) {old : Run} (now : Run) {mid : Run} (why : Stop ScriptFault) → Entered op args body number shelf old now mid
    → ((files : FileMap) → Agrees shelf' files → Agrees shelf files)
    → ((files : FileMap) (state : ScriptState) → Agrees shelf' files → Stands state mid → Faults (block_does body (number + 1) files state) why)
    → (files : FileMap) (state : ScriptState) → Agrees shelf' files → Stands state old → Faults (loop_does op args body number state.left files state) why
turned_stop op args body number shelf shelf' now why before grows does files state agrees stands =
    let here = before files state (grows files agrees) stands in
    subst (λ ended. Faults ended why) (sym here.4)
    (faults_then (block_does body (number + 1) files here.1) (loop_does op args body number here.0 files) why (does files here.1 agrees here.3))

-- the condition was false
pub turned_end : (op : OpSpec) (args : List ℕ) (body : List Stmt) (number : ℕ) (shelf shelf' : Kept) {old now mid : Run} → Turned op args body number shelf old now
    → ((files : FileMap) → Agrees shelf' files → Agrees shelf files) → Decided op args number shelf' now mid false
    → (files : FileMap) (state : ScriptState) → Agrees shelf' files → Stands state old
    → (later : ScriptState) × Stands later mid × (loop_does op args body number state.left files state ≡ goes_on later)
turned_end op args body number shelf shelf' {now = now} {mid = mid} turned grows decided files state agrees stands =
    let it = turned files state (grows files agrees) stands in by_more it.0 it.1 it.3 it.4
  where
    by_more : (more : ℕ) (here : ScriptState) → Stands here now → loop_does op args body number state.left files state ≡ loop_does op args body number more files here
        → (later : ScriptState) × Stands later mid × (loop_does op args body number state.left files state ≡ goes_on later)
    by_more zero here stands is =
        let there = decided files here last_next agrees stands in (there.0, there.1, is ∙ (last_begins op args body number files here ∙ there.2))
    by_more (suc left) here stands is =
        let there = decided files here (turn_next op args body number left files) agrees stands in
        (there.0, there.1, is ∙ (turn_begins op args body number left files here ∙ there.2))

-- or it was at fault, or came after the last decision
pub turned_fault : (op : OpSpec) (args : List ℕ) (body : List Stmt) (number : ℕ) (shelf shelf' : Kept) {old now : Run} (why : Stop ScriptFault) → Turned op args body number shelf old now
    → ((files : FileMap) → Agrees shelf' files → Agrees shelf files)
    → ((files : FileMap) (state : ScriptState) (next : Bool → ScriptState → Ended) → Agrees shelf' files → Stands state now → Faults (by_condition files number op args state next) why)
    → (files : FileMap) (state : ScriptState) → Agrees shelf' files → Stands state old → Faults (loop_does op args body number state.left files state) why
turned_fault op args body number shelf shelf' {now = now} why turned grows stops files state agrees stands =
    let it = turned files state (grows files agrees) stands in by_more it.0 it.1 it.3 it.4
  where
    by_more : (more : ℕ) (here : ScriptState) → Stands here now → loop_does op args body number state.left files state ≡ loop_does op args body number more files here
        → Faults (loop_does op args body number state.left files state) why
    by_more zero here stands is =
        subst (λ ended. Faults ended why) (sym (is ∙ last_begins op args body number files here)) (stops files here last_next agrees stands)
    by_more (suc left) here stands is =
        subst (λ ended. Faults ended why) (sym (is ∙ turn_begins op args body number left files here)) (stops files here (turn_next op args body number left files) agrees stands)

-- ---- a statement by its kind

-- a statement that does the same leaves the same
pub leaves_as : {A : Type 0} {ended other : Ended} (next : A → ScriptState → Ended) (run : Run) (result : Result A (Stop ScriptFault)) → ended ≡ other → LeavesRun other next run result → LeavesRun ended next run result
leaves_as next run (Ok value) is leaves = (leaves.0, leaves.1, is ∙ leaves.2)
leaves_as next run (Err why) is leaves = subst (λ e. Faults e why) (sym is) leaves

-- the first statement of those that are left
pub here : {A : Type 0} (list : List A) (at : ℕ) (one : A) → at < length list → one ≡ get_or list at one → drop at list ≡ one ∷ drop (at + 1) list
here list at one within is = drop-cons list at one within ∙ rw (sym is, add-one at) refl

-- an `if` whose condition decided
pub branch_leaves : {A : Type 0} (op : OpSpec) (args : List ℕ) (on_true on_false : List Stmt) (number : ℕ) (truth : Bool) (shelf shelf' : Kept) {now mid : Run} (last : Run) (result : Result A (Stop ScriptFault))
    (next : A → ScriptState → Ended) → Decided op args number shelf now mid truth → ((files : FileMap) → Agrees shelf' files → Agrees shelf files)
    → ((files : FileMap) (state : ScriptState) → Agrees shelf' files → Stands state mid
    → LeavesRun (if truth then block_does on_true (number + 1) files state else block_does on_false (number + 1 + count_of_all on_true) files state) next last result)
    → (files : FileMap) (state : ScriptState) → Agrees shelf' files → Stands state now → LeavesRun ((exec_of files (stmt.If op args on_true on_false)).does number state) next last result
branch_leaves op args on_true on_false number truth shelf shelf' last result next decided grows leaves files state agrees stands =
    let follows : Bool → ScriptState → Ended = λ t later. if t then block_does on_true (number + 1) files later else block_does on_false (number + 1 + counts (map (exec_of files) on_true)) files later in
    let there = decided files state follows (grows files agrees) stands in
    leaves_as next last result
    (ap (λ (doing : Doing). doing.does number state) (exec_of-If files op args on_true on_false) ∙ (there.2
    ∙ ap (λ count. if truth then block_does on_true (number + 1) files there.0 else block_does on_false (number + 1 + count) files there.0) (all_counted files on_true)))
    (leaves files there.0 agrees there.1)

-- what holds anyway holds at an answer
pub on_ok : {A E P : Type 0} (result : Result A E) → P → OnOk result P
on_ok (Ok value) fact = fact
on_ok (Err why) fact = tt
