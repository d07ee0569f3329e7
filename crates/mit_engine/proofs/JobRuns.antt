-- A run of the job: its log grows by one pick an action, and its answer is the interpreter's over all files that agree with the shelf.
use Rattle.std.proofs.Common.{◌≡◌, ◌∙◌, ◌<◌, ◌≤◌, ◌+◌, ◌*◌, ◌++◌, ℕ, List, [], ◌∷◌, append_assoc, arith, ap, get_or, length, length-append, refl, subst, sym}
use Rattle.std.specs.Prelude.{Option, Some, None, IfSome, Ok, sum_by}
use Rattle.std.proofs.lemmas.List.{append-nil}
use Rattle.std.proofs.lemmas.List.Elements.{All-append}
use Rattle.std.proofs.lemmas.Option.{slice_get_within}
use Rattle.mit_files.specs.Files.{FileMap}
use Rattle.mit_files.specs.Printed.{published}
use Rattle.mit_shelf.specs.Shelf.{Agrees, Kept}
use Rattle.mit_ops.specs.declared.faults.FaultKind.{FaultKind}
use Rattle.mit_engine.specs.Job.{AnswersEnding}
use Rattle.mit_engine.specs.Operators.{JobState, actions_left, first_job, staged_writes}
use Rattle.mit_engine.specs.Picks.{GrowsBy, GrowsWithin}
use Rattle.mit_engine.specs.Running.{Goes, JobStands, verdict_of}
use Rattle.mit_engine.specs.Thin.{Faulted, IsFormedThin, action_count, edges_of, exec_thin}
use Rattle.mit_engine.specs.declared.job.Verdict.TheVariants as verdict
use Rattle.mit_engine.specs.declared.schedule.Pick.{Pick}
use Rattle.mit_engine.specs.declared.thin.TheConstants.{MAX_STATEMENTS}
use Rattle.mit_engine.specs.declared.thin.ThinStep.{ThinStep}
use Rattle.mit_engine.proofs.CountLemmas.{complete_left, few_actions, first_left, something_left}
use Rattle.mit_engine.proofs.DeliveryLemmas.{starts}
use Rattle.mit_engine.proofs.JobEnds.{complete_ends, fault_ends, fault_within}
use Rattle.mit_engine.proofs.VerdictLemmas.{first_unheard}

-- ---- the log

pub grows_none : (log log' : List Pick) → log' ≡ log → GrowsBy 0 log log'
grows_none log log' same = ([], same ∙ sym (append-nil log), refl, λ k d within. absurd (omega arith))

pub grows_one : (old new : List Pick) (pick : Pick) → new ≡ old ++ pick ∷ [] → pick.chosen < pick.offered → GrowsBy 1 old new
grows_one old new pick is below = (pick ∷ [], is, refl, λ k d within. one k d (omega arith))
  where
    one : (k : ℕ) (d : Pick) → k ≡ 0 → (get_or (pick ∷ []) k d).chosen < (get_or (pick ∷ []) k d).offered
    one k d zero = subst (λ (j : ℕ). (get_or (pick ∷ []) j d).chosen < (get_or (pick ∷ []) j d).offered) (sym zero) below

pub grows_more : (a b : ℕ) (first middle last : List Pick) → GrowsBy a first middle → GrowsBy b middle last → GrowsBy (a + b) first last
grows_more a b first middle last before after = (
  before.0 ++ after.0,
  after.1 ∙ ap (λ log. log ++ after.0) before.1 ∙ append_assoc first before.0 after.0,
  length-append before.0 after.0 ∙ ap (λ n. n + length after.0) before.2 ∙ ap (λ n. a + n) after.2,
  All-append (λ (pick : Pick). pick.chosen < pick.offered) before.0 after.0 before.3 after.3,
)

pub within : (count most : ℕ) (old new : List Pick) → GrowsBy count old new → count ≤ most → GrowsWithin most old new
within count most old new grows few = (count, few, grows)

pub logged_none : (most : ℕ) (log : List Pick) → GrowsWithin most log log
logged_none most log = within 0 most log log (grows_none log log refl) (omega arith)

pub within_more : (count most : ℕ) (first middle last : List Pick) → GrowsBy count first middle → GrowsWithin 1 middle last → count + 1 ≤ most → GrowsWithin most first last
within_more count most first middle last before after few =
    (count + after.0, omega (arith, after.1), grows_more count after.0 first middle last before after.2)

-- ---- the files that agree with the shelf

-- those that the folder tells still agree after one action more
pub agrees_more : (told told' : Option FileMap) (first middle last : Kept) → told' ≡ told → IfSome told (λ files. Agrees first files → Agrees middle files)
    → IfSome told' (λ files. Agrees middle files → Agrees last files) → IfSome told (λ files. Agrees first files → Agrees last files)
agrees_more None told' first middle last same before after = tt
agrees_more (Some files) told' first middle last same before after =
    let P : Option FileMap → Type 0 = λ t. IfSome t (λ files. Agrees middle files → Agrees last files) in
    let next : Agrees middle files → Agrees last files = subst P same after in
    λ agrees. next (before agrees)

pub agrees_first : (told : Option FileMap) (shelf : Kept) → IfSome told (λ files. Agrees shelf files → Agrees shelf files)
agrees_first None shelf = tt
agrees_first (Some files) shelf = λ agrees. agrees

-- ---- the actions of a run

-- a run of these statements so far, with the actions that it took
pub record Ran (steps : List ThinStep) (shelf : Kept) (job : JobState) (actions : ℕ) : Type 0 where
  pub formed : IsFormedThin steps
  pub stands : JobStands steps shelf job
  pub counted : actions + actions_left job ≡ 1 + 2 * length steps + sum_by edges_of steps
  pub idle : length steps ≡ 0 → actions ≡ 0

-- a job that runs has statements
some_statements : {steps : List ThinStep} {shelf : Kept} {job : JobState} → JobStands steps shelf job → verdict_of job ≡ verdict.Running → 0 < length steps
some_statements {job = job} stands is =
    let first = first_unheard 0 job.operators is in
    omega (arith, slice_get_within job.operators first.place first.operator first.there, stands.holds.sized)

all_actions : (steps : List ThinStep) → 0 < length steps → 1 + 2 * length steps + sum_by edges_of steps ≡ action_count steps
all_actions [] none = absurd (omega arith)
all_actions (first ∷ steps) some = refl

pub run_starts : (steps script : List ThinStep) (shelf : Kept) (job : JobState) → steps ≡ script → IsFormedThin script → job ≡ first_job steps → Ran steps shelf job 0
run_starts steps script shelf job same formed is = record {
  formed = let P : List ThinStep → Type 0 = IsFormedThin in subst P (sym same) formed;
  stands = starts steps shelf job is;
  counted = omega (arith, first_left steps, ap actions_left is);
  idle = λ none. refl;
}

pub run_goes : {steps : List ThinStep} {shelf shelf' : Kept} {job job' : JobState} {actions : ℕ} → Ran steps shelf job actions → verdict_of job ≡ verdict.Running
    → Goes steps shelf' job job' → Ran steps shelf' job' (actions + 1)
run_goes ran is goes = record {
  formed = ran.formed;
  stands = goes.stands;
  counted = omega (arith, goes.counted, ran.counted);
  idle = λ none. absurd (omega (arith, none, some_statements ran.stands is));
}

-- one that has not ended has taken less than all, which are few
pub run_within : {steps : List ThinStep} {shelf : Kept} {job : JobState} {actions : ℕ} → Ran steps shelf job actions → verdict_of job ≡ verdict.Running
    → (actions + 1 ≤ action_count steps) × (actions + 1 ≤ 4001)
run_within {steps} {job = job} ran is = (
  omega (arith, something_left job is, ran.counted, all_actions steps (some_statements ran.stands is)),
  omega (arith, something_left job is, ran.counted, few_actions steps ran.formed.0),
)

-- one that is complete has taken all
pub run_all : {steps : List ThinStep} {shelf : Kept} {job : JobState} {actions : ℕ} → Ran steps shelf job actions → verdict_of job ≡ verdict.Complete
    → actions ≡ action_count steps
run_all {steps = []} ran is = ran.idle refl
run_all {steps = first ∷ steps} ran is =
    omega (arith, complete_left ran.stands is (omega arith), ran.counted, all_actions (first ∷ steps) (omega arith))

-- the log of one that stopped at its next action is no longer than that of one that is complete
pub stopped_within : {steps : List ThinStep} {shelf : Kept} {job : JobState} {actions : ℕ} (script : List ThinStep) (first middle last : List Pick) → steps ≡ script
    → Ran steps shelf job actions → verdict_of job ≡ verdict.Running → GrowsBy actions first middle → GrowsWithin 1 middle last → GrowsWithin (action_count script) first last
stopped_within {actions = actions} script first middle last same ran is before after =
    within_more actions (action_count script) first middle last before after (omega (arith, (run_within ran is).0, ap action_count same))

-- nor is that of one that ended
pub ended_within : {steps : List ThinStep} {shelf : Kept} {job : JobState} {actions : ℕ} (script : List ThinStep) (first last : List Pick) → steps ≡ script
    → Ran steps shelf job actions → GrowsBy actions first last → GrowsWithin (action_count script) first last
ended_within {steps = []} {actions = actions} script first last same ran grows =
    within actions (action_count script) first last grows (omega (arith, ran.idle refl))
ended_within {steps = step ∷ steps} {job = job} {actions} script first last same ran grows =
    within actions (action_count script) first last grows (omega (arith, ran.counted, all_actions (step ∷ steps) (omega arith), ap action_count same))

-- the statement at fault is one of few
pub run_fault : {steps : List ThinStep} {shelf : Kept} {job : JobState} {actions at : ℕ} {kind : FaultKind} → Ran steps shelf job actions
    → verdict_of job ≡ verdict.Fault at kind → at < MAX_STATEMENTS
run_fault {job = job} {at = at} {kind} ran is = omega (arith, fault_within 0 job.operators at kind is, ran.stands.holds.sized, ran.formed.0)

-- ---- the answer

pub fault_answers : {steps : List ThinStep} {shelf : Kept} {job : JobState} {actions at : ℕ} {kind : FaultKind} (script : List ThinStep) → steps ≡ script
    → Ran steps shelf job actions → verdict_of job ≡ verdict.Fault at kind → (files : FileMap) → Agrees shelf files
    → (exec_thin files script ≡ Faulted (at + 1) kind) × ◌≡◌ {A = ℕ} 0 0
fault_answers {at = at} {kind} script same ran is files agrees =
    (ap (exec_thin files) (sym same) ∙ fault_ends files at kind ran.formed ran.stands agrees is, refl)

pub complete_answers : {steps : List ThinStep} {shelf : Kept} {job : JobState} {actions : ℕ} (script : List ThinStep) (written : FileMap) → steps ≡ script
    → Ran steps shelf job actions → verdict_of job ≡ verdict.Complete → written ≡ published (staged_writes steps job.operators)
    → (files : FileMap) → Agrees shelf files → AnswersEnding script (exec_thin files script) (Ok (record { files = written; blocks = 1; actions = actions }))
complete_answers {steps} {job = job} script written same ran is filed files agrees = (
  staged_writes steps job.operators,
  ap (exec_thin files) (sym same) ∙ complete_ends files ran.formed ran.stands agrees is,
  filed,
  refl,
  run_all ran is ∙ ap action_count same,
)
