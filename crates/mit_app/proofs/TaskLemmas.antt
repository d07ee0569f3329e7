-- How reading, running, publishing and showing make the end of a task.
use Rattle.std.proofs.Common.{◌≡◌, ◌∙◌, ◌++◌, ℕ, List, ap, sym, subst, refl, arith, inl, inr}
use Rattle.std.specs.Prelude.{◌⊎◌, Bool, true, false, if◌then◌else◌, Option, Some, None, Result, IfErr, IfSome, Ok, Err, option_and_then, option_map, slice_get, string_bytes}
use Rattle.std.proofs.lemmas.List.{take_all}
use Rattle.std.specs.FinMap as fin
use Rattle.mit_files.specs.Files.{FileMap}
use Rattle.mit_files.specs.Printed.{published}
use Rattle.mit_world.specs.Outside.{Held}
use Rattle.mit_shelf.specs.Shelf.{Agrees, Kept, bytes_at, kept}
use Rattle.mit_shelf.specs.Staging.{stages_all}
use Rattle.mit_shelf.specs.declared.stop.Stop.TheVariants as stop
use Rattle.mit_ops.specs.Endings.{Ending, finished, stopped}
use Rattle.mit_ops.specs.declared.faults.ScriptFault.{ScriptFault}
use Rattle.mit_ops.specs.declared.types.VarType.{VarType}
use Rattle.mit_script.specs.Execution as all
use Rattle.mit_script.specs.declared.tree.Script.{Script}
use Rattle.mit_script.specs.declared.typed.Typed.{Typed}
use Rattle.mit_step.specs.Stepping.{EndsAs}
use Rattle.mit_step.specs.declared.step.Stepped.{Stepped}
use Rattle.mit_plan.specs.Plans.{PlanOf}
use Rattle.mit_plan.specs.Printed.{plan_text}
use Rattle.mit_ssa.specs.PlanFor.{plan_for}
use Rattle.mit_engine.specs.Job.{AnswersEnding}
use Rattle.mit_engine.specs.Thin as thin
use Rattle.mit_engine.specs.Thin.{action_count}
use Rattle.mit_engine.specs.declared.thin.Done.{Done}
use Rattle.mit_engine.specs.declared.thin.ThinStep.{ThinStep}
use Rattle.mit_words.specs.declared.words.Task.{Task}
use Rattle.mit_words.specs.declared.words.Task.TheVariants.{Run, Step, Check, Plan}
use Rattle.mit_words.specs.declared.words.TheConstants.{DECISIONS}
use Rattle.mit_thin.specs.ThinScript.{thin_steps}
use Rattle.mit_thin.specs.ThinEndings.{all_of_thin}
use Rattle.mit_app.specs.Answers.{Gains, Stages}
use Rattle.mit_app.specs.Due.{Accepted, Blocks, Decisions, Found, IsFound, IsFoundIn, Misspelled, Missing, Publishes, Refused, Rejected, Shows, Tally, ending_verdict, is_too_large, run_verdict, task_verdict, verdict_for}
use Rattle.mit_app.specs.Ends.{Ends, EndsStaging, FindsAs, IfOutsideFailed, PlanHalts, PublishesAs, PutsAs, FindsIn, ReportsTask, RunsAs, ShowsAs, ShowsText, StagesFront, StopsStaging}
use Rattle.mit_app.specs.Lines.{report_line, step_line}
use Rattle.mit_app.specs.declared.ends.Halt.{Halt}
use Rattle.mit_app.specs.declared.ends.Halt.TheVariants as halt
use Rattle.mit_app.specs.declared.ends.Outside.TheVariants as outside
use Rattle.mit_app.specs.declared.ends.Refusal.TheVariants as refusal
use Rattle.mit_app.specs.declared.publish.Ran.{Ran}
use Rattle.mit_app.proofs.DueLemmas.{any_actions, counted_at}
use Rattle.mit_app.proofs.EndLemmas.{HaltsWith}

-- ---- reading

-- what a text is read as is what is found under its name
pub finds : (name text : List ℕ) (files : FileMap) (result : Result Typed Halt) → fin.get files name ≡ Some text → FindsIn text result → FindsAs name files result
finds name text files (Ok typed) got reads = subst (λ (look : Option (List ℕ)). IsFoundIn look (Accepted typed.script typed.types)) (sym got) reads
finds name text files (Err (halt.Refused why)) got reads =
    λ task. (reads.0, subst (λ (look : Option (List ℕ)). IsFoundIn look reads.0) (sym got) reads.1, reads.2 task name files)
finds name text files (Err (halt.Failed why)) got reads = tt

-- what is kept of a name is what files that agree have of it
pub got_kept : (shelf : Kept) (files : FileMap) (name asked : List ℕ) (file : Option (List ℕ)) → Agrees shelf files → asked ≡ name → kept shelf asked ≡ Some file
    → fin.get files name ≡ file
got_kept shelf files name asked file agrees same is =
    ap (fin.get files) (sym same) ∙ subst (λ (found : Option (Option (List ℕ))). IfSome found (λ f. fin.get files asked ≡ f)) is (agrees asked)

same_bytes : (one other : List ℕ) → Some one ≡ Some other → one ≡ other
same_bytes one other e = cc

-- a text that is kept under the name
pub finds_kept : (shelf : Kept) (files : FileMap) (name asked text bytes : List ℕ) (place : ℕ) (result : Result Typed Halt) → Agrees shelf files → asked ≡ name
    → slice_get shelf place ≡ Some (asked, Some bytes) → kept shelf asked ≡ Some (Some bytes) → bytes_at shelf place ≡ Some text → FindsIn text result
    → FindsAs name files result
finds_kept shelf files name asked text bytes place result agrees same at is read reads =
    let text_is : bytes ≡ text = same_bytes bytes text (sym (ap (option_and_then (λ (entry : List ℕ × Option (List ℕ)). entry.1)) at) ∙ read) in
    finds name text files result (got_kept shelf files name asked (Some bytes) agrees same is ∙ ap Some text_is) reads

-- a name without a file
pub finds_none : (name : List ℕ) (files : FileMap) (result : Result Typed Halt) (h : Halt) → result ≡ Err h → fin.get files name ≡ None
    → (h ≡ halt.Refused (refusal.Absent name)) ⊎ (h ≡ halt.Failed outside.NoMemory) → FindsAs name files result
finds_none name files result h is got (inl absent) =
    let P : Result Typed Halt → Type 0 = λ r. FindsAs name files r in
    subst P (sym (is ∙ ap Err absent)) (λ task. (Missing, subst (λ (look : Option (List ℕ)). IsFoundIn look Missing) (sym got) tt, refl))
finds_none name files result h is got (inr memory) =
    let P : Result Typed Halt → Type 0 = λ r. FindsAs name files r in
    subst P (sym (is ∙ ap Err memory)) tt

pub read_failed : (result : Result Typed Halt) (folder : Type 0) → IfErr result (λ h. IfOutsideFailed h ⊥ ⊥ ⊥) → IfErr result (λ h. IfOutsideFailed h folder ⊥ ⊥)
read_failed (Ok typed) folder own = tt
read_failed (Err (halt.Refused why)) folder own = tt
read_failed (Err (halt.Failed outside.Folder)) folder own = absurd own
read_failed (Err (halt.Failed outside.Outbox)) folder own = own
read_failed (Err (halt.Failed outside.Console)) folder own = own
read_failed (Err (halt.Failed outside.NoMemory)) folder own = tt

-- a script that was not had
pub reading_ends : {O : Type 0} (held : O → Option Held) (task : Task) (name : List ℕ) (files : FileMap) (outbox : O) (written : Option (List ℕ)) (h : Halt) (folder : Type 0)
    → IfOutsideFailed h folder ⊥ ⊥ → FindsAs name files (Err h) → Ends held task name files outbox outbox written written (Err h)
reading_ends held task name files outbox written (halt.Refused why) folder cause finds = (finds task, refl, refl)
reading_ends held task name files outbox written (halt.Failed outside.Folder) folder cause finds = (refl, refl)
reading_ends held task name files outbox written (halt.Failed outside.Outbox) folder cause finds = absurd cause
reading_ends held task name files outbox written (halt.Failed outside.Console) folder cause finds = absurd cause
reading_ends held task name files outbox written (halt.Failed outside.NoMemory) folder cause finds = inl refl

-- ---- running

pub not_thin_runs : (script : Script) (types : List VarType) (files : FileMap) → thin_steps script ≡ None → RunsAs Run script types files (Err (halt.Refused refusal.NotThin))
not_thin_runs script types files none = ap (run_verdict files script) none

same_steps : (one other : List ThinStep) → Some one ≡ Some other → one ≡ other
same_steps one other e = cc

-- what is due for a thin script is the ending of its steps
thin_due : (script : Script) (types : List VarType) (files : FileMap) (steps : List ThinStep) (ending : thin.ThinEnding) → thin_steps script ≡ Some steps
    → all.exec script files DECISIONS ≡ all_of_thin (thin.exec_thin files steps) → thin.exec_thin files steps ≡ ending
    → task_verdict Run files script types ≡ ending_verdict (λ used. Blocks 1) (all_of_thin ending)
thin_due script types files steps ending gives means is = ap (run_verdict files script) gives ∙ ap (ending_verdict (λ used. Blocks 1)) (means ∙ ap all_of_thin is)

pub ended_runs : (script : Script) (types : List VarType) (files : FileMap) (steps : List ThinStep) (done : Done) (ran : Ran) → thin_steps script ≡ Some steps
    → all.exec script files DECISIONS ≡ all_of_thin (thin.exec_thin files steps) → AnswersEnding steps (thin.exec_thin files steps) (Ok done)
    → ran.files ≡ done.files → string_bytes ran.report ≡ report_line (fin.len done.files) done.blocks done.actions → RunsAs Run script types files (Ok ran)
ended_runs script types files steps done ran gives means answer same told = record {
  tally = Blocks 1;
  due = thin_due script types files steps (thin.Finished answer.0) gives means answer.1 ∙ ap (λ (m : FileMap). Publishes m (Blocks 1)) (sym answer.2 ∙ sym same);
  actions = done.actions;
  counted = λ other is. answer.4 ∙ ap action_count (same_steps steps other (sym gives ∙ is));
  text = told ∙ ap (λ (blocks : ℕ). report_line (fin.len done.files) blocks done.actions) answer.3
      ∙ ap (λ (m : FileMap). report_line (fin.len m) 1 done.actions) (sym same);
}

-- a fault is told with no decisions
fault_alike : (fault : ScriptFault) → fault.decisions ≡ 0 → record { statement = fault.statement; decisions = 0; kind = fault.kind } ≡ fault
fault_alike fault none = ap (λ (d : ℕ). record { statement = fault.statement; decisions = d; kind = fault.kind }) (sym none)

pub faulty_runs : (script : Script) (types : List VarType) (files : FileMap) (steps : List ThinStep) (fault : ScriptFault) → thin_steps script ≡ Some steps
    → all.exec script files DECISIONS ≡ all_of_thin (thin.exec_thin files steps)
    → (thin.exec_thin files steps ≡ thin.Faulted fault.statement fault.kind) × (fault.decisions ≡ 0) → RunsAs Run script types files (Err (halt.Refused (refusal.Fault fault)))
faulty_runs script types files steps fault gives means answer =
    thin_due script types files steps (thin.Faulted fault.statement fault.kind) gives means answer.0
    ∙ ap (λ (f : ScriptFault). Refused (refusal.Fault f)) (fault_alike fault answer.1)

-- a script that is run step by step came to its end
pub ended_steps : (decisions : ℕ) (script : Script) (types : List VarType) (files : FileMap) (stepped : Stepped) (ran : Ran) (ending : Ending) → all.exec script files decisions ≡ ending
    → EndsAs ending (Ok stepped) → ran.files ≡ stepped.files → string_bytes ran.report ≡ step_line (fin.len stepped.files) stepped.decisions
    → RunsAs (Step decisions) script types files (Ok ran)
ended_steps decisions script types files stepped ran (stopped fault) is ends same told = absurd ends
ended_steps decisions script types files stepped ran (finished writes used) is ends same told =
    let counts = any_actions script in
    record {
      tally = Decisions used;
      due = ap (ending_verdict Decisions) is ∙ ap (λ (m : FileMap). Publishes m (Decisions used)) (sym ends.0 ∙ sym same);
      actions = counts.0;
      counted = counts.1;
      text = told ∙ ap (step_line (fin.len stepped.files)) ends.1 ∙ ap (λ (m : FileMap). step_line (fin.len m) used) (sym same);
    }

-- or it is at fault
pub faulty_steps : (decisions : ℕ) (script : Script) (types : List VarType) (files : FileMap) (fault : ScriptFault) (ending : Ending) → all.exec script files decisions ≡ ending
    → EndsAs ending (Err (stop.Fault fault)) → RunsAs (Step decisions) script types files (Err (halt.Refused (refusal.Fault fault)))
faulty_steps decisions script types files fault (stopped other) is ends =
    ap (ending_verdict Decisions) is ∙ ap (λ (f : ScriptFault). Refused (refusal.Fault f)) (sym ends)
faulty_steps decisions script types files fault (finished writes used) is ends = absurd ends

-- a run that did not come to its end
pub running_ends : {O : Type 0} (held : O → Option Held) (task : Task) (name : List ℕ) (files : FileMap) (outbox : O) (written : Option (List ℕ)) (script : Script) (types : List VarType) (h : Halt) (folder : Type 0)
    → IfOutsideFailed h folder ⊥ ⊥ → IsFound files name (Accepted script types) → RunsAs task script types files (Err h) → Ends held task name files outbox outbox written written (Err h)
running_ends held task name files outbox written script types (halt.Refused why) folder cause found runs = ((Accepted script types, found, sym runs), refl, refl)
running_ends held task name files outbox written script types (halt.Failed outside.Folder) folder cause found runs = (refl, refl)
running_ends held task name files outbox written script types (halt.Failed outside.Outbox) folder cause found runs = absurd cause
running_ends held task name files outbox written script types (halt.Failed outside.Console) folder cause found runs = absurd cause
running_ends held task name files outbox written script types (halt.Failed outside.NoMemory) folder cause found runs = inl refl

-- ---- publishing

staging : (task : Task) (name : List ℕ) (files : FileMap) (script : Script) (types : List VarType) (published : FileMap) (report : List ℕ) (Stopped : FileMap → List ℕ → Type 0)
    → IsFound files name (Accepted script types) → ReportsTask task script types files published report → Stopped published report → EndsStaging task name files Stopped
staging task name files script types published report Stopped found reports halts = record {
  published = published;
  tally = reports.tally;
  due = (Accepted script types, found, sym reports.due);
  actions = reports.actions;
  counted = (script, types, found, reports.counted);
  stopped = subst (Stopped published) reports.text halts;
}

-- where all files are staged, that is as many as there are
pub all_staged : (files : FileMap) (old new : Option Held) → new ≡ option_map (stages_all (fin.entries files)) old → Stages (fin.len files) files old new
all_staged files old new is =
    is ∙ ap (λ (those : List (List ℕ × List ℕ)). option_map (stages_all those) old)
    (sym (take_all (fin.len files) (fin.entries files) (omega (arith, fin.len-entries files))))

pub some_staged : (files : FileMap) (old new : Option Held) → new ≡ option_map (stages_all (fin.entries files)) old → StagesFront files old new
some_staged files old new is = (fin.len files, omega arith, all_staged files old new is)

pub gains_text : (line text : List ℕ) (old new : Option (List ℕ)) → text ≡ line → new ≡ option_map (λ before. before ++ text) old → Gains line old new
gains_text line text old new e is = is ∙ ap (λ (t : List ℕ). option_map (λ before. before ++ t) old) e

-- a run that came to its end is published, or stops
pub publishing_ends : {O : Type 0} (held : O → Option Held) (task : Task) (name : List ℕ) (files : FileMap) (old new : O) (written written' : Option (List ℕ)) (script : Script) (types : List VarType) (ran : Ran)
    (result : Result (Unit {0}) Halt) → IsFound files name (Accepted script types) → RunsAs task script types files (Ok ran)
    → PublishesAs ran.files (string_bytes ran.report) (held old) (held new) written written' result → Ends held task name files old new written written' result
publishing_ends held task name files old new written written' script types ran (Ok _) found runs publishes = record {
  verdict = Publishes ran.files runs.tally;
  due = (Accepted script types, found, sym runs.due);
  well = refl;
  actions = runs.actions;
  counted = (script, types, found, runs.counted);
  text = subst (λ (report : List ℕ). Gains report written written') runs.text publishes.1;
  outbox = record {
    done = λ _. publishes.0;
    count = 0;
    within = omega arith;
    staged = λ other. absurd (other refl);
    stopped = λ five. absurd (omega (arith, five));
  };
}
publishing_ends held task name files old new written written' script types ran (Err (halt.Refused why)) found runs publishes = absurd publishes
publishing_ends held task name files old new written written' script types ran (Err (halt.Failed outside.Folder)) found runs publishes = absurd publishes
publishing_ends held task name files old new written written' script types ran (Err (halt.Failed outside.Outbox)) found runs publishes =
    staging task name files script types ran.files (string_bytes ran.report) (λ published report. StopsStaging published report (held old) (held new) written written') found runs publishes
publishing_ends held task name files old new written written' script types ran (Err (halt.Failed outside.Console)) found runs publishes =
    inr (staging task name files script types ran.files (string_bytes ran.report) (λ published report. StagesFront published (held old) (held new)) found runs publishes)
publishing_ends held task name files old new written written' script types ran (Err (halt.Failed outside.NoMemory)) found runs publishes =
    inr (staging task name files script types ran.files (string_bytes ran.report) (λ published report. StagesFront published (held old) (held new)) found runs publishes)

-- ---- showing

-- the text that a task makes was put on the console, or not
pub putting_shows : (task : Task) (name : List ℕ) (files : FileMap) (written written' : Option (List ℕ)) (text : List ℕ) (result : Result (Unit {0}) Halt)
    → ShowsText task name files text → PutsAs text written written' result → ShowsAs task name files written written' result
putting_shows task name files written written' text (Ok _) shows puts = (text, shows, puts)
putting_shows task name files written written' text (Err (halt.Refused why)) shows puts = absurd puts
putting_shows task name files written written' text (Err (halt.Failed outside.Folder)) shows puts = absurd puts
putting_shows task name files written written' text (Err (halt.Failed outside.Outbox)) shows puts = absurd puts
putting_shows task name files written written' text (Err (halt.Failed outside.Console)) shows puts = tt
putting_shows task name files written written' text (Err (halt.Failed outside.NoMemory)) shows puts = tt

-- a script that was not had
pub reading_shows : (task : Task) (name : List ℕ) (files : FileMap) (written : Option (List ℕ)) (h : Halt) (folder : Type 0)
    → IfOutsideFailed h folder ⊥ ⊥ → FindsAs name files (Err h) → ShowsAs task name files written written (Err h)
reading_shows task name files written (halt.Refused why) folder cause finds = (finds task, refl)
reading_shows task name files written (halt.Failed outside.Folder) folder cause finds = refl
reading_shows task name files written (halt.Failed outside.Outbox) folder cause finds = absurd cause
reading_shows task name files written (halt.Failed outside.Console) folder cause finds = tt
reading_shows task name files written (halt.Failed outside.NoMemory) folder cause finds = tt

-- a plan that was not printed
pub planning_shows : (name : List ℕ) (files : FileMap) (written : Option (List ℕ)) (script : Script) (types : List VarType) (h : Halt)
    → IsFound files name (Accepted script types) → PlanHalts (plan_for script types) h → ShowsAs Plan name files written written (Err h)
planning_shows name files written script types (halt.Refused why) found halts = ((Accepted script types, found, sym halts), refl)
planning_shows name files written script types (halt.Failed outside.Folder) found halts = absurd halts
planning_shows name files written script types (halt.Failed outside.Outbox) found halts = absurd halts
planning_shows name files written script types (halt.Failed outside.Console) found halts = absurd halts
planning_shows name files written script types (halt.Failed outside.NoMemory) found halts = tt

-- then nothing failed outside but memory
pub planning_failed : (plan : PlanOf) (h : Halt) (folder outbox console : Type 0) → PlanHalts plan h → IfOutsideFailed h folder outbox console
planning_failed plan (halt.Refused why) folder outbox console halts = tt
planning_failed plan (halt.Failed outside.Folder) folder outbox console halts = absurd halts
planning_failed plan (halt.Failed outside.Outbox) folder outbox console halts = absurd halts
planning_failed plan (halt.Failed outside.Console) folder outbox console halts = absurd halts
planning_failed plan (halt.Failed outside.NoMemory) folder outbox console halts = tt

-- showing a text is how such a task ends
pub showing_ends : {O : Type 0} (held : O → Option Held) (task : Task) (name : List ℕ) (files : FileMap) (outbox : O) (written written' : Option (List ℕ)) (result : Result (Unit {0}) Halt)
    → ShowsAs task name files written written' result → Ends held task name files outbox outbox written written' result
showing_ends held task name files outbox written written' (Ok _) shows =
    let what = shows.1 in
    let counts = counted_at name files what.script what.types what.found in
    record {
      verdict = Shows shows.0;
      due = (Accepted what.script what.types, what.found, sym what.due);
      well = refl;
      actions = counts.0;
      counted = counts.1;
      text = shows.2;
      outbox = (refl, λ five. absurd (omega (arith, five)));
    }
showing_ends held task name files outbox written written' (Err (halt.Refused why)) shows = (shows.0, refl, shows.1)
showing_ends held task name files outbox written written' (Err (halt.Failed outside.Folder)) shows = (refl, shows)
showing_ends held task name files outbox written written' (Err (halt.Failed outside.Outbox)) shows = absurd shows
showing_ends held task name files outbox written written' (Err (halt.Failed outside.Console)) shows = inl refl
showing_ends held task name files outbox written written' (Err (halt.Failed outside.NoMemory)) shows = inl refl

-- ---- the usage line

ended_apart : (tally : ℕ → Tally) (ending : Ending) → Refused refusal.Usage ≡ ending_verdict tally ending → ⊥
ended_apart tally (stopped fault) e = cc
ended_apart tally (finished writes used) e = cc

run_apart : (files : FileMap) (script : Script) (found : Option (List ThinStep)) → Refused refusal.Usage ≡ run_verdict files script found → ⊥
run_apart files script None e = cc
run_apart files script (Some steps) e = ended_apart (λ used. Blocks 1) (all.exec script files DECISIONS) e

plan_apart : (large : Bool) (text : List ℕ) → Refused refusal.Usage ≡ (if large then Refused refusal.TooLarge else Shows text) → ⊥
plan_apart true text e = cc
plan_apart false text e = cc

-- no task is due the usage line
usage_apart : (task : Task) (name : List ℕ) (files : FileMap) (found : Found) → Refused refusal.Usage ≡ verdict_for task name files found → ⊥
usage_apart task name files Missing e = cc
usage_apart task name files (Misspelled place) e = cc
usage_apart task name files (Rejected statement code) e = cc
usage_apart Run name files (Accepted script types) e = run_apart files script (thin_steps script) e
usage_apart (Step decisions) name files (Accepted script types) e = ended_apart Decisions (all.exec script files decisions) e
usage_apart (Check shown) name files (Accepted script types) e = cc
usage_apart Plan name files (Accepted script types) e = plan_apart (is_too_large (plan_for script types)) (plan_text (plan_for script types)) e

-- so a task never ends with the status 2
pub halted_apart : {O : Type 0} (held : O → Option Held) (task : Task) (name : List ℕ) (files : FileMap) (status : ℕ) (old new : O) (written mid : Option (List ℕ)) (h : Halt)
    → Ends held task name files old new written mid (Err h) → HaltsWith h status → status ≡ 2 → ⊥
halted_apart held task name files status old new written mid (halt.Refused refusal.Usage) ends halts two = usage_apart task name files ends.0.0 ends.0.2
halted_apart held task name files status old new written mid (halt.Refused (refusal.Absent n)) ends (inl is) two = absurd (omega (arith, is, two))
halted_apart held task name files status old new written mid (halt.Refused (refusal.Syntax place)) ends (inl is) two = absurd (omega (arith, is, two))
halted_apart held task name files status old new written mid (halt.Refused (refusal.Statement s c)) ends (inl is) two = absurd (omega (arith, is, two))
halted_apart held task name files status old new written mid (halt.Refused refusal.NotThin) ends (inl is) two = absurd (omega (arith, is, two))
halted_apart held task name files status old new written mid (halt.Refused refusal.TooLarge) ends (inl is) two = absurd (omega (arith, is, two))
halted_apart held task name files status old new written mid (halt.Refused (refusal.Fault fault)) ends (inl is) two = absurd (omega (arith, is, two))
halted_apart held task name files status old new written mid (halt.Failed outside.Folder) ends (inl is) two = absurd (omega (arith, is, two))
halted_apart held task name files status old new written mid (halt.Failed outside.Outbox) ends (inl is) two = absurd (omega (arith, is, two))
halted_apart held task name files status old new written mid (halt.Failed outside.Console) ends (inl is) two = absurd (omega (arith, is, two))
halted_apart held task name files status old new written mid (halt.Failed outside.NoMemory) ends (inl is) two = absurd (omega (arith, is, two))
halted_apart held task name files status old new written mid h ends (inr (inl is)) two = absurd (omega (arith, is, two))
halted_apart held task name files status old new written mid h ends (inr (inr is)) two = absurd (omega (arith, is, two))
