-- Devices of the proofs: nobody has to believe them. How the parts of the top call end, in the words of their private contracts.
use Rattle.std.specs.Prelude.{◌≡◌, ⊤, ◌⊎◌, ◌<◌, ◌≤◌, ℕ, List, string_bytes, Option, None, Some, Result, Ok, Err}
use Rattle.std.specs.FinMap as fin
use Rattle.mit_files.specs.Files.{FileMap}
use Rattle.mit_world.specs.Outside.{Held}
use Rattle.mit_ops.specs.declared.types.VarType.{VarType}
use Rattle.mit_script.specs.declared.tree.Script.{Script}
use Rattle.mit_script.specs.declared.typed.Typed.{Typed}
use Rattle.mit_plan.specs.Plans.{PlanOf}
use Rattle.mit_engine.specs.Thin.{action_count}
use Rattle.mit_engine.specs.declared.thin.ThinStep.{ThinStep}
use Rattle.mit_words.specs.declared.words.Task.{Task}
use Rattle.mit_words.specs.declared.words.Task.TheVariants.{Run, Step, Check, Plan}
use Rattle.mit_thin.specs.ThinScript.{thin_steps}
use Rattle.mit_app.specs.Answers.{Gains, Leaves, PublishesAll, Stages}
use Rattle.mit_app.specs.Due.{Accepted, DueFor, Found, IsFound, IsFoundIn, Publishes, Refused, Shows, Tally, Verdict, status_of, plan_verdict, task_verdict, console_text, verdict_for}
use Rattle.mit_app.specs.Lines.{outside_line, refusal_line}
use Rattle.mit_app.specs.Statuses.{outside_status, refusal_status}
use Rattle.mit_app.specs.declared.ends.Halt.{Halt}
use Rattle.mit_app.specs.declared.ends.Halt.TheVariants as halt
use Rattle.mit_app.specs.declared.ends.Outside.TheVariants as outside
use Rattle.mit_app.specs.declared.publish.Ran.{Ran}

-- ---- statuses, lines and causes

abbrev pub halt_status : Halt → ℕ
halt_status (halt.Refused why) = refusal_status why
halt_status (halt.Failed why) = outside_status why

abbrev pub halt_line : Halt → List ℕ
halt_line (halt.Refused why) = refusal_line why
halt_line (halt.Failed why) = outside_line why

-- a fact where the folder failed, where the outbox failed and where the console failed
abbrev pub IfOutsideFailed : Halt → Type 0 → Type 0 → Type 0 → Type 0
IfOutsideFailed (halt.Refused why) folder outbox console = ⊤
IfOutsideFailed (halt.Failed outside.Folder) folder outbox console = folder
IfOutsideFailed (halt.Failed outside.Outbox) folder outbox console = outbox
IfOutsideFailed (halt.Failed outside.Console) folder outbox console = console
IfOutsideFailed (halt.Failed outside.NoMemory) folder outbox console = ⊤

-- a fact where there is a line to put
abbrev pub IfLine : Halt → Type 0 → Type 0
IfLine (halt.Refused why) fact = fact
IfLine (halt.Failed outside.Folder) fact = fact
IfLine (halt.Failed outside.Outbox) fact = fact
IfLine (halt.Failed outside.Console) fact = ⊤
IfLine (halt.Failed outside.NoMemory) fact = ⊤

-- a task that only shows a text
abbrev pub IsShowing : Task → Type 0
IsShowing Run = ⊥
IsShowing (Step decisions) = ⊥
IsShowing (Check shown) = ⊤
IsShowing Plan = ⊤

-- ---- reading, running and publishing

-- an accepted script is found in a text, or what is found there is refused for every task
abbrev pub FindsIn : List ℕ → Result Typed Halt → Type 0
FindsIn text (Ok typed) = IsFoundIn (Some text) (Accepted typed.script typed.types)
FindsIn text (Err (halt.Refused why)) = (found : Found) × IsFoundIn (Some text) found
    × ((task : Task) (name : List ℕ) (files : FileMap) → Refused why ≡ verdict_for task name files found)
FindsIn text (Err (halt.Failed why)) = ⊤

-- the same under a name
abbrev pub FindsAs : List ℕ → FileMap → Result Typed Halt → Type 0
FindsAs name files (Ok typed) = IsFound files name (Accepted typed.script typed.types)
FindsAs name files (Err (halt.Refused why)) = (task : Task) → DueFor task name files (Refused why)
FindsAs name files (Err (halt.Failed why)) = ⊤

-- an accepted script is found under the name, and its run, where it can be run, takes so many actions
abbrev pub Counted : List ℕ → FileMap → ℕ → Type 0
Counted name files actions = (script : Script) × (types : List VarType) × IsFound files name (Accepted script types)
    × ((steps : List ThinStep) → thin_steps script ≡ Some steps → actions ≡ action_count steps)

-- a run as a job, or step by step within a limit of decisions
abbrev pub task_within : Option ℕ → Task
task_within None = Run
task_within (Some decisions) = Step decisions

-- these files and this report are those of a task with an accepted script
pub record ReportsTask (task : Task) (script : Script) (types : List VarType) (files published : FileMap) (report : List ℕ) : Type 0 where
  pub tally : Tally
  pub due : task_verdict task files script types ≡ Publishes published tally
  pub actions : ℕ
  pub counted : (steps : List ThinStep) → thin_steps script ≡ Some steps → actions ≡ action_count steps
  pub text : report ≡ console_text (Publishes published tally) actions

-- a run of an accepted script came to its end, or not
abbrev pub RunsAs : Task → Script → List VarType → FileMap → Result Ran Halt → Type 0
RunsAs task script types files (Ok ran) = ReportsTask task script types files ran.files (string_bytes ran.report)
RunsAs task script types files (Err (halt.Refused why)) = task_verdict task files script types ≡ Refused why
RunsAs task script types files (Err (halt.Failed why)) = ⊤

-- so many of these files are staged
abbrev pub StagesFront : FileMap → Option Held → Option Held → Type 0
StagesFront files old new = (count : ℕ) × (count ≤ fin.len files) × Stages count files old new

-- the same, and the report was printed exactly where all of them are
abbrev pub StopsStaging : FileMap → List ℕ → Option Held → Option Held → Option (List ℕ) → Option (List ℕ) → Type 0
StopsStaging files report old new written written' =
    ((count : ℕ) × (count < fin.len files) × Stages count files old new × (written' ≡ written))
    ⊎ (Stages (fin.len files) files old new × Gains report written written')

-- these files and this report were published, or not
abbrev pub PublishesAs : FileMap → List ℕ → Option Held → Option Held → Option (List ℕ) → Option (List ℕ) → Result (Unit {0}) Halt → Type 0
PublishesAs files report old new written written' (Ok _) = PublishesAll files old new × Gains report written written'
PublishesAs files report old new written written' (Err (halt.Refused why)) = ⊥
PublishesAs files report old new written written' (Err (halt.Failed outside.Folder)) = ⊥
PublishesAs files report old new written written' (Err (halt.Failed outside.Outbox)) = StopsStaging files report old new written written'
PublishesAs files report old new written written' (Err (halt.Failed outside.Console)) = StagesFront files old new
PublishesAs files report old new written written' (Err (halt.Failed outside.NoMemory)) = StagesFront files old new

-- a plan was not printed
abbrev pub PlanHalts : PlanOf → Halt → Type 0
PlanHalts plan (halt.Refused why) = plan_verdict plan ≡ Refused why
PlanHalts plan (halt.Failed outside.Folder) = ⊥
PlanHalts plan (halt.Failed outside.Outbox) = ⊥
PlanHalts plan (halt.Failed outside.Console) = ⊥
PlanHalts plan (halt.Failed outside.NoMemory) = ⊤

-- a text was put on the console, or not
abbrev pub PutsAs : List ℕ → Option (List ℕ) → Option (List ℕ) → Result (Unit {0}) Halt → Type 0
PutsAs text written written' (Ok _) = Gains text written written'
PutsAs text written written' (Err (halt.Refused why)) = ⊥
PutsAs text written written' (Err (halt.Failed outside.Folder)) = ⊥
PutsAs text written written' (Err (halt.Failed outside.Outbox)) = ⊥
PutsAs text written written' (Err (halt.Failed outside.Console)) = ⊤
PutsAs text written written' (Err (halt.Failed outside.NoMemory)) = ⊤

-- this text is what a task makes of the script of this name
pub record ShowsText (task : Task) (name : List ℕ) (files : FileMap) (text : List ℕ) : Type 0 where
  pub script : Script
  pub types : List VarType
  pub found : IsFound files name (Accepted script types)
  pub due : task_verdict task files script types ≡ Shows text

-- the text that a task makes of the script of this name was shown, or not
abbrev pub ShowsAs : Task → List ℕ → FileMap → Option (List ℕ) → Option (List ℕ) → Result (Unit {0}) Halt → Type 0
ShowsAs task name files written written' (Ok _) = (text : List ℕ) × ShowsText task name files text × Gains text written written'
ShowsAs task name files written written' (Err (halt.Refused why)) = DueFor task name files (Refused why) × (written' ≡ written)
ShowsAs task name files written written' (Err (halt.Failed outside.Folder)) = written' ≡ written
ShowsAs task name files written written' (Err (halt.Failed outside.Outbox)) = ⊥
ShowsAs task name files written written' (Err (halt.Failed outside.Console)) = ⊤
ShowsAs task name files written written' (Err (halt.Failed outside.NoMemory)) = ⊤

-- ---- a task

-- what is due came to its end
pub record EndsWell {O : Type 0} (held : O → Option Held) (task : Task) (name : List ℕ) (files : FileMap) (old new : O) (written written' : Option (List ℕ)) : Type 0 where
  pub verdict : Verdict
  pub due : DueFor task name files verdict
  pub well : status_of verdict ≡ 0
  pub actions : ℕ
  pub counted : Counted name files actions
  pub text : Gains (console_text verdict actions) written written'
  pub outbox : Leaves held verdict actions 0 old new written written'

-- a publication was due and stopped
pub record EndsStaging (task : Task) (name : List ℕ) (files : FileMap) (Stopped : FileMap → List ℕ → Type 0) : Type 0 where
  pub published : FileMap
  pub tally : Tally
  pub due : DueFor task name files (Publishes published tally)
  pub actions : ℕ
  pub counted : Counted name files actions
  pub stopped : Stopped published (console_text (Publishes published tally) actions)

-- a task with a script of this name ended; where nothing was published, outbox and console may be as they were
abbrev pub Ends : {O : Type 0} → (O → Option Held) → Task → List ℕ → FileMap → O → O → Option (List ℕ) → Option (List ℕ) → Result (Unit {0}) Halt → Type 0
Ends held task name files old new written written' (Ok _) = EndsWell held task name files old new written written'
Ends held task name files old new written written' (Err (halt.Refused why)) = DueFor task name files (Refused why) × (new ≡ old) × (written' ≡ written)
Ends held task name files old new written written' (Err (halt.Failed outside.Folder)) = (new ≡ old) × (written' ≡ written)
Ends held task name files old new written written' (Err (halt.Failed outside.Outbox)) =
    EndsStaging task name files (λ published report. StopsStaging published report (held old) (held new) written written')
Ends held task name files old new written written' (Err (halt.Failed outside.Console)) =
    (new ≡ old) ⊎ EndsStaging task name files (λ published report. StagesFront published (held old) (held new))
Ends held task name files old new written written' (Err (halt.Failed outside.NoMemory)) =
    (new ≡ old) ⊎ EndsStaging task name files (λ published report. StagesFront published (held old) (held new))
