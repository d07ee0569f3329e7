-- What is due over the words of a call and the files of a folder.
use Rattle.std.specs.Prelude.{◌≡◌, ⊤, ◌⊎◌, ℕ, ◌*◌, nat_lt, length, List, [], ◌++◌, Bool, ◌||◌, if◌then◌else◌}
use Rattle.std.specs.Prelude.{Option, Some, None, Ok, Err}
use Rattle.std.specs.FinMap as fin
use Rattle.mit_files.specs.Files.{FileMap}
use Rattle.mit_files.specs.Printed.{published}
use Rattle.mit_ops.specs.Endings.{Ending, finished, stopped}
use Rattle.mit_ops.specs.declared.types.VarType.{VarType}
use Rattle.mit_script.specs.Accepted.{checked}
use Rattle.mit_script.specs.Grammar.{IsSpelled}
use Rattle.mit_script.specs.Trees.{statements_of}
use Rattle.mit_script.specs.declared.tree.Script.{Script}
use Rattle.mit_script.specs.declared.typed.CheckCode.{CheckCode}
use Rattle.mit_script.specs.Execution.{exec}
use Rattle.mit_print.specs.Printed.{printed}
use Rattle.mit_parse.specs.Places.{IsRefusedAt}
use Rattle.mit_plan.specs.Plans.{PlanOf}
use Rattle.mit_plan.specs.Printed.{plan_text}
use Rattle.mit_plan.specs.declared.plan.TheConstants.{MAX_OPS}
use Rattle.mit_ssa.specs.PlanFor.{plan_for}
use Rattle.mit_engine.specs.Thin.{action_count}
use Rattle.mit_engine.specs.declared.thin.ThinStep.{ThinStep}
use Rattle.mit_words.specs.Words.{IsCommand, IsUsage}
use Rattle.mit_words.specs.declared.words.Task.{Task}
use Rattle.mit_words.specs.declared.words.Task.TheVariants.{Run, Step, Check, Plan}
use Rattle.mit_words.specs.declared.words.TheConstants.{DECISIONS}
use Rattle.mit_thin.specs.ThinScript.{thin_steps}
use Rattle.mit_app.specs.Lines.{accepted_line, refusal_line, report_line, step_line}
use Rattle.mit_app.specs.Statuses.{refusal_status}
use Rattle.mit_app.specs.declared.ends.Refusal.{Refusal}
use Rattle.mit_app.specs.declared.ends.Refusal.TheVariants as refusal

-- ---- what is found under a script's name

-- no file, a text that is refused at a byte, a script of which a statement is refused, or an accepted script and the types of its variables
pub data Found : Type 0 where
  Missing : Found
  Misspelled : ℕ → Found
  Rejected : ℕ → CheckCode → Found
  Accepted : Script → List VarType → Found

-- what is found where a look-up gives no file, or this text
abbrev pub IsFoundIn : Option (List ℕ) → Found → Type 0
IsFoundIn None Missing = ⊤
IsFoundIn None (Misspelled place) = ⊥
IsFoundIn None (Rejected statement code) = ⊥
IsFoundIn None (Accepted script types) = ⊥
IsFoundIn (Some text) Missing = ⊥
IsFoundIn (Some text) (Misspelled place) = IsRefusedAt text place
IsFoundIn (Some text) (Rejected statement code) = (script : Script) × IsSpelled text script × (checked script ≡ Err (statement, code))
IsFoundIn (Some text) (Accepted script types) = IsSpelled text script × (checked script ≡ Ok types)

abbrev pub IsFound : FileMap → List ℕ → Found → Type 0
IsFound files name found = IsFoundIn (fin.get files name) found

-- ---- what is due

-- what a report counts beside the files: the blocks that a run went through, or the decisions of the interpreter
pub data Tally : Type 0 where
  Blocks : ℕ → Tally
  Decisions : ℕ → Tally

-- how a call ends by itself
pub data Verdict : Type 0 where
  -- the words, the files or the script are refused
  Refused : Refusal → Verdict
  -- the script came to its end, and these files are published
  Publishes : FileMap → Tally → Verdict
  -- it is accepted, and this text is shown
  Shows : List ℕ → Verdict

-- the step-by-step interpreter ended so; a tally is made of the number of its decisions
abbrev pub ending_verdict : (ℕ → Tally) → Ending → Verdict
ending_verdict tally (stopped fault) = Refused (refusal.Fault fault)
ending_verdict tally (finished writes used) = Publishes (published writes) (tally used)

-- a thin script runs, and goes through one block
abbrev pub run_verdict : FileMap → Script → Option (List ThinStep) → Verdict
run_verdict files script None = Refused refusal.NotThin
run_verdict files script (Some steps) = ending_verdict (λ used. Blocks 1) (exec script files DECISIONS)

-- a plan has more than 4,096 operators, or so many edges that 256 times as many pass 1,048,576
abbrev pub is_too_large : PlanOf → Bool
is_too_large plan = nat_lt MAX_OPS (length plan.ops) || nat_lt 1048576 (256 * length plan.edges)

-- the text of a plan is shown, if it is not too large
abbrev pub plan_verdict : PlanOf → Verdict
plan_verdict plan = if is_too_large plan then Refused refusal.TooLarge else Shows (plan_text plan)

-- what a task makes of an accepted script whose variables have these types
abbrev pub task_verdict : Task → FileMap → Script → List VarType → Verdict
task_verdict Run files script types = run_verdict files script (thin_steps script)
task_verdict (Step decisions) files script types = ending_verdict Decisions (exec script files decisions)
task_verdict (Check shown) files script types = Shows (accepted_line (statements_of script) ++ (if shown then printed script else []))
task_verdict Plan files script types = plan_verdict (plan_for script types)

-- what a task makes of what is found
abbrev pub verdict_for : Task → List ℕ → FileMap → Found → Verdict
verdict_for task name files Missing = Refused (refusal.Absent name)
verdict_for task name files (Misspelled place) = Refused (refusal.Syntax place)
verdict_for task name files (Rejected statement code) = Refused (refusal.Statement statement code)
verdict_for task name files (Accepted script types) = task_verdict task files script types

-- what is due for a task with a script of this name
abbrev pub DueFor : Task → List ℕ → FileMap → Verdict → Type 0
DueFor task name files verdict = (found : Found) × IsFound files name found × (verdict ≡ verdict_for task name files found)

-- what is due over these words and files
abbrev pub Due : List (List ℕ) → FileMap → Verdict → Type 0
Due words files verdict =
    (IsUsage words × (verdict ≡ Refused refusal.Usage))
    ⊎ ((task : Task) × (name : List ℕ) × IsCommand words task name × DueFor task name files verdict)

-- so many actions are those of the run of the script of this name, where it can be run
abbrev pub AreActions : List ℕ → FileMap → ℕ → Type 0
AreActions name files actions =
    (script : Script) (types : List VarType) (steps : List ThinStep) → IsFound files name (Accepted script types) → thin_steps script ≡ Some steps
    → actions ≡ action_count steps

-- the same of the run for which the words ask
abbrev pub RunsIn : List (List ℕ) → FileMap → ℕ → Type 0
RunsIn words files actions = (name : List ℕ) → IsCommand words Run name → AreActions name files actions

-- ---- its status and its text

abbrev pub status_of : Verdict → ℕ
status_of (Refused why) = refusal_status why
status_of (Publishes files tally) = 0
status_of (Shows text) = 0

-- the report on a script that came to its end, where its run took so many actions
abbrev pub report_of : ℕ → Tally → ℕ → List ℕ
report_of files (Blocks blocks) actions = report_line files blocks actions
report_of files (Decisions decisions) actions = step_line files decisions

-- the text that the console gains
abbrev pub console_text : Verdict → ℕ → List ℕ
console_text (Refused why) actions = refusal_line why
console_text (Publishes files tally) actions = report_of (fin.len files) tally actions
console_text (Shows text) actions = text
