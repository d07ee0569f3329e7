-- Devices of the proofs: nobody has to believe them. How a run stands for a state, and what its steps leave.
use Rattle.std.specs.Prelude.{◌≡◌, ◌≤◌, ⊤, ℕ, List, Option, Some, IfSome, MatchResult, Result, Ok, Err}
use Rattle.mit_rows.specs.Bags.{BagOf}
use Rattle.mit_rows.specs.declared.value.Value.TheVariants.{Text}
use Rattle.mit_files.specs.Files.{FileMap}
use Rattle.mit_files.specs.Printed.{published}
use Rattle.mit_shelf.specs.Shelf.{Agrees, Kept}
use Rattle.mit_shelf.specs.declared.stop.Stop.{Stop}
use Rattle.mit_shelf.specs.declared.stop.Stop.TheVariants as stop
use Rattle.mit_expr.specs.Values.{ValueFault, ValueOrFault, faults, gives}
use Rattle.mit_ops.specs.Answers.{BagOrFault}
use Rattle.mit_ops.specs.EachRow.{kind_of_fault}
use Rattle.mit_ops.specs.declared.faults.FaultKind.{FaultKind}
use Rattle.mit_ops.specs.declared.faults.OpFault.{OpFault}
use Rattle.mit_ops.specs.declared.faults.ScriptFault.{ScriptFault}
use Rattle.mit_script.specs.Execution.{Ended, ScriptState, at_fault}
use Rattle.mit_step.specs.Typing.{stored_bag}
use Rattle.mit_step.specs.declared.run.Run.{Run}

-- a run has the state's bags, its files are what was written, and it counts the same decisions
pub record Stands (state : ScriptState) (run : Run) : Type 0 where
  pub store : (variable : ℕ) → state.store variable ≡ stored_bag run.store variable
  pub files : run.files ≡ published state.writes
  pub used : state.used ≡ run.decisions.used
  pub left : state.left ≡ run.decisions.left

-- folder and shelf after some calls: what the folder tells stays, and the shelf keeps more of it
pub record Asks (files files' : Option FileMap) (faults faults' : ℕ) (shelf shelf' : Kept) : Type 0 where
  pub grows : (all : FileMap) → Agrees shelf' all → Agrees shelf all
  pub agrees : IfSome files (λ all. Agrees shelf all → Agrees shelf' all)
  pub told : files' ≡ files
  pub count : faults ≤ faults'

-- a stop of an operator is its fault; a failed folder and out of memory say nothing
abbrev pub StopsAs : BagOrFault → Stop FaultKind → Type 0
StopsAs due (stop.Fault kind) = (fault : OpFault) × (due ≡ Err fault) × (kind ≡ fault.kind)
StopsAs due stop.Folder = ⊤
StopsAs due stop.NoMemory = ⊤

-- a bag is what is due, and a stop is its fault
abbrev pub GivesBag : BagOrFault → Result BagOf (Stop FaultKind) → Type 0
GivesBag due result = MatchResult result (λ bag. due ≡ Ok bag) (StopsAs due)

-- a name is the value that is due, and a stop is its fault; no folder is asked, and out of memory says nothing
abbrev pub NamedBy : Option ValueOrFault → Result (List ℕ) (Stop FaultKind) → Type 0
NamedBy due (Ok name) = due ≡ Some (gives (Text name))
NamedBy due (Err (stop.Fault kind)) = (fault : ValueFault) × (due ≡ Some (faults fault)) × (kind ≡ kind_of_fault fault)
NamedBy due (Err stop.Folder) = ⊥
NamedBy due (Err stop.NoMemory) = ⊤

-- the same of a script
abbrev pub Faults : Ended → Stop ScriptFault → Type 0
Faults ended (stop.Fault fault) = ended ≡ at_fault fault
Faults ended stop.Folder = ⊤
Faults ended stop.NoMemory = ⊤

-- the run stands for the state from which this goes on, or it is at fault
abbrev pub LeavesRun : {A : Type 0} → Ended → (A → ScriptState → Ended) → Run → Result A (Stop ScriptFault) → Type 0
LeavesRun ended next run (Ok value) = (state : ScriptState) × Stands state run × (ended ≡ next value state)
LeavesRun ended next run (Err why) = Faults ended why

-- a stop of the operator of the statement of this number, after so many decisions, as the script's
abbrev pub stop_at : ℕ → ℕ → Stop FaultKind → Stop ScriptFault
stop_at number used (stop.Fault kind) = stop.Fault (record { statement = number; decisions = used; kind = kind })
stop_at number used stop.Folder = stop.Folder
stop_at number used stop.NoMemory = stop.NoMemory
