-- What a step of the interpreter answers.
use Rattle.std.specs.Prelude.{◌≡◌, ⊤, List, [], ◌∷◌, ◌++◌, map, Result, Ok, Err}
use Rattle.mit_rows.specs.Bags.{BagOf}
use Rattle.mit_rows.specs.declared.value.Value.{Value}
use Rattle.mit_files.specs.Printed.{published}
use Rattle.mit_shelf.specs.declared.stop.Stop.{Stop}
use Rattle.mit_shelf.specs.declared.stop.Stop.TheVariants as stop
use Rattle.mit_ops.specs.Answers.{BagOrFault}
use Rattle.mit_ops.specs.Endings.{Ending, finished, stopped}
use Rattle.mit_ops.specs.declared.faults.ScriptFault.{ScriptFault}
use Rattle.mit_step.specs.declared.step.Stepped.{Stepped}
use Rattle.mit_step.specs.declared.whole.WholeStop.{WholeStop}
use Rattle.mit_step.specs.declared.whole.WholeStop.TheVariants as whole_stop

-- the inputs of an operator: these bags, and then each captured value as a bag of one row
abbrev pub with_captures : List BagOf → List Value → List BagOf
with_captures bags captures = bags ++ map (λ value. (value ∷ []) ∷ []) captures

-- exactly this answer; out of memory says nothing
abbrev pub GivesWhole : BagOrFault → Result BagOf WholeStop → Type 0
GivesWhole answer (Ok bag) = answer ≡ Ok bag
GivesWhole answer (Err (whole_stop.Fault fault)) = answer ≡ Err fault
GivesWhole answer (Err whole_stop.NoMemory) = ⊤

-- exactly this ending; a failed folder and out of memory say nothing of it
abbrev pub EndsAs : Ending → Result Stepped (Stop ScriptFault) → Type 0
EndsAs (finished writes used) (Ok stepped) = (stepped.files ≡ published writes) × (stepped.decisions ≡ used)
EndsAs (finished writes used) (Err (stop.Fault fault)) = ⊥
EndsAs (stopped fault) (Ok stepped) = ⊥
EndsAs (stopped fault) (Err (stop.Fault told)) = told ≡ fault
EndsAs ending (Err stop.Folder) = ⊤
EndsAs ending (Err stop.NoMemory) = ⊤
