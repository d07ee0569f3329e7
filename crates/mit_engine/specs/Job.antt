-- How the thin job answers.
use Rattle.std.specs.Prelude.{◌≡◌, ⊤, List, Result, Ok, Err}
use Rattle.mit_files.specs.Printed.{Write, published}
use Rattle.mit_shelf.specs.declared.stop.Stop.{Stop}
use Rattle.mit_shelf.specs.declared.stop.Stop.TheVariants as stop
use Rattle.mit_ops.specs.declared.faults.ScriptFault.{ScriptFault}
use Rattle.mit_engine.specs.Thin.{ThinEnding, Finished, Faulted, action_count}
use Rattle.mit_engine.specs.declared.thin.Done.{Done}
use Rattle.mit_engine.specs.declared.thin.ThinStep.{ThinStep}

-- an answer of the job is the interpreter's ending; a failed folder and out of memory say nothing of it
abbrev pub AnswersEnding : List ThinStep → ThinEnding → Result Done (Stop ScriptFault) → Type 0
AnswersEnding steps ending (Ok done) =
    (writes : List Write) × (ending ≡ Finished writes) × (done.files ≡ published writes) × (done.blocks ≡ 1) × (done.actions ≡ action_count steps)
AnswersEnding steps ending (Err (stop.Fault fault)) = (ending ≡ Faulted fault.statement fault.kind) × (fault.decisions ≡ 0)
AnswersEnding steps ending (Err stop.Folder) = ⊤
AnswersEnding steps ending (Err stop.NoMemory) = ⊤
