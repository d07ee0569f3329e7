-- The lines of the console. Each ends with a line feed.
use Rattle.std.specs.Prelude.{ℕ, List, [], ◌∷◌, ◌++◌, codes, decimal}
use Rattle.mit_ops.specs.declared.faults.FaultKind.{FaultKind}
use Rattle.mit_ops.specs.declared.faults.FaultKind.TheVariants as kind
use Rattle.mit_script.specs.declared.typed.CheckCode.{CheckCode}
use Rattle.mit_script.specs.declared.typed.CheckCode.TheVariants as code
use Rattle.mit_app.specs.declared.ends.Outside.{Outside}
use Rattle.mit_app.specs.declared.ends.Outside.TheVariants as outside
use Rattle.mit_app.specs.declared.ends.Refusal.{Refusal}
use Rattle.mit_app.specs.declared.ends.Refusal.TheVariants as refusal

-- a line of these parts
abbrev pub line_of_parts : List (List ℕ) → List ℕ
line_of_parts [] = 10 ∷ []
line_of_parts (part ∷ parts) = part ++ line_of_parts parts

-- how a run ended: its files, the blocks that it entered and its actions
abbrev pub report_line : ℕ → ℕ → ℕ → List ℕ
report_line files blocks actions =
    line_of_parts (codes "files " ∷ decimal files ∷ codes ", blocks " ∷ decimal blocks ∷ codes ", actions " ∷ decimal actions ∷ [])

-- how the step-by-step interpreter ended: its files and its decisions
abbrev pub step_line : ℕ → ℕ → List ℕ
step_line files decisions = line_of_parts (codes "files " ∷ decimal files ∷ codes ", decisions " ∷ decimal decisions ∷ [])

abbrev pub accepted_line : ℕ → List ℕ
accepted_line count = line_of_parts (codes "accepted, statements " ∷ decimal count ∷ [])

abbrev pub kind_words : FaultKind → List ℕ
kind_words kind.Overflow = codes "overflow"
kind_words kind.DivideByZero = codes "division by zero"
kind_words kind.NotNumber = codes "not a number"
kind_words kind.TextTooLong = codes "text too long"
kind_words kind.RangeTooLong = codes "range too long"
kind_words (kind.NotOne rows) = codes "not one row: " ++ decimal rows
kind_words kind.NoFile = codes "no such file"
kind_words kind.BadName = codes "bad name"
kind_words (kind.BadRow number) = codes "bad record " ++ decimal number
kind_words kind.DecisionLimit = codes "decision limit"

abbrev pub code_words : CheckCode → List ℕ
code_words code.Unassigned = codes "not assigned"
code_words code.NotScalar = codes "not a scalar"
code_words code.TooLarge = codes "too large"
code_words code.TooManyColumns = codes "too many columns"
code_words code.WrongType = codes "wrong type"

-- what is refused
abbrev pub refusal_line : Refusal → List ℕ
refusal_line refusal.Usage = line_of_parts (codes "usage: mitos run|step|check|plan SCRIPT, or mitos demo DAYS" ∷ [])
refusal_line (refusal.Absent name) = line_of_parts (codes "no such file: " ∷ name ∷ [])
refusal_line (refusal.Syntax place) = line_of_parts (codes "script refused: syntax at byte " ∷ decimal place ∷ [])
refusal_line (refusal.Statement statement code) =
    line_of_parts (codes "script refused: statement " ∷ decimal statement ∷ codes ", " ∷ code_words code ∷ [])
refusal_line refusal.NotThin = line_of_parts (codes "script refused: not a thin script" ∷ [])
refusal_line refusal.TooLarge = line_of_parts (codes "script refused: plan too large" ∷ [])
refusal_line (refusal.Fault fault) =
    line_of_parts (codes "fault: statement " ∷ decimal fault.statement ∷ codes ", decisions " ∷ decimal fault.decisions ∷ codes ", " ∷ kind_words fault.kind ∷ [])

-- what failed outside; where the console failed there is none
abbrev pub outside_line : Outside → List ℕ
outside_line outside.Folder = line_of_parts (codes "folder fault" ∷ [])
outside_line outside.Outbox = line_of_parts (codes "outbox fault" ∷ [])
outside_line outside.Console = []
outside_line outside.NoMemory = line_of_parts (codes "out of memory" ∷ [])
