-- The words of a command line, and the command that they are.
use Rattle.std.specs.Prelude.{◌≡◌, ◌≤◌, ◌⊎◌, ℕ, length, List, [], ◌∷◌, codes, map, Bool, true, false, Some}
use Rattle.std.specs.Prelude.{String, string_bytes}
use Rattle.mit_rows.specs.Integers.{magnitude}
use Rattle.mit_files.specs.Names.{IsLegal}
use Rattle.mit_words.specs.declared.words.Task.{Task}
use Rattle.mit_words.specs.declared.words.Task.TheVariants.{Run, Step, Check, Plan}
use Rattle.mit_words.specs.declared.words.TheConstants.{DECISIONS, MAX_DECISIONS}

-- the words of a command line as bytes
abbrev pub texts : {A : Type 0} → List (String A) → List (List ℕ)
texts words = map string_bytes words

-- a word for a number of decisions: 1 to 20 digits, with a value from 1 to the most decisions
abbrev pub AreDecisions : List ℕ → ℕ → Type 0
AreDecisions word decisions = (magnitude MAX_DECISIONS word ≡ Some decisions) × (length word ≤ 20) × (1 ≤ decisions)

-- the words are those of a task with a script of this name
abbrev pub AreWordsFor : Task → List (List ℕ) → List ℕ → Type 0
AreWordsFor Run words script = words ≡ codes "run" ∷ script ∷ codes "--parts" ∷ codes "1" ∷ []
AreWordsFor (Step decisions) words script =
    ((words ≡ codes "step" ∷ script ∷ []) × (decisions ≡ DECISIONS))
    ⊎ ((number : List ℕ) × (words ≡ codes "step" ∷ script ∷ codes "--decisions" ∷ number ∷ []) × AreDecisions number decisions)
AreWordsFor (Check false) words script = words ≡ codes "check" ∷ script ∷ []
AreWordsFor (Check true) words script = words ≡ codes "check" ∷ script ∷ codes "--print" ∷ []
AreWordsFor Plan words script = words ≡ codes "plan" ∷ script ∷ []

-- the words are that command, and SCRIPT is a legal file name
abbrev pub IsCommand : List (List ℕ) → Task → List ℕ → Type 0
IsCommand words task script = AreWordsFor task words script × IsLegal script

-- the words are no command
abbrev pub IsUsage : List (List ℕ) → Type 0
IsUsage words = (task : Task) (script : List ℕ) → ¬ IsCommand words task script

-- the words ask for a check, and for a plan
abbrev pub IsCheck : List (List ℕ) → Type 0
IsCheck words = (shown : Bool) × (script : List ℕ) × IsCommand words (Check shown) script

abbrev pub IsPlan : List (List ℕ) → Type 0
IsPlan words = (script : List ℕ) × IsCommand words Plan script

-- the words ask for a check or a plan of the script of this name
abbrev pub IsCheckOrPlan : List (List ℕ) → List ℕ → Type 0
IsCheckOrPlan words script = ((shown : Bool) × IsCommand words (Check shown) script) ⊎ IsCommand words Plan script
