-- Thin scripts, which read, unite and write bags: when they are formed, and what the step-by-step interpreter does.
use Rattle.std.specs.Prelude.{◌≡◌, ◌<◌, ◌≤◌, ◌+◌, ◌*◌, ⊤, ◌⊎◌, ℕ, List, [], ◌∷◌, ◌++◌, length, slice_get, slice_set, slice_index_or, sum_by, Some, Result, Ok, Err, if◌then◌else◌, nat_lt}
use Rattle.mit_rows.specs.Bags.{BagOf, bag_sum}
use Rattle.mit_rows.specs.declared.row.TheConstants.{MAX_COLUMNS}
use Rattle.mit_files.specs.Files.{FileMap}
use Rattle.mit_files.specs.Names.{IsLegal}
use Rattle.mit_files.specs.Printed.{Write}
use Rattle.mit_ops.specs.declared.faults.FaultKind.{FaultKind}
use Rattle.mit_engine.specs.Reads.{integers, read_bag}
use Rattle.mit_engine.specs.declared.thin.TheConstants.{MAX_STATEMENTS}
use Rattle.mit_engine.specs.declared.thin.ThinStep.{ThinStep}
use Rattle.mit_engine.specs.declared.thin.ThinStep.TheVariants as step

-- ---- formed scripts

-- Variables are numbered by their first assignment. A variable's number of columns stands at its number.

-- the columns after an assignment: of the next new variable, or of one that has as many columns already
abbrev pub columns_after : List ℕ → ℕ → ℕ → List ℕ
columns_after columns target count = if nat_lt target (length columns) then columns else columns ++ count ∷ []

abbrev pub MayAssign : List ℕ → ℕ → ℕ → Type 0
MayAssign columns target count = (target ≡ length columns) ⊎ (slice_get columns target ≡ Some count)

-- each argument is assigned before, both arguments of a union have equally many columns, and so have all assignments of one variable
unfoldable pub FormedFrom : List ℕ → List ThinStep → Type 0
FormedFrom columns [] = ⊤
FormedFrom columns (step.Read target name count ∷ steps) =
    IsLegal name × (1 ≤ count) × (count ≤ MAX_COLUMNS) × MayAssign columns target count × FormedFrom (columns_after columns target count) steps
FormedFrom columns (step.Union target left right ∷ steps) =
    (count : ℕ) × (slice_get columns left ≡ Some count) × (slice_get columns right ≡ Some count) × MayAssign columns target count
    × FormedFrom (columns_after columns target count) steps
FormedFrom columns (step.Write source name ∷ steps) = IsLegal name × (source < length columns) × FormedFrom columns steps

abbrev pub IsFormedThin : List ThinStep → Type 0
IsFormedThin steps = (length steps ≤ MAX_STATEMENTS) × FormedFrom [] steps

-- ---- the step-by-step interpreter

-- how a script ends: with its writes in order, or with the first fault at a statement, counted from 1
pub data ThinEnding : Type 0 where
  Finished : List Write → ThinEnding
  Faulted : ℕ → FaultKind → ThinEnding

-- the store has each variable's bag at its number
abbrev pub variable_bag : List BagOf → ℕ → BagOf
variable_bag store variable = slice_index_or store variable []

-- a list with one item more or in the place of an old one, at the next new place or at one that it has
abbrev pub item_put : {A : Type 0} → List A → ℕ → A → List A
item_put store target item = if nat_lt target (length store) then slice_set store target item else store ++ item ∷ []

-- what follows a read: the later statements over its bag, or its fault
abbrev pub after_read : (BagOf → ThinEnding) → ℕ → Result BagOf FaultKind → ThinEnding
after_read later statement (Ok bag) = later bag
after_read later statement (Err kind) = Faulted statement kind

-- the statements from number `statement` on, over these files, a store and the writes so far
unfoldable pub exec_from : FileMap → ℕ → List BagOf → List Write → List ThinStep → ThinEnding
exec_from files statement store writes [] = Finished writes
exec_from files statement store writes (step.Read target name count ∷ steps) =
    after_read (λ bag. exec_from files (statement + 1) (item_put store target bag) writes steps) statement (read_bag files name (integers count))
exec_from files statement store writes (step.Union target left right ∷ steps) =
    exec_from files (statement + 1) (item_put store target (bag_sum (variable_bag store left ∷ variable_bag store right ∷ []))) writes steps
exec_from files statement store writes (step.Write source name ∷ steps) =
    exec_from files (statement + 1) store (writes ++ record { name = name; bag = variable_bag store source } ∷ []) steps

abbrev pub exec_thin : FileMap → List ThinStep → ThinEnding
exec_thin files steps = exec_from files 1 [] [] steps

-- ---- the number of actions

-- one edge for each argument
abbrev pub edges_of : ThinStep → ℕ
edges_of (step.Read target name count) = 0
edges_of (step.Union target left right) = 2
edges_of (step.Write source name) = 1

-- none without statements; else the path's one message, a poll and a report for each statement, and a part for each edge
abbrev pub action_count : List ThinStep → ℕ
action_count [] = 0
action_count (first ∷ steps) = 1 + 2 * length (first ∷ steps) + sum_by edges_of (first ∷ steps)
