-- Walking the blocks of a script: one place of the path after another.
use Rattle.std.specs.Prelude.{ℕ, zero, suc, ◌+◌, List, [], ◌∷◌, ◌++◌, map, if◌then◌else◌, slice_index_or, Option, Some, None, Result, Ok, Err}
use Rattle.mit_rows.specs.Bags.{BagOf}
use Rattle.mit_files.specs.Files.{FileMap}
use Rattle.mit_ops.specs.Answers.{BagOrFault}
use Rattle.mit_ops.specs.Endings.{Ending, finished, stopped, truth_in}
use Rattle.mit_ops.specs.Operators.{name_written, whole}
use Rattle.mit_ops.specs.declared.faults.FaultKind.TheVariants.{DecisionLimit}
use Rattle.mit_ops.specs.declared.faults.ScriptFault.{ScriptFault}
use Rattle.mit_ops.specs.declared.leave.Leave.{Leave}
use Rattle.mit_ops.specs.declared.leave.Leave.TheVariants.{Jump, Branch, End}
use Rattle.mit_script.specs.Execution.{ScriptState, put, start}
use Rattle.mit_cfg.specs.declared.block.Block.{Block}
use Rattle.mit_cfg.specs.declared.block.Step.{Step}

-- where some steps of a block have led: the state after them, and the number and the bag of the last one
pub record Reached : Type 0 where
  pub state : ScriptState
  pub statement : ℕ
  pub bag : BagOf

-- a bag is assigned, or written under a name, or kept for a decision alone
abbrev pub state_with_bag : Option ℕ → Option (List ℕ) → ScriptState → BagOf → ScriptState
state_with_bag (Some target) name state bag = record state { store = put state.store target bag }
state_with_bag None (Some name) state bag = record state { writes = state.writes ++ record { name = name; bag = bag } ∷ [] }
state_with_bag None None state bag = state

abbrev pub after_step : Step → ScriptState → BagOf → Reached
after_step step state bag = record {
  state = state_with_bag step.target (name_written step.op (map state.store step.args)) state bag;
  statement = step.statement;
  bag = bag;
}

-- what follows the bag of a step's operator
abbrev pub with_step_bag : Step → ScriptState → BagOrFault → (BagOf → Result Reached ScriptFault) → Result Reached ScriptFault
with_step_bag step state (Ok bag) next = next bag
with_step_bag step state (Err fault) next = Err (record { statement = step.statement; decisions = state.used; kind = fault.kind })

-- steps one after another, up to the first fault
unfoldable pub does : FileMap → List Step → Reached → Result Reached ScriptFault
does files [] reached = Ok reached
does files (step ∷ steps) reached =
    with_step_bag step reached.state (whole step.op (map reached.state.store step.args) files)
    (λ bag. does files steps (after_step step reached.state bag))

-- before a block, or at the end
pub data Place : Type 0 where
  before : ℕ → ScriptState → Place
  at_ending : Ending → Place

-- one decision is taken, where one is left
abbrev pub decided : Reached → ℕ → ℕ → ℕ → Place
decided reached zero on_true on_false =
    at_ending (stopped (record { statement = reached.statement; decisions = reached.state.used; kind = DecisionLimit }))
decided reached (suc left) on_true on_false =
    before (if truth_in reached.bag then on_true else on_false) (record reached.state { used = reached.state.used + 1; left = left })

-- how a block is left after its steps
abbrev pub leaves : Result Reached ScriptFault → Leave → Place
leaves (Err fault) leave = at_ending (stopped fault)
leaves (Ok reached) (Jump next) = before next reached.state
leaves (Ok reached) (Branch on_true on_false) = decided reached reached.state.left on_true on_false
leaves (Ok reached) End = at_ending (finished reached.state.writes reached.state.used)

abbrev pub entered : ScriptState → Reached
entered state = record { state = state; statement = 0; bag = [] }

-- through a block
abbrev pub through : FileMap → Block → Reached → Place
through files block reached = leaves (does files block.steps reached) block.leave

abbrev pub numbered_block : List Block → ℕ → Block
numbered_block blocks number = slice_index_or blocks number (record { steps = []; leave = End })

-- one place further
abbrev pub next_place : List Block → FileMap → Place → Place
next_place blocks files (before number state) = through files (numbered_block blocks number) (entered state)
next_place blocks files (at_ending ending) = at_ending ending

-- so many places further
unfoldable pub walk_from : List Block → FileMap → Place → ℕ → Place
walk_from blocks files place zero = place
walk_from blocks files place (suc places) = next_place blocks files (walk_from blocks files place places)

-- from block 0 on, with at most so many decisions
abbrev pub walk : List Block → FileMap → ℕ → ℕ → Place
walk blocks files decisions places = walk_from blocks files (before 0 (start decisions)) places
