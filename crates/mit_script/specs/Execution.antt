-- The step-by-step interpreter. This is what a script means.
use Rattle.std.specs.Prelude.{ℕ, zero, suc, ◌+◌, List, [], ◌∷◌, ◌++◌, map, sum, Bool, ◌==◌, if◌then◌else◌, Option, Some, None, Ok, Err}
use Rattle.mit_rows.specs.Bags.{BagOf}
use Rattle.mit_files.specs.Files.{FileMap}
use Rattle.mit_files.specs.Printed.{Write}
use Rattle.mit_ops.specs.Answers.{BagOrFault}
use Rattle.mit_ops.specs.Endings.{Ending, finished, stopped, truth_in}
use Rattle.mit_ops.specs.Operators.{name_written, whole}
use Rattle.mit_ops.specs.declared.faults.FaultKind.{FaultKind}
use Rattle.mit_ops.specs.declared.faults.FaultKind.TheVariants.{DecisionLimit}
use Rattle.mit_ops.specs.declared.faults.ScriptFault.{ScriptFault}
use Rattle.mit_ops.specs.declared.kinds.OpSpec.{OpSpec}
use Rattle.mit_script.specs.declared.tree.Script.{Script}
use Rattle.mit_script.specs.declared.tree.Stmt.{Stmt}
use Rattle.mit_script.specs.declared.tree.Stmt.TheFolds.{fold-Stmt}
use Rattle.mit_script.specs.declared.tree.Stmt.TheOpen.{Stmt-F}
use Rattle.mit_script.specs.declared.tree.Stmt.TheOpen as stmt

-- the bag of each variable
abbrev pub Store : Type 0
Store = ℕ → BagOf

-- the same store, but for one variable
abbrev pub put : Store → ℕ → BagOf → Store
put store target bag = λ variable. if variable == target then bag else store variable

-- where a script stands
pub record ScriptState : Type 0 where
  pub store : Store
  -- what was written so far
  pub writes : List Write
  -- how many decisions were taken, and how many may still be taken
  pub used : ℕ
  pub left : ℕ

-- how statements end: the script goes on, or it is at fault
pub data Ended : Type 0 where
  goes_on : ScriptState → Ended
  at_fault : ScriptFault → Ended

abbrev pub if_goes_on : Ended → (ScriptState → Ended) → Ended
if_goes_on (goes_on state) next = next state
if_goes_on (at_fault fault) next = at_fault fault

-- the fault of a statement
abbrev pub faulted : ℕ → ScriptState → FaultKind → Ended
faulted number state kind = at_fault (record { statement = number; decisions = state.used; kind = kind })

-- what follows the bag of a statement's operator
abbrev pub with_bag : ℕ → ScriptState → BagOrFault → (BagOf → Ended) → Ended
with_bag number state (Ok bag) next = next bag
with_bag number state (Err fault) next = faulted number state fault.kind

-- the operator of a statement over the store
abbrev pub evaluated : FileMap → ℕ → OpSpec → List ℕ → ScriptState → (BagOf → Ended) → Ended
evaluated files number operator args state = with_bag number state (whole operator (map state.store args) files)

abbrev pub assigned : ℕ → ScriptState → BagOf → Ended
assigned target state bag = goes_on (record state { store = put state.store target bag })

-- never without a name where there is a bag
abbrev pub after_write : ScriptState → Option (List ℕ) → BagOf → Ended
after_write state None bag = goes_on state
after_write state (Some name) bag = goes_on (record state { writes = state.writes ++ record { name = name; bag = bag } ∷ [] })

-- one decision is taken, where one is left
abbrev pub taken : ℕ → ScriptState → ℕ → (ScriptState → Ended) → Ended
taken number state zero next = faulted number state DecisionLimit
taken number state (suc left) next = next (record state { used = state.used + 1; left = left })

-- a condition: its own fault comes before the limit; then its value decides what follows
abbrev pub by_condition : FileMap → ℕ → OpSpec → List ℕ → ScriptState → (Bool → ScriptState → Ended) → Ended
by_condition files number operator args state next =
    evaluated files number operator args state (λ bag. taken number state state.left (next (truth_in bag)))

-- what a statement does, from its number in the text, which is counted from 1; and how many statements it is with those inside it
pub record Doing : Type 0 where
  pub count : ℕ
  pub does : ℕ → ScriptState → Ended

abbrev pub counts : List Doing → ℕ
counts doings = sum (map (λ doing. doing.count) doings)

-- statements one after another
unfoldable pub in_turn : List Doing → ℕ → ScriptState → Ended
in_turn [] number state = goes_on state
in_turn (first ∷ later) number state = if_goes_on (first.does number state) (in_turn later (number + first.count))

-- a loop of at most so many turns; each takes a decision, so that it never comes to more than are left
unfoldable pub turns : ℕ → (ScriptState → (Bool → ScriptState → Ended) → Ended) → (ScriptState → Ended) → ScriptState → Ended
turns zero condition body state = condition state (λ truth later. goes_on later)
turns (suc more) condition body state =
    condition state (λ truth later. if truth then if_goes_on (body later) (turns more condition body) else goes_on later)

-- one layer of a statement, with what each inner one does in its place
abbrev pub exec_step : FileMap → Stmt-F Doing → Doing
exec_step files (stmt.Assign target operator args) = record {
  count = 1;
  does = λ number state. evaluated files number operator args state (assigned target state);
}
exec_step files (stmt.Write operator args) = record {
  count = 1;
  does = λ number state. evaluated files number operator args state (after_write state (name_written operator (map state.store args)));
}
exec_step files (stmt.If operator args on_true on_false) = record {
  count = 1 + counts on_true + counts on_false;
  does = λ number state. by_condition files number operator args state (λ truth later.
      if truth then in_turn on_true (number + 1) later else in_turn on_false (number + 1 + counts on_true) later);
}
exec_step files (stmt.While operator args body) = record {
  count = 1 + counts body;
  does = λ number state. turns state.left (by_condition files number operator args) (in_turn body (number + 1)) state;
}

abbrev pub exec_of : FileMap → Stmt → Doing
exec_of files = fold-Stmt Doing (exec_step files)

-- at the start nothing is assigned, written or decided, and so many decisions may be taken
abbrev pub start : ℕ → ScriptState
start decisions = record { store = λ variable. []; writes = []; used = 0; left = decisions }

abbrev pub ending_of : Ended → Ending
ending_of (goes_on state) = finished state.writes state.used
ending_of (at_fault fault) = stopped fault

-- what a script does over these files with at most so many decisions
abbrev pub exec : Script → FileMap → ℕ → Ending
exec script files decisions = ending_of (in_turn (map (exec_of files) script.body) 1 (start decisions))
