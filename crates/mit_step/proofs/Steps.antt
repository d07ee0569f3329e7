-- What single statements do to a run, and to the state for which it stands.
use Rattle.std.proofs.Common.{◌≡◌, ◌∙◌, ◌≢◌, ◌+◌, ◌<◌, ℕ, List, [], ◌∷◌, ◌++◌, Some, Bool, true, false, Ok, add-one, ap, get_or, length, map, refl, set, sym, tests, rules}
use Rattle.std.specs.Prelude.{◌==◌, if◌then◌else◌}
use Rattle.std.proofs.lemmas.List.{get_or-set_other}
use Rattle.std.proofs.lemmas.Grind.{get_or-set_at}
use Rattle.std.specs.FinMap as fin
use Rattle.mit_rows.specs.Bags.{BagOf}
use Rattle.mit_files.specs.Files.{FileMap}
use Rattle.mit_files.specs.Printed.{Write, bag_text, published_onto}
use Rattle.mit_shelf.specs.declared.stop.Stop.{Stop}
use Rattle.mit_shelf.specs.declared.stop.Stop.TheVariants as stop
use Rattle.mit_ops.specs.Operators.{name_written, whole}
use Rattle.mit_ops.specs.declared.faults.FaultKind.{FaultKind}
use Rattle.mit_ops.specs.declared.faults.FaultKind.TheVariants.{DecisionLimit}
use Rattle.mit_ops.specs.declared.kinds.OpSpec.{OpSpec}
use Rattle.mit_script.specs.Execution.{Ended, ScriptState, after_write, evaluated, faulted, goes_on, put, taken, with_bag}
use Rattle.mit_step.specs.Running.{Faults, Stands, StopsAs, stop_at}
use Rattle.mit_step.specs.Typing.{inputs_in, stored_bag}
use Rattle.mit_step.specs.declared.run.Run.{Run}

-- the bags of arguments
pub inputs_same : {state : ScriptState} {run : Run} → Stands state run → (args : List ℕ) → map state.store args ≡ inputs_in run.store args
inputs_same stands [] = refl
inputs_same stands (arg ∷ args) = rw (stands.store arg, inputs_same stands args) refl

same_whole : {state : ScriptState} {run : Run} (files : FileMap) (operator : OpSpec) (args : List ℕ) → Stands state run
    → whole operator (map state.store args) files ≡ whole operator (inputs_in run.store args) files
same_whole files operator args stands = ap (λ inputs. whole operator inputs files) (inputs_same stands args)

-- the operator's bag
pub bag_given : {state : ScriptState} {run : Run} (files : FileMap) (number : ℕ) (operator : OpSpec) (args : List ℕ) (next : BagOf → Ended) (bag : BagOf) → Stands state run
    → whole operator (inputs_in run.store args) files ≡ Ok bag → evaluated files number operator args state next ≡ next bag
bag_given {state} files number operator args next bag stands is =
    ap (λ due. with_bag number state due next) (same_whole files operator args stands ∙ is)

-- or its stop
pub stop_given : {state : ScriptState} {run : Run} (files : FileMap) (number : ℕ) (operator : OpSpec) (args : List ℕ) (next : BagOf → Ended) (why : Stop FaultKind) → Stands state run
    → StopsAs (whole operator (inputs_in run.store args) files) why → Faults (evaluated files number operator args state next) (stop_at number run.decisions.used why)
stop_given {state} files number operator args next (stop.Fault kind) stands stops =
    ap (λ due. with_bag number state due next) (same_whole files operator args stands ∙ stops.1)
    ∙ rw (stands.used, ← stops.2) refl
stop_given files number operator args next stop.Folder stands stops = tt
stop_given files number operator args next stop.NoMemory stands stops = tt

-- a variable with another bag
pub put_stands : {state : ScriptState} {run : Run} (target : ℕ) (bag : BagOf) (store : List BagOf) → Stands state run → target < length run.store → store ≡ set run.store target bag
    → Stands (record state { store = put state.store target bag }) (record run { store = store })
put_stands {state} {run} target bag store stands there is = record {
  store = λ variable. by_test variable (variable == target) refl;
  files = stands.files;
  used = stands.used;
  left = stands.left;
}
  where
    by_test : (variable : ℕ) (same : Bool) → (variable == target) ≡ same → (if same then bag else state.store variable) ≡ stored_bag store variable
    by_test variable true same =
        let it : variable ≡ target = search (rules, tests) in sym (ap (λ s. get_or s variable []) is ∙ get_or-set_at run.store target variable bag [] it there)
    by_test variable false same =
        let other : variable ≢ target = search (rules, tests) in stands.store variable ∙ sym (ap (λ s. get_or s variable []) is ∙ get_or-set_other run.store target variable bag [] other)

-- a decision is taken
pub taken_of : (number : ℕ) (state : ScriptState) (left : ℕ) (next : ScriptState → Ended) → state.left ≡ left + 1
    → taken number state state.left next ≡ next (record state { used = state.used + 1; left = left })
taken_of number state left next is = ap (λ l. taken number state l next) (is ∙ add-one left)

-- or none is left
pub none_left : (number : ℕ) (state : ScriptState) (next : ScriptState → Ended) → state.left ≡ 0 → taken number state state.left next ≡ faulted number state DecisionLimit
none_left number state next is = ap (λ l. taken number state l next) is

-- one write more
published_more : (files : FileMap) (writes : List Write) (write : Write) → published_onto files (writes ++ write ∷ []) ≡ fin.insert (published_onto files writes) write.name (bag_text write.bag)
unfolding published_onto
published_more files [] write = refl
published_more files (first ∷ writes) write = published_more (fin.insert files first.name (bag_text first.bag)) writes write

pub write_stands : {state : ScriptState} {run : Run} (name : List ℕ) (bag : BagOf) (text : List ℕ) (files : FileMap) → Stands state run → text ≡ bag_text bag → files ≡ fin.insert run.files name text
    → Stands (record state { writes = state.writes ++ record { name = name; bag = bag } ∷ [] }) (record run { files = files })
write_stands {state} {run} name bag text files stands printed is = record {
  store = stands.store;
  files = is ∙ (ap (λ t. fin.insert run.files name t) printed ∙ (ap (λ all. fin.insert all name (bag_text bag)) stands.files
      ∙ sym (published_more fin.empty state.writes (record { name = name; bag = bag }))));
  used = stands.used;
  left = stands.left;
}

-- a write's bag and name
pub written_given : {state : ScriptState} {run : Run} (files : FileMap) (number : ℕ) (operator : OpSpec) (args : List ℕ) (bag : BagOf) (name : List ℕ) → Stands state run
    → whole operator (inputs_in run.store args) files ≡ Ok bag → name_written operator (inputs_in run.store args) ≡ Some name
    → evaluated files number operator args state (after_write state (name_written operator (map state.store args)))
    ≡ goes_on (record state { writes = state.writes ++ record { name = name; bag = bag } ∷ [] })
written_given {state} files number operator args bag name stands is named =
    bag_given files number operator args (after_write state (name_written operator (map state.store args))) bag stands is
    ∙ ap (λ n. after_write state n bag) (ap (name_written operator) (inputs_same stands args) ∙ named)
