-- A thin script does what the interpreter of all scripts says.
use Rattle.std.proofs.Common.{◌≡◌, ◌≢◌, ◌∙◌, ◌+◌, ◌<◌, ◌≤◌, ◌++◌, ◌==◌, ℕ, List, [], ◌∷◌, length, map, All, refl, sym, ap, subst, inl, inr, arith, true, false, if◌then◌else◌, Option, Some, None, Result, Ok, Err, nat_le, slice_set, flat_map}
use Rattle.std.specs.FinMap as fin
use Rattle.std.specs.List.{list_all}
use Rattle.std.proofs.lemmas.Bool.{and_parts, cases_eq, cases_lt, cases_order, eq-eqb, lt-ltb, le-ltb, ne_eqb}
use Rattle.std.proofs.lemmas.List.{get_or-set_same, get_or-set_other, get_or_append_left, get_or_past, get_or_push, length-append, length-set}
use Rattle.std.proofs.lemmas.List.Elements.{All-head}
use Rattle.std.proofs.lemmas.Option.{same_Some, slice_get_within}
use Rattle.mit_rows.specs.Bags.{BagOf, IsBag, RowOf, all_rows, bag_of, bag_sum}
use Rattle.mit_rows.specs.declared.value.ColType.{ColType}
use Rattle.mit_rows.specs.declared.value.ColType.TheVariants as type
use Rattle.mit_rows.specs.declared.value.Value.{Value}
use Rattle.mit_rows.specs.declared.value.Value.TheVariants as value
use Rattle.mit_files.specs.Files.{FileMap}
use Rattle.mit_files.specs.Names.{is_legal}
use Rattle.mit_files.specs.Printed.{Write}
use Rattle.mit_files.specs.Rows.{rows_of}
use Rattle.mit_expr.specs.Types.{same_type}
use Rattle.mit_expr.specs.Values as due
use Rattle.mit_expr.specs.Values.{ValueOrFault, value_in, value_step}
use Rattle.mit_expr.specs.declared.expr.Expr.{Expr, out-Expr}
use Rattle.mit_expr.specs.declared.expr.Expr.TheFolds.{fold-roll-Expr}
use Rattle.mit_expr.specs.declared.expr.Expr.TheOpen.{Expr-F}
use Rattle.mit_expr.specs.declared.expr.Expr.TheOpen as expr
use Rattle.mit_expr.specs.declared.expr.Expr.TheViews.{roll-Expr, roll-out-Expr}
use Rattle.mit_ops.specs.Answers.{BagOrFault, at_row, both, over, settled}
use Rattle.mit_ops.specs.Kinds.{bag_inputs_of, capture_step, captures_in, captures_of}
use Rattle.mit_ops.specs.Operators.{captured, file_rows, name_written, whole}
use Rattle.mit_ops.specs.declared.faults.FaultKind.{FaultKind}
use Rattle.mit_ops.specs.declared.kinds.OpSpec.{OpSpec}
use Rattle.mit_ops.specs.declared.kinds.OpSpec.TheVariants as kind
use Rattle.mit_ops.specs.declared.types.VarType.{VarType}
use Rattle.mit_script.specs.Accepted.{checked}
use Rattle.mit_script.specs.Execution as all
use Rattle.mit_script.specs.Execution.{Doing, Ended, ScriptState, Store, assigned, evaluated, exec_of, exec_step, if_goes_on, in_turn, put, with_bag}
use Rattle.mit_script.specs.Trees as head
use Rattle.mit_script.specs.Trees.{Head, IsFormed, IsFormedHead, IsNumbered, head_step, heads_in}
use Rattle.mit_script.specs.declared.tree.Script.{Script}
use Rattle.mit_script.specs.declared.tree.Stmt.{Stmt, out-Stmt}
use Rattle.mit_script.specs.declared.tree.Stmt.TheFolds.{fold-roll-Stmt}
use Rattle.mit_script.specs.declared.tree.Stmt.TheOpen.{Stmt-F}
use Rattle.mit_script.specs.declared.tree.Stmt.TheOpen as stmt
use Rattle.mit_script.specs.declared.tree.Stmt.TheViews.{roll-Stmt, roll-out-Stmt}
use Rattle.mit_engine.specs.Reads.{bag_of_file, bag_of_rows, integers, read_bag}
use Rattle.mit_engine.specs.Thin as thin
use Rattle.mit_engine.specs.Thin.{FormedFrom, MayAssign, after_read, columns_after, exec_from, item_put, variable_bag}
use Rattle.mit_engine.specs.declared.thin.TheConstants.{MAX_STATEMENTS}
use Rattle.mit_engine.specs.declared.thin.ThinStep.{ThinStep}
use Rattle.mit_engine.specs.declared.thin.ThinStep.TheVariants as step
use Rattle.mit_thin.specs.ThinEndings.{all_of_thin}
use Rattle.mit_thin.specs.ThinScript.{argument_at, assigned_step, is_read, name_of, name_of_layer, name_of_value, step_of_layer, steps_of, thin_step_of, thin_steps, written_step}
use Rattle.mit_thin.proofs.ThinLemmas.{all_back, all_front, before_from, columns_grow, columns_kept, given_by, mapped_from, thin_formed}

-- ---- names

-- a literal that is a legal name is its text
literal_named : (literal : Value) (file : List ℕ) → name_of_value literal ≡ Some file → (literal ≡ value.Text file) × (is_legal file ≡ true)
literal_named (value.Text bytes) file is =
    let found = given_by (is_legal bytes) (Some bytes) file is in
    let same = same_Some bytes file found.1 in
    (ap value.Text same, ap is_legal (sym same) ∙ found.0)
literal_named (value.Int number) file is = absurd cc
literal_named (value.Bool truth) file is = absurd cc

layer_literal : (layer : Expr-F Expr) (file : List ℕ) → name_of_layer layer ≡ Some file
    → (layer ≡ expr.Lit (value.Text file)) × (is_legal file ≡ true)
layer_literal (expr.Lit literal) file is =
    let found = literal_named literal file is in
    (ap expr.Lit found.0, found.1)
layer_literal layer file is = absurd cc

-- a name that is written out gives its text, which is legal, and names no captured scalar
record Named (name : Expr) (file : List ℕ) : Type 0 where
  evaluates : value_in [] [] name ≡ due.gives (value.Text file)
  legal : is_legal file ≡ true
  free : captures_in name ≡ 0

named : (name : Expr) (file : List ℕ) → name_of name ≡ Some file → Named name file
named name file is =
    let found = layer_literal (out-Expr name) file is in
    let same : name ≡ roll-Expr (expr.Lit (value.Text file)) = sym (roll-out-Expr name) ∙ ap roll-Expr found.0 in
    record {
      evaluates = ap (value_in [] []) same ∙ fold-roll-Expr ValueOrFault (value_step [] []) (expr.Lit (value.Text file));
      legal = found.1;
      free = ap captures_in same ∙ fold-roll-Expr ℕ capture_step (expr.Lit (value.Text file));
    }

-- ---- a read

-- an answer without the row of its fault
abbrev by_kind : BagOrFault → Result BagOf FaultKind
by_kind (Ok bag) = Ok bag
by_kind (Err fault) = Err fault.kind

-- both ways to say what the rows of a file give
rows_answer : (types : List ColType) (bytes : List ℕ) (rows : Result (List RowOf) ℕ) → rows_of bytes types ≡ rows
    → by_kind (settled (file_rows types (Some bytes))) ≡ bag_of_rows rows
rows_answer types bytes (Ok rows) is = rw is refl
rows_answer types bytes (Err number) is = rw is refl

file_answer : (types : List ColType) (found : Option (List ℕ)) → by_kind (settled (file_rows types found)) ≡ bag_of_file types found
file_answer types None = refl
file_answer types (Some bytes) = rows_answer types bytes (rows_of bytes types) refl

-- columns that are all integers
one_int : (one : ColType) → same_type type.Int one ≡ true → one ≡ type.Int
one_int type.Int is = refl
one_int type.Text is = absurd cc
one_int type.Bool is = absurd cc

all_ints : (types : List ColType) → list_all (same_type type.Int) types ≡ true → types ≡ integers (length types)
all_ints [] are = refl
all_ints (one ∷ types) are =
    let found = and_parts (same_type type.Int one) (list_all (same_type type.Int) types) are in
    ap (λ (t : ColType). t ∷ types) (one_int one found.0) ∙ ap (λ (ts : List ColType). type.Int ∷ ts) (all_ints types found.1)

-- a read of a literal name and of integers is that of thin scripts
whole_read : (name : Expr) (types : List ColType) (files : FileMap) (file : List ℕ) → name_of name ≡ Some file
    → list_all (same_type type.Int) types ≡ true → by_kind (whole (kind.Read name types) [] files) ≡ read_bag files file (integers (length types))
unfolding captured
whole_read name types files file is are =
    let found = named name file is in
    rw (found.evaluates, found.legal) (file_answer types (fin.get files file) ∙ ap (read_bag files file) (all_ints types are))

-- ---- a write

-- a write of a bag under a literal name writes the bag itself, under that name
whole_write : (name : Expr) (files : FileMap) (file : List ℕ) (bag : BagOf) → name_of name ≡ Some file → IsBag bag
    → whole (kind.Write name) (bag ∷ []) files ≡ Ok bag
unfolding captured
whole_write name files file bag is sorted =
    let found = named name file is in
    rw (found.evaluates, found.legal) (ap Ok (sym sorted))

whole_name : (name : Expr) (file : List ℕ) (bag : BagOf) → name_of name ≡ Some file → name_written (kind.Write name) (bag ∷ []) ≡ Some file
unfolding captured
whole_name name file bag is =
    let found = named name file is in
    rw (found.evaluates, found.legal) refl

-- ---- the store

-- a choice by whether two numbers are the same
same_chosen : {A : Type 0} (a b : ℕ) (x y : A) → a ≡ b → (if a == b then x else y) ≡ x
same_chosen a b x y e = ap (λ test. if test then x else y) (eq-eqb a b e)

other_chosen : {A : Type 0} (a b : ℕ) (x y : A) → a ≢ b → (if a == b then x else y) ≡ y
other_chosen a b x y n = ap (λ test. if test then x else y) (ne_eqb a b n)

-- an assignment writes over an old bag, or adds a new one
assign_old : (bags : List BagOf) (target : ℕ) (bag : BagOf) → target < length bags → item_put bags target bag ≡ slice_set bags target bag
assign_old bags target bag below = ap (λ test. if test then slice_set bags target bag else bags ++ bag ∷ []) (lt-ltb target (length bags) below)

assign_new : (bags : List BagOf) (target : ℕ) (bag : BagOf) → target ≡ length bags → item_put bags target bag ≡ bags ++ bag ∷ []
assign_new bags target bag new = ap (λ test. if test then slice_set bags target bag else bags ++ bag ∷ []) (le-ltb target (length bags) (omega arith))

-- the bag of each variable after both
set_bag : (bags : List BagOf) (target variable : ℕ) (bag : BagOf) → target < length bags
    → variable_bag (slice_set bags target bag) variable ≡ (if variable == target then bag else variable_bag bags variable)
set_bag bags target variable bag below = elim (cases_eq variable target) [
  | inl e ↦ ap (variable_bag (slice_set bags target bag)) e ∙ get_or-set_same bags target bag [] below
      ∙ sym (same_chosen variable target bag (variable_bag bags variable) e)
  | inr n ↦ get_or-set_other bags target variable bag [] n ∙ sym (other_chosen variable target bag (variable_bag bags variable) n)
]

add_bag : (bags : List BagOf) (target variable : ℕ) (bag : BagOf) → target ≡ length bags
    → variable_bag (bags ++ bag ∷ []) variable ≡ (if variable == target then bag else variable_bag bags variable)
add_bag bags target variable bag new = elim (cases_order variable target) [
  | inl e ↦ get_or_push bags bag [] variable (omega arith) ∙ sym (same_chosen variable target bag (variable_bag bags variable) e)
  | inr (inl below) ↦ get_or_append_left bags (bag ∷ []) [] variable (omega arith)
      ∙ sym (other_chosen variable target bag (variable_bag bags variable) (omega arith))
  | inr (inr above) ↦ get_or_past (bags ++ bag ∷ []) variable [] (omega (arith, length-append bags (bag ∷ [])))
      ∙ sym (get_or_past bags variable [] (omega arith)) ∙ sym (other_chosen variable target bag (variable_bag bags variable) (omega arith))
]

-- what an assignment leaves
assigned_bag : (bags : List BagOf) (target variable : ℕ) (bag : BagOf) → target ≤ length bags
    → variable_bag (item_put bags target bag) variable ≡ (if variable == target then bag else variable_bag bags variable)
assigned_bag bags target variable bag most = elim (cases_lt target (length bags)) [
  | inl below ↦ ap (λ (all : List BagOf). variable_bag all variable) (assign_old bags target bag below) ∙ set_bag bags target variable bag below
  | inr above ↦
      let new : target ≡ length bags = omega arith in
      ap (λ (all : List BagOf). variable_bag all variable) (assign_new bags target bag new) ∙ add_bag bags target variable bag new
]

-- as many bags as variables with columns
assigned_long : (bags : List BagOf) (columns : List ℕ) (target count : ℕ) (bag : BagOf) → length bags ≡ length columns → target ≤ length columns
    → length (item_put bags target bag) ≡ length (columns_after columns target count)
assigned_long bags columns target count bag long most = elim (cases_lt target (length bags)) [
  | inl below ↦ omega (
    arith,
    ap length (assign_old bags target bag below),
    length-set bags target bag,
    ap length (columns_kept columns target count (omega arith)),
  )
  | inr above ↦ omega (
    arith,
    ap length (assign_new bags target bag (omega arith)),
    length-append bags (bag ∷ []),
    ap length (columns_grow columns target count (omega arith)),
    length-append columns (count ∷ []),
  )
]

may_within : (columns : List ℕ) (target count : ℕ) → MayAssign columns target count → target ≤ length columns
may_within columns target count (inl new) = omega arith
may_within columns target count (inr old) = omega (arith, slice_get_within columns target count old)

-- the store of the interpreter of all scripts has the bags of the thin one, and they are bags
record Holds (store : Store) (bags : List BagOf) : Type 0 where
  same : (variable : ℕ) → store variable ≡ variable_bag bags variable
  sorted : (variable : ℕ) → IsBag (store variable)

holds_put : (store : Store) (bags : List BagOf) (target : ℕ) (bag : BagOf) → Holds store bags → target ≤ length bags → IsBag bag
    → Holds (put store target bag) (item_put bags target bag)
holds_put store bags target bag holds most is = record {
  same = λ variable. ap (λ (other : BagOf). if variable == target then bag else other) (holds.same variable)
      ∙ sym (assigned_bag bags target variable bag most);
  sorted = λ variable. elim (variable == target) as (λ test. IsBag (if test then bag else store variable)) [
    | true ↦ is
    | false ↦ holds.sorted variable
  ];
}

-- ---- statements

-- a state without decisions
abbrev at : Store → List Write → ℕ → ScriptState
at store writes left = record { store = store; writes = writes; used = 0; left = left }

-- from this statement on both interpreters end alike, wherever the steps are formed and the stores are the same
abbrev Alike : FileMap → ℕ → List Stmt → List ThinStep → ℕ → Type 0
Alike files left body steps number =
    (columns : List ℕ) → FormedFrom columns steps → (store : Store) (bags : List BagOf) (writes : List Write)
    → length bags ≡ length columns → Holds store bags
    → all.ending_of (in_turn (map (exec_of files) body) number (at store writes left)) ≡ all_of_thin (exec_from files number bags writes steps)

-- what a first statement does
assign_does : (files : FileMap) (target : ℕ) (op : OpSpec) (args : List ℕ) (body : List Stmt) (number : ℕ) (state : ScriptState)
    → in_turn (map (exec_of files) (roll-Stmt (stmt.Assign target op args) ∷ body)) number state
    ≡ if_goes_on (evaluated files number op args state (assigned target state)) (in_turn (map (exec_of files) body) (number + 1))
unfolding in_turn
assign_does files target op args body number state =
    ap (λ (doing : Doing). in_turn (doing ∷ map (exec_of files) body) number state)
    (fold-roll-Stmt Doing (exec_step files) (stmt.Assign target op args))

write_does : (files : FileMap) (op : OpSpec) (args : List ℕ) (body : List Stmt) (number : ℕ) (state : ScriptState)
    → in_turn (map (exec_of files) (roll-Stmt (stmt.Write op args) ∷ body)) number state
    ≡ if_goes_on (evaluated files number op args state (all.after_write state (name_written op (map state.store args))))
    (in_turn (map (exec_of files) body) (number + 1))
unfolding in_turn
write_does files op args body number state =
    ap (λ (doing : Doing). in_turn (doing ∷ map (exec_of files) body) number state) (fold-roll-Stmt Doing (exec_step files) (stmt.Write op args))

-- where a read gives the same bag or fault, both end alike
read_ends : (number left target : ℕ) (store : Store) (writes : List Write) (rest : ScriptState → Ended) (later : BagOf → thin.ThinEnding)
    (answer : BagOrFault) (found : Result BagOf FaultKind)
    → by_kind answer ≡ found
    → ((bag : BagOf) → found ≡ Ok bag → all.ending_of (rest (at (put store target bag) writes left)) ≡ all_of_thin (later bag))
    → all.ending_of (if_goes_on (with_bag number (at store writes left) answer (assigned target (at store writes left))) rest)
    ≡ all_of_thin (after_read later number found)
read_ends number left target store writes rest later (Ok bag) found is ends =
    ends bag (sym is) ∙ ap (λ (f : Result BagOf FaultKind). all_of_thin (after_read later number f)) is
read_ends number left target store writes rest later (Err fault) found is ends =
    ap (λ (f : Result BagOf FaultKind). all_of_thin (after_read later number f)) is

-- the laws of bags, as the calls that tell them do
module _ (sorted : (rows : List RowOf) → IsBag (bag_of rows))
    (parts : (first second : List RowOf) → bag_of (bag_of first ++ bag_of second) ≡ bag_of (first ++ second)) where
  -- a file's rows make a bag
  rows_sorted : (rows : Result (List RowOf) ℕ) (bag : BagOf) → bag_of_rows rows ≡ Ok bag → IsBag bag
  rows_sorted (Ok rows) bag is = let same : bag_of rows ≡ bag = cc in subst IsBag same (sorted rows)
  rows_sorted (Err number) bag is = absurd cc

  file_sorted : (types : List ColType) (found : Option (List ℕ)) (bag : BagOf) → bag_of_file types found ≡ Ok bag → IsBag bag
  file_sorted types None bag is = absurd cc
  file_sorted types (Some bytes) bag is = rows_sorted (rows_of bytes types) bag is

  -- rows themselves add up to their bag
  row_before : (row : RowOf) (rows : List RowOf) → bag_of ((row ∷ []) ++ bag_of rows) ≡ bag_of ((row ∷ []) ++ rows)
  row_before row rows =
      sym (parts (row ∷ []) (bag_of rows)) ∙ ap (λ later. bag_of (bag_of (row ∷ []) ++ later)) (sym (sorted rows)) ∙ parts (row ∷ []) rows

  rows_themselves : (rows : List RowOf) → over (λ row. at_row row (Ok (row ∷ []))) rows ≡ Ok (bag_of rows)
  unfolding over bag_of
  rows_themselves [] = refl
  rows_themselves (row ∷ rows) = ap (both (Ok (row ∷ []))) (rows_themselves rows) ∙ ap Ok (row_before row rows)

  -- a union is the sum of its bags
  whole_union : (files : FileMap) (left right : BagOf) → whole kind.Union (left ∷ right ∷ []) files ≡ Ok (bag_sum (left ∷ right ∷ []))
  unfolding captured
  whole_union files left right = rows_themselves (all_rows (left ∷ right ∷ []))

  module _ (files : FileMap) (left : ℕ) (body : List Stmt) (steps : List ThinStep) (number : ℕ)
      (next : Alike files left body steps (number + 1)) where
    -- a read
    read_alike : (target : ℕ) (name : Expr) (types : List ColType) (args : List ℕ) (file : List ℕ) → length args ≡ 0 → name_of name ≡ Some file
        → list_all (same_type type.Int) types ≡ true
        → Alike files left (roll-Stmt (stmt.Assign target (kind.Read name types) args) ∷ body) (step.Read target file (length types) ∷ steps) number
    unfolding FormedFrom exec_from
    read_alike target name types (arg ∷ args) file none is are columns formed store bags writes long holds = absurd (omega arith)
    read_alike target name types [] file none is are columns formed store bags writes long holds =
        let most = may_within columns target (length types) formed.3 in
        let same = assign_does files target (kind.Read name types) [] body number (at store writes left) in
        ap all.ending_of same
        ∙ read_ends number left target store writes (in_turn (map (exec_of files) body) (number + 1))
        (λ bag. exec_from files (number + 1) (item_put bags target bag) writes steps)
        (whole (kind.Read name types) [] files) (read_bag files file (integers (length types))) (whole_read name types files file is are)
        (λ bag found. next (columns_after columns target (length types)) formed.4 (put store target bag) (item_put bags target bag) writes
        (assigned_long bags columns target (length types) bag long most)
        (holds_put store bags target bag holds (omega arith) (file_sorted (integers (length types)) (fin.get files file) bag found)))

    -- a union
    union_alike : (target one other : ℕ)
        → Alike files left (roll-Stmt (stmt.Assign target kind.Union (one ∷ other ∷ [])) ∷ body) (step.Union target one other ∷ steps) number
    unfolding FormedFrom exec_from
    union_alike target one other columns formed store bags writes long holds =
        let most = may_within columns target formed.0 formed.3 in
        let state = at store writes left in
        let rest = in_turn (map (exec_of files) body) (number + 1) in
        let sum = bag_sum (variable_bag bags one ∷ variable_bag bags other ∷ []) in
        let gives : whole kind.Union (store one ∷ store other ∷ []) files ≡ Ok sum =
        whole_union files (store one) (store other) ∙ ap (λ (b : BagOf). Ok (bag_sum (b ∷ store other ∷ []))) (holds.same one)
        ∙ ap (λ (b : BagOf). Ok (bag_sum (variable_bag bags one ∷ b ∷ []))) (holds.same other) in
        ap all.ending_of (assign_does files target kind.Union (one ∷ other ∷ []) body number state)
        ∙ ap (λ (answer : BagOrFault). all.ending_of (if_goes_on (with_bag number state answer (assigned target state)) rest)) gives
        ∙ next (columns_after columns target formed.0) formed.4 (put store target sum) (item_put bags target sum) writes
        (assigned_long bags columns target formed.0 sum long most)
        (holds_put store bags target sum holds (omega arith) (sorted (all_rows (variable_bag bags one ∷ variable_bag bags other ∷ []))))

    -- a write
    write_alike : (name : Expr) (source : ℕ) (file : List ℕ) → name_of name ≡ Some file
        → Alike files left (roll-Stmt (stmt.Write (kind.Write name) (source ∷ [])) ∷ body) (step.Write source file ∷ steps) number
    unfolding FormedFrom exec_from
    write_alike name source file is columns formed store bags writes long holds =
        let state = at store writes left in
        let answer = whole (kind.Write name) (store source ∷ []) files in
        let rest = in_turn (map (exec_of files) body) (number + 1) in
        ap all.ending_of (write_does files (kind.Write name) (source ∷ []) body number state)
        ∙ ap (λ (found : Option (List ℕ)). all.ending_of (if_goes_on (with_bag number state answer (all.after_write state found)) rest))
        (whole_name name file (store source) is)
        ∙ ap (λ (other : BagOrFault). all.ending_of (if_goes_on (with_bag number state other (all.after_write state (Some file))) rest))
        (whole_write name files file (store source) is (holds.sorted source))
        ∙ ap (λ (b : BagOf). all.ending_of (rest (at store (writes ++ record { name = file; bag = b } ∷ []) left))) (holds.same source)
        ∙ next columns formed.2 store bags (writes ++ record { name = file; bag = variable_bag bags source } ∷ []) long holds

    -- an assignment of a thin script
    assigned_alike : (target : ℕ) (op : OpSpec) (args : List ℕ) (one : ThinStep) → length args ≡ bag_inputs_of op + captures_of op
        → assigned_step target op args ≡ Some one → Alike files left (roll-Stmt (stmt.Assign target op args) ∷ body) (one ∷ steps) number
    assigned_alike target (kind.Read name types) args one complete gives =
        let test = given_by (is_read types) _ one gives in
        let found = mapped_from (λ file. step.Read target file (length types)) (name_of name) one test.1 in
        let ints = and_parts _ (list_all (same_type type.Int) types) test.0 in
        let free = (named name found.0 found.1).free in
        subst (λ (s : ThinStep). Alike files left (roll-Stmt (stmt.Assign target (kind.Read name types) args) ∷ body) (s ∷ steps) number) found.2
        (read_alike target name types args found.0 (omega (arith, free)) found.1 ints.1)
    assigned_alike target kind.Union (a ∷ b ∷ []) one complete gives =
        subst (λ (s : ThinStep). Alike files left (roll-Stmt (stmt.Assign target kind.Union (a ∷ b ∷ [])) ∷ body) (s ∷ steps) number)
        (same_Some (step.Union target a b) one gives) (union_alike target a b)
    assigned_alike target kind.Union [] one complete gives = absurd (omega arith)
    assigned_alike target kind.Union (a ∷ []) one complete gives = absurd (omega arith)
    assigned_alike target kind.Union (a ∷ b ∷ c ∷ more) one complete gives = absurd (omega arith)
    assigned_alike target op args one complete gives = absurd cc

    -- a write of a thin script
    written_alike : (op : OpSpec) (args : List ℕ) (one : ThinStep) → length args ≡ bag_inputs_of op + captures_of op
        → written_step op args ≡ Some one → Alike files left (roll-Stmt (stmt.Write op args) ∷ body) (one ∷ steps) number
    written_alike (kind.Write name) args one complete gives =
        let found = mapped_from (step.Write (argument_at args 0)) (name_of name) one gives in
        let free = (named name found.0 found.1).free in
        subst (λ (s : ThinStep). Alike files left (roll-Stmt (stmt.Write (kind.Write name) args) ∷ body) (s ∷ steps) number) found.2
        (single args (omega (arith, free)) found.0 found.1)
      where
        single : (args : List ℕ) → length args ≡ 1 → (file : List ℕ) → name_of name ≡ Some file
            → Alike files left (roll-Stmt (stmt.Write (kind.Write name) args) ∷ body) (step.Write (argument_at args 0) file ∷ steps) number
        single [] long file is = absurd (omega arith)
        single (source ∷ []) long file is = write_alike name source file is
        single (source ∷ other ∷ more) long file is = absurd (omega arith)
    written_alike op args one complete gives = absurd cc

    -- a statement, by its layer
    layer_alike : (variables : ℕ) (layer : Stmt-F Stmt) (one : ThinStep) → All (IsFormedHead variables) (heads_in (roll-Stmt layer))
        → step_of_layer layer ≡ Some one → Alike files left (roll-Stmt layer ∷ body) (one ∷ steps) number
    layer_alike variables (stmt.Assign target op args) one formed gives =
        let heads = fold-roll-Stmt (List Head) head_step (stmt.Assign target op args) in
        let formed_head = All-head (IsFormedHead variables) (head.assigns target op args) [] (subst (All (IsFormedHead variables)) heads formed) in
        assigned_alike target op args one formed_head.2.complete gives
    layer_alike variables (stmt.Write op args) one formed gives =
        let heads = fold-roll-Stmt (List Head) head_step (stmt.Write op args) in
        let formed_head = All-head (IsFormedHead variables) (head.writes op args) [] (subst (All (IsFormedHead variables)) heads formed) in
        written_alike op args one formed_head.1.complete gives
    layer_alike variables (stmt.If op args on_true on_false) one formed gives = absurd cc
    layer_alike variables (stmt.While op args block) one formed gives = absurd cc

    statement_alike : (variables : ℕ) (statement : Stmt) (one : ThinStep) → All (IsFormedHead variables) (heads_in statement)
        → thin_step_of statement ≡ Some one → Alike files left (statement ∷ body) (one ∷ steps) number
    statement_alike variables statement one formed gives =
        let same = roll-out-Stmt statement in
        subst (λ (s : Stmt). Alike files left (s ∷ body) (one ∷ steps) number) same
        (layer_alike variables (out-Stmt statement) one (subst (λ (s : Stmt). All (IsFormedHead variables) (heads_in s)) (sym same) formed) gives)

  -- ---- a whole script

  -- the statements of a thin script
  body_alike : (files : FileMap) (left variables : ℕ) (body : List Stmt) (steps : List ThinStep) (number : ℕ)
      → All (IsFormedHead variables) (flat_map heads_in body) → steps_of body ≡ Some steps → Alike files left body steps number
  unfolding exec_from in_turn
  body_alike files left variables [] steps number formed gives =
      subst (λ (some : List ThinStep). Alike files left [] some number) (same_Some [] steps gives) (λ columns all store bags writes long holds. refl)
  body_alike files left variables (first ∷ more) steps number formed gives =
      let split = before_from (thin_step_of first) (steps_of more) steps gives in
      let front = all_front (IsFormedHead variables) (heads_in first) (flat_map heads_in more) formed in
      let back = all_back (IsFormedHead variables) (heads_in first) (flat_map heads_in more) formed in
      let later = body_alike files left variables more split.1 (number + 1) back split.3 in
      subst (λ (some : List ThinStep). Alike files left (first ∷ more) some number) split.4
      (statement_alike files left more split.1 number later variables first split.0 front split.2)

  -- a thin script that was accepted ends as its steps do, with any number of decisions
  pub thin_means : (script : Script) (types : List VarType) (steps : List ThinStep) (files : FileMap) (decisions : ℕ)
      → IsFormed script → IsNumbered script → checked script ≡ Ok types → thin_steps script ≡ Some steps
      → all.exec script files decisions ≡ all_of_thin (thin.exec_thin files steps)
  unfolding bag_of
  thin_means script types steps files decisions formed numbered accepted gives =
      let short = given_by (nat_le (length script.body) MAX_STATEMENTS) (steps_of script.body) steps gives in
      let right = thin_formed script types steps formed numbered accepted gives in
      body_alike files decisions (length script.names) script.body steps 1 formed.formed short.1 [] right.1 (λ variable. []) [] [] refl
      (record { same = λ variable. refl; sorted = λ variable. sorted [] })
