-- A thin script that was accepted is formed.
use Rattle.std.proofs.Common.{◌≡◌, ◌≢◌, ◌∙◌, ◌+◌, ◌<◌, ◌≤◌, ◌++◌, ◌⊎◌, ℕ, zero, suc, List, [], ◌∷◌, length, map, max, All, refl, sym, ap, subst, inl, inr, arith, Bool, true, false, not, ◌&&◌, if◌then◌else◌, Option, Some, None, option_map, unwrap_or, is_some, Result, Ok, Err, nat_le, nat_lt, slice_get, slice_set, slice_index_or, flat_map, append-nil}
use Rattle.std.specs.List.{list_all}
use Rattle.std.specs.Cmp.Lexicographic.{as_long}
use Rattle.std.specs.Option.{ok_or}
use Rattle.std.proofs.lemmas.List.{drop_at, get_or-set_same, get_or-set_other, length-append, length-set, length-map, take_at}
use Rattle.std.proofs.lemmas.List.Elements.{All-drop, All-head, All-take}
use Rattle.std.proofs.lemmas.Grind.{flat_map-append}
use Rattle.std.proofs.lemmas.Option.{same_Some, slice_get-get_or, slice_get_within, unwrap_or-slice_get}
use Rattle.std.proofs.lemmas.Bool.{and_parts, false≢true, ltb-true, leb-true, lt-ltb, le-ltb}
use Rattle.mit_rows.specs.declared.row.TheConstants.{MAX_COLUMNS}
use Rattle.mit_rows.specs.declared.value.ColType.{ColType}
use Rattle.mit_rows.specs.declared.value.ColType.TheVariants.{Int}
use Rattle.mit_rows.specs.declared.value.Value.{Value}
use Rattle.mit_rows.specs.declared.value.Value.TheVariants as value
use Rattle.mit_files.specs.Names.{IsLegal, is_legal}
use Rattle.mit_expr.specs.Types.{same_type}
use Rattle.mit_expr.specs.declared.expr.Expr.{Expr, out-Expr}
use Rattle.mit_expr.specs.declared.expr.Expr.TheOpen.{Expr-F}
use Rattle.mit_expr.specs.declared.expr.Expr.TheOpen as expr
use Rattle.mit_ops.specs.Kinds.{bag_inputs_of, captures_of}
use Rattle.mit_ops.specs.Results.{bag, result, same_types, too_large, too_many_columns, wrong_type}
use Rattle.mit_ops.specs.declared.kinds.OpSpec.{OpSpec}
use Rattle.mit_ops.specs.declared.kinds.OpSpec.TheVariants as kind
use Rattle.mit_ops.specs.declared.types.VarType.{VarType}
use Rattle.mit_script.specs.Accepted.{Check, Known, and_then, assigned_by, assigning, at_start, bag_types, check_of, check_step, checked, fault_here, fault_or, first_type, type_or_unset, in_order, is_assigned, is_kept, judged, passed, type_of, typed_or_code, written_by}
use Rattle.mit_script.specs.Trees.{Head, IsFormed, IsFormedHead, IsNumbered, assigns, head_step, heads_in, is_in_order, variables_of, writes}
use Rattle.mit_script.specs.declared.tree.Script.{Script}
use Rattle.mit_script.specs.declared.tree.Stmt.{Stmt, out-Stmt}
use Rattle.mit_script.specs.declared.tree.Stmt.TheFolds.{fold-roll-Stmt}
use Rattle.mit_script.specs.declared.tree.Stmt.TheOpen.{Stmt-F}
use Rattle.mit_script.specs.declared.tree.Stmt.TheOpen as stmt
use Rattle.mit_script.specs.declared.tree.Stmt.TheViews.{roll-Stmt, roll-out-Stmt}
use Rattle.mit_script.specs.declared.typed.CheckCode.{CheckCode}
use Rattle.mit_script.specs.declared.typed.CheckCode.TheVariants as code
use Rattle.mit_engine.specs.Thin.{FormedFrom, IsFormedThin, MayAssign, columns_after}
use Rattle.mit_engine.specs.declared.thin.TheConstants.{MAX_STATEMENTS}
use Rattle.mit_engine.specs.declared.thin.ThinStep.{ThinStep}
use Rattle.mit_engine.specs.declared.thin.ThinStep.TheVariants as step
use Rattle.mit_thin.specs.ThinScript.{assigned_step, before_steps, is_read, name_of, name_of_layer, name_of_value, step_of_layer, steps_of, thin_step_of, thin_steps, written_step}

-- ---- options and tests

-- where a test guards an item that is there, the test holds
pub given_by : {A : Type 0} (test : Bool) (found : Option A) (item : A) → (if test then found else None) ≡ Some item → (test ≡ true) × (found ≡ Some item)
given_by true found item is = (refl, is)
given_by false found item is = absurd cc

-- a mapped item comes from one
pub mapped_from : {A B : Type 0} (f : A → B) (found : Option A) (item : B) → option_map f found ≡ Some item → (a : A) × (found ≡ Some a) × (f a ≡ item)
mapped_from f None item is = absurd cc
mapped_from f (Some a) item is = (a, refl, same_Some (f a) item is)

-- ---- lists

-- what holds of the items of joined lists holds of those of the first, and of the second
pub all_front : {X : Type 0} (P : X → Type 0) (xs ys : List X) → All P (xs ++ ys) → All P xs
all_front P xs ys all = subst (All P) (take_at xs ys (length xs) refl) (All-take P (length xs) (xs ++ ys) all)

pub all_back : {X : Type 0} (P : X → Type 0) (xs ys : List X) → All P (xs ++ ys) → All P ys
all_back P xs ys all = subst (All P) (drop_at xs ys (length xs) refl) (All-drop P (length xs) (xs ++ ys) all)

-- what is written at a place is read there
read_set : {A : Type 0} (xs : List A) (i : ℕ) (x d : A) → i < length xs → unwrap_or (slice_get (slice_set xs i x) i) d ≡ x
read_set xs i x d within = unwrap_or-slice_get (slice_set xs i x) i d ∙ get_or-set_same xs i x d within

-- the other places keep what they have
read_other : {A : Type 0} (xs : List A) (i j : ℕ) (x d : A) → j ≢ i → unwrap_or (slice_get (slice_set xs i x) j) d ≡ unwrap_or (slice_get xs j) d
read_other xs i j x d other = unwrap_or-slice_get (slice_set xs i x) j d ∙ get_or-set_other xs i j x d other ∙ sym (unwrap_or-slice_get xs j d)

-- a longer list has the same items at the places of the shorter one
got_before : {A : Type 0} (xs ys : List A) (i : ℕ) → i < length xs → slice_get (xs ++ ys) i ≡ slice_get xs i
got_before [] ys i within = absurd (omega arith)
got_before (x ∷ xs) ys zero within = refl
got_before (x ∷ xs) ys (suc i) within = got_before xs ys i (omega arith)

-- the item after a list
got_end : {A : Type 0} (xs : List A) (y : A) → slice_get (xs ++ y ∷ []) (length xs) ≡ Some y
got_end [] y = refl
got_end (x ∷ xs) y = got_end xs y

-- two numbers are the same or differ
same_or_other : (a b : ℕ) → (a ≡ b) ⊎ (a ≢ b)
same_or_other zero zero = inl refl
same_or_other zero (suc b) = inr (λ e. omega arith)
same_or_other (suc a) zero = inr (λ e. omega arith)
same_or_other (suc a) (suc b) = elim (same_or_other a b) [ inl e ↦ inl (ap suc e) | inr n ↦ inr (λ e. n (omega arith)) ]

-- ---- what a check knows, and the columns of a thin script

-- how many columns the first assignment of a variable gave it
abbrev columns_in : Option VarType → Option ℕ
columns_in found = option_map (λ type. length type.cols) found

-- only the variables with columns are assigned, and so many columns has the type of each
record Agrees (variables : ℕ) (known : Known) (columns : List ℕ) : Type 0 where
  sized : length known.assigned ≡ variables
  typed : length known.types ≡ variables
  assigned : (variable : ℕ) → is_assigned known.assigned variable ≡ true → variable < length columns
  counted : (variable : ℕ) → variable < length columns → columns_in (first_type known variable) ≡ slice_get columns variable

-- an assignment gives its variable a type with its columns, and leaves the others
typed_here : (known : Known) (target : ℕ) (type : VarType) (found : Option VarType) → first_type known target ≡ found → is_kept found type ≡ true → target < length known.types
    → columns_in (first_type (assigning target type known) target) ≡ Some (length type.cols)
typed_here known target type None is kept within = rw is (rw (read_set known.types target (Some type) None within) refl)
typed_here known target type (Some found) is kept within =
    rw is (rw is (ap Some (as_long same_type found.cols type.cols (and_parts _ (same_types found.cols type.cols) kept).1)))

typed_other : (known : Known) (target variable : ℕ) (type : VarType) → variable ≢ target → first_type (assigning target type known) variable ≡ first_type known variable
typed_other known target variable type n =
    elim (is_some (first_type known target)) as (λ some. unwrap_or (slice_get (if some then known.types else slice_set known.types target (Some type)) variable) None ≡ first_type known variable) [
      | true ↦ refl
      | false ↦ read_other known.types target variable (Some type) None n
    ]

typed_long : (known : Known) (target : ℕ) (type : VarType) → length (assigning target type known).types ≡ length known.types
typed_long known target type =
    elim (is_some (first_type known target)) as (λ some. length (if some then known.types else slice_set known.types target (Some type)) ≡ length known.types) [
      | true ↦ refl
      | false ↦ length-set known.types target (Some type)
    ]

-- one more assignment of a variable that has so many columns
agrees_old : (variables : ℕ) (known : Known) (columns : List ℕ) (target : ℕ) (type : VarType) → Agrees variables known columns
    → target < variables → is_kept (first_type known target) type ≡ true → slice_get columns target ≡ Some (length type.cols) → Agrees variables (assigning target type known) columns
agrees_old variables known columns target type now within kept old = record {
  sized = length-set known.assigned target true ∙ now.sized;
  typed = typed_long known target type ∙ now.typed;
  assigned = λ variable is. elim (same_or_other variable target) [
    | inl e ↦ omega (arith, slice_get_within columns target (length type.cols) old)
    | inr n ↦ now.assigned variable (sym (read_other known.assigned target variable true false n) ∙ is)
  ];
  counted = λ variable below. elim (same_or_other variable target) [
    | inl e ↦ rw e (typed_here known target type (first_type known target) refl kept (omega (arith, now.typed)) ∙ sym old)
    | inr n ↦ ap columns_in (typed_other known target variable type n) ∙ now.counted variable below
  ];
}

-- the first assignment of the next variable
agrees_new : (variables : ℕ) (known : Known) (columns : List ℕ) (target : ℕ) (type : VarType) → Agrees variables known columns
    → target < variables → is_kept (first_type known target) type ≡ true → target ≡ length columns → Agrees variables (assigning target type known) (columns ++ length type.cols ∷ [])
agrees_new variables known columns target type now within kept new = record {
  sized = length-set known.assigned target true ∙ now.sized;
  typed = typed_long known target type ∙ now.typed;
  assigned = λ variable is. elim (same_or_other variable target) [
    | inl e ↦ omega (arith, length-append columns (length type.cols ∷ []))
    | inr n ↦ omega (arith, length-append columns (length type.cols ∷ []), now.assigned variable (sym (read_other known.assigned target variable true false n) ∙ is))
  ];
  counted = λ variable below. elim (same_or_other variable target) [
    | inl e ↦ rw e (typed_here known target type (first_type known target) refl kept (omega (arith, now.typed)) ∙ rw new (sym (got_end columns (length type.cols))))
    | inr n ↦
        let inside : variable < length columns = omega (arith, length-append columns (length type.cols ∷ [])) in
        ap columns_in (typed_other known target variable type n) ∙ now.counted variable inside ∙ sym (got_before columns (length type.cols ∷ []) variable inside)
  ];
}

-- ---- the columns after an assignment

-- a variable that has columns keeps them
pub columns_kept : (columns : List ℕ) (target count : ℕ) → target < length columns → columns_after columns target count ≡ columns
columns_kept columns target count below = ap (λ test. if test then columns else columns ++ count ∷ []) (lt-ltb target (length columns) below)

-- the next variable gets its columns
pub columns_grow : (columns : List ℕ) (target count : ℕ) → target ≡ length columns → columns_after columns target count ≡ columns ++ count ∷ []
columns_grow columns target count new = ap (λ test. if test then columns else columns ++ count ∷ []) (le-ltb target (length columns) (omega arith))

-- a type that is kept has as many columns as the first one
kept_count : (found : Option VarType) (has : Option ℕ) (count : ℕ) (type : VarType) → columns_in found ≡ has → has ≡ Some count → is_kept found type ≡ true → has ≡ Some (length type.cols)
kept_count None has count type same some kept = absurd cc
kept_count (Some found) has count type same some kept =
    sym same ∙ ap Some (as_long same_type found.cols type.cols (and_parts _ (same_types found.cols type.cols) kept).1)

-- what follows an assignment
record Placed (variables : ℕ) (columns : List ℕ) (known : Known) (target : ℕ) (type : VarType) : Type 0 where
  may : MayAssign columns target (length type.cols)
  long : length (columns_after columns target (length type.cols)) ≡ max (length columns) (target + 1)
  agrees : Agrees variables (assigning target type known) (columns_after columns target (length type.cols))

-- another assignment of a variable
placed_old : (variables : ℕ) (columns : List ℕ) (known : Known) (target : ℕ) (type : VarType) → Agrees variables known columns
    → target < variables → is_kept (first_type known target) type ≡ true → target < length columns → Placed variables columns known target type
placed_old variables columns known target type now within kept below =
    let old : slice_get columns target ≡ Some (length type.cols) =
    kept_count (first_type known target) (slice_get columns target) (slice_index_or columns target 0) type (now.counted target below) (slice_get-get_or columns target 0 below) kept in
    let same = columns_kept columns target (length type.cols) below in
    record {
      may = inr old;
      long = omega (arith, ap length same);
      agrees = subst (Agrees variables (assigning target type known)) (sym same) (agrees_old variables known columns target type now within kept old);
    }

-- the first assignment of the next variable
placed_new : (variables : ℕ) (columns : List ℕ) (known : Known) (target : ℕ) (type : VarType) → Agrees variables known columns
    → target < variables → is_kept (first_type known target) type ≡ true → target ≡ length columns → Placed variables columns known target type
placed_new variables columns known target type now within kept new =
    let same = columns_grow columns target (length type.cols) new in
    record {
      may = inl new;
      long = omega (arith, ap length same, length-append columns (length type.cols ∷ []));
      agrees = subst (Agrees variables (assigning target type known)) (sym same) (agrees_new variables known columns target type now within kept new);
    }

-- a variable is an old one or the next one
old_or_new : (target bound : ℕ) → target ≤ bound → (target < bound) ⊎ (target ≡ bound)
old_or_new target bound most = elim (same_or_other target bound) [ inl e ↦ inr e | inr n ↦ inl (omega arith) ]

-- an assignment of a variable whose type is kept
placed : (variables : ℕ) (columns : List ℕ) (known : Known) (target : ℕ) (type : VarType) → Agrees variables known columns
    → target < variables → is_kept (first_type known target) type ≡ true → target ≤ length columns → Placed variables columns known target type
placed variables columns known target type now within kept most = elim (old_or_new target (length columns) most) [
  | inl below ↦ placed_old variables columns known target type now within kept below
  | inr new ↦ placed_new variables columns known target type now within kept new
]

-- ---- the order of new variables

-- variables that are assigned are no new ones
order_past : (p : ℕ → Bool) (next : ℕ) (args rest : List ℕ) → ((variable : ℕ) → p variable ≡ true → variable < next) → list_all p args ≡ true
    → is_in_order next (args ++ rest) ≡ true → is_in_order next rest ≡ true
order_past p next [] rest below all ordered = ordered
order_past p next (arg ∷ args) rest below all ordered =
    let both = and_parts (p arg) (list_all p args) all in
    let old : max next (arg + 1) ≡ next = omega (arith, below arg both.0) in
    let later = (and_parts (nat_le arg next) (is_in_order (max next (arg + 1)) (args ++ rest)) ordered).1 in
    order_past p next args rest below both.1 (rw old at later)

-- ---- what an accepted operator gives

-- its arguments are assigned, and its type is the operator's
record Judged (known : Known) (operator : OpSpec) (args : List ℕ) (type : VarType) : Type 0 where
  all : list_all (is_assigned known.assigned) args ≡ true
  captures : List ColType
  gives : result operator (bag_types known operator args) captures ≡ Some type

-- an operator that passes has assigned arguments and a type
judged_from : (assigned scalars large many wide : Bool) (found : Option VarType) (type : VarType)
    → (if not assigned then Err code.Unassigned else if not scalars then Err code.NotScalar else if large then Err code.TooLarge
    else typed_or_code (if many then Err too_large else if wide then Err too_many_columns else ok_or found wrong_type)) ≡ Ok type
    → (assigned ≡ true) × (found ≡ Some type)
judged_from false scalars large many wide found type is = absurd cc
judged_from true false large many wide found type is = absurd cc
judged_from true true true many wide found type is = absurd cc
judged_from true true false true wide found type is = absurd cc
judged_from true true false false true found type is = absurd cc
judged_from true true false false false None type is = absurd cc
judged_from true true false false false (Some found) type is = (refl, cc)

-- the same of what a check says of an operator
judged_ok : (known : Known) (operator : OpSpec) (args : List ℕ) (type : VarType) → judged known operator args ≡ Ok type → Judged known operator args type
judged_ok known operator args type is =
    let both = judged_from _ _ _ _ _ (result operator (bag_types known operator args) _) type is in
    record { all = both.0; captures = _; gives = both.1 }

-- ---- the arguments

-- the columns of a variable that was assigned
given_count : (found : Option VarType) (has : Option ℕ) (count : ℕ) → columns_in found ≡ has → has ≡ Some count → has ≡ Some (length (type_or_unset found).cols)
given_count None has count same some = absurd cc
given_count (Some type) has count same some = sym same

-- an assigned variable has as many columns as its type
variable_columns : (variables : ℕ) (known : Known) (columns : List ℕ) (variable : ℕ) → Agrees variables known columns
    → is_assigned known.assigned variable ≡ true → slice_get columns variable ≡ Some (length (type_of known variable).cols)
variable_columns variables known columns variable now is =
    let below : variable < length columns = now.assigned variable is in
    given_count (first_type known variable) (slice_get columns variable) (slice_index_or columns variable 0) (now.counted variable below) (slice_get-get_or columns variable 0 below)

-- ---- names and types

-- the name of a value is a legal one
value_named : (literal : Value) (file : List ℕ) → name_of_value literal ≡ Some file → IsLegal file
value_named (value.Text bytes) file is =
    let both = given_by (is_legal bytes) (Some bytes) file is in
    subst IsLegal (same_Some bytes file both.1) both.0
value_named (value.Int number) file is = absurd cc
value_named (value.Bool truth) file is = absurd cc

-- the name of an expression is a legal one
layer_named : (layer : Expr-F Expr) (file : List ℕ) → name_of_layer layer ≡ Some file → IsLegal file
layer_named (expr.Lit literal) file is = value_named literal file is
layer_named layer file is = absurd cc

-- a read gives the columns that it names
read_cols : (name : Expr) (types : List ColType) (bags : List VarType) (captures : List ColType) (type : VarType)
    → result (kind.Read name types) bags captures ≡ Some type → type.cols ≡ types
read_cols name types bags captures type is =
    ap (λ (t : VarType). t.cols) (sym (same_Some (bag types) type (given_by _ (Some (bag types)) type is).1))

-- a union gives the columns of its first bag, and the second bag has as many
union_cols : (one other type : VarType) (captures : List ColType) → result kind.Union (one ∷ other ∷ []) captures ≡ Some type
    → (one.cols ≡ type.cols) × (length other.cols ≡ length type.cols)
union_cols one other type captures is =
    let both = given_by (same_types one.cols other.cols) (Some (bag one.cols)) type is in
    let same = ap (λ (t : VarType). t.cols) (same_Some (bag one.cols) type both.1) in
    (same, sym (as_long same_type one.cols other.cols both.0) ∙ ap length same)

-- ---- one statement

-- after a statement the later ones are formed over other columns
record Next (variables : ℕ) (columns : List ℕ) (one : ThinStep) (after : Known) (rest : List ℕ) : Type 0 where
  later : List ℕ
  agrees : Agrees variables after later
  ordered : is_in_order (length later) rest ≡ true
  formed : (steps : List ThinStep) → FormedFrom later steps → FormedFrom columns (one ∷ steps)

-- where a test decides between a good and a bad end, the good one comes where it holds
ok_by : {A E : Type 0} (test : Bool) (good item : A) (bad : E) → (if test then Ok good else Err bad) ≡ Ok item → (test ≡ true) × (good ≡ item)
ok_by true good item bad is = (refl, cc)
ok_by false good item bad is = absurd cc

-- the type that was found is kept
record Kept (known : Known) (target : ℕ) (found : Result VarType CheckCode) (after : Known) : Type 0 where
  type : VarType
  is : found ≡ Ok type
  kept : is_kept (first_type known target) type ≡ true
  gives : assigning target type known ≡ after

-- an assignment that passes has a type that is kept
kept_from : (known : Known) (target : ℕ) (found : Result VarType CheckCode) (after : Known)
    → and_then (fault_or known found) (λ type. if is_kept (first_type known target) type then Ok (assigning target type known) else Err (fault_here known code.WrongType)) ≡ Ok after
    → Kept known target found after
kept_from known target (Err why) after is = absurd cc
kept_from known target (Ok type) after is =
    let both = ok_by (is_kept (first_type known target) type) (assigning target type known) after (fault_here known code.WrongType) is in
    record { type = type; is = refl; kept = both.0; gives = both.1 }

-- what is so after an assignment
record Assignment (variables : ℕ) (columns : List ℕ) (known after : Known) (target : ℕ) (operator : OpSpec) (args rest : List ℕ) : Type 0 where
  type : VarType
  judged : Judged known operator args type
  may : MayAssign columns target (length type.cols)
  agrees : Agrees variables after (columns_after columns target (length type.cols))
  ordered : is_in_order (length (columns_after columns target (length type.cols))) rest ≡ true

-- an assignment that passes
assignment : (variables : ℕ) (columns : List ℕ) (known after : Known) (target : ℕ) (operator : OpSpec) (args rest : List ℕ) → Agrees variables known columns
    → target < variables → is_in_order (length columns) (target ∷ args ++ rest) ≡ true → assigned_by target operator args known ≡ Ok after
    → Assignment variables columns known after target operator args rest
assignment variables columns known after target operator args rest now within ordered is =
    let kept = kept_from known target (judged known operator args) after is in
    let found = judged_ok known operator args kept.type kept.is in
    let both = and_parts (nat_le target (length columns)) (is_in_order (max (length columns) (target + 1)) (args ++ rest)) ordered in
    let place = placed variables columns known target kept.type now within kept.kept (leb-true target (length columns) both.0) in
    let past = order_past (is_assigned known.assigned) (max (length columns) (target + 1)) args rest (λ variable known. omega (arith, now.assigned variable known)) found.all both.1 in
    record {
      type = kept.type;
      judged = found;
      may = place.may;
      agrees = subst (λ (k : Known). Agrees variables k (columns_after columns target (length kept.type.cols))) kept.gives place.agrees;
      ordered = subst (λ (next : ℕ). is_in_order next rest ≡ true) (sym place.long) past;
    }

-- a read of a thin script
read_next : (variables : ℕ) (columns : List ℕ) (known after : Known) (target : ℕ) (name : Expr) (types : List ColType) (args rest : List ℕ) (one : ThinStep)
    → Assignment variables columns known after target (kind.Read name types) args rest → assigned_step target (kind.Read name types) args ≡ Some one
    → Next variables columns one after rest
unfolding FormedFrom
read_next variables columns known after target name types args rest one here is =
    let read = given_by (is_read types) (option_map (λ file. step.Read target file (length types)) (name_of name)) one is in
    let named = mapped_from (λ file. step.Read target file (length types)) (name_of name) one read.1 in
    let ints = and_parts (nat_lt 0 (length types) && nat_le (length types) MAX_COLUMNS) (list_all (same_type Int) types) read.0 in
    let many = and_parts (nat_lt 0 (length types)) (nat_le (length types) MAX_COLUMNS) ints.0 in
    let same : length here.type.cols ≡ length types = ap length (read_cols name types [] here.judged.captures here.type here.judged.gives) in
    let legal = layer_named (out-Expr name) named.0 named.1 in
    let some : 1 ≤ length types = omega (arith, ltb-true 0 (length types) many.0) in
    let most : length types ≤ MAX_COLUMNS = leb-true (length types) MAX_COLUMNS many.1 in
    record {
      later = columns_after columns target (length here.type.cols);
      agrees = here.agrees;
      ordered = here.ordered;
      formed = λ steps formed. subst (λ (s : ThinStep). FormedFrom columns (s ∷ steps)) (ap (step.Read target named.0) same ∙ named.2)
          (legal, omega (arith, same, some), omega (arith, same, most), here.may, formed);
    }

-- a union of a thin script
union_next : (variables : ℕ) (columns : List ℕ) (known after : Known) (target : ℕ) (args rest : List ℕ) (one : ThinStep) → Agrees variables known columns
    → 2 ≤ length args → Assignment variables columns known after target kind.Union args rest → assigned_step target kind.Union args ≡ Some one
    → Next variables columns one after rest
unfolding FormedFrom
union_next variables columns known after target [] rest one now enough here is = absurd (omega arith)
union_next variables columns known after target (bag ∷ []) rest one now enough here is = absurd (omega arith)
union_next variables columns known after target (bag ∷ other ∷ args) rest one now enough here is =
    let both = union_cols (type_of known bag) (type_of known other) here.type here.judged.captures here.judged.gives in
    let first = and_parts (is_assigned known.assigned bag) (list_all (is_assigned known.assigned) (other ∷ args)) here.judged.all in
    let second = and_parts (is_assigned known.assigned other) (list_all (is_assigned known.assigned) args) first.1 in
    let left = variable_columns variables known columns bag now first.0 ∙ ap (λ (cols : List ColType). Some (length cols)) both.0 in
    let right = variable_columns variables known columns other now second.0 ∙ ap Some both.1 in
    record {
      later = columns_after columns target (length here.type.cols);
      agrees = here.agrees;
      ordered = here.ordered;
      formed = λ steps formed. subst (λ (s : ThinStep). FormedFrom columns (s ∷ steps)) (same_Some (step.Union target bag other) one is)
          (length here.type.cols, left, right, here.may, formed);
    }

-- an assignment of a thin script
assigned_next : (variables : ℕ) (columns : List ℕ) (known after : Known) (target : ℕ) (operator : OpSpec) (args rest : List ℕ) (one : ThinStep)
    → Agrees variables known columns → length args ≡ bag_inputs_of operator + captures_of operator
    → Assignment variables columns known after target operator args rest → assigned_step target operator args ≡ Some one → Next variables columns one after rest
assigned_next variables columns known after target (kind.Read name types) args rest one now complete here is = read_next variables columns known after target name types args rest one here is
assigned_next variables columns known after target kind.Union args rest one now complete here is = union_next variables columns known after target args rest one now (omega arith) here is
assigned_next variables columns known after target operator args rest one now complete here is = absurd cc

-- a write that passes
passed_from : (known : Known) (found : Result VarType CheckCode) (after : Known)
    → and_then (fault_or known found) (λ type. Ok (passed known)) ≡ Ok after → (type : VarType) × (found ≡ Ok type) × (passed known ≡ after)
passed_from known (Err why) after is = absurd cc
passed_from known (Ok type) after is = (type, refl, cc)

-- one more statement that assigns nothing
agrees_passed : (variables : ℕ) (known : Known) (columns : List ℕ) → Agrees variables known columns → Agrees variables (passed known) columns
agrees_passed variables known columns now = record { sized = now.sized; typed = now.typed; assigned = now.assigned; counted = now.counted }

-- a write of a thin script
written_next : (variables : ℕ) (columns : List ℕ) (known after : Known) (name : Expr) (args rest : List ℕ) (one : ThinStep) → Agrees variables known columns
    → length args ≡ bag_inputs_of (kind.Write name) + captures_of (kind.Write name) → is_in_order (length columns) (args ++ rest) ≡ true
    → written_by (kind.Write name) args known ≡ Ok after → written_step (kind.Write name) args ≡ Some one → Next variables columns one after rest
unfolding FormedFrom
written_next variables columns known after name [] rest one now complete ordered is gives = absurd (omega arith)
written_next variables columns known after name (bag ∷ args) rest one now complete ordered is gives =
    let pass = passed_from known (judged known (kind.Write name) (bag ∷ args)) after is in
    let found = judged_ok known (kind.Write name) (bag ∷ args) pass.0 pass.1 in
    let named = mapped_from (step.Write bag) (name_of name) one gives in
    let legal = layer_named (out-Expr name) named.0 named.1 in
    let below = now.assigned bag (and_parts (is_assigned known.assigned bag) (list_all (is_assigned known.assigned) args) found.all).0 in
    record {
      later = columns;
      agrees = subst (λ (k : Known). Agrees variables k columns) pass.2 (agrees_passed variables known columns now);
      ordered = order_past (is_assigned known.assigned) (length columns) (bag ∷ args) rest now.assigned found.all ordered;
      formed = λ steps formed. subst (λ (s : ThinStep). FormedFrom columns (s ∷ steps)) named.2 (legal, below, formed);
    }

-- a write, whose operator is a write
write_next : (variables : ℕ) (columns : List ℕ) (known after : Known) (operator : OpSpec) (args rest : List ℕ) (one : ThinStep) → Agrees variables known columns
    → length args ≡ bag_inputs_of operator + captures_of operator → is_in_order (length columns) (args ++ rest) ≡ true
    → written_by operator args known ≡ Ok after → written_step operator args ≡ Some one → Next variables columns one after rest
write_next variables columns known after (kind.Write name) args rest one now complete ordered is gives = written_next variables columns known after name args rest one now complete ordered is gives
write_next variables columns known after operator args rest one now complete ordered is gives = absurd cc

-- ---- a whole script

-- an assignment, by its head
assign_next : (variables : ℕ) (columns : List ℕ) (known after : Known) (target : ℕ) (operator : OpSpec) (args rest : List ℕ) (one : ThinStep) (heads : List Head)
    → heads ≡ assigns target operator args ∷ [] → Agrees variables known columns → All (IsFormedHead variables) heads
    → is_in_order (length columns) (flat_map variables_of heads ++ rest) ≡ true
    → assigned_by target operator args known ≡ Ok after → assigned_step target operator args ≡ Some one → Next variables columns one after rest
assign_next variables columns known after target operator args rest one heads head now all ordered is gives =
    let formed = All-head (IsFormedHead variables) (assigns target operator args) [] (subst (All (IsFormedHead variables)) head all) in
    let same : flat_map variables_of heads ≡ target ∷ args = ap (flat_map variables_of) head ∙ append-nil (target ∷ args) in
    let order : is_in_order (length columns) (target ∷ args ++ rest) ≡ true = subst (λ (vs : List ℕ). is_in_order (length columns) (vs ++ rest) ≡ true) same ordered in
    assigned_next variables columns known after target operator args rest one now formed.2.complete
    (assignment variables columns known after target operator args rest now formed.0 order is) gives

-- a write, by its head
writes_next : (variables : ℕ) (columns : List ℕ) (known after : Known) (operator : OpSpec) (args rest : List ℕ) (one : ThinStep) (heads : List Head)
    → heads ≡ writes operator args ∷ [] → Agrees variables known columns → All (IsFormedHead variables) heads
    → is_in_order (length columns) (flat_map variables_of heads ++ rest) ≡ true
    → written_by operator args known ≡ Ok after → written_step operator args ≡ Some one → Next variables columns one after rest
writes_next variables columns known after operator args rest one heads head now all ordered is gives =
    let formed = All-head (IsFormedHead variables) (writes operator args) [] (subst (All (IsFormedHead variables)) head all) in
    let same : flat_map variables_of heads ≡ args = ap (flat_map variables_of) head ∙ append-nil args in
    let order : is_in_order (length columns) (args ++ rest) ≡ true = subst (λ (vs : List ℕ). is_in_order (length columns) (vs ++ rest) ≡ true) same ordered in
    write_next variables columns known after operator args rest one now formed.1.complete order is gives

-- a statement, by its layer
layer_next : (variables : ℕ) (columns : List ℕ) (known after : Known) (layer : Stmt-F Stmt) (rest : List ℕ) (one : ThinStep)
    → Agrees variables known columns → All (IsFormedHead variables) (heads_in (roll-Stmt layer))
    → is_in_order (length columns) (flat_map variables_of (heads_in (roll-Stmt layer)) ++ rest) ≡ true
    → check_of (roll-Stmt layer) known ≡ Ok after → step_of_layer layer ≡ Some one → Next variables columns one after rest
layer_next variables columns known after (stmt.Assign target operator args) rest one now all ordered is gives =
    assign_next variables columns known after target operator args rest one (heads_in (roll-Stmt (stmt.Assign target operator args)))
    (fold-roll-Stmt (List Head) head_step (stmt.Assign target operator args)) now all ordered
    (sym (ap (λ (c : Check). c known) (fold-roll-Stmt Check check_step (stmt.Assign target operator args))) ∙ is) gives
layer_next variables columns known after (stmt.Write operator args) rest one now all ordered is gives =
    writes_next variables columns known after operator args rest one (heads_in (roll-Stmt (stmt.Write operator args)))
    (fold-roll-Stmt (List Head) head_step (stmt.Write operator args)) now all ordered
    (sym (ap (λ (c : Check). c known) (fold-roll-Stmt Check check_step (stmt.Write operator args))) ∙ is) gives
layer_next variables columns known after (stmt.If operator args on_true on_false) rest one now all ordered is gives = absurd cc
layer_next variables columns known after (stmt.While operator args body) rest one now all ordered is gives = absurd cc

-- a statement with a thin step
statement_next : (variables : ℕ) (columns : List ℕ) (known after : Known) (statement : Stmt) (rest : List ℕ) (one : ThinStep)
    → Agrees variables known columns → All (IsFormedHead variables) (heads_in statement)
    → is_in_order (length columns) (flat_map variables_of (heads_in statement) ++ rest) ≡ true
    → check_of statement known ≡ Ok after → thin_step_of statement ≡ Some one → Next variables columns one after rest
statement_next variables columns known after statement rest one now all ordered is gives =
    let same = roll-out-Stmt statement in
    layer_next variables columns known after (out-Stmt statement) rest one now
    (subst (λ (s : Stmt). All (IsFormedHead variables) (heads_in s)) (sym same) all)
    (subst (λ (s : Stmt). is_in_order (length columns) (flat_map variables_of (heads_in s) ++ rest) ≡ true) (sym same) ordered)
    (ap (λ (s : Stmt). check_of s known) same ∙ is) gives

-- where two checks pass, each passes
and_from : {A B E : Type 0} (found : Result A E) (next : A → Result B E) (last : B) → and_then found next ≡ Ok last → (a : A) × (found ≡ Ok a) × (next a ≡ Ok last)
and_from (Err why) next last is = absurd cc
and_from (Ok a) next last is = (a, refl, is)

-- where steps are there, the first one and the later ones are
pub before_from : (first : Option ThinStep) (more : Option (List ThinStep)) (steps : List ThinStep) → before_steps first more ≡ Some steps
    → (one : ThinStep) × (later : List ThinStep) × (first ≡ Some one) × (more ≡ Some later) × (one ∷ later ≡ steps)
before_from None more steps is = absurd cc
before_from (Some one) None steps is = absurd cc
before_from (Some one) (Some later) steps is = (one, later, refl, refl, same_Some (one ∷ later) steps is)

-- the steps of statements that pass are formed
body_formed : (variables : ℕ) (columns : List ℕ) (known last : Known) (body : List Stmt) (steps : List ThinStep) → Agrees variables known columns
    → All (IsFormedHead variables) (flat_map heads_in body) → is_in_order (length columns) (flat_map variables_of (flat_map heads_in body)) ≡ true
    → in_order (map check_of body) known ≡ Ok last → steps_of body ≡ Some steps → FormedFrom columns steps
unfolding FormedFrom
body_formed variables columns known last [] steps now all ordered is gives = subst (FormedFrom columns) (same_Some [] steps gives) tt
body_formed variables columns known last (first ∷ more) steps now all ordered is gives =
    let parts = before_from (thin_step_of first) (steps_of more) steps gives in
    let pass = and_from (check_of first known) (in_order (map check_of more)) last is in
    let order = subst (λ (vs : List ℕ). is_in_order (length columns) vs ≡ true) (flat_map-append variables_of (heads_in first) (flat_map heads_in more)) ordered in
    let next = statement_next variables columns known pass.0 first (flat_map variables_of (flat_map heads_in more)) parts.0 now
    (all_front (IsFormedHead variables) (heads_in first) (flat_map heads_in more) all) order pass.1 parts.2 in
    let later = body_formed variables next.later pass.0 last more parts.1 next.agrees
    (all_back (IsFormedHead variables) (heads_in first) (flat_map heads_in more) all) next.ordered pass.2 parts.3 in
    subst (FormedFrom columns) parts.4 (next.formed parts.1 later)

-- each statement has one step
steps_long : (body : List Stmt) (steps : List ThinStep) → steps_of body ≡ Some steps → length steps ≡ length body
steps_long [] steps is = ap length (sym (same_Some [] steps is))
steps_long (first ∷ more) steps is =
    let parts = before_from (thin_step_of first) (steps_of more) steps is in
    ap length (sym parts.4) ∙ ap suc (steps_long more parts.1 parts.3)

-- at the start nothing is assigned
none_assigned : (names : List (List ℕ)) (variable : ℕ) → unwrap_or (slice_get (map (λ _. false) names) variable) false ≡ false
none_assigned [] variable = refl
none_assigned (name ∷ names) zero = refl
none_assigned (name ∷ names) (suc variable) = none_assigned names variable

-- at the start no variable has columns
agrees_start : (names : List (List ℕ)) → Agrees (length names) (at_start names) []
agrees_start names = record {
  sized = length-map names (λ _. false);
  typed = length-map names (λ _. None);
  assigned = λ variable is. absurd (false≢true (sym (none_assigned names variable) ∙ is));
  counted = λ variable below. absurd (omega arith);
}

-- the steps of a formed and numbered script that was accepted are formed
pub thin_formed : (script : Script) (types : List VarType) (steps : List ThinStep) → IsFormed script → IsNumbered script
    → checked script ≡ Ok types → thin_steps script ≡ Some steps → IsFormedThin steps
thin_formed script types steps formed numbered accepted is =
    let short = given_by (nat_le (length script.body) MAX_STATEMENTS) (steps_of script.body) steps is in
    let pass = and_from (in_order (map check_of script.body) (at_start script.names)) (λ last. Ok (map type_or_unset last.types)) types accepted in (
      omega (arith, leb-true (length script.body) MAX_STATEMENTS short.0, steps_long script.body steps short.1),
      body_formed (length script.names) [] (at_start script.names) pass.0 script.body steps (agrees_start script.names) formed.formed numbered pass.1 short.1,
    )
