-- Which scripts are accepted, with the types of their variables, and which statement is refused first, and why.
use Rattle.std.specs.Prelude.{ℕ, ◌+◌, List, [], ◌∷◌, length, map, take, drop, zip, flat_map, Bool, true, false, not, ◌&&◌, if◌then◌else◌, Option, Some, None, unwrap_or, is_some, nat_lt, Result, Ok, Err, slice_get, slice_set}
use Rattle.std.specs.List.{list_all}
use Rattle.mit_rows.specs.declared.value.ColType.TheVariants.{Bool as Truth}
use Rattle.mit_ops.specs.Kinds.{bag_inputs_of}
use Rattle.mit_ops.specs.Results.{Refusal, too_large, too_many_columns, wrong_type, same_types, typed_as}
use Rattle.mit_ops.specs.declared.kinds.OpSpec.{OpSpec}
use Rattle.mit_ops.specs.declared.types.TheConstants.{MAX_CAPTURES}
use Rattle.mit_ops.specs.declared.types.VarType.{VarType}
use Rattle.mit_script.specs.declared.tree.Script.{Script}
use Rattle.mit_script.specs.declared.tree.Stmt.{Stmt}
use Rattle.mit_script.specs.declared.tree.Stmt.TheFolds.{fold-Stmt}
use Rattle.mit_script.specs.declared.tree.Stmt.TheOpen.{Stmt-F}
use Rattle.mit_script.specs.declared.tree.Stmt.TheOpen as stmt
use Rattle.mit_script.specs.declared.typed.CheckCode.{CheckCode}
use Rattle.mit_script.specs.declared.typed.CheckCode.TheVariants.{Unassigned, NotScalar, TooLarge, TooManyColumns, WrongType}

-- what is known at a place in the text
pub record Known : Type 0 where
  -- for each variable, whether it is assigned on every path to here
  pub assigned : List Bool
  -- for each variable, the type of its first assignment in the text up to here
  pub types : List (Option VarType)
  -- how many statements stand before
  pub before : ℕ

-- the type of a variable that no statement assigns
abbrev pub unset : VarType
unset = record { scalar = false; cols = [] }

abbrev pub type_or_unset : Option VarType → VarType
type_or_unset None = unset
type_or_unset (Some type) = type

-- whether a variable is among the assigned ones
abbrev pub is_assigned : List Bool → ℕ → Bool
is_assigned assigned variable = unwrap_or (slice_get assigned variable) false

-- the type of a variable's first assignment, where there was one
abbrev pub first_type : Known → ℕ → Option VarType
first_type known variable = unwrap_or (slice_get known.types variable) None

abbrev pub type_of : Known → ℕ → VarType
type_of known variable = type_or_unset (first_type known variable)

-- the types of an operator's bags, which are its first arguments
abbrev pub bag_types : Known → OpSpec → List ℕ → List VarType
bag_types known operator args = map (type_of known) (take (bag_inputs_of operator) args)

-- the captured variables, which follow the bags
abbrev pub captured_args : OpSpec → List ℕ → List ℕ
captured_args operator args = drop (bag_inputs_of operator) args

abbrev pub code_of : Refusal → CheckCode
code_of too_large = TooLarge
code_of too_many_columns = TooManyColumns
code_of wrong_type = WrongType

-- the type that was found, or the code of the refusal
abbrev pub typed_or_code : Result VarType Refusal → Result VarType CheckCode
typed_or_code (Ok type) = Ok type
typed_or_code (Err why) = Err (code_of why)

-- the type of what an operator gives over its arguments, where the captured ones are scalars
abbrev pub typed_by : Known → OpSpec → List ℕ → Result VarType Refusal
typed_by known operator args =
    typed_as operator (bag_types known operator args)
    (flat_map (λ variable. (type_of known variable).cols) (captured_args operator args))

-- the same, or the first code against it
abbrev pub judged : Known → OpSpec → List ℕ → Result VarType CheckCode
judged known operator args =
    if not (list_all (is_assigned known.assigned) args) then Err Unassigned
    else if not (list_all (λ variable. (type_of known variable).scalar) (captured_args operator args)) then Err NotScalar
    else if nat_lt MAX_CAPTURES (length (captured_args operator args)) then Err TooLarge
    else typed_or_code (typed_by known operator args)

abbrev pub same_truth : Bool → Bool → Bool
same_truth true other = other
same_truth false other = not other

-- whether a type is that of the first assignment, where there was one
abbrev pub is_kept : Option VarType → VarType → Bool
is_kept None type = true
is_kept (Some first) type = same_truth first.scalar type.scalar && same_types first.cols type.cols

-- a scalar that is a truth value
abbrev pub is_condition : VarType → Bool
is_condition type = type.scalar && same_types type.cols (Truth ∷ [])

-- what is known after one more statement, and after an assignment, which leaves the type of an earlier one
abbrev pub passed : Known → Known
passed known = record known { before = known.before + 1 }

abbrev pub assigning : ℕ → VarType → Known → Known
assigning target type known = record {
  assigned = slice_set known.assigned target true;
  types = if is_some (first_type known target) then known.types else slice_set known.types target (Some type);
  before = known.before + 1;
}

-- a fault: the number of a statement, from 1, and its code
abbrev pub Fault : Type 0
Fault = ℕ × CheckCode

abbrev pub fault_here : Known → CheckCode → Fault
fault_here known code = (known.before + 1, code)

abbrev pub and_then : {A B E : Type 0} → Result A E → (A → Result B E) → Result B E
and_then (Ok value) next = next value
and_then (Err fault) next = Err fault

-- the same, where a code is the fault of the statement after what is known
abbrev pub fault_or : {A : Type 0} → Known → Result A CheckCode → Result A Fault
fault_or known (Ok value) = Ok value
fault_or known (Err code) = Err (fault_here known code)

-- what is known after an assignment, a write, and a condition, or the fault
abbrev pub assigned_by : ℕ → OpSpec → List ℕ → Known → Result Known Fault
assigned_by target operator args known =
    and_then (fault_or known (judged known operator args)) (λ type.
    if is_kept (first_type known target) type then Ok (assigning target type known) else Err (fault_here known WrongType))

abbrev pub written_by : OpSpec → List ℕ → Known → Result Known Fault
written_by operator args known = and_then (fault_or known (judged known operator args)) (λ type. Ok (passed known))

abbrev pub decided_by : OpSpec → List ℕ → Known → Result Known Fault
decided_by operator args known =
    and_then (fault_or known (judged known operator args)) (λ type.
    if is_condition type then Ok (passed known) else Err (fault_here known WrongType))

-- a check goes from what is known before to what is known after, or to the first fault
abbrev pub Check : Type 0
Check = Known → Result Known Fault

-- one check after another
abbrev pub in_order : List Check → Check
in_order [] known = Ok known
in_order (first ∷ more) known = and_then (first known) (in_order more)

-- the same, but that this is what is assigned
abbrev pub with_assigned : List Bool → Known → Known
with_assigned assigned known = record known { assigned = assigned }

-- what is assigned at the end of both blocks
abbrev pub assigned_in_both : List Bool → List Bool → List Bool
assigned_in_both one other = map (λ pair. pair.0 && pair.1) (zip one other)

-- after the first block of an `if` the second one begins with what was assigned before
abbrev pub rejoined : List Check → List Bool → Check
rejoined on_false before one =
    and_then (in_order on_false (with_assigned before one)) (λ other.
    Ok (with_assigned (assigned_in_both one.assigned other.assigned) other))

-- after the condition of an `if`, and of a `while`
abbrev pub branched : List Check → List Check → Check
branched on_true on_false inside = and_then (in_order on_true inside) (rejoined on_false inside.assigned)

abbrev pub looped : List Check → Check
looped body inside = and_then (in_order body inside) (λ last. Ok (with_assigned inside.assigned last))

-- one layer of a statement, with the check of each inner one in its place
abbrev pub check_step : Stmt-F Check → Check
check_step (stmt.Assign target operator args) known = assigned_by target operator args known
check_step (stmt.Write operator args) known = written_by operator args known
check_step (stmt.If operator args on_true on_false) known =
    and_then (decided_by operator args known) (branched on_true on_false)
check_step (stmt.While operator args body) known = and_then (decided_by operator args known) (looped body)

abbrev pub check_of : Stmt → Check
check_of = fold-Stmt Check check_step

-- before the first statement nothing is assigned
abbrev pub at_start : List (List ℕ) → Known
at_start names = record { assigned = map (λ _. false) names; types = map (λ _. None) names; before = 0 }

-- the types of all variables, or the first statement that is refused, with its first code
abbrev pub checked_body : List (List ℕ) → List Stmt → Result (List VarType) Fault
checked_body names body = and_then (in_order (map check_of body) (at_start names)) (λ last. Ok (map type_or_unset last.types))

abbrev pub checked : Script → Result (List VarType) Fault
checked script = checked_body script.names script.body
