-- The blocks of a script with the operators of its plan: each variable is an operator's, and where two ways meet a phi takes one of two.
use Rattle.std.specs.Prelude.{ℕ, suc, ◌+◌, List, [], ◌∷◌, ◌++◌, length, map, sum, Bool, false, ◌==◌, ◌&&◌, ◌||◌, if◌then◌else◌, Option, Some, None, is_some, unwrap_or, slice_index_or}
use Rattle.std.specs.List.{filter, list_any, range_with_len}
use Rattle.mit_ops.specs.Routes.{route_to}
use Rattle.mit_ops.specs.declared.kinds.OpSpec.{OpSpec}
use Rattle.mit_ops.specs.declared.kinds.OpSpec.TheVariants.{Copy}
use Rattle.mit_ops.specs.declared.leave.Leave.{Leave}
use Rattle.mit_ops.specs.declared.leave.Leave.TheVariants.{Jump, Branch, End}
use Rattle.mit_ops.specs.declared.routes.Route.TheVariants.{Forward}
use Rattle.mit_ops.specs.declared.types.VarType.{VarType}
use Rattle.mit_script.specs.Accepted.{unset}
use Rattle.mit_script.specs.declared.tree.Script.{Script}
use Rattle.mit_script.specs.declared.tree.Stmt.{Stmt}
use Rattle.mit_script.specs.declared.tree.Stmt.TheFolds.{fold-Stmt}
use Rattle.mit_script.specs.declared.tree.Stmt.TheOpen.{Stmt-F}
use Rattle.mit_script.specs.declared.tree.Stmt.TheOpen as stmt
use Rattle.mit_ssa.specs.declared.block.Block.{Block}
use Rattle.mit_ssa.specs.declared.block.Operator.{Operator}
use Rattle.mit_ssa.specs.declared.block.Source.{Source}

-- ---- blocks

-- blocks that are numbered one after another: the one that is current where they begin, and those after it
pub record WovenStretch : Type 0 where
  pub first : Block
  pub later : List Block

abbrev pub stretch_blocks : WovenStretch → List Block
stretch_blocks stretch = stretch.first ∷ stretch.later

-- operators stand first
abbrev pub operators_first : List Operator → WovenStretch → WovenStretch
operators_first operators after = record {
  first = record { operators = operators ++ after.first.operators; leave = after.first.leave };
  later = after.later;
}

-- nothing more comes in this block, and it is left so
abbrev pub just_left : Leave → WovenStretch
just_left leave = record { first = record { operators = []; leave = leave }; later = [] }

-- ---- definitions

-- the operator that defines each variable, where it is assigned on every path to here
abbrev pub Defined : Type 0
Defined = ℕ → Option ℕ

abbrev pub defining : Defined → ℕ → ℕ → Defined
defining defined variable number = λ other. if other == variable then Some number else defined other

-- one phi after another, from this number on, defines these variables
unfoldable pub with_phis : Defined → ℕ → List ℕ → Defined
with_phis defined number [] = defined
with_phis defined number (variable ∷ variables) = with_phis (defining defined variable number) (suc number) variables

-- what is defined on both of two ways; but for phis it is the same on both
abbrev pub on_both : Defined → Defined → Defined
on_both one other = λ variable. if is_some (one variable) && is_some (other variable) then one variable else None

-- ---- the operators of statements and phis

-- a variable's definition; in an accepted script there is one
abbrev pub definition_of : Defined → ℕ → ℕ
definition_of defined variable = unwrap_or (defined variable) 0

-- how many columns a variable has
abbrev pub width_of : List VarType → ℕ → ℕ
width_of types variable = length (slice_index_or types variable unset).cols

-- the inputs of an operator, whose numbers begin with this one, from the definitions of its arguments
unfoldable pub inputs_from : List VarType → Defined → OpSpec → ℕ → List ℕ → List Source
inputs_from types defined operator input [] = []
inputs_from types defined operator input (variable ∷ variables) =
    record { from = definition_of defined variable; route = route_to operator input (width_of types variable) }
    ∷ inputs_from types defined operator (suc input) variables

abbrev pub operator_of : List VarType → Defined → ℕ → OpSpec → List ℕ → Operator
operator_of types defined statement operator args =
    record { statement = statement; spec = operator; phi = 0; inputs = inputs_from types defined operator 0 args }

abbrev pub defined_operand : Defined → ℕ → Source
defined_operand defined variable = record { from = definition_of defined variable; route = Forward }

-- a variable's phi takes its definition on the one way or on the other
abbrev pub phi_of : Defined → Defined → ℕ → Operator
phi_of one other variable = record { statement = 0; spec = Copy; phi = 2; inputs = defined_operand one variable ∷ defined_operand other variable ∷ [] }

abbrev pub phis_of : Defined → Defined → List ℕ → List Operator
phis_of one other variables = map (phi_of one other) variables

-- ---- statements

-- where statements begin: the number of the current block, of the next operator and of the next statement, and what is defined
pub record WeavePlace : Type 0 where
  pub block : ℕ
  pub operator : ℕ
  pub statement : ℕ
  pub defined : Defined

-- what statements become: the number of the next operator after them and what is defined then; and the stretch with them, by the one after
pub record Woven : Type 0 where
  pub operator : ℕ
  pub defined : Defined
  pub onto : WovenStretch → WovenStretch

-- how a statement is woven: how many statements it is with those inside it, how many blocks it adds, and which variables it assigns
pub record Weave : Type 0 where
  pub count : ℕ
  pub added : ℕ
  pub assigns : ℕ → Bool
  pub weave : WeavePlace → Woven

abbrev pub weave_counts : List Weave → ℕ
weave_counts weaves = sum (map (λ weave. weave.count) weaves)

abbrev pub weave_adds : List Weave → ℕ
weave_adds weaves = sum (map (λ weave. weave.added) weaves)

abbrev pub assigned_in : List Weave → ℕ → Bool
assigned_in weaves variable = list_any (λ weave. weave.assigns variable) weaves

-- where the next statement begins
abbrev pub place_after : WeavePlace → Weave → Woven → WeavePlace
place_after place weave woven = record {
  block = place.block + weave.added;
  operator = woven.operator;
  statement = place.statement + weave.count;
  defined = woven.defined;
}

-- statements one after another
unfoldable pub woven_all : List Weave → WeavePlace → Woven
woven_all [] place = record { operator = place.operator; defined = place.defined; onto = λ stretch. stretch }
woven_all (first ∷ more) place =
    let one = first.weave place in
    let rest = woven_all more (place_after place first one) in
    record { operator = rest.operator; defined = rest.defined; onto = λ stretch. one.onto (rest.onto stretch) }

-- an operator comes to the current block, and defines a variable, or none
abbrev pub defining_maybe : Defined → Option ℕ → ℕ → Defined
defining_maybe defined None number = defined
defining_maybe defined (Some variable) number = defining defined variable number

abbrev pub done : List VarType → Option ℕ → OpSpec → List ℕ → WeavePlace → Woven
done types target operator args place = record {
  operator = place.operator + 1;
  defined = defining_maybe place.defined target place.operator;
  onto = operators_first (operator_of types place.defined place.statement operator args ∷ []);
}

-- after an `if` each variable that a branch assigns and that is defined at the end of both has a phi
abbrev pub join_phis : ℕ → List Weave → List Weave → Defined → Defined → List ℕ
join_phis variables on_true on_false one other =
    filter (λ variable. (assigned_in on_true variable || assigned_in on_false variable) && is_some (one variable) && is_some (other variable))
    (range_with_len 0 variables)

-- in a loop each variable that the body assigns and that is defined before has a phi
abbrev pub loop_phis : ℕ → List Weave → Defined → List ℕ
loop_phis variables body defined = filter (λ variable. assigned_in body variable && is_some (defined variable)) (range_with_len 0 variables)

-- an `if`: the condition ends the current block; then come the true block, the false block and the join, in which the phis stand first
abbrev pub woven_branch : List VarType → OpSpec → List ℕ → List Weave → List Weave → WeavePlace → Woven
woven_branch types operator args on_true on_false place =
    let other = place.block + 2 + weave_adds on_true in
    let join = other + 1 + weave_adds on_false in
    let one = woven_all on_true
    (record { block = place.block + 1; operator = place.operator + 1; statement = place.statement + 1; defined = place.defined }) in
    let two = woven_all on_false
    (record { block = other; operator = one.operator; statement = place.statement + 1 + weave_counts on_true; defined = place.defined }) in
    let phis = join_phis (length types) on_true on_false one.defined two.defined in
    record {
      operator = two.operator + length phis;
      defined = with_phis (on_both one.defined two.defined) two.operator phis;
      onto = λ stretch. record {
        first = record {
          operators = operator_of types place.defined place.statement operator args ∷ [];
          leave = Branch (place.block + 1) other;
        };
        later = stretch_blocks (one.onto (just_left (Jump join))) ++ stretch_blocks (two.onto (just_left (Jump join)))
            ++ stretch_blocks (operators_first (phis_of one.defined two.defined phis) stretch);
      };
    }

-- a `while`: the current block goes on to the header, which has the phis and the condition; then come the body, which goes back to it, and
-- the exit
abbrev pub woven_loop : List VarType → OpSpec → List ℕ → List Weave → WeavePlace → Woven
woven_loop types operator args body place =
    let exit = place.block + 3 + weave_adds body in
    let phis = loop_phis (length types) body place.defined in
    let inside = with_phis place.defined place.operator phis in
    let condition = place.operator + length phis in
    let turn = woven_all body
    (record { block = place.block + 2; operator = condition + 1; statement = place.statement + 1; defined = inside }) in
    record {
      operator = turn.operator;
      defined = inside;
      onto = λ stretch. record {
        first = record { operators = []; leave = Jump (place.block + 1) };
        later = record {
          operators = phis_of place.defined turn.defined phis ++ operator_of types inside place.statement operator args ∷ [];
          leave = Branch (place.block + 2) exit;
        } ∷ stretch_blocks (turn.onto (just_left (Jump (place.block + 1)))) ++ stretch_blocks stretch;
      };
    }

-- one layer of a statement, with how each inner one is woven in its place
abbrev pub weave_step : List VarType → Stmt-F Weave → Weave
weave_step types (stmt.Assign target operator args) =
    record { count = 1; added = 0; assigns = λ variable. variable == target; weave = done types (Some target) operator args }
weave_step types (stmt.Write operator args) =
    record { count = 1; added = 0; assigns = λ variable. false; weave = done types None operator args }
weave_step types (stmt.If operator args on_true on_false) = record {
  count = 1 + weave_counts on_true + weave_counts on_false;
  added = 3 + weave_adds on_true + weave_adds on_false;
  assigns = λ variable. assigned_in on_true variable || assigned_in on_false variable;
  weave = woven_branch types operator args on_true on_false;
}
weave_step types (stmt.While operator args body) = record {
  count = 1 + weave_counts body;
  added = 3 + weave_adds body;
  assigns = assigned_in body;
  weave = woven_loop types operator args body;
}

abbrev pub weave_of : List VarType → Stmt → Weave
weave_of types = fold-Stmt Weave (weave_step types)

-- at the start nothing is defined
abbrev pub start_place : WeavePlace
start_place = record { block = 0; operator = 0; statement = 1; defined = λ variable. None }

-- the blocks of a script, whose variables have these types
abbrev pub woven_blocks : Script → List VarType → List Block
woven_blocks script types = stretch_blocks ((woven_all (map (weave_of types) script.body) start_place).onto (just_left End))
