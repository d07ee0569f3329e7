-- The type of an expression, by the types of the row's columns and of the captured scalars.
use Rattle.std.specs.Prelude.{List, Bool, true, false, Option, Some, None, slice_get, if◌then◌else◌}
use Rattle.mit_rows.specs.declared.value.Value.{Value}
use Rattle.mit_rows.specs.declared.value.Value.TheVariants as value
use Rattle.mit_rows.specs.declared.value.ColType.{ColType}
use Rattle.mit_rows.specs.declared.value.ColType.TheVariants.{Int, Text, Bool as Truth}
use Rattle.mit_expr.specs.declared.expr.BinOp.{BinOp}
use Rattle.mit_expr.specs.declared.expr.BinOp.TheVariants as op
use Rattle.mit_expr.specs.declared.expr.Call.{Call}
use Rattle.mit_expr.specs.declared.expr.Call.TheVariants as call
use Rattle.mit_expr.specs.declared.expr.Expr.{Expr}
use Rattle.mit_expr.specs.declared.expr.Expr.TheFolds.{fold-Expr}
use Rattle.mit_expr.specs.declared.expr.Expr.TheOpen.{Expr-F}
use Rattle.mit_expr.specs.declared.expr.Expr.TheOpen as expr

abbrev pub type_of_value : Value → ColType
type_of_value (value.Int number) = Int
type_of_value (value.Text text) = Text
type_of_value (value.Bool truth) = Truth

abbrev pub same_type : ColType → ColType → Bool
same_type Int Int = true
same_type Text Text = true
same_type Truth Truth = true
same_type _ _ = false

-- this type where an operand, or both, have the wanted one
abbrev pub where_is : ColType → ColType → Option ColType → Option ColType
where_is wanted gives None = None
where_is wanted gives (Some is) = if same_type wanted is then Some gives else None

abbrev pub where_are : ColType → ColType → Option ColType → Option ColType → Option ColType
where_are wanted gives None right = None
where_are wanted gives (Some left) right = if same_type wanted left then where_is wanted gives right else None

-- a comparison takes two of one type
abbrev pub where_same : Option ColType → Option ColType → Option ColType
where_same None right = None
where_same (Some left) right = where_is left Truth right

abbrev pub type_of_operator : BinOp → Option ColType → Option ColType → Option ColType
type_of_operator op.Add left right = where_are Int Int left right
type_of_operator op.Sub left right = where_are Int Int left right
type_of_operator op.Mul left right = where_are Int Int left right
type_of_operator op.Div left right = where_are Int Int left right
type_of_operator op.Rem left right = where_are Int Int left right
type_of_operator op.Concat left right = where_are Text Text left right
type_of_operator op.Eq left right = where_same left right
type_of_operator op.Ne left right = where_same left right
type_of_operator op.Lt left right = where_same left right
type_of_operator op.Le left right = where_same left right
type_of_operator op.Gt left right = where_same left right
type_of_operator op.Ge left right = where_same left right
type_of_operator op.And left right = where_are Truth Truth left right
type_of_operator op.Or left right = where_are Truth Truth left right

abbrev pub type_of_call : Call → Option ColType → Option ColType
type_of_call call.ToText arg = where_is Int Text arg
type_of_call call.ToInt arg = where_is Text Int arg
type_of_call call.Len arg = where_is Text Int arg

-- one layer of an expression, with the type of each operand in its place, or none
abbrev pub type_step : List ColType → List ColType → Expr-F (Option ColType) → Option ColType
type_step columns captures (expr.Column column) = slice_get columns column
type_step columns captures (expr.Capture capture) = slice_get captures capture
type_step columns captures (expr.Lit value) = Some (type_of_value value)
type_step columns captures (expr.Bin operator left right) = type_of_operator operator left right
type_step columns captures (expr.Not arg) = where_is Truth Truth arg
type_step columns captures (expr.Call function arg) = type_of_call function arg

-- the type of an expression, or none
abbrev pub type_in : List ColType → List ColType → Expr → Option ColType
type_in columns captures = fold-Expr (Option ColType) (type_step columns captures)
