-- The kinds of operators: their numbers, how many bags they take, their expressions, and which captured scalars those name.
use Rattle.std.specs.Prelude.{ℕ, ◌+◌, List, [], ◌∷◌, fold, max}
use Rattle.mit_expr.specs.declared.expr.Expr.{Expr}
use Rattle.mit_expr.specs.declared.expr.Expr.TheFolds.{fold-Expr}
use Rattle.mit_expr.specs.declared.expr.Expr.TheOpen.{Expr-F}
use Rattle.mit_expr.specs.declared.expr.Expr.TheOpen as expr
use Rattle.mit_ops.specs.declared.kinds.Flat.{Flat}
use Rattle.mit_ops.specs.declared.kinds.Flat.TheVariants.{Words, Range}
use Rattle.mit_ops.specs.declared.kinds.OpSpec.{OpSpec}
use Rattle.mit_ops.specs.declared.kinds.OpSpec.TheVariants as op

-- the number of a kind
abbrev pub kind_of : OpSpec → ℕ
kind_of (op.Scalar expr) = 0
kind_of (op.Read name types) = 1
kind_of (op.Map exprs) = 2
kind_of (op.Filter expr) = 3
kind_of (op.FlatMap flat) = 4
kind_of (op.Join left right) = 5
kind_of (op.Reduce keys agg) = 6
kind_of op.Union = 7
kind_of op.Distinct = 8
kind_of op.Only = 9
kind_of op.Count = 10
kind_of (op.Sum column) = 11
kind_of (op.MakeRow exprs) = 12
kind_of (op.Empty types) = 13
kind_of (op.Write name) = 14
kind_of op.Copy = 15

-- how many bags an operator takes
abbrev pub bag_inputs_of : OpSpec → ℕ
bag_inputs_of (op.Scalar expr) = 0
bag_inputs_of (op.Read name types) = 0
bag_inputs_of (op.MakeRow exprs) = 0
bag_inputs_of (op.Empty types) = 0
bag_inputs_of (op.Join left right) = 2
bag_inputs_of op.Union = 2
bag_inputs_of _ = 1

-- one layer of an expression, with the number of each operand in its place
abbrev pub capture_step : Expr-F ℕ → ℕ
capture_step (expr.Column column) = 0
capture_step (expr.Capture capture) = capture + 1
capture_step (expr.Lit value) = 0
capture_step (expr.Bin operator left right) = max left right
capture_step (expr.Not arg) = arg
capture_step (expr.Call function arg) = arg

-- one more than the greatest captured scalar that an expression names, or 0
abbrev pub captures_in : Expr → ℕ
captures_in = fold-Expr ℕ capture_step

-- the same of all these expressions
abbrev pub captures_in_all : List Expr → ℕ
captures_in_all = fold (λ most expr. max most (captures_in expr)) 0

-- what a flat map evaluates, in order
abbrev pub exprs_in : Flat → List Expr
exprs_in (Words expr separator) = expr ∷ []
exprs_in (Range from to) = from ∷ to ∷ []

-- the expressions of an operator, in order
abbrev pub exprs_of : OpSpec → List Expr
exprs_of (op.Scalar expr) = expr ∷ []
exprs_of (op.Read name types) = name ∷ []
exprs_of (op.Map exprs) = exprs
exprs_of (op.Filter expr) = expr ∷ []
exprs_of (op.FlatMap flat) = exprs_in flat
exprs_of (op.MakeRow exprs) = exprs
exprs_of (op.Write name) = name ∷ []
exprs_of _ = []

-- one more than the greatest captured scalar that an operator names, or 0
abbrev pub captures_of : OpSpec → ℕ
captures_of operator = captures_in_all (exprs_of operator)
