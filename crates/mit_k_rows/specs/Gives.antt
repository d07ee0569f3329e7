-- Devices of the proofs: nobody has to believe them. What a row gives in an operator of these kinds, and when it may be asked.
use Rattle.std.specs.Prelude.{◌≡◌, ◌≤◌, ◌+◌, ⊤, List, [], ◌∷◌, length, map, IsSome, Some, Ok}
use Rattle.mit_rows.specs.Bags.{RowOf}
use Rattle.mit_rows.specs.declared.row.TheConstants.{MAX_COLUMNS}
use Rattle.mit_rows.specs.declared.value.ColType.TheVariants as is
use Rattle.mit_rows.specs.declared.value.Value.{Value}
use Rattle.mit_expr.specs.Types.{type_in, type_of_value}
use Rattle.mit_expr.specs.declared.expr.Expr.{Expr}
use Rattle.mit_ops.specs.Answers.{BagOrFault, RowsOrKind, at_row, over}
use Rattle.mit_ops.specs.EachRow.{filtered, flattened, row_of_exprs}
use Rattle.mit_ops.specs.Results.{flat_type, types_of}
use Rattle.mit_ops.specs.declared.kinds.Flat.{Flat}
use Rattle.mit_ops.specs.declared.kinds.OpSpec.{OpSpec}
use Rattle.mit_ops.specs.declared.kinds.OpSpec.TheVariants as op

-- an operator that takes no bag is asked at a row of no values
abbrev pub rows_given : OpSpec → List Value → RowOf → RowsOrKind
rows_given (op.Scalar expr) captures row = row_of_exprs captures (expr ∷ []) row
rows_given (op.Map exprs) captures row = row_of_exprs captures exprs row
rows_given (op.Filter expr) captures row = filtered captures expr row
rows_given (op.FlatMap flat) captures row = flattened captures flat row
rows_given (op.MakeRow exprs) captures row = row_of_exprs captures exprs row
rows_given (op.Empty types) captures row = Ok []
rows_given other captures row = Ok (row ∷ [])

-- the sum of what these rows give
abbrev pub sum_given : OpSpec → List Value → List RowOf → BagOrFault
sum_given spec captures = over (λ row. at_row row (rows_given spec captures row))

-- the expressions have values at a row
abbrev pub CanMake : List Expr → List Value → RowOf → Type 0
CanMake exprs captures row =
    (length exprs ≤ MAX_COLUMNS) × IsSome (types_of (type_in (map type_of_value row) (map type_of_value captures)) exprs)

abbrev pub CanKeep : Expr → List Value → RowOf → Type 0
CanKeep expr captures row = type_in (map type_of_value row) (map type_of_value captures) expr ≡ Some is.Bool

abbrev pub CanFlatten : Flat → List Value → RowOf → Type 0
CanFlatten flat captures row =
    IsSome (flat_type flat (map type_of_value row) (map type_of_value captures)) × (length row + 1 ≤ MAX_COLUMNS)

abbrev pub CanGive : OpSpec → List Value → RowOf → Type 0
CanGive (op.Scalar expr) captures row = CanMake (expr ∷ []) captures row
CanGive (op.Map exprs) captures row = CanMake exprs captures row
CanGive (op.Filter expr) captures row = CanKeep expr captures row
CanGive (op.FlatMap flat) captures row = CanFlatten flat captures row
CanGive op.Union captures row = ⊤
CanGive (op.MakeRow exprs) captures row = CanMake exprs captures row
CanGive (op.Empty types) captures row = ⊤
CanGive op.Copy captures row = ⊤
CanGive other captures row = ⊥
