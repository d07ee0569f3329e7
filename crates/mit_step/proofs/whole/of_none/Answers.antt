use Rattle.std.proofs.Common.{[], ◌∷◌, ◌∙◌, Ok, ap, map, refl}
use Rattle.mit_rows.specs.Bags.{bag_of}
use Rattle.mit_expr.specs.Types.{type_in, type_of_value}
use Rattle.mit_ops.specs.Answers.{RowsOrKind, at_row, settled}
use Rattle.mit_ops.specs.EachRow.{row_of_exprs}
use Rattle.mit_ops.specs.declared.kinds.OpSpec.TheVariants as op
use Rattle.mit_step.specs.Stepping.{with_captures}
use Rattle.mit_step.proofs.Wholes.{captures_are, fits_as, of_kind, one_expr, one_typed}
use Rattle.mit_step.proofs.whole.of_none.Goals as goal

pub made_row-requires-clause-typed : goal.made_row-requires-clause-typed
made_row-requires-clause-typed c =
    let inputs = with_captures [] c.args.captures.now in
    let typed = c.fitting_law.ensures.scalar c.in-Scalar.expr inputs c.args.captures.now (fits_as c.args.spec.now (op.Scalar c.in-Scalar.expr) inputs c.in-Scalar.is c.requires.fits)
    (captures_are (op.Scalar c.in-Scalar.expr) [] c.args.captures.now refl) in
    rw c.from_ref.ensures.value (one_typed (type_in [] (map type_of_value c.args.captures.now) c.in-Scalar.expr) typed)

pub made_row-requires-in-MakeRow-clause-typed : goal.made_row-requires-in-MakeRow-clause-typed
made_row-requires-in-MakeRow-clause-typed c =
    let inputs = with_captures [] c.args.captures.now in
    rw c.as_slice.ensures (c.fitting_law.ensures.make_row c.in-MakeRow.exprs inputs c.args.captures.now
    (fits_as c.args.spec.now (op.MakeRow c.in-MakeRow.exprs) inputs c.in-MakeRow.is c.requires.fits) (captures_are (op.MakeRow c.in-MakeRow.exprs) [] c.args.captures.now refl))

pub returns-in-Scalar : goal.returns-in-Scalar
returns-in-Scalar c =
    of_kind c.args.spec.now (op.Scalar c.in-Scalar.expr) [] c.args.captures.now (settled (at_row [] (row_of_exprs c.args.captures.now (c.in-Scalar.expr ∷ []) [])))
    c.made_row.result c.in-Scalar.is refl (ap (λ (found : RowsOrKind). settled (at_row [] found)) (one_expr c.args.captures.now c.in-Scalar.expr))
    (rw c.from_ref.ensures.value at c.made_row.ensures)

pub returns-in-MakeRow : goal.returns-in-MakeRow
returns-in-MakeRow c =
    of_kind c.args.spec.now (op.MakeRow c.in-MakeRow.exprs) [] c.args.captures.now (settled (at_row [] (row_of_exprs c.args.captures.now c.in-MakeRow.exprs [])))
    c.made_row-in-MakeRow.result c.in-MakeRow.is refl refl (rw c.as_slice.ensures at c.made_row-in-MakeRow.ensures)

pub returns-in-Empty : goal.returns-in-Empty
returns-in-Empty c =
    of_kind c.args.spec.now (op.Empty c.in-Empty.types) [] c.args.captures.now (Ok c.from_rows.result) (Ok c.from_rows.result)
    c.in-Empty.is refl (ap Ok (c.from_rows.ensures ∙ ap bag_of c.new.ensures.items)) refl
