use Rattle.std.proofs.Common.{[], ◌∷◌, ◌∙◌, Ok, ap, length, pos, refl, sym}
use Rattle.mit_rows.specs.Bags.{RowOf, all_rows, bag_of}
use Rattle.mit_expr.specs.Values.{within}
use Rattle.mit_ops.specs.Answers.{at_row, over, settled}
use Rattle.mit_ops.specs.EachRow.{filtered, flattened, given, row_of_exprs}
use Rattle.mit_ops.specs.Operators.{one_value, single}
use Rattle.mit_ops.specs.Totals.{total}
use Rattle.mit_ops.specs.declared.kinds.OpSpec.TheVariants as op
use Rattle.mit_step.specs.Stepping.{with_captures}
use Rattle.mit_step.proofs.Wholes.{captures_are, fits_as, of_kind, one_bag, rows_themselves}
use Rattle.mit_step.proofs.whole.of_one.Goals as goal

pub mapped-requires-clause-typed : goal.mapped-requires-clause-typed
mapped-requires-clause-typed c =
    rw c.as_slice.ensures (c.fitting_law.ensures.map c.in-Map.exprs (with_captures (c.args.rows.now ∷ []) c.args.captures.now) c.args.captures.now
    (fits_as c.args.spec.now (op.Map c.in-Map.exprs) (with_captures (c.args.rows.now ∷ []) c.args.captures.now) c.in-Map.is c.requires.fits) (captures_are (op.Map c.in-Map.exprs) (c.args.rows.now ∷ []) c.args.captures.now refl))

pub filtered-requires : goal.filtered-requires
filtered-requires c =
    (c.fitting_law.ensures.filter c.in-Filter.expr (with_captures (c.args.rows.now ∷ []) c.args.captures.now) c.args.captures.now
    (fits_as c.args.spec.now (op.Filter c.in-Filter.expr) (with_captures (c.args.rows.now ∷ []) c.args.captures.now) c.in-Filter.is c.requires.fits) (captures_are (op.Filter c.in-Filter.expr) (c.args.rows.now ∷ []) c.args.captures.now refl))

pub flattened-requires-clause-typed : goal.flattened-requires-clause-typed
flattened-requires-clause-typed c =
    (c.fitting_law.ensures.flat c.in-FlatMap.flat (with_captures (c.args.rows.now ∷ []) c.args.captures.now) c.args.captures.now
    (fits_as c.args.spec.now (op.FlatMap c.in-FlatMap.flat) (with_captures (c.args.rows.now ∷ []) c.args.captures.now) c.in-FlatMap.is c.requires.fits) (captures_are (op.FlatMap c.in-FlatMap.flat) (c.args.rows.now ∷ []) c.args.captures.now refl))

pub reduced-requires : goal.reduced-requires
reduced-requires c =
    rw c.as_slice-in-Reduce.ensures (c.groups_law.ensures.give c.in-Reduce.keys c.in-Reduce.agg (with_captures (c.args.rows.now ∷ []) c.args.captures.now)
    (fits_as c.args.spec.now (op.Reduce c.in-Reduce.keys c.in-Reduce.agg) (with_captures (c.args.rows.now ∷ []) c.args.captures.now) c.in-Reduce.is c.requires.fits))

pub distinct-requires : goal.distinct-requires
distinct-requires c =
    c.distinct_law.ensures.narrow (with_captures (c.args.rows.now ∷ []) c.args.captures.now)
    (fits_as c.args.spec.now op.Distinct (with_captures (c.args.rows.now ∷ []) c.args.captures.now) c.in-Distinct.is c.requires.fits)

pub returns-in_ok-mapped-in-Map : goal.returns-in_ok-mapped-in-Map
returns-in_ok-mapped-in-Map c =
    of_kind c.args.spec.now (op.Map c.in-Map.exprs) (c.args.rows.now ∷ []) c.args.captures.now c.in_ok-mapped-in-Map.field-0 c.settle.result c.in-Map.is refl
    ((rw c.as_slice.ensures at c.in_ok-mapped-in-Map.ensures) ∙ ap (over (λ (row : RowOf). at_row row (row_of_exprs c.args.captures.now c.in-Map.exprs row))) (sym (one_bag c.args.rows.now))) c.settle.ensures

pub returns-in_ok-filtered-in-Filter : goal.returns-in_ok-filtered-in-Filter
returns-in_ok-filtered-in-Filter c =
    of_kind c.args.spec.now (op.Filter c.in-Filter.expr) (c.args.rows.now ∷ []) c.args.captures.now c.in_ok-filtered-in-Filter.field-0 c.settle-in-Filter.result c.in-Filter.is refl
    (c.in_ok-filtered-in-Filter.ensures ∙ ap (over (λ (row : RowOf). at_row row (filtered c.args.captures.now c.in-Filter.expr row))) (sym (one_bag c.args.rows.now))) c.settle-in-Filter.ensures

pub returns-in-FlatMap : goal.returns-in-FlatMap
returns-in-FlatMap c =
    let given = over (λ (row : RowOf). at_row row (flattened c.args.captures.now c.in-FlatMap.flat row)) in
    of_kind c.args.spec.now (op.FlatMap c.in-FlatMap.flat) (c.args.rows.now ∷ []) c.args.captures.now (given c.args.rows.now) c.flattened.result c.in-FlatMap.is refl
    (ap given (sym (one_bag c.args.rows.now))) c.flattened.ensures

pub returns-in_ok-reduced-in-Reduce : goal.returns-in_ok-reduced-in-Reduce
returns-in_ok-reduced-in-Reduce c =
    of_kind c.args.spec.now (op.Reduce c.in-Reduce.keys c.in-Reduce.agg) (c.args.rows.now ∷ []) c.args.captures.now c.in_ok-reduced-in-Reduce.field-0 c.settle-in-Reduce.result c.in-Reduce.is refl
    (rw c.as_slice-in-Reduce.ensures at c.in_ok-reduced-in-Reduce.ensures) c.settle-in-Reduce.ensures

pub returns-in_ok-distinct-in-Distinct : goal.returns-in_ok-distinct-in-Distinct
returns-in_ok-distinct-in-Distinct c =
    of_kind c.args.spec.now (op.Distinct) (c.args.rows.now ∷ []) c.args.captures.now c.in_ok-distinct-in-Distinct.field-0 c.settle-in-Distinct.result c.in-Distinct.is refl
    c.in_ok-distinct-in-Distinct.ensures c.settle-in-Distinct.ensures

pub returns-in-Only : goal.returns-in-Only
returns-in-Only c =
    of_kind c.args.spec.now (op.Only) (c.args.rows.now ∷ []) c.args.captures.now (settled (at_row [] (single c.args.rows.now))) c.only.result c.in-Only.is refl
    refl c.only.ensures

pub returns-in-Count : goal.returns-in-Count
returns-in-Count c =
    of_kind c.args.spec.now (op.Count) (c.args.rows.now ∷ []) c.args.captures.now (settled (at_row [] (given (within (pos (length c.args.rows.now))) one_value))) c.counted.result c.in-Count.is refl
    refl c.counted.ensures

pub returns-in-Sum : goal.returns-in-Sum
returns-in-Sum c =
    of_kind c.args.spec.now (op.Sum c.in-Sum.column) (c.args.rows.now ∷ []) c.args.captures.now (settled (at_row [] (given (within (total c.in-Sum.column c.args.rows.now)) one_value))) c.summed.result c.in-Sum.is refl
    refl c.summed.ensures

pub returns-in_ok-copy_rows-in-Copy : goal.returns-in_ok-copy_rows-in-Copy
returns-in_ok-copy_rows-in-Copy c =
    of_kind c.args.spec.now op.Copy (c.args.rows.now ∷ []) c.args.captures.now (Ok c.from_rows.result) (Ok c.from_rows.result) c.in-Copy.is refl
    (ap Ok (c.from_rows.ensures ∙ ap bag_of (c.in_ok-copy_rows-in-Copy.ensures ∙ sym (one_bag c.args.rows.now)))
    ∙ sym (rows_themselves c.bags_are_sorted_lists.ensures.sorted c.bags_are_sorted_lists.ensures.parts (all_rows (c.args.rows.now ∷ [])))) refl
