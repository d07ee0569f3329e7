-- The values so far, and what the next expression gives.
use Rattle.std.proofs.Common.{arith}
use Rattle.std.proofs.lemmas.Result.{err_from_is_err_and}
use Rattle.mit_apply.proofs.EachRows.{given_end, given_more, given_stop, next_typed}
use Rattle.mit_apply.proofs.each_row.row_of_many.Goals as goal

pub value_of-requires : goal.value_of-requires
value_of-requires c = (next_typed _ _ _ _ c.loop-expr-test.true c.expr-item.is c.loop-expr.invariant.typed).0

pub returns-in_err-value_of-clause-err : goal.returns-in_err-value_of-clause-err
returns-in_err-value_of-clause-err c =
    let p = err_from_is_err_and c.from_residual-in_err-value_of.result c.from_residual-in_err-value_of.ensures.1 in
    rw (p.1, p.2) (given_stop _ _ _ _ _ _ _ c.loop-expr-test.true c.expr-item.is c.in_err-value_of.ensures.value c.loop-expr.invariant.same)

pub loop-expr-preserved : goal.loop-expr-preserved
loop-expr-preserved c = record {
  count = omega (arith, c.in_ok-push.ensures.len);
  typed = (next_typed _ _ _ _ c.loop-expr-test.true c.expr-item.is c.loop-expr.invariant.typed).1;
  same = given_more _ _ _ _ _ _ _ _ c.loop-expr-test.true c.expr-item.is c.in_ok-value_of.ensures.value c.in_ok-push.ensures.items c.loop-expr.invariant.same;
}

pub returns-clause-ok : goal.returns-clause-ok
returns-clause-ok c = rw c.in_ok-from_values.ensures (given_end _ _ _ _ _ c.loop-expr-test.false c.loop-expr.invariant.same)
