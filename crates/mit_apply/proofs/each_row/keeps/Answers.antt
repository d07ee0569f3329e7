-- The fault of the expression is the filter's.
use Rattle.std.proofs.Common.{Ok}
use Rattle.std.proofs.lemmas.Result.{err_from_is_err_and}
use Rattle.mit_ops.specs.EachRow.{kept_where}
use Rattle.mit_apply.proofs.each_row.keeps.Goals as goal

pub returns-in_err-stays-clause-err : goal.returns-in_err-stays-clause-err
returns-in_err-stays-clause-err c =
    let p = err_from_is_err_and c.from_residual.result c.from_residual.ensures.1 in
    rw (p.1, p.2) (c.in_err-stays.ensures.value (λ value. Ok (kept_where value c.args.row.now)))
