-- One expression or two, by the lemmas that serve any number.
use Rattle.std.proofs.Common.{[], ◌∷◌, arith, refl}
use Rattle.std.proofs.lemmas.Result.{err_from_is_err_and}
use Rattle.mit_apply.proofs.EachRows.{given_end, given_more, given_stop}
use Rattle.mit_apply.proofs.each_row.row_of_exprs.Goals as goal

pub returns-in_err-value_of-in-len1-clause-err : goal.returns-in_err-value_of-in-len1-clause-err
returns-in_err-value_of-in-len1-clause-err c =
    let p = err_from_is_err_and c.from_residual.result c.from_residual.ensures.1 in
    rw (p.1, p.2) (given_stop _ c.args.exprs.now 0 _ _ [] _ (omega (arith, c.in-len1.len_at_least)) c.only-item.is c.in_err-value_of-in-len1.ensures.value refl)

pub returns-in_err-first-in-len2-clause-err : goal.returns-in_err-first-in-len2-clause-err
returns-in_err-first-in-len2-clause-err c =
    let p = err_from_is_err_and c.from_residual-in_err-first-in-len2.result c.from_residual-in_err-first-in-len2.ensures.1 in
    rw (p.1, p.2) (given_stop _ c.args.exprs.now 0 _ _ [] _ (omega (arith, c.in-len2.len_at_least)) c.first-item.is c.in_err-first-in-len2.ensures.value refl)

pub returns-in_err-second-in-len2-clause-err : goal.returns-in_err-second-in-len2-clause-err
returns-in_err-second-in-len2-clause-err c =
    let p = err_from_is_err_and c.from_residual-in_err-second-in-len2.result c.from_residual-in_err-second-in-len2.ensures.1 in
    rw (p.1, p.2) (given_stop _ c.args.exprs.now 1 _ _ (c.in_ok-first-in-len2.first ∷ []) _ (omega (arith, c.in-len2.len_at_least)) c.second-item.is c.in_err-second-in-len2.ensures.value
    (given_more _ c.args.exprs.now 0 _ _ [] _ _ (omega (arith, c.in-len2.len_at_least)) c.first-item.is c.in_ok-first-in-len2.ensures.value refl refl))

pub returns-in_ok-value_of-in-len1-clause-ok : goal.returns-in_ok-value_of-in-len1-clause-ok
returns-in_ok-value_of-in-len1-clause-ok c = rw c.from_value.ensures (given_end _ c.args.exprs.now 1 (c.in_ok-value_of-in-len1.field-0 ∷ []) _ (omega (arith, c.in-len1.len_below))
    (given_more _ c.args.exprs.now 0 _ _ [] _ _ (omega (arith, c.in-len1.len_at_least)) c.only-item.is c.in_ok-value_of-in-len1.ensures.value refl refl))

pub returns-in_ok-from_pair-in-len2-clause-ok : goal.returns-in_ok-from_pair-in-len2-clause-ok
returns-in_ok-from_pair-in-len2-clause-ok c = rw c.in_ok-from_pair-in-len2.ensures (given_end _ c.args.exprs.now 2 (c.in_ok-first-in-len2.first ∷ c.in_ok-second-in-len2.second ∷ []) _ (omega (arith, c.in-len2.len_below))
    (given_more _ c.args.exprs.now 1 _ _ (c.in_ok-first-in-len2.first ∷ []) _ _ (omega (arith, c.in-len2.len_at_least)) c.second-item.is c.in_ok-second-in-len2.ensures.value refl
    (given_more _ c.args.exprs.now 0 _ _ [] _ _ (omega (arith, c.in-len2.len_at_least)) c.first-item.is c.in_ok-first-in-len2.ensures.value refl refl)))
