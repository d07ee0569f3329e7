-- The fault of the first expression that has one is the flat map's.
use Rattle.std.proofs.Common.{Ok}
use Rattle.std.proofs.lemmas.Result.{err_from_is_err_and}
use Rattle.mit_expr.specs.Values.{value_in}
use Rattle.mit_ops.specs.EachRow.{given, range_of, words_of}
use Rattle.mit_apply.proofs.EachRows.{kept, memory_stops, none_added}
use Rattle.mit_apply.proofs.each_row.add_flat.Goals as goal

pub returns-in_err-text-in-Words-clause-err : goal.returns-in_err-text-in-Words-clause-err
returns-in_err-text-in-Words-clause-err c =
    let p = err_from_is_err_and c.from_residual.result c.from_residual.ensures.1 in
    rw (p.1, p.2, c.in-Words.is) (c.in_err-text-in-Words.ensures.value (λ value. Ok (words_of c.args.row.now c.in-Words.separator value)))

pub returns-in_err-from-in-Range-clause-err : goal.returns-in_err-from-in-Range-clause-err
returns-in_err-from-in-Range-clause-err c =
    let p = err_from_is_err_and c.from_residual-in_err-from-in-Range.result c.from_residual-in_err-from-in-Range.ensures.1 in
    rw (p.1, p.2, c.in-Range.is)
    (c.in_err-from-in-Range.ensures.value (λ start. given (value_in c.args.row.now c.args.captures.now c.in-Range.to) (λ end. range_of c.args.row.now start end)))

pub returns-in_err-to-in-Range-clause-err : goal.returns-in_err-to-in-Range-clause-err
returns-in_err-to-in-Range-clause-err c =
    let p = err_from_is_err_and c.from_residual-in_err-to-in-Range.result c.from_residual-in_err-to-in-Range.ensures.1 in
    rw (p.1, p.2, c.in-Range.is, c.in_ok-from-in-Range.ensures.value) (c.in_err-to-in-Range.ensures.value (range_of c.args.row.now c.in_ok-from-in-Range.from))

pub returns-in_err-text-in-Words-clause-kept : goal.returns-in_err-text-in-Words-clause-kept
returns-in_err-text-in-Words-clause-kept c = none_added c.from_residual.result c.args.out.now.items

pub returns-in_err-from-in-Range-clause-kept : goal.returns-in_err-from-in-Range-clause-kept
returns-in_err-from-in-Range-clause-kept c = none_added c.from_residual-in_err-from-in-Range.result c.args.out.now.items

pub returns-in_err-to-in-Range-clause-kept : goal.returns-in_err-to-in-Range-clause-kept
returns-in_err-to-in-Range-clause-kept c = none_added c.from_residual-in_err-to-in-Range.result c.args.out.now.items

pub returns-in_err-add_words-in-Words-clause-kept : goal.returns-in_err-add_words-in-Words-clause-kept
returns-in_err-add_words-in-Words-clause-kept c = kept c.from_residual-in_err-add_words-in-Words.result c.in_err-add_words-in-Words.ensures.err

pub returns-in_err-add_words-in-Words-clause-err : goal.returns-in_err-add_words-in-Words-clause-err
returns-in_err-add_words-in-Words-clause-err c =
    memory_stops c.from_residual-in_err-add_words-in-Words.result _ c.from_residual-in_err-add_words-in-Words.ensures.1
