use Rattle.std.proofs.Common.{◌∙◌, sym, rules}
use Rattle.std.proofs.lemmas.Result.{err_from_is_err_and}
use Rattle.mit_script.specs.Reading.{statements, while_statement}
use Rattle.mit_parse.proofs.Loops.{statements_end, statements_go_on, statements_run_out, statements_stop}
use Rattle.mit_parse.proofs.stmts.+statements.Goals as goal

pub repeated-returns-in_err-condition : goal.repeated-returns-in_err-condition
unfolding while_statement
repeated-returns-in_err-condition t c = search rules

pub repeated-returns-in_err-condition-2 : goal.repeated-returns-in_err-condition-2
unfolding while_statement
repeated-returns-in_err-condition-2 t c = search rules

pub repeated-returns : goal.repeated-returns
unfolding while_statement
repeated-returns t c = search rules

pub statements-returns-then-not-begins_statement : goal.statements-returns-then-not-begins_statement
statements-returns-then-not-begins_statement t c =
    statements_end c.args.names.now c.args.most c.loop-turn.found.items c.args.left c.loop-turn.turn c.loop-turn.rest (statements c.args.names.now c.args.most c.args.left c.args.tokens) c.loop-turn-test.true (sym c.begins_statement.ensures ∙ c.if-not-begins_statement.true) c.loop-turn.invariant

pub statements-returns-in_err-next : goal.statements-returns-in_err-next
statements-returns-in_err-next t c =
    let p = err_from_is_err_and c.from_residual.result c.from_residual.ensures.1 in
    rw (p.1, p.2) (statements_stop c.in_err-next.field-0.0 c.args.names.now c.args.most c.loop-turn.found.items c.args.left c.loop-turn.turn c.loop-turn.rest (statements c.args.names.now c.args.most c.args.left c.args.tokens) c.loop-turn-test.true (sym c.begins_statement.ensures ∙ c.if-not-begins_statement.false) c.in_err-next.ensures c.loop-turn.invariant)

pub statements-returns : goal.statements-returns
statements-returns t c =
    statements_run_out c.args.names.now c.args.most c.loop-turn.found.items c.args.left c.loop-turn.turn c.loop-turn.rest (statements c.args.names.now c.args.most c.args.left c.args.tokens) c.loop-turn-test.false c.loop-turn.invariant

pub statements-loop-turn-preserved : goal.statements-loop-turn-preserved
statements-loop-turn-preserved t c =
    rw c.in_ok-push.ensures.items (statements_go_on c.args.names.now c.args.most c.loop-turn.found.items c.args.left c.loop-turn.turn c.loop-turn.rest c.in_ok-next.next c.in_ok-next.after (statements c.args.names.now c.args.most c.args.left c.args.tokens) c.loop-turn-test.true (sym c.begins_statement.ensures ∙ c.if-not-begins_statement.false) c.in_ok-next.ensures c.loop-turn.invariant)
