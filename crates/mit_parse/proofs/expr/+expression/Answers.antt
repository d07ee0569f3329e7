use Rattle.std.proofs.Common.{◌≡◌, ◌∙◌, ◌-◌, Ok, sym, subst}
use Rattle.std.proofs.lemmas.Result.{err_from_is_err_and}
use Rattle.mit_script.specs.Grammar.{number_in}
use Rattle.mit_script.specs.Reading.{after_next, chain_from, expression, ranked}
use Rattle.mit_parse.specs.Gives.{GivesReading, StopsReading}
use Rattle.mit_parse.proofs.Loops.{chain_ends, chain_goes_on, chain_runs_out, chain_stops}
use Rattle.mit_parse.proofs.expr.+expression.Goals as goal

pub chain_from-returns-in_default : goal.chain_from-returns-in_default
chain_from-returns-in_default t c =
    let number = number_in c.args.captured.now in
    let operand = ranked (expression number c.args.depth) number c.args.depth c.args.below in
    chain_ends operand (6 - c.args.below) c.args.depth c.loop.counter c.loop.left c.loop.rest (chain_from operand (6 - c.args.below) c.args.depth c.args.left c.args.tokens) c.loop-test.true (sym c.ranked_operator.ensures ∙ c.in_default.is) c.loop.invariant

pub chain_from-returns-in_err-first : goal.chain_from-returns-in_err-first
chain_from-returns-in_err-first t c =
    let number = number_in c.args.captured.now in
    let operand = ranked (expression number c.args.depth) number c.args.depth c.args.below in
    let p = err_from_is_err_and c.from_residual.result c.from_residual.ensures.1 in
    let read = subst (λ read. GivesReading read (operand c.after_next.result)) c.in_err-first.ensures.stop c.ranked-operand.ensures in
    let stopped = subst (λ tokens. StopsReading c.in_err-first.field-0.0 (operand tokens)) c.after_next.ensures read in
    rw (p.1, p.2) (chain_stops c.in_err-first.field-0.0 operand (6 - c.args.below) c.args.depth c.loop.counter c.loop.left c.loop.rest c.in-Some.op (chain_from operand (6 - c.args.below) c.args.depth c.args.left c.args.tokens) c.loop-test.true (sym c.ranked_operator.ensures ∙ c.in-Some.is) stopped c.loop.invariant)

pub chain_from-returns : goal.chain_from-returns
chain_from-returns t c =
    let number = number_in c.args.captured.now in
    let operand = ranked (expression number c.args.depth) number c.args.depth c.args.below in
    chain_runs_out operand (6 - c.args.below) c.args.depth c.loop.counter c.loop.left c.loop.rest (chain_from operand (6 - c.args.below) c.args.depth c.args.left c.args.tokens) c.loop-test.false c.loop.invariant

pub chain_from-loop-preserved : goal.chain_from-loop-preserved
chain_from-loop-preserved t c =
    let number = number_in c.args.captured.now in
    let operand = ranked (expression number c.args.depth) number c.args.depth c.args.below in
    let total = chain_from operand (6 - c.args.below) c.args.depth c.args.left c.args.tokens in
    let given = subst (λ read. GivesReading read (operand c.after_next.result)) c.in_ok-first.ensures.both.1 c.ranked-operand.ensures in
    let read : operand (after_next c.loop.rest) ≡ Ok (c.in_ok-first.right, c.in_ok-first.after) = subst (λ tokens. operand tokens ≡ Ok (c.in_ok-first.right, c.in_ok-first.after)) c.after_next.ensures given in
    rw (c.in_ok-left.ensures, c.in_ok-first.ensures.both.0) (chain_goes_on operand (6 - c.args.below) c.args.depth c.loop.counter c.loop.left c.loop.rest c.in-Some.op c.in_ok-first.right c.in_ok-first.after total c.loop-test.true (sym c.ranked_operator.ensures ∙ c.in-Some.is) read c.loop.invariant)
