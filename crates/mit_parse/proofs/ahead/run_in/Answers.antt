use Rattle.std.proofs.Common.{◌≡◌, ◌∙◌, ◌+◌, ap, sym}
use Rattle.mit_lex.specs.Limits.{ends_run}
use Rattle.mit_parse.proofs.Numbering.{run-more}
use Rattle.mit_parse.proofs.ahead.run_in.Goals as goal

pub loop-token-preserved : goal.loop-token-preserved
loop-token-preserved c =
    let here : c.loop-token.size ≡ c.loop-token.token-index = c.loop-token.invariant.0 in
    let inside = ap (λ token. ends_run token.kind) (sym c.token-item.is) ∙ sym c.ends_run.ensures ∙ c.if-ends_run.false in
    (ap (λ n. n + 1) here, rw here (run-more c.args.tokens.now c.loop-token.token-index c.token-item.result c.loop-token-test.true inside (rw (← here) c.loop-token.invariant.1)))
