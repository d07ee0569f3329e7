use Rattle.std.proofs.Common.{◌≤◌, List, length, subst, sym, ℕ}
use Rattle.mit_lex.specs.declared.limits.TheConstants.{MAX_RUN}
use Rattle.mit_script.specs.Reading.{bags_ahead, run_of}
use Rattle.mit_script.specs.Grammar.{kinds}
use Rattle.mit_parse.proofs.NameBounds.{captured-few}
use Rattle.mit_parse.proofs.Numbering.{captured-words}
use Rattle.mit_parse.proofs.names.captured_ahead.Goals as goal

pub invariant_of-result : goal.invariant_of-result
invariant_of-result c =
    let tokens = c.args.tokens.now in
    let captured = captured-words c.in_ok-numbered.numbered c.in_ok-words.words.items c.deref.result.now c.past.result.now c.bags_ahead.result (bags_ahead tokens) (kinds c.run.result.now) (run_of tokens)
    c.in_ok-numbered.ensures c.past.ensures c.deref.ensures.value c.in_ok-words.ensures c.run.ensures.kinds c.bags_ahead.ensures in
    subst (λ (names : List (List ℕ)). length names ≤ MAX_RUN) (sym captured) (captured-few (bags_ahead tokens) (run_of tokens) c.run.ensures.few)

pub returns : goal.returns
returns c =
    let tokens = c.args.tokens.now in
    captured-words c.in_ok-numbered.numbered c.in_ok-words.words.items c.deref.result.now c.past.result.now c.bags_ahead.result (bags_ahead tokens) (kinds c.run.result.now) (run_of tokens)
    c.in_ok-numbered.ensures c.past.ensures c.deref.ensures.value c.in_ok-words.ensures c.run.ensures.kinds c.bags_ahead.ensures
