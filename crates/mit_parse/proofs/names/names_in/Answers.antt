use Rattle.std.proofs.Common.{◌∙◌, ap, rules, sym, take, get_or}
use Rattle.mit_script.specs.Grammar.{names_in}
use Rattle.mit_script.specs.Grammar.{kinds}
use Rattle.mit_parse.proofs.Numbering.{named, names-more, unnamed}
use Rattle.mit_parse.proofs.names.names_in.Goals as goal
use Rattle.mit_parse.proofs.names.names_in.Goals.{in-Name+in_ok-push, in_default}

pub loop-token-init : goal.loop-token-init
unfolding names_in
loop-token-init c = search rules

pub loop-token-preserved : goal.loop-token-preserved
loop-token-preserved c =
    let more = names-more c.args.tokens.now c.loop-token.token-index c.token-item.result c.loop-token-test.true in
    let before = names_in (kinds (take c.loop-token.token-index c.args.tokens.now)) in
    let item = get_or c.args.tokens.now c.loop-token.token-index c.token-item.result in
    elim c.match-token.branch [
      | in-Name+in_ok-push w ↦ rw (w.words-is, w.in_ok-push.ensures.items, more) (named c.loop-token.words.items before w.as_str.result item.kind w.in-Name.name c.loop-token.invariant w.as_str.ensures.value (ap (λ token. token.kind) (sym c.token-item.is) ∙ w.in-Name.is))
      | in_default w ↦ rw (w.words-is, more) (unnamed c.loop-token.words.items before item.kind c.loop-token.invariant (λ name is. w.in_default.not-Name name (ap (λ token. token.kind) c.token-item.is ∙ is)))
    ]
