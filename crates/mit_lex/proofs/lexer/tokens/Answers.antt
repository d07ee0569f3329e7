use Rattle.std.proofs.Common.{◌≡◌, ◌≤◌, ap, sym, subst, length, ◌∙◌, arith, Err}
use Rattle.std.specs.Prelude.{IfOk}
use Rattle.std.proofs.lemmas.Result.{IfErr-weaker, IfOk-weaker}
use Rattle.mit_lex.specs.Tokens.{lexed, scanned, tokens_of}
use Rattle.mit_lex.proofs.ScanFacts.{no_text, tells, too_long, whole_is}
use Rattle.mit_lex.proofs.ValidTokens.{tokens_valid}
use Rattle.mit_lex.proofs.lexer.tokens.Goals as goal

pub returns-then-text-gt-MAX_SCRIPT-clause-fault : goal.returns-then-text-gt-MAX_SCRIPT-clause-fault
returns-then-text-gt-MAX_SCRIPT-clause-fault c = too_long c.args.text.now (omega arith)

pub returns-in-Ok-clause-tokens : goal.returns-in-Ok-clause-tokens
returns-in-Ok-clause-tokens c =
    let text = c.args.text.now in
    let same : tokens_of text ≡ lexed (scanned 0 0 c.in-Ok.text.now) =
    whole_is text (omega arith) c.in-Ok.ensures.cases.1 ∙ sym (ap (λ bytes. lexed (scanned 0 0 bytes)) c.in-Ok.ensures.cases.0) in
    IfOk-weaker c.scan.result _ _ (λ tokens is. same ∙ is) c.scan.ensures.tokens

pub returns-in-Ok-clause-fault : goal.returns-in-Ok-clause-fault
returns-in-Ok-clause-fault c =
    let text = c.args.text.now in
    let same : tokens_of text ≡ lexed (scanned 0 0 c.in-Ok.text.now) =
    whole_is text (omega arith) c.in-Ok.ensures.cases.1 ∙ sym (ap (λ bytes. lexed (scanned 0 0 bytes)) c.in-Ok.ensures.cases.0) in
    IfErr-weaker c.scan.result _ _ (λ stop told. tells (lexed (scanned 0 0 c.in-Ok.text.now)) (tokens_of text) stop (sym same) told) c.scan.ensures.fault

pub returns-in-Err-clause-fault : goal.returns-in-Err-clause-fault
returns-in-Err-clause-fault c =
    let text = c.args.text.now in
    no_text text (omega arith) c.in-Err.ensures.cases.0 ∙ ap Err (sym (c.valid_up_to.ensures ∙ c.in-Err.ensures.valid_len))

pub returns-in-Ok-clause-valid : goal.returns-in-Ok-clause-valid
returns-in-Ok-clause-valid c =
    let text = c.args.text.now in
    let same : tokens_of text ≡ lexed (scanned 0 0 c.in-Ok.text.now) =
    whole_is text (omega arith) c.in-Ok.ensures.cases.1 ∙ sym (ap (λ bytes. lexed (scanned 0 0 bytes)) c.in-Ok.ensures.cases.0) in
    IfOk-weaker c.scan.result _ _ (λ tokens is. tokens_valid text tokens.items (same ∙ is)) c.scan.ensures.tokens

pub returns-in-Ok-clause-count : goal.returns-in-Ok-clause-count
returns-in-Ok-clause-count c = subst (λ bytes. IfOk c.scan.result (λ tokens. length tokens.items ≤ length bytes)) c.in-Ok.ensures.cases.0 c.scan.ensures.count
