use Rattle.std.proofs.Common.{◌∙◌, List, ◌-◌, ap, drop, length, ℕ}
use Rattle.mit_lex.specs.declared.token.Token.{Token}
use Rattle.mit_script.specs.Grammar.{kinds}
use Rattle.mit_script.specs.Reading.{read_script}
use Rattle.mit_parse.specs.Places.{start_of}
use Rattle.mit_parse.proofs.LexedRuns.{tokens_short}
use Rattle.mit_parse.proofs.Refusals.{refused_place, spelled_back}
use Rattle.mit_parse.proofs.script.script_of.Goals as goal

pub returns-in-Err-Refused-clause-fault : goal.returns-in-Err-Refused-clause-fault
returns-in-Err-Refused-clause-fault c =
    let text = c.args.text.now in
    let tokens = c.args.tokens.now in
    let left = c.last.ensures ∙ ap (λ (count : ℕ). drop (length tokens - count) tokens) c.len.ensures in
    refused_place text tokens c.in-Err-Refused.rest (read_script (kinds tokens)) c.place_of.result c.requires.read
    (rw c.in-Err-Refused.field-0-is at c.in-Err-Refused.ensures) (c.reading_law.ensures (kinds tokens)) (c.place_of.ensures ∙ ap (λ (l : List Token). start_of text l) left)

pub read_script-requires-clause-short : goal.read_script-requires-clause-short
read_script-requires-clause-short c = tokens_short c.args.text.now c.args.tokens.now c.requires.read

pub returns-in-Ok-clause-printable : goal.returns-in-Ok-clause-printable
returns-in-Ok-clause-printable c =
    let tokens = c.args.tokens.now in
    spelled_back tokens (read_script (kinds tokens)) c.in-Ok.script c.requires.valid c.in-Ok.ensures (c.reading_law.ensures (kinds tokens))
