use Rattle.std.proofs.Common.{arith}
use Rattle.mit_shelf.proofs.FieldFacts.{text_is, text_long, text_not}
use Rattle.mit_shelf.proofs.fields.parse_text.Goals as goal

pub returns-then-field-gt-MAX_TEXT-clause-value : goal.returns-then-field-gt-MAX_TEXT-clause-value
returns-then-field-gt-MAX_TEXT-clause-value c = text_long c.args.field.now (omega arith)

pub returns-in-Ok-clause-value : goal.returns-in-Ok-clause-value
returns-in-Ok-clause-value c = text_is c.args.field.now c.in-Ok.text.now (omega arith) c.in-Ok.ensures.cases.0 c.in-Ok.ensures.cases.1

pub returns-in-Err-clause-value : goal.returns-in-Err-clause-value
returns-in-Err-clause-value c = text_not c.args.field.now c.in-Err.ensures.cases.0
