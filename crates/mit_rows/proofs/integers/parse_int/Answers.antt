use Rattle.std.proofs.Common.{◌∙◌, refl}
use Rattle.mit_rows.proofs.DigitFacts.{above_is, below_is}
use Rattle.mit_rows.proofs.integers.parse_int.Goals as goal

pub returns-then-has_minus : goal.returns-then-has_minus
returns-then-has_minus c = c.parse_below.ensures ∙ below_is c.args.text.now (c.if-has_minus.ensures.room refl) c.if-has_minus.ensures.value

pub returns-else-has_minus : goal.returns-else-has_minus
returns-else-has_minus c = c.parse_above.ensures ∙ above_is c.args.text.now c.if-has_minus.ensures.value
