use Rattle.mit_lex.proofs.Runs.{digits_pass}
use Rattle.mit_lex.proofs.piece.front_digits.Goals as goal

pub returns-clause-digits : goal.returns-clause-digits
returns-clause-digits c = digits_pass c.digits_len.result c.args.text.now c.digits_len.ensures.value
