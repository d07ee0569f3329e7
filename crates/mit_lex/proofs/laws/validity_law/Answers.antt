use Rattle.mit_lex.proofs.ValidTokens.{tokens_valid}
use Rattle.mit_lex.proofs.laws.validity_law.Goals as goal

pub returns : goal.returns
returns c = tokens_valid
