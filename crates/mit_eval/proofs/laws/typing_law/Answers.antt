use Rattle.mit_eval.proofs.Typed.{typing}
use Rattle.mit_eval.proofs.laws.typing_law.Goals as goal

pub returns : goal.returns
returns c = typing
