use Rattle.mit_path.proofs.Sent.{chosen_sent}
use Rattle.mit_path.proofs.laws.chosen_is_sent_law.Goals as goal

pub returns : goal.returns
returns c = chosen_sent
