use Rattle.mit_path.proofs.Superseded.{is_superseded_by_next, superseded_unchosen}
use Rattle.mit_path.proofs.laws.superseded_law.Goals as goal

pub returns : goal.returns
returns c = record { by_next = is_superseded_by_next; unchosen = superseded_unchosen }
