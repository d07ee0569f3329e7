use Rattle.mit_path.proofs.Longer.{chosen-append, fate-append}
use Rattle.mit_path.proofs.laws.longer_view_law.Goals as goal

pub returns-clause-choice : goal.returns-clause-choice
returns-clause-choice c = chosen-append

pub returns-clause-fate : goal.returns-clause-fate
returns-clause-fate c = fate-append
