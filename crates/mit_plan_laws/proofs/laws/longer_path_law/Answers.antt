use Rattle.mit_plan_laws.proofs.Choices.{longer_path}
use Rattle.mit_plan_laws.proofs.laws.longer_path_law.Goals as goal

pub returns : goal.returns
returns c = longer_path c.longer_view_law.ensures.choice
