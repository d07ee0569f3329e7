use Rattle.mit_app.proofs.PlanLemmas.{sizes_agree}
use Rattle.mit_app.proofs.laws.plan_sizes.Goals as goal

pub returns : goal.returns
returns c = λ plan. sizes_agree plan
