use Rattle.mit_plan_laws.proofs.Histories.{run_extends, run_held}
use Rattle.mit_plan_laws.proofs.laws.longer_history_law.Goals as goal

pub returns : goal.returns
returns c = record { extends = run_extends; held = run_held }
