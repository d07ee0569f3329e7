use Rattle.mit_plan_laws.proofs.Growing.{faults_push, writes_push}
use Rattle.mit_plan_laws.proofs.Histories.{run_even}
use Rattle.mit_plan_laws.proofs.laws.more_places_law.Goals as goal

pub returns : goal.returns
returns c = record {
  even = run_even;
  faults = faults_push;
  writes = writes_push (record { longer = c.longer_view_law.ensures.choice; input = c.last_place_law.ensures.input; phi = c.last_place_law.ensures.phi });
}
