use Rattle.mit_machine.proofs.Counting.{offered_counts, total_most}
use Rattle.mit_machine.proofs.Picks.{picks_most}
use Rattle.mit_machine.proofs.laws.bound_law.Goals as goal

pub returns : goal.returns
returns c = record {
  one = offered_counts;
  most = total_most;
  picks = λ machine picks state runs is. picks_most machine picks state runs (c.states_law.ensures.picked machine picks state runs is) is;
}
