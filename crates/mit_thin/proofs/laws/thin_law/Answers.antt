use Rattle.mit_thin.proofs.ThinLemmas.{thin_formed}
use Rattle.mit_thin.proofs.ThinMeans.{thin_means}
use Rattle.mit_thin.proofs.laws.thin_law.Goals as goal

pub returns-clause-formed : goal.returns-clause-formed
returns-clause-formed c = thin_formed

pub returns-clause-means : goal.returns-clause-means
returns-clause-means c = thin_means c.bags_are_sorted_lists.ensures.sorted c.bags_are_sorted_lists.ensures.parts
