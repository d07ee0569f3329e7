use Rattle.mit_bags.proofs.ValueOrder.{row_cmp_total, row_cmp-IsAntisymmetric}
use Rattle.mit_bags.proofs.laws.rows_are_ordered.Goals as goal

pub returns : goal.returns
returns c = record { total = row_cmp_total; same = row_cmp-IsAntisymmetric }
