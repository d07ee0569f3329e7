use Rattle.mit_op_laws.proofs.FittingGroups as fitting
use Rattle.mit_op_laws.proofs.laws.fitting_groups_law.Goals as goal

pub returns : goal.returns
returns c = record {
  reduce = fitting.reduce_fits;
  reduce_narrow = fitting.reduce_narrow;
  key = fitting.key_length;
  sum = fitting.sum_fits;
}
