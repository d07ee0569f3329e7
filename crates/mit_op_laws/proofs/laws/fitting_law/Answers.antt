use Rattle.mit_op_laws.proofs.FittingRows as fitting
use Rattle.mit_op_laws.proofs.laws.fitting_law.Goals as goal

pub returns : goal.returns
returns c = record {
  map = fitting.map_fits;
  map_few = fitting.map_few;
  filter = fitting.filter_fits;
  flat = fitting.flat_fits;
  flat_narrow = fitting.flat_narrow;
  scalar = fitting.scalar_fits;
  make_row = fitting.make_row_fits;
  make_row_few = fitting.make_row_few;
  write = fitting.write_fits;
  read = fitting.read_fits;
  join_narrow = fitting.join_narrow;
}
