use Rattle.mit_keyed.proofs.Fitting.{distinct_whole, rows_narrow}
use Rattle.mit_keyed.proofs.laws.distinct_law.Goals as goal

pub returns : goal.returns
returns c = record { narrow = rows_narrow; whole = distinct_whole }
