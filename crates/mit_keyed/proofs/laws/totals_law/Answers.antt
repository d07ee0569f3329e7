use Rattle.std.proofs.Common.{refl}
use Rattle.mit_keyed.proofs.Fitting.{count_there, sum_there}
use Rattle.mit_keyed.proofs.laws.totals_law.Goals as goal

pub returns : goal.returns
returns c = record {
  count = count_there;
  sum = sum_there;
  count_whole = λ rows files captures. refl;
  sum_whole = λ column rows files captures. refl;
}
