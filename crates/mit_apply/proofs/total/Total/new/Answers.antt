-- The total of no rows.
use Rattle.std.proofs.Common.{[]}
use Rattle.mit_apply.proofs.Totals.{new_is, none_made}
use Rattle.mit_apply.proofs.total.Total.new.Goals as goal

pub returns : goal.returns
returns c = record {
  none = new_is c.args.agg;
  has_value = λ h. (c.args.agg, [], new_is c.args.agg, none_made c.args.agg h);
}
