use Rattle.std.proofs.Common.{suc}
use Rattle.mit_path.proofs.Chosen.{last_below_is}
use Rattle.mit_path.proofs.laws.last_place_law.Goals as goal

pub returns : goal.returns
returns c = record { input = λ path operands at. last_below_is path operands (suc at); phi = last_below_is }
