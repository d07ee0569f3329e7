use Rattle.mit_path.proofs.Waiting.{fate_goes_on, fate_waits}
use Rattle.mit_path.proofs.laws.undecided_fate_law.Goals as goal

pub returns : goal.returns
returns c = record { goes_on = fate_goes_on; waits = fate_waits }
