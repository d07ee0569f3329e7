use Rattle.mit_machine.proofs.Endings.{ending_is}
use Rattle.mit_machine.proofs.laws.ending_law.Goals as goal

pub returns : goal.returns
returns c = λ machine state ending runs is. ending_is c.parts_law.ensures.rows machine state ending runs is
