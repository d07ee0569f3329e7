use Rattle.mit_op_laws.proofs.FewerRows.{emptied_fit, fewer_as, fewer_fit}
use Rattle.mit_op_laws.proofs.laws.fewer_rows_law.Goals as goal

pub returns : goal.returns
returns c = record { types = fewer_as; fewer = fewer_fit; none = emptied_fit }
