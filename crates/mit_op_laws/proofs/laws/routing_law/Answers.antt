use Rattle.mit_op_laws.proofs.RoutedRows.{one_in_all, routed_captures, routed_fits, routed_stand}
use Rattle.mit_op_laws.proofs.laws.routing_law.Goals as goal

pub returns : goal.returns
returns c = record { fits = routed_fits; stand = routed_stand; captured = routed_captures; one = one_in_all }
