use Rattle.mit_op_laws.proofs.RouteTables.{nothing_received, nothing_sent}
use Rattle.mit_op_laws.proofs.laws.routes_law.Goals as goal

pub returns-clause-senders : goal.returns-clause-senders
returns-clause-senders c = nothing_sent

pub returns-clause-targets : goal.returns-clause-targets
returns-clause-targets c = nothing_received
