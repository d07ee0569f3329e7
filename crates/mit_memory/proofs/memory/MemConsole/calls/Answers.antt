use Rattle.mit_memory.proofs.Failures.{failures-none}
use Rattle.mit_memory.proofs.memory.MemConsole.calls.Goals as goal

pub returns-clause-none : goal.returns-clause-none
returns-clause-none c none = rw none (failures-none _)
