use Rattle.std.proofs.Common.{◌<◌, ℕ, IsTrue}
use Rattle.mit_plan.specs.Plans.{is_phi, op_at}
use Rattle.mit_plan.specs.Types.{HasOperands}
use Rattle.mit_valid.proofs.typing.phis_fit.Given as goal

abbrev pub invariant-loop-op : goal.invariant-loop-op
invariant-loop-op l = (op : ℕ) → op < l.op → IsTrue (is_phi (op_at l.plan op)) → HasOperands l.plan l.types op
