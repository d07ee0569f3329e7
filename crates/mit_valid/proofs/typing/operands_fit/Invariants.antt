use Rattle.std.proofs.Common.{◌≡◌, ◌<◌, ℕ, get_or}
use Rattle.mit_plan.specs.Plans.{edge_at}
use Rattle.mit_plan.specs.Types.{type_at}
use Rattle.mit_valid.proofs.typing.operands_fit.Given as goal

abbrev pub invariant-loop-edge : goal.invariant-loop-edge
invariant-loop-edge l = (k : ℕ) → k < l.edge-index → type_at l.types (edge_at l.plan (get_or l.edge-items k 0)).from ≡ type_at l.types l.op
