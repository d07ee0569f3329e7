use Rattle.std.proofs.Common.{ℕ, ◌+◌, ◌<◌}
use Rattle.mit_plan.specs.Plans.{edge_at}
use Rattle.mit_plan.specs.Valid.{Before}
use Rattle.mit_valid.proofs.links.edges_in_order.Given as goal

abbrev pub invariant-loop-next : goal.invariant-loop-next
invariant-loop-next l = (edge : ℕ) → edge + 1 < l.next → Before (edge_at l.plan edge) (edge_at l.plan (edge + 1))
