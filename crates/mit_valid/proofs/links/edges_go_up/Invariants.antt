use Rattle.std.proofs.Common.{ℕ, ◌<◌}
use Rattle.mit_plan.specs.Plans.{edge_at, op_at}
use Rattle.mit_plan.specs.Valid.{GoesUp}
use Rattle.mit_valid.proofs.links.edges_go_up.Given as goal

abbrev pub invariant-loop-edge : goal.invariant-loop-edge
invariant-loop-edge l =
    (edge : ℕ) → edge < l.edge-index → GoesUp (op_at l.plan (edge_at l.plan edge).from) (op_at l.plan (edge_at l.plan edge).to)
