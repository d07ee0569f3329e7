use Rattle.std.proofs.Common.{ℕ, ◌<◌, ◌≢◌}
use Rattle.mit_ops.specs.Kinds.{kind_of}
use Rattle.mit_plan.specs.Plans.{edge_at, op_at}
use Rattle.mit_valid.proofs.links.writes_give_nothing.Given as goal

abbrev pub invariant-loop-edge : goal.invariant-loop-edge
invariant-loop-edge l = (edge : ℕ) → edge < l.edge-index → kind_of (op_at l.plan (edge_at l.plan edge).from).spec ≢ 14
