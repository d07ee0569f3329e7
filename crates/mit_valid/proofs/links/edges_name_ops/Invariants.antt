use Rattle.std.proofs.Common.{ℕ, ◌<◌}
use Rattle.mit_plan.specs.Plans.{edge_at}
use Rattle.mit_plan.specs.Valid.{NamesOps}
use Rattle.mit_valid.proofs.links.edges_name_ops.Given as goal

abbrev pub invariant-loop-edge : goal.invariant-loop-edge
invariant-loop-edge l = (edge : ℕ) → edge < l.edge-index → NamesOps l.plan.ops (edge_at l.plan edge)
