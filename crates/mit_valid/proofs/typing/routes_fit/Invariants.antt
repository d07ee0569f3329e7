use Rattle.std.proofs.Common.{◌≡◌, ◌<◌, ℕ}
use Rattle.mit_plan.specs.Plans.{edge_at}
use Rattle.mit_plan.specs.Valid.{route_wanted}
use Rattle.mit_valid.proofs.typing.routes_fit.Given as goal

abbrev pub invariant-loop-edge : goal.invariant-loop-edge
invariant-loop-edge l = (edge : ℕ) → edge < l.edge-index → (edge_at l.plan edge).route ≡ route_wanted l.plan l.types (edge_at l.plan edge)
