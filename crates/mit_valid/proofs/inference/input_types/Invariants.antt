use Rattle.std.proofs.Common.{◌≡◌, Some, map, take}
use Rattle.mit_plan.specs.Plans.{edge_at}
use Rattle.mit_valid.specs.Inferred.{inferred_at}
use Rattle.mit_valid.proofs.inference.input_types.Given as goal

abbrev pub invariant-loop-edge : goal.invariant-loop-edge
invariant-loop-edge l =
    map (λ number. inferred_at l.inferred (edge_at l.plan number).from) (take l.edge-index l.edges) ≡ map Some l.types.items
