use Rattle.std.proofs.Common.{◌≡◌, take}
use Rattle.mit_plan.specs.Plans.{edges_to}
use Rattle.mit_valid.specs.Passed.{sources_marked}
use Rattle.mit_valid.proofs.passing.mark_sources.Given as goal

abbrev pub invariant-loop-edge : goal.invariant-loop-edge
invariant-loop-edge l = l.marks ≡ sources_marked l.plan l.fn.marks (take l.edge-index (edges_to l.plan l.op))
