use Rattle.std.proofs.Common.{◌≡◌, false, take}
use Rattle.std.specs.List.{list_any}
use Rattle.mit_plan.specs.Plans.{edges_from}
use Rattle.mit_valid.specs.Passed.{feeds}
use Rattle.mit_valid.proofs.passing.op_feeds.Given as goal

abbrev pub invariant-loop-edge : goal.invariant-loop-edge
invariant-loop-edge l = list_any (feeds l.plan l.marks l.block) (take l.edge-index (edges_from l.plan l.op)) ≡ false
