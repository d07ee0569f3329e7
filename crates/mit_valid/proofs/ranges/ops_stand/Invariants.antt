use Rattle.std.proofs.Common.{ℕ, ◌<◌}
use Rattle.mit_plan.specs.Plans.{op_at}
use Rattle.mit_plan.specs.Valid.{StandsAt}
use Rattle.mit_valid.proofs.ranges.ops_stand.Given as goal

abbrev pub invariant-loop-op : goal.invariant-loop-op
invariant-loop-op l = (op : ℕ) → op < l.op → StandsAt l.plan.blocks (op_at l.plan op) op
