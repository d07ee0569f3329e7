use Rattle.std.proofs.Common.{length, drop}
use Rattle.mit_plan.specs.Valid.{Follow}
use Rattle.mit_valid.proofs.ranges.ranges_meet.Given as goal

abbrev pub invariant-loop-block : goal.invariant-loop-block
invariant-loop-block l =
    (Follow l.end (drop l.block-index l.plan.blocks) (length l.plan.ops) → Follow 0 l.plan.blocks (length l.plan.ops))
    × (Follow 0 l.plan.blocks (length l.plan.ops) → Follow l.end (drop l.block-index l.plan.blocks) (length l.plan.ops))
