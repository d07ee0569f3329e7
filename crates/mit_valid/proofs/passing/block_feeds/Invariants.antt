use Rattle.std.proofs.Common.{◌≡◌, ◌<◌, ◌+◌, ℕ, false}
use Rattle.std.specs.List.{list_any}
use Rattle.mit_plan.specs.Plans.{block_at, edges_from}
use Rattle.mit_valid.specs.Passed.{feeds}
use Rattle.mit_valid.proofs.passing.block_feeds.Given as goal

abbrev pub invariant-loop-index : goal.invariant-loop-index
invariant-loop-index l =
    (index : ℕ) → index < l.index → list_any (feeds l.plan l.marks l.block) (edges_from l.plan ((block_at l.plan l.block).first + index)) ≡ false
