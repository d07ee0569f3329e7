use Rattle.std.proofs.Common.{ℕ, ◌<◌}
use Rattle.std.specs.Prelude.{IsTrue}
use Rattle.mit_plan.specs.Plans.{block_at}
use Rattle.mit_plan.specs.Valid.{HasLast, is_branch}
use Rattle.mit_valid.proofs.leaves.branches_have_lasts.Given as goal

abbrev pub invariant-loop-block : goal.invariant-loop-block
invariant-loop-block l =
    (block : ℕ) → block < l.block-index → IsTrue (is_branch (block_at l.plan block).leave) → HasLast l.plan.ops (block_at l.plan block)
