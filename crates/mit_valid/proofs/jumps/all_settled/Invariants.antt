use Rattle.std.proofs.Common.{ℕ, ◌<◌, get_or}
use Rattle.std.specs.Prelude.{IsTrue}
use Rattle.mit_plan.specs.Plans.{block_at}
use Rattle.mit_valid.specs.Jumping.{is_no_jump}
use Rattle.mit_valid.proofs.jumps.all_settled.Given as goal

abbrev pub invariant-loop-block : goal.invariant-loop-block
invariant-loop-block l = (at d : ℕ) → at < l.block-index → IsTrue (is_no_jump (block_at l.plan (get_or l.table at d)).leave)
