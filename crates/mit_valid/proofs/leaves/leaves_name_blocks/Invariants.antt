use Rattle.std.proofs.Common.{ℕ, ◌<◌, length}
use Rattle.mit_plan.specs.Plans.{block_at}
use Rattle.mit_plan.specs.Valid.{NamesBlocks}
use Rattle.mit_valid.proofs.leaves.leaves_name_blocks.Given as goal

abbrev pub invariant-loop-block : goal.invariant-loop-block
invariant-loop-block l = (block : ℕ) → block < l.block-index → NamesBlocks (length l.plan.blocks) (block_at l.plan block).leave
