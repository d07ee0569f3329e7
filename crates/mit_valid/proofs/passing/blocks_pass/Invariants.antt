use Rattle.std.proofs.Common.{◌≡◌, ◌<◌, ℕ, []}
use Rattle.mit_valid.specs.Passed.{BlockPasses}
use Rattle.mit_valid.proofs.passing.blocks_pass.Given as goal

abbrev pub invariant-loop-block : goal.invariant-loop-block
invariant-loop-block l = record {
  none : l.waiting.items ≡ [];
  pass : (block : ℕ) → block < l.block → BlockPasses l.plan block;
}
