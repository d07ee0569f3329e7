use Rattle.std.proofs.Common.{◌≡◌, ◌<◌, ℕ, []}
use Rattle.mit_valid.specs.Passed.{PhiPasses}
use Rattle.mit_valid.proofs.passing.phis_pass.Given as goal

abbrev pub invariant-loop-op : goal.invariant-loop-op
invariant-loop-op l = record {
  none : l.waiting.items ≡ [];
  pass : (op : ℕ) → op < l.op → PhiPasses l.plan op;
}
