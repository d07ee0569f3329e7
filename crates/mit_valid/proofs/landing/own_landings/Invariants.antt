use Rattle.std.proofs.Common.{◌≡◌, ◌<◌, ℕ, length}
use Rattle.mit_valid.specs.Searched.{landing_of}
use Rattle.mit_valid.proofs.landing.own_landings.Given as goal

abbrev pub invariant-loop-block : goal.invariant-loop-block
invariant-loop-block l = record {
  many : length l.landings.items ≡ l.block;
  each : (one : ℕ) → one < l.block → landing_of l.landings.items one ≡ one;
}
