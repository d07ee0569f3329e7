use Rattle.std.proofs.Common.{◌<◌, ◌+◌, ℕ}
use Rattle.mit_valid.specs.Searched.{Walks, WalksTo, landing_of}
use Rattle.mit_valid.proofs.landing.double.Given as goal

abbrev pub invariant-loop-block : goal.invariant-loop-block
invariant-loop-block l = record {
  walks : Walks l.plan l.steps l.landings;
  twice : (one : ℕ) → one < l.block → WalksTo l.plan (l.steps + l.steps) one (landing_of l.landings one);
}
