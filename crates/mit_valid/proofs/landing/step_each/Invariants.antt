use Rattle.std.proofs.Common.{◌≡◌, ◌<◌, ℕ}
use Rattle.mit_valid.specs.Searched.{jump_step, landing_of}
use Rattle.mit_valid.proofs.landing.step_each.Given as goal

abbrev pub invariant-loop-block : goal.invariant-loop-block
invariant-loop-block l = (one : ℕ) → one < l.block → landing_of l.landings one ≡ jump_step l.plan one
