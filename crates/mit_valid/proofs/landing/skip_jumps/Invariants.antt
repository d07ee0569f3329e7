use Rattle.std.proofs.Common.{◌≤◌, ◌-◌, length}
use Rattle.mit_valid.specs.Searched.{Walks}
use Rattle.mit_valid.proofs.landing.skip_jumps.Given as goal

abbrev pub invariant-loop-steps : goal.invariant-loop-steps
invariant-loop-steps l = record {
  some : 1 ≤ l.steps;
  walks : Walks l.plan l.steps l.landings;
}

abbrev pub decreases-loop-steps : goal.decreases-loop-steps
decreases-loop-steps l = length l.plan.blocks - l.steps
