use Rattle.std.proofs.Common.{◌≡◌, drop}
use Rattle.mit_engine.specs.Running.{verdict_from}
use Rattle.mit_engine.proofs.job.Job.verdict.Given as goal

-- the operators that are left decide
abbrev pub invariant-loop-at : goal.invariant-loop-at
invariant-loop-at l = verdict_from l.at (drop l.at l.operator-items) ≡ verdict_from 0 l.operator-items
