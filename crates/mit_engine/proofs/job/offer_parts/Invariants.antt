use Rattle.std.proofs.Common.{◌≡◌, ◌++◌, drop}
use Rattle.mit_engine.specs.Running.{parts_from}
use Rattle.mit_engine.proofs.job.offer_parts.Given as goal

-- the offer so far, with that of the operators that are left, is the whole
abbrev pub invariant-loop-at : goal.invariant-loop-at
invariant-loop-at l = l.offer.items ++ parts_from l.at (drop l.at l.operators) ≡ l.initial.offer.items ++ parts_from 0 l.operators
