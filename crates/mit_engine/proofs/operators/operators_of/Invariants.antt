use Rattle.std.proofs.Common.{◌≡◌, ◌++◌, drop, map}
use Rattle.mit_engine.specs.Operators.{first_operator, sources, sources_from}
use Rattle.mit_engine.proofs.FormedLemmas.{FormedAfter}
use Rattle.mit_engine.proofs.operators.operators_of.Given as goal

-- the operators so far, with those of the statements that are left, are all; and these statements are formed after the earlier ones
abbrev pub invariant-loop-at : goal.invariant-loop-at
invariant-loop-at l = record {
  operators : l.operators.items ++ map first_operator (sources_from l.assigned.items l.at (drop l.at l.steps)) ≡ map first_operator (sources l.steps);
  formed : FormedAfter l.assigned.items (drop l.at l.steps);
}
