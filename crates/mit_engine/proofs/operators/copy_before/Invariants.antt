use Rattle.std.proofs.Common.{◌≡◌, ◌++◌, drop, map, take}
use Rattle.mit_engine.specs.Operators.{sends_all}
use Rattle.mit_engine.proofs.operators.copy_before.Given as goal

abbrev pub invariant-loop-at : goal.invariant-loop-at
invariant-loop-at l = l.operators ≡ map (sends_all l.from l.bag) (take l.at l.initial.operators) ++ drop l.at l.initial.operators
