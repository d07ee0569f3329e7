use Rattle.std.proofs.Common.{◌≡◌, ◌++◌, drop, map, take}
use Rattle.mit_engine.specs.Operators.{sends}
use Rattle.mit_engine.proofs.edges.copy_before.Given as goal

abbrev pub invariant-loop-at : goal.invariant-loop-at
invariant-loop-at l = l.edges ≡ map (sends l.from l.bag) (take l.at l.initial.edges) ++ drop l.at l.initial.edges
