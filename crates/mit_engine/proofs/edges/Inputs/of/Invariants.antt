use Rattle.std.proofs.Common.{◌≡◌, map, take}
use Rattle.mit_engine.specs.Operators.{first_edge}
use Rattle.mit_engine.proofs.edges.Inputs.of.Given as goal

abbrev pub invariant-loop-from : goal.invariant-loop-from
invariant-loop-from l = l.edges.items ≡ map first_edge (take l.from-index l.sources)
