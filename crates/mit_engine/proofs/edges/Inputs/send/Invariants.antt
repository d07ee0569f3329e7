use Rattle.std.proofs.Common.{◌≡◌, drop, map}
use Rattle.mit_engine.specs.Operators.{sends}
use Rattle.mit_engine.proofs.edges.Inputs.send.Given as goal

-- no edge from here on leads from the operator
abbrev pub invariant-loop-last : goal.invariant-loop-last
invariant-loop-last l = record {
  bag : l.bag ≡ l.initial.bag;
  edges : l.self-inside.edges.items ≡ l.initial.self-inside.edges.items;
  left : map (sends l.from l.bag) (drop l.last l.self-inside.edges.items) ≡ drop l.last l.self-inside.edges.items;
}
