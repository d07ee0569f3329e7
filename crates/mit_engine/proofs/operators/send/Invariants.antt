use Rattle.std.proofs.Common.{◌≡◌, drop, map}
use Rattle.mit_engine.specs.Operators.{sends_all}
use Rattle.mit_engine.proofs.operators.send.Given as goal

-- no edge leads to the operators from here on
abbrev pub invariant-loop-last : goal.invariant-loop-last
invariant-loop-last l = record {
  bag : l.bag ≡ l.initial.bag;
  operators : l.operators.items ≡ l.initial.operators.items;
  left : map (sends_all l.from l.bag) (drop l.last l.operators.items) ≡ drop l.last l.operators.items;
}
