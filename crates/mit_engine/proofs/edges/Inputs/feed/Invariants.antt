use Rattle.std.proofs.Common.{◌≡◌, ◌++◌, drop, map, take}
use Rattle.mit_engine.specs.Operators.{bags_here, feeds_bag}
use Rattle.mit_engine.proofs.edges.Inputs.feed.Given as goal

-- the bags so far, with those of the edges that are left, are all
abbrev pub invariant-loop-edge : goal.invariant-loop-edge
invariant-loop-edge l = record {
  fed : l.bags.items ++ bags_here (drop l.edge-index l.initial.edge-items) ≡ bags_here l.initial.edge-items;
  edges : l.edge-items ≡ map feeds_bag (take l.edge-index l.initial.edge-items) ++ drop l.edge-index l.initial.edge-items;
}
