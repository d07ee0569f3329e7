use Rattle.std.proofs.Common.{take}
use Rattle.mit_plan.specs.Indexed.{AreLists}
use Rattle.mit_plan.proofs.index.edge_lists.Given as goal

abbrev pub invariant-loop-number : goal.invariant-loop-number
invariant-loop-number l =
    (AreLists (λ edge. edge.to) l.count (take l.number l.edges) l.into.items)
    × (AreLists (λ edge. edge.from) l.count (take l.number l.edges) l.out.items)
