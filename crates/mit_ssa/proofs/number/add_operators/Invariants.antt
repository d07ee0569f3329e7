use Rattle.std.proofs.Common.{◌≡◌, ◌≤◌, ◌++◌, length}
use Rattle.mit_plan.specs.declared.plan.TheConstants.{MAX_EDGES}
use Rattle.mit_ssa.specs.PlanFor.{operator_edges, ops_in}
use Rattle.mit_ssa.proofs.number.add_operators.Given as goal

abbrev pub invariant-loop-operator : goal.invariant-loop-operator
invariant-loop-operator l = record {
  blocks : l.all.blocks.items ≡ l.fn.lists.blocks.items;
  ops : l.all.ops.items ≡ l.fn.lists.ops.items ++ ops_in l.block 0 l.yielded;
  edges : l.all.edges.items ≡ l.fn.lists.edges.items ++ operator_edges (length l.fn.lists.ops.items) l.yielded;
  few : length l.all.edges.items ≤ MAX_EDGES;
  index : l.index ≡ length l.yielded;
}
