use Rattle.std.proofs.Common.{◌≡◌, ◌++◌, length}
use Rattle.mit_ssa.specs.PlanFor.{edges_in}
use Rattle.mit_ssa.proofs.number.add_edges.Given as goal

abbrev pub invariant-loop-source : goal.invariant-loop-source
invariant-loop-source l = record {
  edges : l.edges.items ≡ l.fn.edges.items ++ edges_in l.operator 0 l.yielded;
  input : l.input ≡ length l.yielded;
}
