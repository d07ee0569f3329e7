use Rattle.std.proofs.Common.{ℕ, ◌<◌}
use Rattle.mit_plan.specs.Valid.{HasEdges}
use Rattle.mit_valid.proofs.inputs.ops_have_edges.Given as goal

abbrev pub invariant-loop-op : goal.invariant-loop-op
invariant-loop-op l = (op : ℕ) → op < l.op → HasEdges l.plan op
