use Rattle.std.proofs.Common.{ℕ, ◌<◌, ◌≢◌}
use Rattle.mit_plan.specs.Plans.{op_at}
use Rattle.mit_valid.proofs.inputs.phis_choose.Given as goal

abbrev pub invariant-loop-operator : goal.invariant-loop-operator
invariant-loop-operator l = (op : ℕ) → op < l.operator-index → (op_at l.plan op).phi ≢ 1
