use Rattle.std.proofs.Common.{ℕ, ◌<◌}
use Rattle.mit_plan.specs.Plans.{op_at}
use Rattle.mit_plan.specs.Valid.{CopiesPhi}
use Rattle.mit_valid.proofs.links.phis_copy.Given as goal

abbrev pub invariant-loop-operator : goal.invariant-loop-operator
invariant-loop-operator l = (op : ℕ) → op < l.operator-index → CopiesPhi (op_at l.plan op)
