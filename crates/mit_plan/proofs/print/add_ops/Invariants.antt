use Rattle.std.proofs.Common.{◌≡◌, ◌++◌, flat_map}
use Rattle.std.specs.List.{range_with_len}
use Rattle.mit_plan.specs.Printed.{op_line}
use Rattle.mit_plan.proofs.print.add_ops.Given as goal

abbrev pub invariant-loop-index : goal.invariant-loop-index
invariant-loop-index l = l.text.items ≡ l.initial.text.items ++ flat_map (op_line l.plan) (range_with_len l.first l.index)
