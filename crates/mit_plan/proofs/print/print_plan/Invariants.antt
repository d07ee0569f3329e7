use Rattle.std.proofs.Common.{◌≡◌, ◌++◌, flat_map}
use Rattle.std.specs.List.{range_with_len}
use Rattle.mit_plan.specs.Printed.{block_text}
use Rattle.mit_plan.proofs.print.print_plan.Given as goal

abbrev pub invariant-loop-number : goal.invariant-loop-number
invariant-loop-number l = l.text.items ≡ l.initial.text.items ++ flat_map (block_text l.plan) (range_with_len 0 l.number)
