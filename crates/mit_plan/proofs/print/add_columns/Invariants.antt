use Rattle.std.proofs.Common.{◌≡◌, ◌++◌, flat_map, take}
use Rattle.mit_plan.specs.Printed.{column_text}
use Rattle.mit_plan.proofs.print.add_columns.Given as goal

abbrev pub invariant-loop-column : goal.invariant-loop-column
invariant-loop-column l = l.text.items ≡ l.initial.text.items ++ flat_map column_text (take l.column-index l.columns)
