use Rattle.std.proofs.Common.{◌≡◌, ◌++◌, take}
use Rattle.mit_rows.proofs.row.add_copies.Given as goal

abbrev pub invariant-loop-value : goal.invariant-loop-value
invariant-loop-value l = l.onto.items ≡ l.initial.onto.items ++ take l.value-index l.values
