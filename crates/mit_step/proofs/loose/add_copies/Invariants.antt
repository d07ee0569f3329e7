use Rattle.std.proofs.Common.{◌≡◌, ◌++◌, take}
use Rattle.mit_step.proofs.loose.add_copies.Given as goal

abbrev pub invariant-loop-row : goal.invariant-loop-row
invariant-loop-row l = l.onto.items ≡ l.initial.onto.items ++ take l.row-index l.rows
