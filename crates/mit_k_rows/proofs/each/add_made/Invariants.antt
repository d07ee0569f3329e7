use Rattle.std.proofs.Common.{◌≡◌, Ok, length}
use Rattle.mit_ops.specs.Answers.{both}
use Rattle.mit_k_rows.proofs.each.add_made.Given as goal

abbrev pub invariant-loop-row : goal.invariant-loop-row
invariant-loop-row l = both l.answer (Ok l.made.items) ≡ both l.fn.answer (Ok l.fn.made.items)

abbrev pub decreases-loop-row : goal.decreases-loop-row
decreases-loop-row l = length l.made.items
