use Rattle.std.proofs.Common.{◌≡◌, take}
use Rattle.mit_ops.specs.Answers.{at_row, over}
use Rattle.mit_ops.specs.EachRow.{filtered}
use Rattle.mit_step.proofs.whole.rows.filtered.Given as goal

abbrev pub invariant-loop-row : goal.invariant-loop-row
invariant-loop-row l = l.answer ≡ over (λ row. at_row row (filtered l.captures l.expr row)) (take l.row-index l.rows)
