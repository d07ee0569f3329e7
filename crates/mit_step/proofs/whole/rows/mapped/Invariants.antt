use Rattle.std.proofs.Common.{◌≡◌, take}
use Rattle.mit_ops.specs.Answers.{at_row, over}
use Rattle.mit_ops.specs.EachRow.{row_of_exprs}
use Rattle.mit_step.proofs.whole.rows.mapped.Given as goal

abbrev pub invariant-loop-row : goal.invariant-loop-row
invariant-loop-row l = l.answer ≡ over (λ row. at_row row (row_of_exprs l.captures l.exprs row)) (take l.row-index l.rows)
