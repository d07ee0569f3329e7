use Rattle.std.proofs.Common.{take}
use Rattle.mit_ops.specs.Answers.{at_row, over}
use Rattle.mit_ops.specs.EachRow.{flattened}
use Rattle.mit_step.specs.Gathered.{Gathered}
use Rattle.mit_step.proofs.whole.rows.flattened.Given as goal

abbrev pub invariant-loop-row : goal.invariant-loop-row
invariant-loop-row l = Gathered l.made.items l.faults (over (λ row. at_row row (flattened l.captures l.flat row)) (take l.row-index l.rows))
