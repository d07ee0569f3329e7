use Rattle.std.proofs.Common.{Some, take}
use Rattle.mit_files.specs.Printed.{bag_text}
use Rattle.mit_shelf.proofs.PrintFacts.{Printed}
use Rattle.mit_shelf.proofs.printed.print_rows.Given as goal

abbrev pub invariant-loop-row : goal.invariant-loop-row
invariant-loop-row l = Printed (λ v. Some v.items) l.writer (bag_text (take l.row-index l.rows))
