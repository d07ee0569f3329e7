use Rattle.std.proofs.Common.{◌∙◌, Ok, ap, sym}
use Rattle.mit_engine.specs.Reads.{bag_of_rows}
use Rattle.mit_engine.proofs.polls.bag_with.Goals as goal

pub returns-in-Ok-from_rows-clause-bag : goal.returns-in-Ok-from_rows-clause-bag
returns-in-Ok-from_rows-clause-bag c = ap bag_of_rows c.in-Ok.ensures.rows ∙ ap Ok (sym c.in-Ok-from_rows.ensures)

pub returns-in-Err-BadRow-clause-bag : goal.returns-in-Err-BadRow-clause-bag
returns-in-Err-BadRow-clause-bag c = ap bag_of_rows (rw c.in-Err-BadRow.field-0-is at c.in-Err-BadRow.ensures.refused)
