use Rattle.csv.specs.Records.{fields_of}
use Rattle.mit_shelf.proofs.RowFacts.{Fills}
use Rattle.mit_shelf.proofs.fields.row_of_record.Given as goal

abbrev pub invariant-loop-column : goal.invariant-loop-column
invariant-loop-column l = Fills l.types (fields_of l.fields) l.values.items l.column
