use Rattle.csv.specs.Records.{fields_of}
use Rattle.mit_shelf.proofs.RowFacts.{FitsFrom}
use Rattle.mit_shelf.proofs.fields.fits_record.Given as goal

abbrev pub invariant-loop-column : goal.invariant-loop-column
invariant-loop-column l = FitsFrom l.types (fields_of l.fields) l.column
