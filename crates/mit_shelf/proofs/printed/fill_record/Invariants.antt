use Rattle.std.proofs.Common.{◌≡◌, [], map, take}
use Rattle.csv.specs.Records.{fields_of, partial_of}
use Rattle.mit_files.specs.Printed.{value_text}
use Rattle.mit_shelf.proofs.printed.fill_record.Given as goal

abbrev pub invariant-loop-value : goal.invariant-loop-value
invariant-loop-value l = (fields_of l.texts ≡ map value_text (take l.value-index l.value-items)) × (partial_of l.texts ≡ [])
