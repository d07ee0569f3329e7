-- Devices of the proofs: nobody has to believe them. What rows and a fault stand for, as they are stored.
use Rattle.std.specs.Prelude.{List, Option, Some, None, Ok, Err}
use Rattle.mit_rows.specs.Bags.{RowOf, bag_of}
use Rattle.mit_ops.specs.Answers.{BagOrFault}
use Rattle.mit_ops.specs.declared.faults.OpFault.{OpFault}

abbrev pub answer_of : List RowOf → Option OpFault → BagOrFault
answer_of rows None = Ok (bag_of rows)
answer_of rows (Some fault) = Err fault
