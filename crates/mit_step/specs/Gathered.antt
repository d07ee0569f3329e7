-- A device of the proofs: nobody has to believe it. Rows and faults that are kept apart, as one answer.
use Rattle.std.specs.Prelude.{◌≡◌, List, [], Ok, Err}
use Rattle.mit_rows.specs.Bags.{RowOf, bag_of}
use Rattle.mit_ops.specs.Answers.{BagOrFault}

-- where there is no fault, the rows are what is due, and else the fault is
abbrev pub Gathered : List RowOf → BagOrFault → BagOrFault → Type 0
Gathered rows (Ok more) due = (more ≡ []) × (due ≡ Ok (bag_of rows))
Gathered rows (Err fault) due = due ≡ Err fault
