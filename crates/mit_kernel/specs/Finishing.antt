-- How a part ends.
use Rattle.std.specs.Prelude.{◌≡◌, List, Err}
use Rattle.mit_rows.specs.Bags.{RowOf}
use Rattle.mit_ops.specs.Answers.{BagOrFault}
use Rattle.mit_kernel.specs.Meaning.{AddsRows}
use Rattle.mit_kernel.specs.declared.Finished.{Finished}
use Rattle.mit_kernel.specs.declared.Finished.TheVariants.{Rows, Fault}

-- exactly this answer: its rows are added, or it is the fault and nothing is added
abbrev pub Finishes : BagOrFault → Finished → List RowOf → List RowOf → Type 0
Finishes answer Rows before after = AddsRows answer before after
Finishes answer (Fault fault) before after = (answer ≡ Err fault) × (after ≡ before)
