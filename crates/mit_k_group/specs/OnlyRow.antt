-- Devices of the proofs: nobody has to believe them. The first of some rows and their number, as they are stored.
use Rattle.std.specs.Prelude.{◌≡◌, List, length, slice_get}
use Rattle.mit_rows.specs.Bags.{RowOf}
use Rattle.mit_k_group.specs.declared.only.Only.{Only}

abbrev pub IsFirst : Only → List RowOf → Type 0
IsFirst only rows = (only.count ≡ length rows) × (only.first ≡ slice_get rows 0)
