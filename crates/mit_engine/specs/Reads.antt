-- The bag that a read of a file gives, or its fault.
use Rattle.std.specs.Prelude.{ℕ, List, replicate, Option, Some, None, Result, Ok, Err}
use Rattle.std.specs.FinMap as map
use Rattle.mit_rows.specs.Bags.{BagOf, RowOf, bag_of}
use Rattle.mit_rows.specs.declared.value.ColType.{ColType}
use Rattle.mit_rows.specs.declared.value.ColType.TheVariants.{Int}
use Rattle.mit_files.specs.Files.{FileMap}
use Rattle.mit_files.specs.Rows.{rows_of}
use Rattle.mit_ops.specs.declared.faults.FaultKind.{FaultKind}
use Rattle.mit_ops.specs.declared.faults.FaultKind.TheVariants.{NoFile, BadRow}

-- the bag of a file's rows, or the fault of the read
abbrev pub bag_of_rows : Result (List RowOf) ℕ → Result BagOf FaultKind
bag_of_rows (Ok rows) = Ok (bag_of rows)
bag_of_rows (Err number) = Err (BadRow number)

abbrev pub bag_of_file : List ColType → Option (List ℕ) → Result BagOf FaultKind
bag_of_file types None = Err NoFile
bag_of_file types (Some bytes) = bag_of_rows (rows_of bytes types)

-- what a read of a name gives over these files
abbrev pub read_bag : FileMap → List ℕ → List ColType → Result BagOf FaultKind
read_bag files name types = bag_of_file types (map.get files name)

-- the types of so many columns of integers
abbrev pub integers : ℕ → List ColType
integers count = replicate count Int
