-- The text of a bag and the files that writes publish.
use Rattle.std.specs.Prelude.{ℕ, List, [], ◌∷◌, ◌++◌, map, if◌then◌else◌, true}
use Rattle.std.specs.Fmt.{signed_decimal}
use Rattle.std.specs.Str.Parse.{true_text, false_text}
use Rattle.std.specs.FinMap as fin
use Rattle.csv.specs.Writing.{default_writer, row_text, with_flexible}
use Rattle.csv.specs.declared.writer.WriterBuilder.{WriterBuilder}
use Rattle.mit_rows.specs.Bags.{BagOf}
use Rattle.mit_rows.specs.declared.value.Value.{Value}
use Rattle.mit_rows.specs.declared.value.Value.TheVariants.{Int, Text, Bool}
use Rattle.mit_files.specs.Files.{FileMap}

-- integers in decimal, texts as they are, booleans as `true` and `false`
abbrev pub value_text : Value → List ℕ
value_text (Int number) = signed_decimal number
value_text (Text text) = text
value_text (Bool truth) = if truth then true_text else false_text

-- the defaults of `csv`: commas, quotes where necessary and a line feed after each record; rows may differ in length
abbrev pub writer_of_bags : WriterBuilder
writer_of_bags = with_flexible default_writer true

-- the row text of each row in order
unfoldable pub bag_text : BagOf → List ℕ
bag_text [] = []
bag_text (row ∷ rows) = row_text writer_of_bags (map value_text row) ++ bag_text rows

-- a bag that is written under a name
pub record Write : Type 0 where
  pub name : List ℕ
  pub bag : BagOf

-- these files after further writes: the last write of a name counts
unfoldable pub published_onto : FileMap → List Write → FileMap
published_onto files [] = files
published_onto files (write ∷ writes) = published_onto (fin.insert files write.name (bag_text write.bag)) writes

-- each written name with the text of the bag that was written last under it
abbrev pub published : List Write → FileMap
published writes = published_onto fin.empty writes
