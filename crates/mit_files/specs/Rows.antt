-- The rows of a file, over the record list of `csv`.
use Rattle.std.specs.Prelude.{ℕ, ◌+◌, ◌%◌, Bool, true, false, List, [], ◌∷◌, length, Option, Some, None, option_map, option_and_then, Result, Ok, Err, if◌then◌else◌, nat_le, ◌==◌, ◌&&◌}
use Rattle.std.specs.Str.{bytes_eq, is_utf8}
use Rattle.std.specs.Str.Parse.{true_text, false_text}
use Rattle.csv.specs.Reading.{default_config, records, strip_bom}
use Rattle.mit_rows.specs.Integers.{int_of}
use Rattle.mit_rows.specs.Bags.{RowOf}
use Rattle.mit_rows.specs.declared.value.Value.{Value}
use Rattle.mit_rows.specs.declared.value.Value.TheVariants.{Int, Text, Bool as Truth}
use Rattle.mit_rows.specs.declared.value.ColType.{ColType}
use Rattle.mit_rows.specs.declared.value.ColType.TheVariants as column
use Rattle.mit_rows.specs.declared.text.TheConstants.{MAX_TEXT}

-- the texts `true` and `false` as truth values
unfoldable pub bool_of : List ℕ → Option Bool
bool_of field = if bytes_eq field true_text then Some true else if bytes_eq field false_text then Some false else None

-- UTF-8 that is no longer than a text may be
unfoldable pub text_of : List ℕ → Option (List ℕ)
text_of field = if is_utf8 field && nat_le (length field) MAX_TEXT then Some field else None

-- a field as the value of a column of this type
abbrev pub field_of : ColType → List ℕ → Option Value
field_of column.Int field = option_map Int (int_of field)
field_of column.Text field = option_map Text (text_of field)
field_of column.Bool field = option_map Truth (bool_of field)

-- a record fits where it has as many fields as there are types, and each field fits its type
unfoldable pub row_of : List ColType → List (List ℕ) → Option RowOf
row_of [] [] = Some []
row_of [] (field ∷ fields) = None
row_of (type ∷ types) [] = None
row_of (type ∷ types) (field ∷ fields) =
    option_and_then (λ value. option_map (λ row. value ∷ row) (row_of types fields)) (field_of type field)

-- a row before those of the later records, or the number of the record that is none
abbrev pub first_row : ℕ → Option RowOf → Result (List RowOf) ℕ → Result (List RowOf) ℕ
first_row number None later = Err number
first_row number (Some row) (Ok rows) = Ok (row ∷ rows)
first_row number (Some row) (Err bad) = Err bad

-- the rows of these records, numbered from `number` on, or the number of the first one that does not fit
unfoldable pub rows_from : List ColType → ℕ → List (List (List ℕ)) → Result (List RowOf) ℕ
rows_from types number [] = Ok []
rows_from types number (fields ∷ later) = first_row number (row_of types fields) (rows_from types (number + 1) later)

-- the rows of a file's bytes, or the number of the first record, from 0, that does not fit
abbrev pub rows_of : List ℕ → List ColType → Result (List RowOf) ℕ
rows_of bytes types = rows_from types 0 (records default_config (strip_bom bytes))

-- those rows whose numbers, counted from `number` on, are `part` modulo `parts`
unfoldable pub part_from : ℕ → ℕ → ℕ → List RowOf → List RowOf
part_from part parts number [] = []
part_from part parts number (row ∷ rows) =
    if number % parts == part then row ∷ part_from part parts (number + 1) rows else part_from part parts (number + 1) rows

-- the rows of a part: those whose numbers, counted from 0, are `part` modulo `parts`
abbrev pub part_of : ℕ → ℕ → List RowOf → List RowOf
part_of part parts rows = part_from part parts 0 rows

-- the rows of a part of a file whose records all fit
abbrev pub rows_of_part : ℕ → ℕ → Result (List RowOf) ℕ → Result (List RowOf) ℕ
rows_of_part part parts (Ok rows) = Ok (part_of part parts rows)
rows_of_part part parts (Err bad) = Err bad
