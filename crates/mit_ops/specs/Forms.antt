-- The five forms of operators: what each answers over whole bags, and in one of several partitions.
use Rattle.std.specs.Prelude.{ℕ, List, [], ◌∷◌, ◌++◌, map, slice_index_or, Bool, ◌==◌, Ok, Err, if◌then◌else◌}
use Rattle.std.specs.List.{filter, fold, list_any}
use Rattle.std.specs.Ordering.{is_eq}
use Rattle.mit_rows.specs.Bags.{RowOf, all_rows, bag_of}
use Rattle.mit_rows.specs.Order.{row_cmp}
use Rattle.mit_files.specs.Rows.{part_of}
use Rattle.mit_ops.specs.Answers.{BagOrFault, RowsOrKind, at_row, over, settled}

pub data Form : Type 0 where
  -- the sum of what each row of the bags gives
  each_row : (RowOf → RowsOrKind) → Form
  -- the sum of what each key that occurs gives with its rows
  each_key : (RowOf → RowOf) → (RowOf → List RowOf → RowsOrKind) → Form
  -- the sum of what each row of the second bag gives with the rows of the first that have its key
  each_match : (RowOf → RowOf) → (RowOf → RowOf) → (RowOf → List RowOf → RowsOrKind) → Form
  -- one answer for all, in partition 0
  once : (List (List RowOf) → RowsOrKind) → Form
  -- rows dealt out to the partitions in turn, or a fault in each
  dealt : BagOrFault → Form

abbrev pub same_row : RowOf → RowOf → Bool
same_row a b = is_eq (row_cmp a b)

-- each once, in the order in which they come first
abbrev pub add_key : List RowOf → RowOf → List RowOf
add_key seen key = if list_any (same_row key) seen then seen else seen ++ key ∷ []

abbrev pub once_each : List RowOf → List RowOf
once_each keys = fold add_key [] keys

-- the rows that have this key
abbrev pub with_key : (RowOf → RowOf) → RowOf → List RowOf → List RowOf
with_key key wanted rows = filter (λ row. same_row wanted (key row)) rows

-- the rows of the input of this number
abbrev pub rows_at : List (List RowOf) → ℕ → List RowOf
rows_at inputs number = slice_index_or inputs number []

-- the answer over whole bags
abbrev pub whole_answer : Form → List (List RowOf) → BagOrFault
whole_answer (each_row give) bags = over (λ row. at_row row (give row)) (all_rows bags)
whole_answer (each_key key give) bags =
    over (λ k. at_row k (give k (with_key key k (rows_at bags 0)))) (once_each (map key (rows_at bags 0)))
whole_answer (each_match left right give) bags =
    over (λ row. at_row row (give row (with_key left (right row) (rows_at bags 0)))) (rows_at bags 1)
whole_answer (once give) bags = settled (at_row [] (give bags))
whole_answer (dealt found) bags = settled found

-- the rows whose numbers are `part` modulo `parts`, or the fault
abbrev pub deal : ℕ → ℕ → BagOrFault → BagOrFault
deal parts part (Ok rows) = Ok (bag_of (part_of part parts rows))
deal parts part (Err fault) = Err fault

-- the answer of the partition `part` of so many, over what came to it
abbrev pub part_answer : Form → ℕ → ℕ → List (List RowOf) → BagOrFault
part_answer (once give) parts part bags = if part == 0 then whole_answer (once give) bags else Ok []
part_answer (dealt found) parts part bags = deal parts part found
part_answer form parts part bags = whole_answer form bags
