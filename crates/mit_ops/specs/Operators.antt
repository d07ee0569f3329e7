-- What operators compute: over whole bags, and in one of several partitions. Inputs are the bags and then the captured scalars.
use Rattle.std.specs.Prelude.{ℕ, pos, List, [], ◌∷◌, ◌++◌, map, take, drop, length, Option, Some, None, option_and_then, option_map, Result, Ok, Err, if◌then◌else◌}
use Rattle.std.specs.FinMap as fin
use Rattle.mit_rows.specs.Bags.{RowOf}
use Rattle.mit_rows.specs.declared.value.ColType.{ColType}
use Rattle.mit_rows.specs.declared.value.Value.{Value}
use Rattle.mit_rows.specs.declared.value.Value.TheVariants.{Int, Text}
use Rattle.mit_files.specs.Files.{FileMap}
use Rattle.mit_files.specs.Names.{is_legal}
use Rattle.mit_files.specs.Rows.{rows_of}
use Rattle.mit_expr.specs.Values.{ValueOrFault, faults, gives, value_in, within}
use Rattle.mit_ops.specs.Answers.{BagOrFault, RowsOrKind}
use Rattle.mit_ops.specs.EachRow.{filtered, flattened, given, kind_of_fault, row_of_exprs}
use Rattle.mit_ops.specs.Forms.{Form, dealt, each_key, each_match, each_row, once, part_answer, rows_at, whole_answer}
use Rattle.mit_ops.specs.Keys.{key_of}
use Rattle.mit_ops.specs.Kinds.{bag_inputs_of}
use Rattle.mit_ops.specs.Totals.{aggregate, total}
use Rattle.mit_ops.specs.declared.faults.FaultKind.TheVariants.{BadName, BadRow, NoFile, NotOne}
use Rattle.mit_ops.specs.declared.kinds.OpSpec.{OpSpec}
use Rattle.mit_ops.specs.declared.kinds.OpSpec.TheVariants as op

-- one row of one value
abbrev pub one_value : Value → RowsOrKind
one_value value = Ok ((value ∷ []) ∷ [])

-- the rows of a file, or why there are none
abbrev pub file_rows : List ColType → Option (List ℕ) → BagOrFault
file_rows types None = Err (record { at = []; kind = NoFile })
file_rows types (Some bytes) = records_rows (rows_of bytes types)
  where
    records_rows : Result (List RowOf) ℕ → BagOrFault
    records_rows (Ok rows) = Ok rows
    records_rows (Err number) = Err (record { at = Int (pos number) ∷ []; kind = BadRow number })

-- the rows of the file of a name
abbrev pub read_rows : FileMap → List ColType → ValueOrFault → BagOrFault
read_rows files types (gives (Text name)) =
    if is_legal name then file_rows types (fin.get files name) else Err (record { at = []; kind = BadName })
read_rows files types (faults fault) = Err (record { at = []; kind = kind_of_fault fault })
-- never reached: a name is a text
read_rows files types other = Ok []

-- the one row, where there is exactly one
abbrev pub single : List RowOf → RowsOrKind
single (row ∷ []) = Ok (row ∷ [])
single rows = Err (NotOne (length rows))

-- a bag under this name, where it is legal
abbrev pub written : List RowOf → Value → RowsOrKind
written rows (Text name) = if is_legal name then Ok rows else Err BadName
-- never reached: a name is a text
written rows other = Ok []

-- each kind, with the values that it captures
abbrev pub form_of : OpSpec → FileMap → List Value → Form
form_of (op.Scalar expr) files captures = once (λ bags. given (value_in [] captures expr) one_value)
form_of (op.Read name types) files captures = dealt (read_rows files types (value_in [] captures name))
form_of (op.Map exprs) files captures = each_row (row_of_exprs captures exprs)
form_of (op.Filter expr) files captures = each_row (filtered captures expr)
form_of (op.FlatMap flat) files captures = each_row (flattened captures flat)
form_of (op.Join left right) files captures = each_match (key_of left) (key_of right) (λ row lefts. Ok (map (λ before. before ++ row) lefts))
form_of (op.Reduce keys agg) files captures = each_key (key_of keys) (λ key rows. given (aggregate agg rows) (λ value. Ok ((key ++ value ∷ []) ∷ [])))
form_of op.Union files captures = each_row (λ row. Ok (row ∷ []))
form_of op.Distinct files captures = each_key (λ row. row) (λ key rows. Ok (key ∷ []))
form_of op.Only files captures = once (λ bags. single (rows_at bags 0))
form_of op.Count files captures = once (λ bags. given (within (pos (length (rows_at bags 0)))) one_value)
form_of (op.Sum column) files captures = once (λ bags. given (within (total column (rows_at bags 0))) one_value)
form_of (op.MakeRow exprs) files captures = once (λ bags. row_of_exprs captures exprs [])
form_of (op.Empty types) files captures = once (λ bags. Ok [])
form_of (op.Write name) files captures = once (λ bags. given (value_in [] captures name) (written (rows_at bags 0)))
form_of op.Copy files captures = each_row (λ row. Ok (row ∷ []))

-- the values of captured scalars: none where one of them has not exactly one row of one column
abbrev pub scalar_in : List RowOf → Option Value
scalar_in ((value ∷ []) ∷ []) = Some value
scalar_in rows = None

unfoldable pub captured : List (List RowOf) → Option (List Value)
captured [] = Some []
captured (rows ∷ later) = option_and_then (λ value. option_map (λ values. value ∷ values) (captured later)) (scalar_in rows)

-- no rows where a scalar is not there
abbrev pub if_captured : Option (List Value) → (List Value → BagOrFault) → BagOrFault
if_captured None answer = Ok []
if_captured (Some captures) answer = answer captures

abbrev pub bags_in : OpSpec → List (List RowOf) → List (List RowOf)
bags_in spec inputs = take (bag_inputs_of spec) inputs

abbrev pub captures_among : OpSpec → List (List RowOf) → Option (List Value)
captures_among spec inputs = captured (drop (bag_inputs_of spec) inputs)

-- an operator over whole bags
abbrev pub whole : OpSpec → List (List RowOf) → FileMap → BagOrFault
whole spec inputs files = if_captured (captures_among spec inputs) (λ captures. whole_answer (form_of spec files captures) (bags_in spec inputs))

-- an operator in the partition `part` of so many, over the lists that came to it
abbrev pub part_apply : OpSpec → ℕ → ℕ → List (List RowOf) → FileMap → BagOrFault
part_apply spec part parts inputs files =
    if_captured (captures_among spec inputs) (λ captures. part_answer (form_of spec files captures) parts part (bags_in spec inputs))

-- a legal name
abbrev pub legal_in : ValueOrFault → Option (List ℕ)
legal_in (gives (Text name)) = if is_legal name then Some name else None
legal_in other = None

-- the name under which a write writes its bag
abbrev pub name_written : OpSpec → List (List RowOf) → Option (List ℕ)
name_written (op.Write name) inputs = option_and_then (λ captures. legal_in (value_in [] captures name)) (captures_among (op.Write name) inputs)
name_written other inputs = None
