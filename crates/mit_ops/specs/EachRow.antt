-- What a row gives in a map, a filter and a flat map.
use Rattle.std.specs.Prelude.{ℕ, ℤ, pos, negsuc, ◌+ℤ◌, ◌-ℤ◌, List, [], ◌∷◌, ◌++◌, map, length, ◌==◌, Ok, Err, if◌then◌else◌, nat_lt}
use Rattle.std.specs.List.{filter, list_any, range_with_len, slice_split}
use Rattle.mit_rows.specs.Bags.{RowOf}
use Rattle.mit_rows.specs.declared.value.Value.{Value}
use Rattle.mit_rows.specs.declared.value.Value.TheVariants.{Int, Text, Bool as Truth}
use Rattle.mit_expr.specs.declared.expr.Expr.{Expr}
use Rattle.mit_expr.specs.Values.{ValueFault, ValueOrFault, divide_by_zero, faults, gives, not_number, overflow, text_too_long, untyped, value_in}
use Rattle.mit_ops.specs.Answers.{RowsOrKind}
use Rattle.mit_ops.specs.declared.faults.FaultKind.{FaultKind}
use Rattle.mit_ops.specs.declared.faults.FaultKind.TheVariants.{Overflow, DivideByZero, NotNumber, TextTooLong, RangeTooLong}
use Rattle.mit_ops.specs.declared.kinds.Flat.{Flat}
use Rattle.mit_ops.specs.declared.kinds.Flat.TheVariants.{Words, Range}
use Rattle.mit_ops.specs.declared.kinds.TheConstants.{MAX_RANGE}

abbrev pub kind_of_fault : ValueFault → FaultKind
kind_of_fault overflow = Overflow
kind_of_fault divide_by_zero = DivideByZero
kind_of_fault not_number = NotNumber
kind_of_fault text_too_long = TextTooLong

-- what is made of a value, or the fault of its expression; no rows where it has no type, which is never reached
abbrev pub given : ValueOrFault → (Value → RowsOrKind) → RowsOrKind
given (gives value) next = next value
given (faults fault) next = Err (kind_of_fault fault)
given untyped next = Ok []

-- what is made of these values, or the first fault
unfoldable pub given_all : List ValueOrFault → (RowOf → RowsOrKind) → RowsOrKind
given_all [] next = next []
given_all (first ∷ rest) next = given first (λ value. given_all rest (λ values. next (value ∷ values)))

-- one row of the expressions' values
abbrev pub row_of_exprs : List Value → List Expr → RowOf → RowsOrKind
row_of_exprs captures exprs row = given_all (map (value_in row captures) exprs) (λ values. Ok (values ∷ []))

-- a row that stays where this is true
abbrev pub kept_where : Value → RowOf → List RowOf
kept_where (Truth truth) row = if truth then row ∷ [] else []
kept_where other row = []

abbrev pub filtered : List Value → Expr → RowOf → RowsOrKind
filtered captures expr row = given (value_in row captures expr) (λ value. Ok (kept_where value row))

-- the pieces of a text between the bytes of the separator, without the empty ones
abbrev pub pieces : List ℕ → List ℕ → List (List ℕ)
pieces separator text = filter (λ piece. nat_lt 0 (length piece)) (slice_split (λ byte. list_any (λ other. byte == other) separator) text)

abbrev pub words_of : RowOf → List ℕ → Value → List RowOf
words_of row separator (Text text) = map (λ piece. row ++ Text piece ∷ []) (pieces separator text)
words_of row separator other = []

-- so many numbers from one on
abbrev pub numbers_from : RowOf → ℤ → ℕ → List RowOf
numbers_from row from count = map (λ k. row ++ Int (from +ℤ pos k) ∷ []) (range_with_len 0 count)

-- the numbers up to but without one that is so far above
abbrev pub numbers_below : RowOf → ℤ → ℤ → RowsOrKind
numbers_below row from (pos count) = if nat_lt MAX_RANGE count then Err RangeTooLong else Ok (numbers_from row from count)
numbers_below row from (negsuc count) = Ok []

abbrev pub range_of : RowOf → Value → Value → RowsOrKind
range_of row (Int from) (Int to) = numbers_below row from (to -ℤ from)
range_of row from to = Ok []

-- the row, followed by each thing that a flat map makes of it
abbrev pub flattened : List Value → Flat → RowOf → RowsOrKind
flattened captures (Words expr separator) row = given (value_in row captures expr) (λ value. Ok (words_of row separator value))
flattened captures (Range from to) row =
    given (value_in row captures from) (λ start. given (value_in row captures to) (λ end. range_of row start end))
