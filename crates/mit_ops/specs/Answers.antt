-- What an operator answers: a bag, or the fault with the least row; and how answers add up.
use Rattle.std.specs.Prelude.{ℕ, List, [], ◌∷◌, ◌++◌, Result, Ok, Err, if◌then◌else◌}
use Rattle.std.specs.Ordering.{is_le, nat_cmp, on, then_cmp}
use Rattle.std.specs.declared.cmp.Ordering.{Ordering}
use Rattle.mit_rows.specs.Bags.{RowOf, bag_of}
use Rattle.mit_rows.specs.Order.{row_cmp}
use Rattle.mit_ops.specs.declared.faults.FaultKind.{FaultKind}
use Rattle.mit_ops.specs.declared.faults.FaultKind.TheVariants.{Overflow, DivideByZero, NotNumber, TextTooLong, RangeTooLong, NotOne, NoFile, BadName, BadRow, DecisionLimit}
use Rattle.mit_ops.specs.declared.faults.OpFault.{OpFault}

-- rows in any order, or what went wrong
abbrev pub RowsOrKind : Type 0
RowsOrKind = Result (List RowOf) FaultKind

-- a bag, or a fault with the row at which it came
abbrev pub BagOrFault : Type 0
BagOrFault = Result (List RowOf) OpFault

-- the number of a kind of fault, and what it tells beside that
abbrev pub kind_number : FaultKind → ℕ
kind_number Overflow = 0
kind_number DivideByZero = 1
kind_number NotNumber = 2
kind_number TextTooLong = 3
kind_number RangeTooLong = 4
kind_number (NotOne rows) = 5
kind_number NoFile = 6
kind_number BadName = 7
kind_number (BadRow number) = 8
kind_number DecisionLimit = 9

abbrev pub kind_detail : FaultKind → ℕ
kind_detail (NotOne rows) = rows
kind_detail (BadRow number) = number
kind_detail _ = 0

-- faults are ordered by their rows; the kinds settle nothing, since one row has one kind
abbrev pub fault_cmp : OpFault → OpFault → Ordering
fault_cmp = then_cmp (on (λ f. f.at) row_cmp) (then_cmp (on (λ f. kind_number f.kind) nat_cmp) (on (λ f. kind_detail f.kind) nat_cmp))

abbrev pub lesser_fault : OpFault → OpFault → OpFault
lesser_fault a b = if is_le (fault_cmp a b) then a else b

-- the sum of two answers: a fault wins over a bag, and of two faults the lesser one
abbrev pub both : BagOrFault → BagOrFault → BagOrFault
both (Ok a) (Ok b) = Ok (bag_of (a ++ b))
both (Ok a) (Err fault) = Err fault
both (Err fault) (Ok b) = Err fault
both (Err a) (Err b) = Err (lesser_fault a b)

-- the sum of what each of these gives
unfoldable pub over : {X : Type 0} → (X → BagOrFault) → List X → BagOrFault
over answer [] = Ok []
over answer (x ∷ xs) = both (answer x) (over answer xs)

-- what was made, with its rows in order
abbrev pub settled : BagOrFault → BagOrFault
settled (Ok rows) = Ok (bag_of rows)
settled (Err fault) = Err fault

-- what was made at this row
abbrev pub at_row : RowOf → RowsOrKind → BagOrFault
at_row at (Ok rows) = Ok rows
at_row at (Err kind) = Err (record { at = at; kind = kind })
