-- What an operator's call gives where it may stop. Out of memory says nothing.
use Rattle.std.specs.Prelude.{◌≡◌, ⊤, List, ◌++◌, Result, Ok, Err}
use Rattle.mit_rows.specs.Bags.{RowOf}
use Rattle.mit_rows.specs.declared.value.Value.{Value}
use Rattle.mit_expr.specs.Values.{ValueOrFault, gives}
use Rattle.mit_eval.specs.declared.values.EvalFault.{EvalFault}
use Rattle.mit_eval.specs.declared.values.EvalFault.TheVariants as eval
use Rattle.mit_ops.specs.Answers.{RowsOrKind}
use Rattle.mit_ops.specs.EachRow.{given}
use Rattle.mit_ops.specs.declared.faults.FaultKind.TheVariants.{Overflow, DivideByZero, NotNumber, TextTooLong}
use Rattle.mit_apply.specs.declared.each_row.OpStop.{OpStop}
use Rattle.mit_apply.specs.declared.each_row.OpStop.TheVariants.{Fault, NoMemory}

-- a stop is the fault that is due
abbrev pub Stops : RowsOrKind → OpStop → Type 0
Stops due (Fault kind) = due ≡ Err kind
Stops due NoMemory = ⊤

-- a call gives that value, or stops with its fault, whatever is made of the value
abbrev pub Gives : ValueOrFault → Result Value OpStop → Type 0
Gives due (Ok value) = due ≡ gives value
Gives due (Err stop) = (next : Value → RowsOrKind) → Stops (given due next) stop

-- rows are due, and stand after those before
abbrev pub Adds : RowsOrKind → List RowOf → List RowOf → Type 0
Adds due before after = (rows : List RowOf) × (due ≡ Ok rows) × (after ≡ before ++ rows)

-- the stop for a fault of an expression
abbrev pub stop_of : EvalFault → OpStop
stop_of eval.Overflow = Fault Overflow
stop_of eval.DivideByZero = Fault DivideByZero
stop_of eval.NotNumber = Fault NotNumber
stop_of eval.TextTooLong = Fault TextTooLong
stop_of eval.NoMemory = NoMemory
