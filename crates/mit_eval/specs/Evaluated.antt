-- What the evaluation of an expression answers.
use Rattle.std.specs.Prelude.{◌≡◌, ⊤, Result, Ok, Err}
use Rattle.mit_rows.specs.declared.value.Value.{Value}
use Rattle.mit_expr.specs.Values.{ValueOrFault, divide_by_zero, faults, gives, not_number, overflow, text_too_long}
use Rattle.mit_eval.specs.declared.values.EvalFault.{EvalFault}
use Rattle.mit_eval.specs.declared.values.EvalFault.TheVariants.{Overflow, DivideByZero, NotNumber, TextTooLong, NoMemory}

-- an evaluation gives exactly that value or fault; out of memory says nothing
abbrev pub Evaluates : ValueOrFault → Result Value EvalFault → Type 0
Evaluates due (Ok value) = due ≡ gives value
Evaluates due (Err Overflow) = due ≡ faults overflow
Evaluates due (Err DivideByZero) = due ≡ faults divide_by_zero
Evaluates due (Err NotNumber) = due ≡ faults not_number
Evaluates due (Err TextTooLong) = due ≡ faults text_too_long
Evaluates due (Err NoMemory) = ⊤
