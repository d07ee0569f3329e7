-- The value of an expression, or its first fault. Operands are evaluated from left to right.
use Rattle.std.specs.Prelude.{◌≡◌, ⊤, ℕ, zero, suc, ◌++◌, ◌^◌, ℤ, pos, negsuc, ◌+ℤ◌, ◌-ℤ◌, ◌*ℤ◌, List, length, true, false, not, Option, Some, None, slice_get, if◌then◌else◌, nat_le, nat_lt, int_div, int_rem}
use Rattle.std.specs.Ordering.{is_eq, is_gt, is_lt}
use Rattle.std.specs.Fmt.{signed_decimal}
use Rattle.mit_rows.specs.Integers.{int_of}
use Rattle.mit_rows.specs.Order.{value_cmp}
use Rattle.mit_rows.specs.declared.text.TheConstants.{MAX_TEXT}
use Rattle.mit_rows.specs.declared.value.ColType.{ColType}
use Rattle.mit_rows.specs.declared.value.Value.{Value}
use Rattle.mit_rows.specs.declared.value.Value.TheVariants.{Int, Text, Bool as Truth}
use Rattle.mit_expr.specs.declared.expr.BinOp.{BinOp}
use Rattle.mit_expr.specs.declared.expr.BinOp.TheVariants as op
use Rattle.mit_expr.specs.declared.expr.Call.{Call}
use Rattle.mit_expr.specs.declared.expr.Call.TheVariants as call
use Rattle.mit_expr.specs.declared.expr.Expr.{Expr}
use Rattle.mit_expr.specs.declared.expr.Expr.TheFolds.{fold-Expr}
use Rattle.mit_expr.specs.declared.expr.Expr.TheOpen.{Expr-F}
use Rattle.mit_expr.specs.declared.expr.Expr.TheOpen as expr
use Rattle.mit_expr.specs.Types.{type_of_value}

-- why an expression has no value
pub data ValueFault : Type 0 where
  -- a number is outside 64 bits
  overflow : ValueFault
  -- a divisor is zero
  divide_by_zero : ValueFault
  -- a text is no integer within 64 bits
  not_number : ValueFault
  -- a text has more than `MAX_TEXT` bytes
  text_too_long : ValueFault

pub data ValueOrFault : Type 0 where
  gives : Value → ValueOrFault
  faults : ValueFault → ValueOrFault
  -- an operand is not there or has another type than is wanted: never reached where the expression has a type
  untyped : ValueOrFault

-- an exact number, where it is within 64 bits
abbrev pub within : ℤ → ValueOrFault
within (pos size) = if nat_lt size (2 ^ 63) then gives (Int (pos size)) else faults overflow
within (negsuc size) = if nat_lt size (2 ^ 63) then gives (Int (negsuc size)) else faults overflow

-- toward zero
abbrev pub quotient : ℤ → ℤ → ValueOrFault
quotient left (pos zero) = faults divide_by_zero
quotient left (pos (suc size)) = within (int_div left (pos (suc size)))
quotient left (negsuc size) = within (int_div left (negsuc size))

-- with the sign of the dividend; a fault wherever the quotient is one
abbrev pub after_quotient : ℤ → ValueOrFault → ValueOrFault
after_quotient remainder (gives quotient) = within remainder
after_quotient remainder other = other

abbrev pub remainder : ℤ → ℤ → ValueOrFault
remainder left right = after_quotient (int_rem left right) (quotient left right)

-- two texts joined, where the whole has at most `MAX_TEXT` bytes
abbrev pub joined : List ℕ → List ℕ → ValueOrFault
joined left right = if nat_le (length (left ++ right)) MAX_TEXT then gives (Text (left ++ right)) else faults text_too_long

abbrev pub number_or_fault : Option ℤ → ValueOrFault
number_or_fault None = faults not_number
number_or_fault (Some number) = gives (Int number)

-- of two integers, and of two texts
abbrev pub of_ints : (ℤ → ℤ → ValueOrFault) → Value → Value → ValueOrFault
of_ints f (Int left) (Int right) = f left right
of_ints f left right = untyped

abbrev pub of_texts : (List ℕ → List ℕ → ValueOrFault) → Value → Value → ValueOrFault
of_texts f (Text left) (Text right) = f left right
of_texts f left right = untyped

-- an operator over its two values, but for `and` and `or`
abbrev pub operate : BinOp → Value → Value → ValueOrFault
operate op.Add left right = of_ints (λ a b. within (a +ℤ b)) left right
operate op.Sub left right = of_ints (λ a b. within (a -ℤ b)) left right
operate op.Mul left right = of_ints (λ a b. within (a *ℤ b)) left right
operate op.Div left right = of_ints quotient left right
operate op.Rem left right = of_ints remainder left right
operate op.Concat left right = of_texts joined left right
operate op.Eq left right = gives (Truth (is_eq (value_cmp left right)))
operate op.Ne left right = gives (Truth (not (is_eq (value_cmp left right))))
operate op.Lt left right = gives (Truth (is_lt (value_cmp left right)))
operate op.Le left right = gives (Truth (not (is_gt (value_cmp left right))))
operate op.Gt left right = gives (Truth (is_gt (value_cmp left right)))
operate op.Ge left right = gives (Truth (not (is_lt (value_cmp left right))))
operate _ left right = untyped

-- the first fault, or what comes of both values
abbrev pub of_both : (Value → Value → ValueOrFault) → ValueOrFault → ValueOrFault → ValueOrFault
of_both f (gives left) (gives right) = f left right
of_both f (gives left) other = other
of_both f other right = other

-- the right side counts only where the left one does not decide
abbrev pub and_value : ValueOrFault → ValueOrFault → ValueOrFault
and_value (gives (Truth true)) right = right
and_value (gives (Truth false)) right = gives (Truth false)
and_value (gives left) right = untyped
and_value other right = other

abbrev pub or_value : ValueOrFault → ValueOrFault → ValueOrFault
or_value (gives (Truth true)) right = gives (Truth true)
or_value (gives (Truth false)) right = right
or_value (gives left) right = untyped
or_value other right = other

abbrev pub combined : BinOp → ValueOrFault → ValueOrFault → ValueOrFault
combined op.And left right = and_value left right
combined op.Or left right = or_value left right
combined operator left right = of_both (operate operator) left right

abbrev pub not_value : ValueOrFault → ValueOrFault
not_value (gives (Truth truth)) = gives (Truth (not truth))
not_value (gives other) = untyped
not_value other = other

abbrev pub call_value : Call → Value → ValueOrFault
call_value call.ToText (Int number) = gives (Text (signed_decimal number))
call_value call.ToInt (Text text) = number_or_fault (int_of text)
call_value call.Len (Text text) = gives (Int (pos (length text)))
call_value function other = untyped

abbrev pub called : Call → ValueOrFault → ValueOrFault
called function (gives value) = call_value function value
called function other = other

abbrev pub value_at : Option Value → ValueOrFault
value_at None = untyped
value_at (Some value) = gives value

-- one layer of an expression, with what comes of each operand in its place
abbrev pub value_step : List Value → List Value → Expr-F ValueOrFault → ValueOrFault
value_step row captures (expr.Column column) = value_at (slice_get row column)
value_step row captures (expr.Capture capture) = value_at (slice_get captures capture)
value_step row captures (expr.Lit value) = gives value
value_step row captures (expr.Bin operator left right) = combined operator left right
value_step row captures (expr.Not arg) = not_value arg
value_step row captures (expr.Call function arg) = called function arg

-- the value of an expression at a row and captured values, or its first fault
abbrev pub value_in : List Value → List Value → Expr → ValueOrFault
value_in row captures = fold-Expr ValueOrFault (value_step row captures)

-- a value of this type, or a fault
abbrev pub IsTyped : ColType → ValueOrFault → Type 0
IsTyped is (gives value) = type_of_value value ≡ is
IsTyped is (faults fault) = ⊤
IsTyped is untyped = ⊥
