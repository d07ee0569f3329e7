-- Devices of the proofs: nobody has to believe them. What the steps of an evaluation answer, also where an expression has no type.
use Rattle.std.specs.Prelude.{◌≡◌, ◌≤◌, [], ⊤, ℕ, ◌++◌, List, length, Bool, true, false, not, Option, Some, None, Result, Ok, Err}
use Rattle.mit_rows.specs.declared.text.TheConstants.{MAX_TEXT}
use Rattle.mit_rows.specs.declared.value.Value.{Value}
use Rattle.mit_rows.specs.declared.value.Value.TheVariants.{Int, Text, Bool as Truth}
use Rattle.mit_expr.specs.declared.expr.BinOp.{BinOp}
use Rattle.mit_expr.specs.declared.expr.BinOp.TheVariants as op
use Rattle.mit_expr.specs.Values.{ValueOrFault, gives, untyped}
use Rattle.mit_eval.specs.declared.values.EvalStop.{EvalStop}
use Rattle.mit_eval.specs.declared.values.EvalStop.TheVariants.{Fault, Untyped}
use Rattle.mit_eval.specs.Evaluated.{Evaluates}

-- an evaluation gives that value or fault, or tells that there is no type
abbrev pub Follows : ValueOrFault → Result Value EvalStop → Type 0
Follows due (Ok value) = due ≡ gives value
Follows due (Err (Fault fault)) = Evaluates due (Err fault)
Follows due (Err Untyped) = due ≡ untyped

-- whether an operator over both values gives its value: not one that joins, nor one that may leave out its right side
abbrev pub is_strict : BinOp → Bool
is_strict op.Concat = false
is_strict op.And = false
is_strict op.Or = false
is_strict operator = true

-- whether the left value decides alone, where it is a truth value
abbrev pub decides_alone : BinOp → Value → Option Bool
decides_alone op.And (Truth truth) = Some (not truth)
decides_alone op.Or (Truth truth) = Some truth
decides_alone operator left = None

-- the text that an evaluation gives
abbrev pub text_in : ValueOrFault → List ℕ
text_in (gives (Text text)) = text
text_in other = []

-- a value that is no text
abbrev pub IsOther : ValueOrFault → Type 0
IsOther (gives (Int number)) = ⊤
IsOther (gives (Text text)) = ⊥
IsOther (gives (Truth truth)) = ⊤
IsOther other = ⊥

-- an evaluation gives a text, which stands after what a text held before
abbrev pub AddsText : ValueOrFault → List ℕ → List ℕ → Type 0
AddsText due before after = (due ≡ gives (Text (text_in due))) × (after ≡ before ++ text_in due)

-- the same, or it gives a value that is no text
abbrev pub Appends : ValueOrFault → List ℕ → List ℕ → Bool → Type 0
Appends due before after true = AddsText due before after
Appends due before after false = IsOther due

-- the same of a text within the limit
abbrev pub JoinsText : ValueOrFault → List ℕ → List ℕ → Type 0
JoinsText due before after = AddsText due before after × (length (text_in due) ≤ MAX_TEXT)
