-- The value of an expression has the expression's type.
use Rattle.std.proofs.Common.{◌≡◌, ℤ, ◌+ℤ◌, ◌-ℤ◌, ◌*ℤ◌, List, length, map, Option, Some, None, refl, subst, pos, negsuc, zero, suc, Bool, true, false, not, ◌^◌, nat_lt, nat_le, slice_get, if◌then◌else◌, ℕ, ◌++◌, IsSome, option_map}
use Rattle.std.specs.Prelude.{⊤, int_div, int_rem}
use Rattle.std.specs.Ordering.{is_eq, is_gt, is_lt}
use Rattle.std.proofs.lemmas.Option.{slice_get-map}
use Rattle.mit_rows.specs.Integers.{int_of}
use Rattle.mit_rows.specs.Order.{value_cmp}
use Rattle.mit_rows.specs.declared.text.TheConstants.{MAX_TEXT}
use Rattle.mit_rows.specs.declared.value.Value.{Value}
use Rattle.mit_rows.specs.declared.value.Value.TheVariants as value
use Rattle.mit_rows.specs.declared.value.ColType.{ColType}
use Rattle.mit_rows.specs.declared.value.ColType.TheVariants as is
use Rattle.mit_expr.specs.declared.expr.BinOp.{BinOp}
use Rattle.mit_expr.specs.declared.expr.BinOp.TheVariants as op
use Rattle.mit_expr.specs.declared.expr.Call.{Call}
use Rattle.mit_expr.specs.declared.expr.Call.TheVariants as call
use Rattle.mit_expr.specs.declared.expr.Expr.{Expr}
use Rattle.mit_expr.specs.declared.expr.Expr.TheOpen.{Expr-F}
use Rattle.mit_expr.specs.declared.expr.Expr.TheOpen as expr
use Rattle.mit_expr.specs.declared.expr.Expr.TheFolds.{fold-roll-Expr, ind-Expr, map-Expr}
use Rattle.mit_expr.specs.declared.expr.Expr.TheViews.{roll-Expr}
use Rattle.mit_expr.specs.Types.{type_of_value, same_type, type_in, type_step, type_of_operator, type_of_call, where_are, where_is, where_same}
use Rattle.mit_expr.specs.Values.{IsTyped, ValueOrFault, ValueFault, gives, faults, untyped, overflow, text_too_long, value_in, value_step, value_at, combined, called, not_value, and_value, or_value, of_both, of_ints, of_texts, within, quotient, remainder, joined, number_or_fault, after_quotient}

-- an outcome is of this type, if one is given
abbrev HasType : Option ColType → ValueOrFault → Type 0
HasType None outcome = ⊤
HasType (Some is) outcome = IsTyped is outcome

fault_typed : (is : Option ColType) (fault : ValueFault) → HasType is (faults fault)
fault_typed None fault = tt
fault_typed (Some is) fault = tt

within_typed : (number : ℤ) → HasType (Some is.Int) (within number)
within_typed (pos size) = elim (nat_lt size (2 ^ 63)) as (λ b. HasType (Some is.Int) (if b then gives (value.Int (pos size)) else faults overflow)) [ true ↦ refl | false ↦ tt ]
within_typed (negsuc size) = elim (nat_lt size (2 ^ 63)) as (λ b. HasType (Some is.Int) (if b then gives (value.Int (negsuc size)) else faults overflow)) [ true ↦ refl | false ↦ tt ]

quotient_typed : (left right : ℤ) → HasType (Some is.Int) (quotient left right)
quotient_typed left (pos zero) = tt
quotient_typed left (pos (suc size)) = within_typed (int_div left (pos (suc size)))
quotient_typed left (negsuc size) = within_typed (int_div left (negsuc size))

after_quotient_typed : (rest : ℤ) (outcome : ValueOrFault) → HasType (Some is.Int) outcome → HasType (Some is.Int) (after_quotient rest outcome)
after_quotient_typed rest (gives value) h = within_typed rest
after_quotient_typed rest (faults fault) h = tt
after_quotient_typed rest untyped h = h

joined_typed : (left right : List ℕ) → HasType (Some is.Text) (joined left right)
joined_typed left right = elim (nat_le (length (left ++ right)) MAX_TEXT) as (λ b. HasType (Some is.Text) (if b then gives (value.Text (left ++ right)) else faults text_too_long)) [ true ↦ refl | false ↦ tt ]

ints_typed : (over : ℤ → ℤ → ValueOrFault) → ((a b : ℤ) → HasType (Some is.Int) (over a b)) → (lt rt : Option ColType) (left right : ValueOrFault) → HasType lt left → HasType rt right
    → HasType (where_are is.Int is.Int lt rt) (of_both (of_ints over) left right)
ints_typed over given (Some is.Int) (Some is.Int) (gives (value.Int a)) (gives (value.Int b)) l r = given a b
ints_typed over given (Some is.Int) (Some is.Int) (gives left) (gives right) l r = cc
ints_typed over given (Some is.Int) (Some is.Int) (gives left) (faults fault) l r = tt
ints_typed over given (Some is.Int) (Some is.Int) (gives left) untyped l r = absurd r
ints_typed over given (Some is.Int) (Some is.Int) (faults fault) right l r = tt
ints_typed over given (Some is.Int) (Some is.Int) untyped right l r = absurd l
ints_typed over given (Some is.Int) rt left right l r = tt
ints_typed over given lt rt left right l r = tt

texts_typed : (lt rt : Option ColType) (left right : ValueOrFault) → HasType lt left → HasType rt right → HasType (where_are is.Text is.Text lt rt) (of_both (of_texts joined) left right)
texts_typed (Some is.Text) (Some is.Text) (gives (value.Text a)) (gives (value.Text b)) l r = joined_typed a b
texts_typed (Some is.Text) (Some is.Text) (gives left) (gives right) l r = cc
texts_typed (Some is.Text) (Some is.Text) (gives left) (faults fault) l r = tt
texts_typed (Some is.Text) (Some is.Text) (gives left) untyped l r = absurd r
texts_typed (Some is.Text) (Some is.Text) (faults fault) right l r = tt
texts_typed (Some is.Text) (Some is.Text) untyped right l r = absurd l
texts_typed (Some is.Text) rt left right l r = tt
texts_typed lt rt left right l r = tt

truth_typed : (lt rt : Option ColType) (truth : Bool) → HasType (where_same lt rt) (gives (value.Bool truth))
truth_typed None rt truth = tt
truth_typed (Some left) None truth = tt
truth_typed (Some left) (Some right) truth = elim (same_type left right) as (λ b. HasType (if b then Some is.Bool else None) (gives (value.Bool truth))) [ true ↦ refl | false ↦ tt ]

comparison_typed : (over : Value → Value → Bool) (lt rt : Option ColType) (left right : ValueOrFault) → HasType lt left → HasType rt right
    → HasType (where_same lt rt) (of_both (λ a b. gives (value.Bool (over a b))) left right)
comparison_typed over None rt left right l r = tt
comparison_typed over (Some lt) None left right l r = tt
comparison_typed over (Some lt) (Some rt) (gives left) (gives right) l r = truth_typed (Some lt) (Some rt) (over left right)
comparison_typed over (Some lt) (Some rt) (gives left) (faults fault) l r = fault_typed (where_same (Some lt) (Some rt)) fault
comparison_typed over (Some lt) (Some rt) (gives left) untyped l r = absurd r
comparison_typed over (Some lt) (Some rt) (faults fault) right l r = fault_typed (where_same (Some lt) (Some rt)) fault
comparison_typed over (Some lt) (Some rt) untyped right l r = absurd l

and_typed : (lt rt : Option ColType) (left right : ValueOrFault) → HasType lt left → HasType rt right → HasType (where_are is.Bool is.Bool lt rt) (and_value left right)
and_typed (Some is.Bool) (Some is.Bool) (gives (value.Bool true)) right l r = r
and_typed (Some is.Bool) (Some is.Bool) (gives (value.Bool false)) right l r = refl
and_typed (Some is.Bool) (Some is.Bool) (gives left) right l r = cc
and_typed (Some is.Bool) (Some is.Bool) (faults fault) right l r = tt
and_typed (Some is.Bool) (Some is.Bool) untyped right l r = absurd l
and_typed (Some is.Bool) rt left right l r = tt
and_typed lt rt left right l r = tt

or_typed : (lt rt : Option ColType) (left right : ValueOrFault) → HasType lt left → HasType rt right → HasType (where_are is.Bool is.Bool lt rt) (or_value left right)
or_typed (Some is.Bool) (Some is.Bool) (gives (value.Bool true)) right l r = refl
or_typed (Some is.Bool) (Some is.Bool) (gives (value.Bool false)) right l r = r
or_typed (Some is.Bool) (Some is.Bool) (gives left) right l r = cc
or_typed (Some is.Bool) (Some is.Bool) (faults fault) right l r = tt
or_typed (Some is.Bool) (Some is.Bool) untyped right l r = absurd l
or_typed (Some is.Bool) rt left right l r = tt
or_typed lt rt left right l r = tt

combined_typed : (operator : BinOp) (lt rt : Option ColType) (left right : ValueOrFault) → HasType lt left → HasType rt right → HasType (type_of_operator operator lt rt) (combined operator left right)
combined_typed op.Add lt rt left right l r = ints_typed (λ a b. within (a +ℤ b)) (λ a b. within_typed (a +ℤ b)) lt rt left right l r
combined_typed op.Sub lt rt left right l r = ints_typed (λ a b. within (a -ℤ b)) (λ a b. within_typed (a -ℤ b)) lt rt left right l r
combined_typed op.Mul lt rt left right l r = ints_typed (λ a b. within (a *ℤ b)) (λ a b. within_typed (a *ℤ b)) lt rt left right l r
combined_typed op.Div lt rt left right l r = ints_typed quotient quotient_typed lt rt left right l r
combined_typed op.Rem lt rt left right l r = ints_typed remainder (λ a b. after_quotient_typed (int_rem a b) (quotient a b) (quotient_typed a b)) lt rt left right l r
combined_typed op.Concat lt rt left right l r = texts_typed lt rt left right l r
combined_typed op.Eq lt rt left right l r = comparison_typed (λ a b. is_eq (value_cmp a b)) lt rt left right l r
combined_typed op.Ne lt rt left right l r = comparison_typed (λ a b. not (is_eq (value_cmp a b))) lt rt left right l r
combined_typed op.Lt lt rt left right l r = comparison_typed (λ a b. is_lt (value_cmp a b)) lt rt left right l r
combined_typed op.Le lt rt left right l r = comparison_typed (λ a b. not (is_gt (value_cmp a b))) lt rt left right l r
combined_typed op.Gt lt rt left right l r = comparison_typed (λ a b. is_gt (value_cmp a b)) lt rt left right l r
combined_typed op.Ge lt rt left right l r = comparison_typed (λ a b. not (is_lt (value_cmp a b))) lt rt left right l r
combined_typed op.And lt rt left right l r = and_typed lt rt left right l r
combined_typed op.Or lt rt left right l r = or_typed lt rt left right l r

not_typed : (it : Option ColType) (arg : ValueOrFault) → HasType it arg → HasType (where_is is.Bool is.Bool it) (not_value arg)
not_typed (Some is.Bool) (gives (value.Bool arg)) a = refl
not_typed (Some is.Bool) (gives arg) a = cc
not_typed (Some is.Bool) (faults fault) a = tt
not_typed (Some is.Bool) untyped a = absurd a
not_typed it arg a = tt

number_typed : (number : Option ℤ) → HasType (Some is.Int) (number_or_fault number)
number_typed None = tt
number_typed (Some number) = refl

called_typed : (function : Call) (it : Option ColType) (arg : ValueOrFault) → HasType it arg → HasType (type_of_call function it) (called function arg)
called_typed call.ToText (Some is.Int) (gives (value.Int arg)) a = refl
called_typed call.ToText (Some is.Int) (gives arg) a = cc
called_typed call.ToText (Some is.Int) (faults fault) a = tt
called_typed call.ToText (Some is.Int) untyped a = absurd a
called_typed call.ToText it arg a = tt
called_typed call.ToInt (Some is.Text) (gives (value.Text arg)) a = number_typed (int_of arg)
called_typed call.ToInt (Some is.Text) (gives arg) a = cc
called_typed call.ToInt (Some is.Text) (faults fault) a = tt
called_typed call.ToInt (Some is.Text) untyped a = absurd a
called_typed call.ToInt it arg a = tt
called_typed call.Len (Some is.Text) (gives (value.Text arg)) a = refl
called_typed call.Len (Some is.Text) (gives arg) a = cc
called_typed call.Len (Some is.Text) (faults fault) a = tt
called_typed call.Len (Some is.Text) untyped a = absurd a
called_typed call.Len it arg a = tt

some_typed : (found : Option Value) → HasType (option_map type_of_value found) (value_at found)
some_typed None = tt
some_typed (Some value) = refl

found_typed : (values : List Value) (place : ℕ) → HasType (slice_get (map type_of_value values) place) (value_at (slice_get values place))
found_typed values place = rw (slice_get-map type_of_value values place) (some_typed (slice_get values place))

abbrev Typed : List Value → List Value → Expr → Type 0
Typed row captures e = HasType (type_in (map type_of_value row) (map type_of_value captures) e) (value_in row captures e)

abbrev Operand : List Value → List Value → Type 0
Operand row captures = (e : Expr) × Typed row captures e

rolled : (row captures : List Value) (layer : Expr-F Expr) → HasType (type_step (map type_of_value row) (map type_of_value captures) (map-Expr Expr (Option ColType) (type_in (map type_of_value row) (map type_of_value captures)) layer)) (value_step row captures (map-Expr Expr ValueOrFault (value_in row captures) layer)) → Typed row captures (roll-Expr layer)
rolled row captures layer h = rw (fold-roll-Expr (Option ColType) (type_step (map type_of_value row) (map type_of_value captures)) layer, fold-roll-Expr ValueOrFault (value_step row captures) layer) h

layer_typed : (row captures : List Value) (layer : Expr-F (Operand row captures)) → Typed row captures (roll-Expr (map-Expr (Operand row captures) Expr (λ e. e.0) layer))
layer_typed row captures (expr.Column place) = rolled row captures (expr.Column place) (found_typed row place)
layer_typed row captures (expr.Capture place) = rolled row captures (expr.Capture place) (found_typed captures place)
layer_typed row captures (expr.Lit value) = rolled row captures (expr.Lit value) refl
layer_typed row captures (expr.Bin operator left right) = rolled row captures (expr.Bin operator left.0 right.0) (combined_typed operator _ _ _ _ left.1 right.1)
layer_typed row captures (expr.Not arg) = rolled row captures (expr.Not arg.0) (not_typed _ _ arg.1)
layer_typed row captures (expr.Call function arg) = rolled row captures (expr.Call function arg.0) (called_typed function _ _ arg.1)

typed : (row captures : List Value) (e : Expr) → Typed row captures e
typed row captures = ind-Expr (Typed row captures) (λ x layer same. subst (λ z. Typed row captures (roll-Expr z)) same (layer_typed row captures layer))

typed_value : (is : Option ColType) (due : ValueOrFault) (value : Value) → HasType is due → IsSome is → due ≡ gives value → is ≡ Some (type_of_value value)
typed_value None due value h s e = cc
typed_value (Some is) (gives found) value h s e = cc
typed_value (Some is) (faults fault) value h s e = cc
typed_value (Some is) untyped value h s e = cc

typed_never : (is : Option ColType) (due : ValueOrFault) → HasType is due → IsSome is → due ≡ untyped → ⊥
typed_never None due h s e = cc
typed_never (Some is) (gives found) h s e = cc
typed_never (Some is) (faults fault) h s e = cc
typed_never (Some is) untyped h s e = h

-- an expression with a type has a value or a fault
pub never_untyped : (row captures : List Value) (e : Expr) → IsSome (type_in (map type_of_value row) (map type_of_value captures) e) → value_in row captures e ≡ untyped → ⊥
never_untyped row captures e s is = typed_never _ _ (typed row captures e) s is

-- its value has that type
pub given_typed : (row captures : List Value) (e : Expr) (value : Value) → IsSome (type_in (map type_of_value row) (map type_of_value captures) e) → value_in row captures e ≡ gives value
    → type_in (map type_of_value row) (map type_of_value captures) e ≡ Some (type_of_value value)
given_typed row captures e value s is = typed_value _ _ value (typed row captures e) s is

-- an expression that has a type has a value of it, or a fault
pub typing : (row captures : List Value) (e : Expr) (is : ColType) → type_in (map type_of_value row) (map type_of_value captures) e ≡ Some is → IsTyped is (value_in row captures e)
typing row captures e is has = subst (λ (t : Option ColType). HasType t (value_in row captures e)) has (typed row captures e)
