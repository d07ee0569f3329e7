-- The bags and the captured values of an operator's arguments.
use Rattle.std.proofs.Common.{◌≡◌, ◌∙◌, ◌<◌, ℕ, List, [], ◌∷◌, All, ap, arith, drop, get_or, length, map, subst, sym, take}
use Rattle.std.proofs.lemmas.List.{get_or-map, length-map, map-append, take-append-drop}
use Rattle.mit_rows.specs.Bags.{BagOf}
use Rattle.mit_rows.specs.declared.value.Value.{Value}
use Rattle.mit_step.specs.Stepping.{with_captures}
use Rattle.mit_step.specs.Typing.{IsValue, inputs_in, stored_bag}

-- a captured scalar is a value
pub value_at : (store : List BagOf) (args : List ℕ) (at : ℕ) (bag : BagOf) → at < length args → All IsValue (inputs_in store args) → bag ≡ stored_bag store (get_or args at 0) → IsValue bag
value_at store args at bag within values is =
    let long = length-map args (stored_bag store) in
    subst IsValue (get_or-map (stored_bag store) args at 0 [] within ∙ sym is) (values at [] (omega (arith, long, within)))

-- the bags and then the captured values are all of the inputs
pub same_inputs : (store : List BagOf) (args : List ℕ) (count : ℕ) (bags : List BagOf) (values : List Value) → bags ≡ inputs_in store (take count args)
    → map (λ value. (value ∷ []) ∷ []) values ≡ inputs_in store (drop count args) → with_captures bags values ≡ inputs_in store args
same_inputs store args count bags values one other =
    rw (one, other) (sym (map-append (stored_bag store) (take count args) (drop count args)) ∙ ap (inputs_in store) (take-append-drop count args))
