-- A copy gives the bag of its argument.
use Rattle.std.proofs.Common.{◌≡◌, ◌≤◌, ◌∙◌, ℕ, List, [], ◌∷◌, ◌++◌, All, Ok, ap, arith, drop, get_or, length, map, refl, subst, sym}
use Rattle.std.proofs.lemmas.List.Elements.{All-head, All-tail}
use Rattle.mit_rows.specs.Bags.{BagOf, IsBag, RowOf, all_rows, bag_of}
use Rattle.mit_rows.specs.declared.value.Value.{Value}
use Rattle.mit_files.specs.Files.{FileMap}
use Rattle.mit_ops.specs.Kinds.{bag_inputs_of}
use Rattle.mit_ops.specs.Operators.{whole}
use Rattle.mit_ops.specs.declared.kinds.OpSpec.{OpSpec}
use Rattle.mit_ops.specs.declared.kinds.OpSpec.TheVariants as op
use Rattle.mit_step.specs.Stepping.{with_captures}
use Rattle.mit_step.specs.Typing.{IsValue, inputs_in, stored_bag}
use Rattle.mit_step.proofs.Wholes.{one_bag, rows_themselves, whole_as}

-- the values that bags are
values_in : (bags : List BagOf) → All IsValue bags → (values : List Value) × (map (λ value. (value ∷ []) ∷ []) values ≡ bags)
values_in [] each = ([], refl)
values_in (bag ∷ bags) each =
    let first = All-head IsValue bag bags each in
    let rest = values_in bags (All-tail IsValue bag bags each) in
    (first.0 ∷ rest.0, λ i. sym first.1 i ∷ rest.1 i)

first_arg : (args : List ℕ) → 1 ≤ length args → args ≡ get_or args 0 0 ∷ drop 1 args
first_arg [] long = absurd (omega (arith, long))
first_arg (target ∷ args) long = refl

pub copy_whole : ((rows : List RowOf) → bag_of rows ≡ bag_of (bag_of rows)) → ((first second : List RowOf) → bag_of (bag_of first ++ bag_of second) ≡ bag_of (first ++ second))
    → (operator : OpSpec) (store : List BagOf) (args : List ℕ) (files : FileMap) → operator ≡ op.Copy → 1 ≤ length args → All IsValue (inputs_in store (drop (bag_inputs_of operator) args))
    → IsBag (stored_bag store (get_or args 0 0)) → whole operator (inputs_in store args) files ≡ Ok (stored_bag store (get_or args 0 0))
copy_whole sorted parts operator store args files is long captured ordered =
    let bag = stored_bag store (get_or args 0 0) in
    let values = values_in (inputs_in store (drop 1 args)) (subst (λ (kind : OpSpec). All IsValue (inputs_in store (drop (bag_inputs_of kind) args))) is captured) in
    let inputs : inputs_in store args ≡ with_captures (bag ∷ []) values.0 =
    ap (inputs_in store) (first_arg args long) ∙ ap (λ (rest : List BagOf). bag ∷ rest) (sym values.1) in
    (λ i. whole (is i) (inputs i) files) ∙ (whole_as op.Copy (bag ∷ []) values.0 refl files
    ∙ (rows_themselves sorted parts (all_rows (bag ∷ [])) ∙ ap Ok (ap bag_of (one_bag bag) ∙ sym ordered)))
