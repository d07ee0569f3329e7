-- Captured scalars, one after another.
use Rattle.std.proofs.Common.{◌≡◌, ◌+◌, ◌≤◌, List, [], ◌∷◌, ◌++◌, length, Option, Some, None, option_map, arith, refl}
use Rattle.std.proofs.lemmas.List.{append_assoc, append-nil, length-append, length-map}
use Rattle.std.proofs.lemmas.Slice.Zip.{AllZip-long}
use Rattle.mit_rows.specs.Bags.{RowOf}
use Rattle.mit_rows.specs.declared.value.Value.{Value}
use Rattle.mit_ops.specs.Kinds.{bag_inputs_of}
use Rattle.mit_ops.specs.Operators.{captured, scalar_in}
use Rattle.mit_ops.specs.Parts.{Fits, HaveColumns, input_columns}
use Rattle.mit_ops.specs.declared.kinds.OpSpec.{OpSpec}

-- these values, and then those
abbrev pub after : List Value → Option (List Value) → Option (List Value)
after values later = option_map (λ more. values ++ more) later

pub after_nothing : (later : Option (List Value)) → after [] later ≡ later
after_nothing None = refl
after_nothing (Some values) = refl

pub no_scalar : (values : List Value) (rows : List RowOf) (later : List (List RowOf)) → scalar_in rows ≡ None → after values (captured (rows ∷ later)) ≡ None
unfolding captured
no_scalar values rows later none = rw none refl

again : (values : List Value) (value : Value) (later : Option (List Value)) → after values (option_map (λ more. value ∷ more) later) ≡ after (values ++ value ∷ []) later
again values value None = refl
again values value (Some more) = rw append_assoc refl

pub one_scalar : (values : List Value) (value : Value) (rows : List RowOf) (later : List (List RowOf)) → scalar_in rows ≡ Some value → after values (captured (rows ∷ later)) ≡ after (values ++ value ∷ []) (captured later)
unfolding captured
one_scalar values value rows later is = rw is (again values value (captured later))

pub no_more : (values : List Value) → after values (captured []) ≡ Some values
unfolding captured
no_more values = rw append-nil refl

-- the bags of an operator are among the lists that fit it
pub bags_first : (spec : OpSpec) (inputs : List (List RowOf)) → Fits spec inputs → bag_inputs_of spec ≤ length inputs
bags_first spec inputs (bags, captures, result, fits) =
    let long : length inputs ≡ length bags + length captures = rw (AllZip-long HaveColumns (input_columns bags captures) inputs fits.rows, length-append) (simp length-map) in
    omega (arith, long, fits.count)
