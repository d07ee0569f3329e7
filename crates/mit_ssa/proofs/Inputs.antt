-- The inputs of an operator, and the definitions of phis, one after another.
use Rattle.std.proofs.Common.{◌≡◌, ◌∙◌, ◌<◌, ◌≤◌, ◌+◌, ℕ, suc, List, [], ◌∷◌, ◌++◌, length, get_or, drop, ap, sym, arith, append_assoc}
use Rattle.std.proofs.lemmas.List.{append-nil, drop_all, drop_more}
use Rattle.mit_ops.specs.Routes.{route_to}
use Rattle.mit_ops.specs.declared.kinds.OpSpec.{OpSpec}
use Rattle.mit_ops.specs.declared.types.VarType.{VarType}
use Rattle.mit_ssa.specs.Weaving.{defined_variables, put_in, putting}
use Rattle.mit_ssa.specs.Woven.{Defined, defining, definition_of, inputs_from, width_of, with_phis}
use Rattle.mit_ssa.specs.declared.block.Source.{Source}
use Rattle.mit_ssa.specs.declared.defined.Definition.{Definition}

pub inputs_more : (types : List VarType) (defined : Defined) (operator : OpSpec) (args : List ℕ) (input : ℕ) (so_far new whole : List Source) (source : Source)
    → input < length args → source.from ≡ definition_of defined (get_or args input 0) → source.route ≡ route_to operator input (width_of types (get_or args input 0))
    → new ≡ so_far ++ source ∷ [] → so_far ++ inputs_from types defined operator input (drop input args) ≡ whole
    → new ++ inputs_from types defined operator (input + 1) (drop (input + 1) args) ≡ whole
unfolding inputs_from
inputs_more types defined operator args input so_far new whole source within from route pushed given =
    let next : input + 1 ≡ suc input = omega arith in
    ap (λ list. list ++ inputs_from types defined operator (input + 1) (drop (input + 1) args)) pushed
    ∙ (append_assoc so_far (source ∷ []) (inputs_from types defined operator (input + 1) (drop (input + 1) args))
    ∙ ((λ i. so_far ++ record { from = from i; route = route i } ∷ inputs_from types defined operator (next i) (drop (input + 1) args))
    ∙ (ap (λ list. so_far ++ inputs_from types defined operator input list) (sym (drop_more args input 0 within)) ∙ given)))

pub inputs_all : (types : List VarType) (defined : Defined) (operator : OpSpec) (args : List ℕ) (input : ℕ) (so_far whole : List Source)
    → length args ≤ input → so_far ++ inputs_from types defined operator input (drop input args) ≡ whole → so_far ≡ whole
unfolding inputs_from
inputs_all types defined operator args input so_far whole past given =
    sym (append-nil so_far) ∙ (ap (λ list. so_far ++ inputs_from types defined operator input list) (sym (drop_all input args past)) ∙ given)

pub phis_more : (now new whole : Defined) (number index : ℕ) (phis : List Definition) (none : Definition) → index < length phis
    → new ≡ defining now (get_or phis index none).variable number → with_phis now number (defined_variables (drop index phis)) ≡ whole
    → with_phis new (number + 1) (defined_variables (drop (index + 1) phis)) ≡ whole
unfolding with_phis
phis_more now new whole number index phis none within is given =
    let next : number + 1 ≡ suc number = omega arith in
    (λ i. with_phis (is i) (next i) (defined_variables (drop (index + 1) phis)))
    ∙ (ap (λ list. with_phis now number (defined_variables list)) (sym (drop_more phis index none within)) ∙ given)

pub phis_all : (now whole : Defined) (number index : ℕ) (phis : List Definition) → length phis ≤ index
    → with_phis now number (defined_variables (drop index phis)) ≡ whole → now ≡ whole
unfolding with_phis
phis_all now whole number index phis past given = ap (λ list. with_phis now number (defined_variables list)) (sym (drop_all index phis past)) ∙ given

pub put_in_more : (now new whole : Defined) (index : ℕ) (kept : List Definition) (none : Definition) → index < length kept
    → new ≡ putting now (get_or kept index none).variable (get_or kept index none).value → put_in now (drop index kept) ≡ whole
    → put_in new (drop (index + 1) kept) ≡ whole
unfolding put_in
put_in_more now new whole index kept none within is given =
    (λ i. put_in (is i) (drop (index + 1) kept)) ∙ (ap (put_in now) (sym (drop_more kept index none within)) ∙ given)

pub put_in_all : (now whole : Defined) (index : ℕ) (kept : List Definition) → length kept ≤ index → put_in now (drop index kept) ≡ whole → now ≡ whole
unfolding put_in
put_in_all now whole index kept past given = ap (put_in now) (sym (drop_all index kept past)) ∙ given
