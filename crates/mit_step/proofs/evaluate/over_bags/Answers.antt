use Rattle.std.proofs.Common.{◌≡◌, ◌∙◌, ◌∷◌, [], Ok, ap, drop, length, map, refl, subst, sym, take}
use Rattle.std.specs.Prelude.{All}
use Rattle.std.specs.FinMap as fin
use Rattle.std.proofs.lemmas.List.{length-map, length-take-le}
use Rattle.mit_ops.specs.Kinds.{bag_inputs_of}
use Rattle.mit_ops.specs.Operators.{whole}
use Rattle.mit_ops.specs.Parts.{Fits}
use Rattle.mit_step.specs.Typing.{IsValue, inputs_in, stored_bag}
use Rattle.mit_step.proofs.Inputs.{same_inputs}
use Rattle.mit_step.proofs.evaluate.over_bags.Goals as goal

pub values_of-requires-clause-values : goal.values_of-requires-clause-values
values_of-requires-clause-values c =
    let count : c.from.result ≡ bag_inputs_of c.args.op.now = c.from.ensures ∙ c.bag_inputs.ensures in
    subst (λ args. All IsValue (inputs_in c.args.store.now args)) (sym (c.split_at.ensures.back ∙ ap (λ n. drop n c.args.args.now) count)) c.requires.argued.values

pub whole_loose-requires-clause-count : goal.whole_loose-requires-clause-count
whole_loose-requires-clause-count c =
    let count : c.from.result ≡ bag_inputs_of c.args.op.now = c.from.ensures ∙ c.bag_inputs.ensures in
    let front : c.split_at.result.0.now ≡ take (bag_inputs_of c.args.op.now) c.args.args.now = c.split_at.ensures.front ∙ ap (λ n. take n c.args.args.now) count in
    ap length c.deref.ensures.value ∙ (sym (length-map c.in_ok-bags.bags.items (λ bag. bag.value)) ∙ (ap length c.in_ok-bags.ensures
    ∙ (length-map c.split_at.result.0.now (stored_bag c.args.store.now) ∙ (ap length front ∙ length-take-le (bag_inputs_of c.args.op.now) c.args.args.now c.requires.argued.complete))))

pub whole_loose-requires-clause-fits : goal.whole_loose-requires-clause-fits
whole_loose-requires-clause-fits c =
    let same = same_inputs c.args.store.now c.args.args.now c.from.result (map (λ bag. bag.value) c.deref.result.now) c.deref-2.result.now
    (ap (map (λ bag. bag.value)) c.deref.ensures.value ∙ (c.in_ok-bags.ensures ∙ ap (inputs_in c.args.store.now) c.split_at.ensures.front))
    (ap (map (λ value. (value ∷ []) ∷ [])) c.deref-2.ensures.value ∙ (c.in_ok-values.ensures ∙ ap (inputs_in c.args.store.now) c.split_at.ensures.back)) in
    subst (Fits c.args.op.now) (sym same) c.requires.argued.fits

pub returns-in-Ok-clause-bag : goal.returns-in-Ok-clause-bag
returns-in-Ok-clause-bag c = λ files.
    let same = same_inputs c.args.store.now c.args.args.now c.from.result (map (λ bag. bag.value) c.deref.result.now) c.deref-2.result.now
    (ap (map (λ bag. bag.value)) c.deref.ensures.value ∙ (c.in_ok-bags.ensures ∙ ap (inputs_in c.args.store.now) c.split_at.ensures.front))
    (ap (map (λ value. (value ∷ []) ∷ [])) c.deref-2.ensures.value ∙ (c.in_ok-values.ensures ∙ ap (inputs_in c.args.store.now) c.split_at.ensures.back)) in
    c.files_law.ensures.whole c.args.op.now (inputs_in c.args.store.now c.args.args.now) files fin.empty c.requires.kind.0
    ∙ (ap (λ inputs. whole c.args.op.now inputs fin.empty) (sym same) ∙ (c.in-Ok.ensures ∙ ap Ok (sym c.in_ok-shared-in-Ok.ensures)))

pub returns-in-Err-Fault-clause-bag : goal.returns-in-Err-Fault-clause-bag
returns-in-Err-Fault-clause-bag c = λ files.
    let same = same_inputs c.args.store.now c.args.args.now c.from.result (map (λ bag. bag.value) c.deref.result.now) c.deref-2.result.now
    (ap (map (λ bag. bag.value)) c.deref.ensures.value ∙ (c.in_ok-bags.ensures ∙ ap (inputs_in c.args.store.now) c.split_at.ensures.front))
    (ap (map (λ value. (value ∷ []) ∷ [])) c.deref-2.ensures.value ∙ (c.in_ok-values.ensures ∙ ap (inputs_in c.args.store.now) c.split_at.ensures.back)) in (
      c.in-Err-Fault.fault,
      c.files_law.ensures.whole c.args.op.now (inputs_in c.args.store.now c.args.args.now) files fin.empty c.requires.kind.0
          ∙ (ap (λ inputs. whole c.args.op.now inputs fin.empty) (sym same) ∙ (rw c.in-Err-Fault.field-0-is at c.in-Err-Fault.ensures)),
      rw c.in-Err-Fault.field-0-is refl,
    )
