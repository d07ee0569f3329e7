use Rattle.std.proofs.Common.{◌∙◌, ◌+◌, ◌++◌, ap, arith, refl}
use Rattle.mit_engine.specs.Running.{edge_parts_from, parts_from}
use Rattle.mit_engine.proofs.OperatorLemmas.{made_all, made_more}
use Rattle.mit_engine.proofs.job.offer_parts.Goals as goal

pub loop-at-preserved : goal.loop-at-preserved
unfolding parts_from
loop-at-preserved c =
    let at = c.loop-at.at in
    let operator = c.index-operators-at.result in
    let before = c.loop-at.offer.items in
    let grown = c.in_ok-offer_inputs.ensures ∙ ap (λ edges. before ++ edge_parts_from at 0 edges) c.as_slice.ensures in
    made_more (parts_from at) (parts_from (at + 1)) (edge_parts_from at 0 operator.inputs) c.args.operators.now at operator before c.offer_inputs.new.offer.items _ refl
    (omega arith) c.index-operators-at.is c.loop-at.invariant grown

pub returns : goal.returns
unfolding parts_from
returns c = made_all (parts_from c.loop-at.at) c.args.operators.now c.loop-at.at c.loop-at.offer.items _ refl (omega arith) c.loop-at.invariant
