use Rattle.std.proofs.Common.{◌≡◌, ◌∙◌, ◌+◌, ◌++◌, arith, length, refl, sym}
use Rattle.std.specs.Prelude.{◌==◌}
use Rattle.std.proofs.lemmas.Bool.{not-false, not-true}
use Rattle.mit_engine.specs.Running.{edge_parts_from, where_any}
use Rattle.mit_engine.specs.declared.job.Action.TheVariants as action
use Rattle.mit_engine.proofs.OperatorLemmas.{made_all, made_more, not_offered, offered}
use Rattle.mit_engine.proofs.job.offer_inputs.Goals as goal
use Rattle.mit_engine.proofs.job.offer_inputs.Goals.{then-has_message+in_ok-push, else-has_message}

pub loop-input-preserved : goal.loop-input-preserved
unfolding edge_parts_from
loop-input-preserved c =
    let at = c.args.at in
    let input = c.loop-input.input in
    let parts = c.index-edges-input.result.parts in
    let empty = length parts == 0 in
    let before = c.loop-input.offer.items in
    let after = c.if-has_message.offer.items in
    let grown : after ≡ before ++ where_any parts (action.Take at input) =
    elim c.if-has_message.branch [
      | then-has_message+in_ok-push w ↦
          offered parts (action.Take at input) before after empty refl (not-true empty (sym c.has_message.ensures ∙ w.if-has_message.true)) (rw w.offer-is w.in_ok-push.ensures.items)
      | else-has_message w ↦
          not_offered parts (action.Take at input) before after empty refl (not-false empty (sym c.has_message.ensures ∙ w.if-has_message.false)) (rw w.offer-is)
    ] in
    made_more (edge_parts_from at input) (edge_parts_from at (input + 1)) (where_any parts (action.Take at input)) c.args.edges.now input c.index-edges-input.result before after _ refl
    (omega arith) c.index-edges-input.is c.loop-input.invariant grown

pub returns : goal.returns
unfolding edge_parts_from
returns c = made_all (edge_parts_from c.args.at c.loop-input.input) c.args.edges.now c.loop-input.input c.loop-input.offer.items _ refl (omega arith) c.loop-input.invariant
