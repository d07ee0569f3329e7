use Rattle.std.proofs.Common.{◌≡◌, ◌+◌, ◌++◌, [], ◌∷◌, arith, refl}
use Rattle.std.specs.Prelude.{if◌then◌else◌}
use Rattle.mit_engine.specs.Operators.{is_pollable}
use Rattle.mit_engine.specs.Running.{polls_from}
use Rattle.mit_engine.specs.declared.job.Action.TheVariants as action
use Rattle.mit_engine.proofs.OperatorLemmas.{made_all, made_more, poll_not_offered, poll_offered}
use Rattle.mit_engine.proofs.job.offer_polls.Goals as goal
use Rattle.mit_engine.proofs.job.offer_polls.Goals.{then-can_poll+in_ok-push, else-can_poll}

pub loop-at-preserved : goal.loop-at-preserved
unfolding polls_from
loop-at-preserved c =
    let at = c.loop-at.at in
    let operator = c.index-operators-at.result in
    let can = is_pollable operator in
    let before = c.loop-at.offer.items in
    let after = c.if-can_poll.offer.items in
    let grown : after ≡ before ++ (if can then action.Poll at ∷ [] else []) =
    elim c.if-can_poll.branch [
      | then-can_poll+in_ok-push w ↦
          poll_offered can (action.Poll at) before after c.can_poll.result c.can_poll.ensures w.if-can_poll.true (rw w.offer-is w.in_ok-push.ensures.items)
      | else-can_poll w ↦ poll_not_offered can (action.Poll at) before after c.can_poll.result c.can_poll.ensures w.if-can_poll.false (rw w.offer-is)
    ] in
    made_more (polls_from at) (polls_from (at + 1)) (if can then action.Poll at ∷ [] else []) c.args.operators.now at operator before after _ refl
    (omega arith) c.index-operators-at.is c.loop-at.invariant grown

pub returns : goal.returns
unfolding polls_from
returns c = made_all (polls_from c.loop-at.at) c.args.operators.now c.loop-at.at c.loop-at.offer.items _ refl (omega arith) c.loop-at.invariant
