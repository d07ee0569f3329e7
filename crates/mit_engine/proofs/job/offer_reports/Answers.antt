use Rattle.std.proofs.Common.{◌≡◌, ◌+◌, ◌++◌, arith, refl}
use Rattle.mit_engine.specs.Running.{reports_from, where_any}
use Rattle.mit_engine.specs.declared.job.Action.TheVariants as action
use Rattle.mit_engine.proofs.OperatorLemmas.{made_all, made_more, not_offered, offered}
use Rattle.mit_engine.proofs.job.offer_reports.Goals as goal
use Rattle.mit_engine.proofs.job.offer_reports.Goals.{then-not-is_empty+in_ok-push, else-not-is_empty}

pub loop-at-preserved : goal.loop-at-preserved
unfolding reports_from
loop-at-preserved c =
    let at = c.loop-at.at in
    let reports = c.index-operators-at.result.reports in
    let before = c.loop-at.offer.items in
    let after = c.if-not-is_empty.offer.items in
    let grown : after ≡ before ++ where_any reports (action.Hear at) =
    elim c.if-not-is_empty.branch [
      | then-not-is_empty+in_ok-push w ↦
          offered reports (action.Hear at) before after c.is_empty.result c.is_empty.ensures w.if-not-is_empty.true (rw w.offer-is w.in_ok-push.ensures.items)
      | else-not-is_empty w ↦ not_offered reports (action.Hear at) before after c.is_empty.result c.is_empty.ensures w.if-not-is_empty.false (rw w.offer-is)
    ] in
    made_more (reports_from at) (reports_from (at + 1)) (where_any reports (action.Hear at)) c.args.operators.now at c.index-operators-at.result before after _ refl
    (omega arith) c.index-operators-at.is c.loop-at.invariant grown

pub returns : goal.returns
unfolding reports_from
returns c = made_all (reports_from c.loop-at.at) c.args.operators.now c.loop-at.at c.loop-at.offer.items _ refl (omega arith) c.loop-at.invariant
