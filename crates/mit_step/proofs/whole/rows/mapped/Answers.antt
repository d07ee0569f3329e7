use Rattle.std.proofs.Common.{◌∙◌, sym}
use Rattle.mit_step.proofs.Sums.{over_start, over_step}
use Rattle.mit_step.proofs.whole.rows.mapped.Goals as goal

pub loop-row-init : goal.loop-row-init
loop-row-init c = c.new-answer.ensures ∙ sym (over_start _)

pub add_mapped-requires-clause-typed : goal.add_mapped-requires-clause-typed
add_mapped-requires-clause-typed c = rw (← c.row-item.is) at (c.requires.typed c.loop-row.row-index c.row-item.result c.loop-row-test.true)

pub loop-row-preserved : goal.loop-row-preserved
loop-row-preserved c =
    over_step _ c.args.rows.now c.loop-row.row-index c.row-item.result c.loop-row.answer c.add_mapped.new.answer c.answers_add_up.ensures.more
    c.loop-row-test.true c.row-item.is c.loop-row.invariant c.in_ok-add_mapped.ensures
