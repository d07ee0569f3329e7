use Rattle.std.proofs.Common.{◌∙◌, Ok, ap, refl, sym}
use Rattle.mit_rows.specs.Bags.{bag_of}
use Rattle.mit_ops.specs.Answers.{over}
use Rattle.mit_step.proofs.Sums.{gathered_all, gathered_fault, gathered_rows, gathered_step}
use Rattle.mit_step.proofs.whole.rows.flattened.Goals as goal

pub loop-row-init : goal.loop-row-init
unfolding over bag_of
loop-row-init c = rw (c.new-faults.ensures, c.new-made.ensures.items) (refl, refl)

pub add_flattened-requires-clause-typed : goal.add_flattened-requires-clause-typed
add_flattened-requires-clause-typed c = rw (← c.row-item.is) at (c.requires.typed c.loop-row.row-index c.row-item.result c.loop-row-test.true)

pub add_flattened-requires-clause-narrow : goal.add_flattened-requires-clause-narrow
add_flattened-requires-clause-narrow c = rw (← c.row-item.is) at (c.requires.narrow c.loop-row.row-index c.row-item.result c.loop-row-test.true)

pub loop-row-preserved : goal.loop-row-preserved
loop-row-preserved c =
    gathered_step _ c.args.rows.now c.loop-row.row-index c.row-item.result c.add_flattened.new.made.items c.add_flattened.new.faults c.answers_add_up.ensures.more
    c.loop-row-test.true c.row-item.is (c.in_ok-add_flattened.ensures _ c.loop-row.invariant)

pub returns-in-Ok : goal.returns-in-Ok
returns-in-Ok c =
    let all = gathered_all _ c.args.rows.now c.loop-row.row-index c.loop-row.made.items c.loop-row.faults c.loop-row-test.false c.loop-row.invariant in
    gathered_rows c.loop-row.made.items c.loop-row.faults _ _ c.in-Ok.ensures.ok all ∙ ap Ok (sym c.from_rows.ensures)

pub returns-in-Err : goal.returns-in-Err
returns-in-Err c =
    let all = gathered_all _ c.args.rows.now c.loop-row.row-index c.loop-row.made.items c.loop-row.faults c.loop-row-test.false c.loop-row.invariant in
    gathered_fault c.loop-row.made.items c.loop-row.faults _ c.in-Err.fault c.in-Err.ensures.err all
