use Rattle.std.proofs.lemmas.Result.{IfOk-weaker}
use Rattle.mit_ssa.proofs.Marking.{Marks, marks_all, marks_if, marks_more, marks_while}
use Rattle.mit_ssa.proofs.changed.+mark_all.Goals as goal

pub mark_all-loop-stmt-preserved : goal.mark_all-loop-stmt-preserved
mark_all-loop-stmt-preserved t c =
    marks_more c.args.block.now c.loop-stmt.stmt-index c.stmt-item.result c.args.marks.items c.loop-stmt.after.items c.in_ok-after.after.items
    c.loop-stmt-test.true c.stmt-item.is c.loop-stmt.invariant c.in_ok-after.ensures

pub mark_all-returns : goal.mark_all-returns
mark_all-returns t c =
    marks_all c.args.block.now c.loop-stmt.stmt-index c.args.marks.items c.loop-stmt.after.items c.loop-stmt-test.false c.loop-stmt.invariant

pub mark_one-returns-in_ok-mark_all-in-If : goal.mark_one-returns-in_ok-mark_all-in-If
mark_one-returns-in_ok-mark_all-in-If t c =
    IfOk-weaker c.mark_all-in-If.result (λ after. Marks c.in_ok-mark_all-in-If.field-0.items after.items c.as_slice-in-If.result.now) _
    (λ after second. marks_if c.in-If.op c.in-If.args c.in-If.yes c.in-If.no c.as_slice.result.now c.as_slice-in-If.result.now c.args.stmt.now
    c.args.marks.items c.in_ok-mark_all-in-If.field-0.items after.items c.in-If.is c.as_slice.ensures c.as_slice-in-If.ensures
    c.in_ok-mark_all-in-If.ensures second) c.mark_all-in-If.ensures

pub mark_one-returns-in-While : goal.mark_one-returns-in-While
mark_one-returns-in-While t c =
    IfOk-weaker c.mark_all-in-While.result (λ after. Marks c.args.marks.items after.items c.as_slice-in-While.result.now) _
    (λ after first. marks_while c.in-While.op c.in-While.args c.in-While.body c.as_slice-in-While.result.now c.args.stmt.now
    c.args.marks.items after.items c.in-While.is c.as_slice-in-While.ensures first) c.mark_all-in-While.ensures
