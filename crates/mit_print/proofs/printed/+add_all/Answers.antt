use Rattle.std.proofs.lemmas.Result.{on_ok_weaker}
use Rattle.mit_print.proofs.StmtTexts.{added_four, added_three, assign_lines, block_text, branches_text, if_lines, line_alone, while_lines, write_lines}
use Rattle.mit_print.proofs.printed.+add_all.Goals as goal

pub add_stmt-returns-in-Assign : goal.add_stmt-returns-in-Assign
add_stmt-returns-in-Assign t c =
    rw (c.in-Assign.is, assign_lines c.args.names.now c.in-Assign.target c.in-Assign.op c.in-Assign.args c.args.indent.now, line_alone, ← c.variable_name.ensures)
    c.add_assignment.ensures

pub add_stmt-returns-in-Write : goal.add_stmt-returns-in-Write
add_stmt-returns-in-Write t c =
    rw (c.in-Write.is, write_lines c.args.names.now c.in-Write.op c.in-Write.args c.args.indent.now, line_alone) c.add_write.ensures

pub add_stmt-returns-in_ok-add_other-in-If : goal.add_stmt-returns-in_ok-add_other-in-If
add_stmt-returns-in_ok-add_other-in-If t c =
    rw (c.in-If.is, if_lines c.args.names.now c.in-If.op c.in-If.args c.in-If.yes c.in-If.no c.args.indent.now, branches_text, ← c.as_slice.ensures, ← c.as_slice-in-If.ensures)
    (on_ok_weaker c.add_end.result
    (added_four c.args.text.now.items c.add_condition.new.text.items c.add_block.new.text.items c.add_other.new.text.items c.add_end.new.text.items
    _ _ _ _ c.in_ok-add_condition-in-If.ensures c.in_ok-add_block-in-If.ensures c.in_ok-add_other-in-If.ensures)
    c.add_end.ensures)

pub add_stmt-returns-in_ok-add_block-in-While : goal.add_stmt-returns-in_ok-add_block-in-While
add_stmt-returns-in_ok-add_block-in-While t c =
    rw (c.in-While.is, while_lines c.args.names.now c.in-While.op c.in-While.args c.in-While.body c.args.indent.now, block_text, ← c.as_slice-in-While.ensures)
    (on_ok_weaker c.add_end-in-While.result
    (added_three c.args.text.now.items c.add_condition-in-While.new.text.items c.add_block-in-While.new.text.items c.add_end-in-While.new.text.items
    _ _ _ c.in_ok-add_condition-in-While.ensures c.in_ok-add_block-in-While.ensures)
    c.add_end-in-While.ensures)
