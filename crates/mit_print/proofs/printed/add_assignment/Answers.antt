use Rattle.std.proofs.lemmas.Result.{on_ok_weaker}
use Rattle.mit_print.proofs.LineTexts.{assignment_added}
use Rattle.mit_print.proofs.printed.add_assignment.Goals as goal

pub returns : goal.returns
returns c =
    on_ok_weaker c.add_last.result
    (assignment_added c.args.text.now.items c.extend_from_slice.new.self.items c.add_name.new.text.items c.add_symbol.new.text.items c.add_op.new.text.items
    c.add_last.new.text.items c.args.indent.now c.args.target.now _
    c.in_ok-extend_from_slice.ensures.items c.in_ok-add_name.ensures c.in_ok-add_symbol.ensures (rw c.as_slice.ensures at c.in_ok-add_op.ensures))
    c.add_last.ensures
