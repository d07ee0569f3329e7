use Rattle.std.proofs.lemmas.Result.{on_ok_weaker}
use Rattle.mit_print.proofs.ExprTexts.{bin_added, call_added, not_added}
use Rattle.mit_print.proofs.printed_tokens.+add_expr.Goals as goal

pub returns-in_ok-add_expr-in-Bin-2 : goal.returns-in_ok-add_expr-in-Bin-2
returns-in_ok-add_expr-in-Bin-2 t c =
    on_ok_weaker c.add_closing.result
    (bin_added c.args.names.now c.args.captured.now c.args.expr.now c.in-Bin.left c.in-Bin.right c.get.result.now c.get-in-Bin.result.now c.in-Bin.op
    c.args.rank c.rank_of.result c.left_rank.result c.right_rank.result c.rank_of-in-Bin.result
    c.args.text.now.items c.add_opening.new.text.items c.add_expr.new.text.items c.add_operator.new.text.items c.add_expr-in-Bin.new.text.items
    c.add_closing.new.text.items
    c.in-Bin.is c.rank_of.ensures.value c.get.ensures c.left_rank.ensures c.get-in-Bin.ensures c.right_rank.ensures c.rank_of-in-Bin.ensures.value
    c.in_ok-add_opening-in-Bin.ensures c.in_ok-add_expr-in-Bin.ensures c.in_ok-add_operator-in-Bin.ensures c.in_ok-add_expr-in-Bin-2.ensures)
    c.add_closing.ensures

pub returns-in_ok-add_expr-in-Not : goal.returns-in_ok-add_expr-in-Not
returns-in_ok-add_expr-in-Not t c =
    on_ok_weaker c.add_closing-in-Not.result
    (not_added c.args.names.now c.args.captured.now c.args.expr.now c.in-Not.arg c.get-in-Not.result.now c.args.rank
    c.args.text.now.items c.add_opening-in-Not.new.text.items c.add_keyword.new.text.items c.add_expr-in-Not.new.text.items c.add_closing-in-Not.new.text.items
    c.in-Not.is c.get-in-Not.ensures c.in_ok-add_opening-in-Not.ensures c.in_ok-add_keyword-in-Not.ensures c.in_ok-add_expr-in-Not.ensures)
    c.add_closing-in-Not.ensures

pub returns-in_ok-add_expr-in-Call : goal.returns-in_ok-add_expr-in-Call
returns-in_ok-add_expr-in-Call t c =
    on_ok_weaker c.add_symbol-in-Call.result
    (call_added c.args.names.now c.args.captured.now c.args.expr.now c.in-Call.arg c.get-in-Call.result.now c.in-Call.call c.args.rank
    c.args.text.now.items c.add_function.new.text.items c.add_symbol.new.text.items c.add_expr-in-Call.new.text.items c.add_symbol-in-Call.new.text.items
    c.in-Call.is c.get-in-Call.ensures c.in_ok-add_function-in-Call.ensures c.in_ok-add_symbol-in-Call.ensures c.in_ok-add_expr-in-Call.ensures)
    c.add_symbol-in-Call.ensures
