use Rattle.std.proofs.Common.{◌-◌, codes, ◌++◌, append-nil, drop, length, sym, take}
use Rattle.mit_lex.specs.Written.{token_text}
use Rattle.mit_print.specs.PrintedTokens.{comma, expr_tokens}
use Rattle.mit_print.proofs.ListedTexts.{listed_all, listed_more}
use Rattle.mit_print.proofs.printed_tokens.add_listed_exprs.Goals as goal

pub loop-expr-init : goal.loop-expr-init
loop-expr-init c = sym (append-nil c.add_expr.new.text.items)

pub loop-expr-preserved : goal.loop-expr-preserved
loop-expr-preserved c =
    listed_more (expr_tokens c.args.names.now c.args.captured.now) (λ kind. token_text kind ++ codes " ") comma c.add_expr.new.text.items c.loop-expr.text.items c.add_symbol.new.text.items
    c.add_expr-in-loop-expr.new.text.items (take (length c.args.exprs.now - 1) (drop 1 c.args.exprs.now)) c.loop-expr.expr-index
    c.expr-item.result c.expr-item.result c.loop-expr-test.true c.expr-item.is c.loop-expr.invariant c.in_ok-add_symbol.ensures c.in_ok-add_expr-2.ensures

pub returns : goal.returns
returns c =
    listed_all (expr_tokens c.args.names.now c.args.captured.now) (λ kind. token_text kind ++ codes " ") comma c.args.text.now.items c.add_expr.new.text.items
    c.loop-expr.text.items c.args.exprs.now c.loop-expr.expr-index c.first-item.result c.first-item.result c.in-len1-up.len_at_least c.first-item.is
    c.loop-expr-test.false c.in_ok-add_expr.ensures c.loop-expr.invariant
