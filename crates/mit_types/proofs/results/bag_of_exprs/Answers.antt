-- A type is added at each turn.
use Rattle.std.proofs.Common.{◌≡◌, ◌∙◌, Some, None, get_or, option_map, ap, sym}
use Rattle.mit_expr.specs.Types.{type_in}
use Rattle.mit_ops.specs.Results as due
use Rattle.mit_types.proofs.TypeLists.{all_types, next_type, no_type}
use Rattle.mit_types.proofs.results.bag_of_exprs.Goals as goal

pub returns-in_default : goal.returns-in_default
returns-in_default c =
    let types = type_in c.args.columns.now c.args.captures.now in
    let here : types (get_or c.args.exprs.now c.loop-expr.expr-index c.expr-item.result) ≡ None = ap types (sym c.expr-item.is) ∙ sym c.expr_type.ensures ∙ c.in_default.is in
    ap (option_map due.bag) (sym (no_type types c.args.exprs.now _ _ _ _ c.loop-expr-test.true here c.loop-expr.invariant))

pub loop-expr-preserved : goal.loop-expr-preserved
loop-expr-preserved c =
    let types = type_in c.args.columns.now c.args.captures.now in
    let here : types (get_or c.args.exprs.now c.loop-expr.expr-index c.expr-item.result) ≡ Some c.in-Some.is' = ap types (sym c.expr-item.is) ∙ sym c.expr_type.ensures ∙ c.in-Some.is in
    next_type types c.args.exprs.now _ _ _ _ _ _ c.loop-expr-test.true here c.in_ok-push.ensures.items c.loop-expr.invariant

pub returns : goal.returns
returns c =
    let types = type_in c.args.columns.now c.args.captures.now in
    ap Some c.bag.ensures ∙ ap (option_map due.bag) (sym (all_types types c.args.exprs.now _ _ _ c.loop-expr-test.false c.loop-expr.invariant))
