use Rattle.std.proofs.Common.{◌≡◌, take}
use Rattle.mit_ops.proofs.lists.Exprs.copy.Given as goal

abbrev pub invariant-loop-expr : goal.invariant-loop-expr
invariant-loop-expr l = l.exprs.items ≡ take l.expr-index l.expr-items
