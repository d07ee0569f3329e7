-- The depth of the deeper operand, and among calls at one depth the caller above the called.
use Rattle.std.proofs.Common.{◌+◌, ◌*◌, max}
use Rattle.mit_expr.specs.declared.expr.Expr.{size-Expr}
use Rattle.mit_eval.proofs.values.+evaluate.Given as goal

abbrev pub decreases-evaluate : goal.decreases-evaluate
decreases-evaluate l = 4 * size-Expr l.expr.now

abbrev pub decreases-append : goal.decreases-append
decreases-append l = 4 * size-Expr l.expr.now + 1

abbrev pub decreases-join : goal.decreases-join
decreases-join l = 4 * max (size-Expr l.left.now) (size-Expr l.right.now) + 2

abbrev pub decreases-evaluate_both : goal.decreases-evaluate_both
decreases-evaluate_both l = 4 * max (size-Expr l.left.now) (size-Expr l.right.now) + 3
