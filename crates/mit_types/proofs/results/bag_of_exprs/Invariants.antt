use Rattle.std.proofs.Common.{◌≡◌, drop}
use Rattle.mit_expr.specs.Types.{type_in}
use Rattle.mit_ops.specs.Results.{types_of}
use Rattle.mit_types.proofs.TypeLists.{behind}
use Rattle.mit_types.proofs.results.bag_of_exprs.Given as goal

abbrev pub invariant-loop-expr : goal.invariant-loop-expr
invariant-loop-expr l =
    types_of (type_in l.columns l.captures) l.exprs
    ≡ behind l.types.items (types_of (type_in l.columns l.captures) (drop l.expr-index l.exprs))
