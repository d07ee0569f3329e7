use Rattle.std.proofs.Common.{◌≡◌, [], map, drop, IsSome, vec_len}
use Rattle.mit_expr.specs.Types.{type_in, type_of_value}
use Rattle.mit_expr.specs.Values.{value_in}
use Rattle.mit_ops.specs.EachRow.{given_all}
use Rattle.mit_ops.specs.Results.{types_of}
use Rattle.mit_apply.proofs.EachRows.{one_row}
use Rattle.mit_apply.proofs.each_row.row_of_many.Given as goal

abbrev pub invariant-loop-expr : goal.invariant-loop-expr
invariant-loop-expr l = record {
  count : vec_len l.values ≡ l.expr-index;
  typed : IsSome (types_of (type_in (map type_of_value l.row) (map type_of_value l.captures)) (drop l.expr-index l.exprs));
  same : given_all (map (value_in l.row l.captures) l.exprs) (one_row [])
      ≡ given_all (map (value_in l.row l.captures) (drop l.expr-index l.exprs)) (one_row l.values.items);
}
