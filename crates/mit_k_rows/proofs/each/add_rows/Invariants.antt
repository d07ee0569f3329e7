use Rattle.std.proofs.Common.{◌≡◌, ◌++◌, [], List, take}
use Rattle.mit_rows.specs.Bags.{RowOf}
use Rattle.mit_k_rows.specs.Gives.{sum_given}
use Rattle.mit_k_rows.proofs.each.add_rows.Given as goal

abbrev pub invariant-loop-row : goal.invariant-loop-row
invariant-loop-row l = record {
  empty : l.made.items ≡ [];
  sum : (before : List RowOf) → l.fn.answer ≡ sum_given l.spec l.captures before → l.answer ≡ sum_given l.spec l.captures (before ++ take l.row-index l.rows);
}
