use Rattle.std.proofs.Common.{◌≡◌, ◌++◌, ◌-ℤ◌}
use Rattle.std.specs.Prelude.{◌≤ℤ◌, unsigned_abs}
use Rattle.mit_ops.specs.EachRow.{numbers_from}
use Rattle.mit_apply.proofs.each_row.add_numbers.Given as goal

abbrev pub invariant-loop-number : goal.invariant-loop-number
invariant-loop-number l = record {
  above : l.from ≤ℤ l.number;
  below : l.number ≤ℤ l.to;
  rows : l.out.items ≡ l.initial.out.items ++ numbers_from l.row l.from (unsigned_abs (l.number -ℤ l.from));
}
