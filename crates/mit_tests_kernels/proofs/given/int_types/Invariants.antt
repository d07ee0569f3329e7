use Rattle.std.proofs.Common.{◌≡◌, replicate}
use Rattle.mit_rows.specs.declared.value.ColType.TheVariants as is
use Rattle.mit_tests_kernels.proofs.given.int_types.Given as goal

abbrev pub invariant-loop-column : goal.invariant-loop-column
invariant-loop-column g l = l.types.items ≡ replicate l._column is.Int
