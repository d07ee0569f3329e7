use Rattle.std.proofs.Common.{◌≡◌, drop, map}
use Rattle.mit_ops.specs.Operators.{captured}
use Rattle.mit_kernel.proofs.Captures.{after}
use Rattle.mit_kernel.proofs.fed.all_captured.Given as goal

abbrev pub invariant-loop-rows : goal.invariant-loop-rows
invariant-loop-rows l = captured (map (λ rows. rows.items) l.scalars) ≡ after l.values.items (captured (map (λ rows. rows.items) (drop l.rows-index l.scalars)))
