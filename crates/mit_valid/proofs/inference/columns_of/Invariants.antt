use Rattle.std.proofs.Common.{◌≡◌, map, take}
use Rattle.mit_ops.specs.Results.{scalar}
use Rattle.mit_valid.proofs.inference.columns_of.Given as goal

abbrev pub invariant-loop-is : goal.invariant-loop-is
invariant-loop-is l = take l.is-index l.types ≡ map scalar l.columns.items
