use Rattle.std.proofs.Common.{take}
use Rattle.mit_keyed.specs.Indexes.{IsIndex}
use Rattle.mit_step.proofs.whole.join.indexed.Given as goal

abbrev pub invariant-loop-place : goal.invariant-loop-place
invariant-loop-place l = IsIndex l.left (take l.place l.lefts) l.index
