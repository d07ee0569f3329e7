use Rattle.std.proofs.Common.{◌≡◌, take}
use Rattle.mit_ops.specs.Forms.{once_each}
use Rattle.mit_step.proofs.whole.groups.distinct.Given as goal

-- the rows so far, each once
abbrev pub invariant-loop-row : goal.invariant-loop-row
invariant-loop-row l = l.kept.keys ≡ once_each (take l.row-index l.rows)
