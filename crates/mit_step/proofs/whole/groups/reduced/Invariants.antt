use Rattle.std.proofs.Common.{◌≡◌, take}
use Rattle.mit_keyed.specs.Groups.{grouped}
use Rattle.mit_step.proofs.whole.groups.reduced.Given as goal

-- the totals of the rows so far
abbrev pub invariant-loop-row : goal.invariant-loop-row
invariant-loop-row l = l.totals.entries ≡ grouped l.keys l.agg (take l.row-index l.rows)
