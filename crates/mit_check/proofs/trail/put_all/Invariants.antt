use Rattle.std.proofs.Common.{◌≡◌, take}
use Rattle.mit_check.specs.Trails.{marked}
use Rattle.mit_check.proofs.trail.put_all.Given as goal

abbrev pub invariant-loop-variable : goal.invariant-loop-variable
invariant-loop-variable l = l.assigned.items ≡ marked l.is (take l.variable-index l.variables) l.initial.assigned.items
