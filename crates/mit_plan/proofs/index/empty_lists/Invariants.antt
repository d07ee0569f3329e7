use Rattle.std.proofs.Common.{◌≡◌, replicate, []}
use Rattle.mit_plan.proofs.index.empty_lists.Given as goal

abbrev pub invariant-loop-name : goal.invariant-loop-name
invariant-loop-name l = l.lists.items ≡ replicate l._name []
