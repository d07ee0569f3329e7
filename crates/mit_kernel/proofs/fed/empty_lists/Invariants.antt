use Rattle.std.proofs.Common.{◌≡◌, [], map, replicate}
use Rattle.mit_kernel.proofs.fed.empty_lists.Given as goal

abbrev pub invariant-loop-input : goal.invariant-loop-input
invariant-loop-input l = map (λ rows. rows.items) l.lists.items ≡ replicate l._input []
