use Rattle.std.proofs.Common.{◌≡◌, [], map, replicate}
use Rattle.mit_step.proofs.store.Store.new.Given as goal

-- so many empty bags
abbrev pub invariant-loop : goal.invariant-loop
invariant-loop l = map (λ bag. bag.value) l.bags.items ≡ replicate l.counter []
