use Rattle.std.proofs.Common.{◌≡◌, map, take}
use Rattle.mit_step.specs.Typing.{inputs_in}
use Rattle.mit_step.proofs.evaluate.bags_of.Given as goal

-- the bags of the variables so far
abbrev pub invariant-loop-variable : goal.invariant-loop-variable
invariant-loop-variable l = map (λ bag. bag.value) l.bags.items ≡ inputs_in l.store (take l.variable-index l.args)
