use Rattle.std.proofs.Common.{◌≡◌, [], ◌∷◌, map, take}
use Rattle.mit_step.specs.Typing.{inputs_in}
use Rattle.mit_step.proofs.evaluate.values_of.Given as goal

-- the values of the variables so far
abbrev pub invariant-loop-variable : goal.invariant-loop-variable
invariant-loop-variable l = map (λ value. (value ∷ []) ∷ []) l.values.items ≡ inputs_in l.store (take l.variable-index l.args)
