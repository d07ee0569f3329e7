use Rattle.std.proofs.Common.{◌≡◌, map, take}
use Rattle.mit_ssa.specs.Weaving.{looked}
use Rattle.mit_ssa.proofs.defined.keep.Given as goal

abbrev pub invariant-loop-variable : goal.invariant-loop-variable
invariant-loop-variable l = l.kept.items ≡ map (λ variable. record { variable = variable; value = looked l.defined variable }) (take l.variable-index l.variables)
