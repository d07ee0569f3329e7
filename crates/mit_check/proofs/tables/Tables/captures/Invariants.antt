use Rattle.std.proofs.Common.{◌≡◌, flat_map, take}
use Rattle.mit_script.specs.Accepted as spec
use Rattle.mit_check.specs.Trails.{known_in}
use Rattle.mit_check.proofs.tables.Tables.captures.Given as goal

abbrev pub invariant-loop-variable : goal.invariant-loop-variable
invariant-loop-variable l =
    l.captures.items ≡ flat_map (λ variable. (spec.type_of (known_in l.self) variable).cols) (take l.variable-index l.variables)
