use Rattle.std.proofs.Common.{◌≡◌, drop}
use Rattle.std.specs.List.{list_all}
use Rattle.mit_script.specs.Accepted as spec
use Rattle.mit_check.specs.Trails.{known_in}
use Rattle.mit_check.proofs.tables.Tables.are_scalars.Given as goal

abbrev pub invariant-loop-variable : goal.invariant-loop-variable
invariant-loop-variable l =
    list_all (λ variable. (spec.type_of (known_in l.self) variable).scalar) (drop l.variable-index l.variables)
    ≡ list_all (λ variable. (spec.type_of (known_in l.self) variable).scalar) l.variables
