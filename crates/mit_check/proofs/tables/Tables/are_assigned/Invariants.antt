use Rattle.std.proofs.Common.{◌≡◌, drop}
use Rattle.std.specs.List.{list_all}
use Rattle.mit_script.specs.Accepted as spec
use Rattle.mit_check.proofs.tables.Tables.are_assigned.Given as goal

abbrev pub invariant-loop-variable : goal.invariant-loop-variable
invariant-loop-variable l =
    list_all (spec.is_assigned l.self.assigned.items) (drop l.variable-index l.variables)
    ≡ list_all (spec.is_assigned l.self.assigned.items) l.variables
