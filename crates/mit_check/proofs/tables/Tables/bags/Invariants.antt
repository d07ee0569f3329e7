use Rattle.std.proofs.Common.{◌≡◌, map, take}
use Rattle.mit_ops.specs.Results.{AreBags}
use Rattle.mit_script.specs.Accepted as spec
use Rattle.mit_check.specs.Trails.{known_in}
use Rattle.mit_check.proofs.tables.Tables.bags.Given as goal

abbrev pub invariant-loop-variable : goal.invariant-loop-variable
invariant-loop-variable l = record {
  same : l.bags.items ≡ map (spec.type_of (known_in l.self)) (take l.variable-index l.variables);
  wide : AreBags l.bags.items;
}
