use Rattle.std.proofs.Common.{◌≡◌, map, take}
use Rattle.mit_script.specs.Accepted as spec
use Rattle.mit_check.proofs.tables.Tables.all_types.Given as goal

abbrev pub invariant-loop-kept : goal.invariant-loop-kept
invariant-loop-kept l = l.types.items ≡ map spec.type_or_unset (take l.kept-index l.self.types.items)
