use Rattle.std.proofs.Common.{◌≡◌, None, map, take, false}
use Rattle.mit_check.proofs.tables.Tables.new.Given as goal

abbrev pub invariant-loop-name : goal.invariant-loop-name
invariant-loop-name l = record {
  unassigned : l.assigned.items ≡ map (λ _. false) (take l._name-index l.names);
  untyped : l.types.items ≡ map (λ _. None) (take l._name-index l.names);
}
