use Rattle.std.proofs.Common.{◌≡◌, drop}
use Rattle.mit_files.specs.Printed.{published, published_onto}
use Rattle.mit_engine.specs.Operators.{staged_writes}
use Rattle.mit_engine.proofs.operators.files_of.Given as goal

-- the files so far, with the writes of the statements that are left, are all
abbrev pub invariant-loop-at : goal.invariant-loop-at
invariant-loop-at l = published_onto l.written (staged_writes (drop l.at l.steps) (drop l.at l.operators)) ≡ published (staged_writes l.steps l.operators)
