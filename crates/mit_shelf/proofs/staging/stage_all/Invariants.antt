use Rattle.std.proofs.Common.{◌≡◌, ◌≤◌, ◌++◌, map}
use Rattle.std.specs.Prelude.{option_map}
use Rattle.std.specs.FinMap as fin
use Rattle.mit_shelf.specs.Staging.{published_in, stages_all}
use Rattle.mit_shelf.proofs.StagingLemmas.{told}
use Rattle.mit_shelf.proofs.staging.stage_all.Given as goal

-- the files that were gone over are staged, and the others are left
abbrev pub invariant-loop-name : goal.invariant-loop-name
invariant-loop-name g l = record {
  all : fin.entries l.files ≡ map told l.yielded ++ l.name-iterator;
  staged : g.O.Outbox.held l.outbox ≡ option_map (stages_all (map told l.yielded)) (g.O.Outbox.held l.initial.outbox);
  published : published_in (g.O.Outbox.held l.outbox) ≡ published_in (g.O.Outbox.held l.initial.outbox);
  count : g.O.Outbox.faults l.initial.outbox ≤ g.O.Outbox.faults l.outbox;
}
