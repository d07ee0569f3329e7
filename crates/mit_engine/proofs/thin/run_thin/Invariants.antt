use Rattle.std.proofs.Common.{◌≡◌, ◌≤◌}
use Rattle.std.specs.Prelude.{IfSome}
use Rattle.mit_files.specs.Files.{FileMap}
use Rattle.mit_shelf.specs.Shelf.{Agrees}
use Rattle.mit_engine.specs.Operators.{actions_left}
use Rattle.mit_engine.specs.Picks.{GrowsBy}
use Rattle.mit_engine.proofs.JobRuns.{Ran}
use Rattle.mit_engine.proofs.thin.run_thin.Given as goal

-- the run so far: what agrees with the shelf, and one pick in the log for each action
abbrev pub invariant-turns : goal.invariant-turns
invariant-turns g l = record {
  ran : Ran l.steps l.shelf l.job l.actions;
  grows : (files : FileMap) → Agrees l.shelf files → Agrees l.initial.shelf files;
  agrees : IfSome (g.F.Folder.files l.initial.folder) (λ files. Agrees l.initial.shelf files → Agrees l.shelf files);
  told : g.F.Folder.files l.folder ≡ g.F.Folder.files l.initial.folder;
  count : g.F.Folder.faults l.initial.folder ≤ g.F.Folder.faults l.folder;
  picked : GrowsBy l.actions (g.S.Schedule.log l.initial.schedule) (g.S.Schedule.log l.schedule);
}

abbrev pub decreases-turns : goal.decreases-turns
decreases-turns g l = actions_left l.job
