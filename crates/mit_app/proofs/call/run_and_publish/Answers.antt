use Rattle.std.proofs.Common.{◌∙◌, arith}
use Rattle.mit_world.specs.Outside.{Rose}
use Rattle.mit_app.specs.Ends.{task_within}
use Rattle.mit_app.proofs.CauseLemmas.{continues_same, folder_within, publish_within, rose_later}
use Rattle.mit_app.proofs.EndLemmas.{agrees_both}
use Rattle.mit_app.proofs.TaskLemmas.{publishing_ends, reading_ends, running_ends}
use Rattle.mit_app.proofs.call.run_and_publish.Goals as goal

pub returns-in-Err-run_within-clause-ends : goal.returns-in-Err-run_within-clause-ends
returns-in-Err-run_within-clause-ends g c = λ files agrees.
    running_ends g.O.Outbox.held (task_within c.args.limit) c.args.name.now files c.args.outbox.now (g.C.Console.written c.args.console.now) c.in-Ok.typed.script c.in-Ok.typed.types c.in-Err-run_within.halt
    (Rose (g.F.Folder.faults c.read_script.new.folder) (g.F.Folder.faults c.run_within.new.folder)) c.in-Err-run_within.ensures.failed
    (c.in-Ok.ensures.found files (c.run_within.ensures.grows files agrees)) (c.in-Err-run_within.ensures.ran files agrees)

pub returns-in-Err-run_within-clause-agrees : goal.returns-in-Err-run_within-clause-agrees
returns-in-Err-run_within-clause-agrees g c =
    agrees_both (g.F.Folder.files c.args.folder.now) (g.F.Folder.files c.read_script.new.folder) c.args.shelf.now c.read_script.new.shelf c.run_within.new.shelf
    c.read_script.ensures.told c.read_script.ensures.agrees c.run_within.ensures.agrees

pub returns-clause-ends : goal.returns-clause-ends
returns-clause-ends g c = λ files agrees.
    publishing_ends g.O.Outbox.held (task_within c.args.limit) c.args.name.now files c.args.outbox.now c.publish.new.outbox (g.C.Console.written c.args.console.now)
    (g.C.Console.written c.publish.new.console) c.in-Ok.typed.script c.in-Ok.typed.types c.in-Ok-run_within.ran c.publish.result
    (c.in-Ok.ensures.found files (c.run_within.ensures.grows files agrees)) (c.in-Ok-run_within.ensures.ran files agrees) c.publish.ensures.published

pub returns-clause-agrees : goal.returns-clause-agrees
returns-clause-agrees g c =
    agrees_both (g.F.Folder.files c.args.folder.now) (g.F.Folder.files c.read_script.new.folder) c.args.shelf.now c.read_script.new.shelf c.run_within.new.shelf
    c.read_script.ensures.told c.read_script.ensures.agrees c.run_within.ensures.agrees

-- ---- a script that was not had

pub returns-in-Err-clause-ends : goal.returns-in-Err-clause-ends
returns-in-Err-clause-ends g c = λ files agrees.
    reading_ends g.O.Outbox.held (task_within c.args.limit) c.args.name.now files c.args.outbox.now (g.C.Console.written c.args.console.now) c.in-Err.halt
    (Rose (g.F.Folder.faults c.args.folder.now) (g.F.Folder.faults c.read_script.new.folder)) c.in-Err.ensures.failed (c.in-Err.ensures.found files agrees)

pub returns-in-Err-clause-failed : goal.returns-in-Err-clause-failed
returns-in-Err-clause-failed g c =
    let folder : Type 0 = Rose (g.F.Folder.faults c.args.folder.now) (g.F.Folder.faults c.read_script.new.folder) in
    folder_within c.in-Err.halt folder folder (Rose (g.O.Outbox.faults c.args.outbox.now) (g.O.Outbox.faults c.args.outbox.now))
    (Rose (g.C.Console.faults c.args.console.now) (g.C.Console.faults c.args.console.now)) (λ (rose : folder). rose) c.in-Err.ensures.failed

pub returns-in-Err-clause-continues : goal.returns-in-Err-clause-continues
returns-in-Err-clause-continues g c = continues_same (g.C.Console.written c.args.console.now)

-- ---- a run that did not come to its end

pub returns-in-Err-run_within-clause-failed : goal.returns-in-Err-run_within-clause-failed
returns-in-Err-run_within-clause-failed g c =
    folder_within c.in-Err-run_within.halt (Rose (g.F.Folder.faults c.read_script.new.folder) (g.F.Folder.faults c.run_within.new.folder))
    (Rose (g.F.Folder.faults c.args.folder.now) (g.F.Folder.faults c.run_within.new.folder))
    (Rose (g.O.Outbox.faults c.args.outbox.now) (g.O.Outbox.faults c.args.outbox.now))
    (Rose (g.C.Console.faults c.args.console.now) (g.C.Console.faults c.args.console.now))
    (rose_later (g.F.Folder.faults c.args.folder.now) (g.F.Folder.faults c.read_script.new.folder) (g.F.Folder.faults c.run_within.new.folder) c.read_script.ensures.count)
    c.in-Err-run_within.ensures.failed

pub returns-in-Err-run_within-clause-continues : goal.returns-in-Err-run_within-clause-continues
returns-in-Err-run_within-clause-continues g c = continues_same (g.C.Console.written c.args.console.now)

pub returns-in-Err-run_within-clause-told : goal.returns-in-Err-run_within-clause-told
returns-in-Err-run_within-clause-told g c = c.run_within.ensures.told ∙ c.read_script.ensures.told

pub returns-in-Err-run_within-clause-folder_count : goal.returns-in-Err-run_within-clause-folder_count
returns-in-Err-run_within-clause-folder_count g c = omega (arith, c.read_script.ensures.count, c.run_within.ensures.count)

-- ---- what was published, or not

pub returns-clause-unpublished : goal.returns-clause-unpublished
returns-clause-unpublished g c = c.publish.ensures.unpublished

pub returns-clause-failed : goal.returns-clause-failed
returns-clause-failed g c =
    publish_within c.publish.result (Rose (g.F.Folder.faults c.args.folder.now) (g.F.Folder.faults c.run_within.new.folder))
    (Rose (g.O.Outbox.faults c.args.outbox.now) (g.O.Outbox.faults c.publish.new.outbox))
    (Rose (g.C.Console.faults c.args.console.now) (g.C.Console.faults c.publish.new.console)) c.publish.ensures.failed

pub returns-clause-continues : goal.returns-clause-continues
returns-clause-continues g c = c.publish.ensures.continues

pub returns-clause-told : goal.returns-clause-told
returns-clause-told g c = c.run_within.ensures.told ∙ c.read_script.ensures.told

pub returns-clause-folder_count : goal.returns-clause-folder_count
returns-clause-folder_count g c = omega (arith, c.read_script.ensures.count, c.run_within.ensures.count)
