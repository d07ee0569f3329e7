use Rattle.std.proofs.Common.{refl}
use Rattle.std.specs.Prelude.{Err, None}
use Rattle.mit_world.specs.Outside.{Rose}
use Rattle.mit_app.proofs.TaskLemmas.{finds_kept, finds_none, got_kept, read_failed}
use Rattle.mit_app.proofs.script.read_script.Goals as goal

pub returns-in-Ok-clause-found : goal.returns-in-Ok-clause-found
returns-in-Ok-clause-found g c = λ files agrees.
    let kept = c.in-Ok.ensures.fetched in
    finds_kept c.fetch.new.self files c.args.name.now c.as_bytes.result.now c.file_at.result.now kept.0 c.in-Ok.place c.accepted.result agrees
    c.as_bytes.ensures.value kept.1 kept.2.0 c.file_at.ensures c.accepted.ensures.read

pub returns-in-Ok-clause-failed : goal.returns-in-Ok-clause-failed
returns-in-Ok-clause-failed g c =
    read_failed c.accepted.result (Rose (g.F.Folder.faults c.args.folder.now) (g.F.Folder.faults c.fetch.new.folder)) c.accepted.ensures.own

pub returns-in-Err-Fault-NoFile-clause-found : goal.returns-in-Err-Fault-NoFile-clause-found
returns-in-Err-Fault-NoFile-clause-found g c = λ files agrees.
    let kept = rw (c.in-Err-Fault-NoFile.field-0-is, c.in-Err-Fault-NoFile.field-0-0-is) at c.in-Err-Fault-NoFile.ensures.fetched in
    finds_none c.args.name.now files (Err c.absent.result) c.absent.result refl
    (got_kept c.fetch.new.self files c.args.name.now c.as_bytes.result.now None agrees c.as_bytes.ensures.value kept.0) c.absent.ensures
