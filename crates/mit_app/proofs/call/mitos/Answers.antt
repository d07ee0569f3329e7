use Rattle.std.proofs.Common.{refl}
use Rattle.mit_words.specs.Words.{texts}
use Rattle.mit_app.proofs.DueLemmas.{asks_for_script}
use Rattle.mit_app.proofs.EndLemmas.{answers_halted, answers_usage, answers_well, continues_both, files_after, halted_folder, halted_uncalled, some_files}
use Rattle.mit_app.proofs.TaskLemmas.{halted_apart}
use Rattle.mit_app.proofs.call.mitos.Goals as goal

pub returns-in_default-clause-answers : goal.returns-in_default-clause-answers
returns-in_default-clause-answers g c =
    let found = some_files (g.F.Folder.files c.args.folder.now) in (
      found.0,
      found.1,
      answers_usage g.O.Outbox.held (texts c.args.words.now) found.0 c.tell.result c.args.outbox.now c.args.outbox.now (g.C.Console.written c.args.console.now)
          (g.C.Console.written c.tell.new.console) c.in_default.ensures.other refl c.tell.ensures.status c.tell.ensures.told,
    )

pub returns-in-Ok-clause-answers : goal.returns-in-Ok-clause-answers
returns-in-Ok-clause-answers g c =
    let found = files_after (g.F.Folder.files c.args.folder.now) c.new-shelf.result c.perform.new.shelf c.new-shelf.ensures
    c.shelves_agree_with_their_files.ensures.agree c.perform.ensures.agrees in (
      found.0,
      found.1,
      answers_well g.O.Outbox.held (texts c.args.words.now) c.in-Some.task c.in-Some.name.now found.0 c.args.outbox.now c.perform.new.outbox
          (g.C.Console.written c.args.console.now) (g.C.Console.written c.perform.new.console)
          (record { script = c.one_reading.ensures.script; place = c.one_reading.ensures.place; either = c.one_reading.ensures.either; read = c.one_reading.ensures.read })
          c.in-Some.ensures.command (c.in-Ok.ensures.ends found.0 found.2),
    )

pub returns-clause-answers : goal.returns-clause-answers
returns-clause-answers g c =
    let found = files_after (g.F.Folder.files c.args.folder.now) c.new-shelf.result c.perform.new.shelf c.new-shelf.ensures
    c.shelves_agree_with_their_files.ensures.agree c.perform.ensures.agrees in (
      found.0,
      found.1,
      answers_halted g.O.Outbox.held (texts c.args.words.now) c.in-Some.task c.in-Some.name.now found.0 c.tell-in-Err.result c.args.outbox.now c.perform.new.outbox
          (g.C.Console.written c.args.console.now) (g.C.Console.written c.perform.new.console) (g.C.Console.written c.tell-in-Err.new.console) c.in-Err.halt
          (record { script = c.one_reading.ensures.script; place = c.one_reading.ensures.place; either = c.one_reading.ensures.either; read = c.one_reading.ensures.read })
          c.in-Some.ensures.command (c.in-Err.ensures.ends found.0 found.2) c.tell-in-Err.ensures.status c.tell-in-Err.ensures.told,
    )

pub returns-clause-uncalled : goal.returns-clause-uncalled
returns-clause-uncalled g c = λ early.
    let found = files_after (g.F.Folder.files c.args.folder.now) c.new-shelf.result c.perform.new.shelf c.new-shelf.ensures
    c.shelves_agree_with_their_files.ensures.agree c.perform.ensures.agrees in
    halted_uncalled g.O.Outbox.held c.in-Some.task c.in-Some.name.now found.0 c.tell-in-Err.result c.args.outbox.now c.perform.new.outbox (g.C.Console.written c.args.console.now) (g.C.Console.written c.perform.new.console)
    c.in-Err.halt (c.in-Err.ensures.ends found.0 found.2) c.tell-in-Err.ensures.status early

pub returns-clause-folder_told : goal.returns-clause-folder_told
returns-clause-folder_told g c = λ four.
    let found = files_after (g.F.Folder.files c.args.folder.now) c.new-shelf.result c.perform.new.shelf c.new-shelf.ensures
    c.shelves_agree_with_their_files.ensures.agree c.perform.ensures.agrees in
    halted_folder g.O.Outbox.held c.in-Some.task c.in-Some.name.now found.0 c.tell-in-Err.result c.args.outbox.now c.perform.new.outbox (g.C.Console.written c.args.console.now) (g.C.Console.written c.perform.new.console)
    (g.C.Console.written c.tell-in-Err.new.console) c.in-Err.halt (c.in-Err.ensures.ends found.0 found.2) c.tell-in-Err.ensures.status c.tell-in-Err.ensures.told four

pub returns-clause-usage : goal.returns-clause-usage
returns-clause-usage g c = λ two.
    let found = files_after (g.F.Folder.files c.args.folder.now) c.new-shelf.result c.perform.new.shelf c.new-shelf.ensures
    c.shelves_agree_with_their_files.ensures.agree c.perform.ensures.agrees in
    absurd (halted_apart g.O.Outbox.held c.in-Some.task c.in-Some.name.now found.0 c.tell-in-Err.result c.args.outbox.now c.perform.new.outbox (g.C.Console.written c.args.console.now) (g.C.Console.written c.perform.new.console)
    c.in-Err.halt (c.in-Err.ensures.ends found.0 found.2) c.tell-in-Err.ensures.status two)

pub returns-clause-continues : goal.returns-clause-continues
returns-clause-continues g c =
    continues_both (g.C.Console.written c.args.console.now) (g.C.Console.written c.perform.new.console) (g.C.Console.written c.tell-in-Err.new.console)
    c.in-Err.ensures.continues c.tell-in-Err.ensures.continues

pub returns-in-Ok-clause-asks_script : goal.returns-in-Ok-clause-asks_script
returns-in-Ok-clause-asks_script g c = λ script looks.
    asks_for_script (texts c.args.words.now) c.in-Some.task c.in-Some.name.now script (g.F.Folder.asked c.args.folder.now)
    (g.F.Folder.asked c.perform.new.folder) c.in-Some.ensures.command c.perform.ensures.asks looks

pub returns-clause-asks_script : goal.returns-clause-asks_script
returns-clause-asks_script g c = λ script looks.
    asks_for_script (texts c.args.words.now) c.in-Some.task c.in-Some.name.now script (g.F.Folder.asked c.args.folder.now)
    (g.F.Folder.asked c.perform.new.folder) c.in-Some.ensures.command c.perform.ensures.asks looks
