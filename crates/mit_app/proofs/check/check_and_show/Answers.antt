use Rattle.std.proofs.Common.{ap, sym, ◌∙◌, ◌++◌, [], List, ℕ}
use Rattle.std.specs.Prelude.{if◌then◌else◌}
use Rattle.mit_world.specs.Outside.{Rose}
use Rattle.mit_script.specs.Trees.{statements_of}
use Rattle.mit_script.specs.declared.tree.Script.{Script}
use Rattle.mit_print.specs.Printed.{printed}
use Rattle.mit_words.specs.declared.words.Task.TheVariants as task
use Rattle.mit_app.specs.Due.{Shows}
use Rattle.mit_app.specs.Lines.{accepted_line}
use Rattle.mit_app.proofs.CauseLemmas.{console_within, continues_same, folder_within}
use Rattle.mit_app.proofs.TaskLemmas.{putting_shows, reading_shows}
use Rattle.mit_app.proofs.check.check_and_show.Goals as goal

pub returns-in-Ok-acceptance_text-clause-shown : goal.returns-in-Ok-acceptance_text-clause-shown
returns-in-Ok-acceptance_text-clause-shown g c = λ files agrees.
    let text : Script → List ℕ = λ script. accepted_line (statements_of script) ++ (if c.args.print_it then printed script else []) in
    putting_shows (task.Check c.args.print_it) c.args.name.now files (g.C.Console.written c.args.console.now) (g.C.Console.written c.show.new.console)
    c.deref.result.now c.show.result
    (record {
      script = c.in-Ok.typed.script;
      types = c.in-Ok.typed.types;
      found = c.in-Ok.ensures.found files agrees;
      due = ap Shows (sym (c.deref.ensures.value ∙ c.in-Ok-acceptance_text.ensures ∙ ap text c.script.ensures.value));
    })
    c.show.ensures.shown

pub returns-in-Ok-acceptance_text-clause-failed : goal.returns-in-Ok-acceptance_text-clause-failed
returns-in-Ok-acceptance_text-clause-failed g c =
    console_within c.show.result (Rose (g.F.Folder.faults c.args.folder.now) (g.F.Folder.faults c.read_script.new.folder)) ⊥
    (Rose (g.C.Console.faults c.args.console.now) (g.C.Console.faults c.show.new.console)) c.show.ensures.failed

-- ---- a script that was not had

pub returns-in-Err-clause-shown : goal.returns-in-Err-clause-shown
returns-in-Err-clause-shown g c = λ files agrees.
    reading_shows (task.Check c.args.print_it) c.args.name.now files (g.C.Console.written c.args.console.now) c.in-Err.halt
    (Rose (g.F.Folder.faults c.args.folder.now) (g.F.Folder.faults c.read_script.new.folder)) c.in-Err.ensures.failed (c.in-Err.ensures.found files agrees)

pub returns-in-Err-clause-failed : goal.returns-in-Err-clause-failed
returns-in-Err-clause-failed g c =
    let folder : Type 0 = Rose (g.F.Folder.faults c.args.folder.now) (g.F.Folder.faults c.read_script.new.folder) in
    folder_within c.in-Err.halt folder folder ⊥ (Rose (g.C.Console.faults c.args.console.now) (g.C.Console.faults c.args.console.now)) (λ (rose : folder). rose)
    c.in-Err.ensures.failed

pub returns-in-Err-clause-continues : goal.returns-in-Err-clause-continues
returns-in-Err-clause-continues g c = continues_same (g.C.Console.written c.args.console.now)
