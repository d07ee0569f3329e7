use Rattle.std.proofs.Common.{◌∙◌, ap, sym}
use Rattle.mit_world.specs.Outside.{Rose}
use Rattle.mit_ssa.specs.PlanFor.{plan_for}
use Rattle.mit_words.specs.declared.words.Task.TheVariants as task
use Rattle.mit_app.specs.Due.{Shows}
use Rattle.mit_app.proofs.CauseLemmas.{console_within, continues_same, folder_within}
use Rattle.mit_app.proofs.TaskLemmas.{planning_failed, planning_shows, putting_shows, reading_shows}
use Rattle.mit_app.proofs.plan.plan_and_show.Goals as goal

-- ---- a script that was not had

pub returns-in-Err-clause-shown : goal.returns-in-Err-clause-shown
returns-in-Err-clause-shown g c = λ files agrees.
    reading_shows task.Plan c.args.name.now files (g.C.Console.written c.args.console.now) c.in-Err.halt
    (Rose (g.F.Folder.faults c.args.folder.now) (g.F.Folder.faults c.read_script.new.folder)) c.in-Err.ensures.failed (c.in-Err.ensures.found files agrees)

pub returns-in-Err-clause-failed : goal.returns-in-Err-clause-failed
returns-in-Err-clause-failed g c =
    let folder : Type 0 = Rose (g.F.Folder.faults c.args.folder.now) (g.F.Folder.faults c.read_script.new.folder) in
    folder_within c.in-Err.halt folder folder ⊥ (Rose (g.C.Console.faults c.args.console.now) (g.C.Console.faults c.args.console.now)) (λ (rose : folder). rose)
    c.in-Err.ensures.failed

pub returns-in-Err-clause-continues : goal.returns-in-Err-clause-continues
returns-in-Err-clause-continues g c = continues_same (g.C.Console.written c.args.console.now)

-- ---- a plan that was not printed

pub returns-clause-shown : goal.returns-clause-shown
returns-clause-shown g c = λ files agrees.
    planning_shows c.args.name.now files (g.C.Console.written c.args.console.now) c.in-Ok.typed.script c.in-Ok.typed.types c.in-Err-plan_text.halt
    (c.in-Ok.ensures.found files agrees) c.in-Err-plan_text.ensures.halted

pub returns-clause-failed : goal.returns-clause-failed
returns-clause-failed g c =
    planning_failed (plan_for c.in-Ok.typed.script c.in-Ok.typed.types) c.in-Err-plan_text.halt
    (Rose (g.F.Folder.faults c.args.folder.now) (g.F.Folder.faults c.read_script.new.folder)) ⊥
    (Rose (g.C.Console.faults c.args.console.now) (g.C.Console.faults c.args.console.now)) c.in-Err-plan_text.ensures.halted

pub returns-clause-continues : goal.returns-clause-continues
returns-clause-continues g c = continues_same (g.C.Console.written c.args.console.now)

-- ---- a plan that was shown, or not

pub returns-in-Ok-plan_text-clause-shown : goal.returns-in-Ok-plan_text-clause-shown
returns-in-Ok-plan_text-clause-shown g c = λ files agrees.
    putting_shows task.Plan c.args.name.now files (g.C.Console.written c.args.console.now) (g.C.Console.written c.show.new.console)
    c.deref.result.now c.show.result
    (record {
      script = c.in-Ok.typed.script;
      types = c.in-Ok.typed.types;
      found = c.in-Ok.ensures.found files agrees;
      due = c.in-Ok-plan_text.ensures.text ∙ ap Shows (sym c.deref.ensures.value);
    })
    c.show.ensures.shown

pub returns-in-Ok-plan_text-clause-failed : goal.returns-in-Ok-plan_text-clause-failed
returns-in-Ok-plan_text-clause-failed g c =
    console_within c.show.result (Rose (g.F.Folder.faults c.args.folder.now) (g.F.Folder.faults c.read_script.new.folder)) ⊥
    (Rose (g.C.Console.faults c.args.console.now) (g.C.Console.faults c.show.new.console)) c.show.ensures.failed
