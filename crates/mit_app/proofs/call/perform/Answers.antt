use Rattle.std.proofs.Common.{subst, sym}
use Rattle.mit_words.specs.declared.words.Task.{Task}
use Rattle.mit_words.specs.declared.words.Task.TheVariants.{Check, Plan}
use Rattle.mit_app.specs.Ends.{Ends}
use Rattle.mit_app.proofs.TaskLemmas.{showing_ends}
use Rattle.mit_app.proofs.call.perform.Goals as goal

pub returns-in-Check-clause-ends : goal.returns-in-Check-clause-ends
returns-in-Check-clause-ends g c = λ files agrees.
    subst (λ (t : Task). Ends g.O.Outbox.held t c.args.name.now files c.args.outbox.now c.args.outbox.now (g.C.Console.written c.args.console.now)
    (g.C.Console.written c.check_and_show.new.console) c.check_and_show.result) (sym c.in-Check.is)
    (showing_ends g.O.Outbox.held (Check c.in-Check.print) c.args.name.now files c.args.outbox.now (g.C.Console.written c.args.console.now)
    (g.C.Console.written c.check_and_show.new.console) c.check_and_show.result (c.check_and_show.ensures.shown files agrees))

pub returns-in-Plan-clause-ends : goal.returns-in-Plan-clause-ends
returns-in-Plan-clause-ends g c = λ files agrees.
    subst (λ (t : Task). Ends g.O.Outbox.held t c.args.name.now files c.args.outbox.now c.args.outbox.now (g.C.Console.written c.args.console.now)
    (g.C.Console.written c.plan_and_show.new.console) c.plan_and_show.result) (sym c.in-Plan.is)
    (showing_ends g.O.Outbox.held Plan c.args.name.now files c.args.outbox.now (g.C.Console.written c.args.console.now)
    (g.C.Console.written c.plan_and_show.new.console) c.plan_and_show.result (c.plan_and_show.ensures.shown files agrees))

pub returns-in-Run-clause-ends : goal.returns-in-Run-clause-ends
returns-in-Run-clause-ends g c = λ files agrees.
    subst (λ (t : Task). Ends g.O.Outbox.held t c.args.name.now files c.args.outbox.now c.run_and_publish.new.outbox (g.C.Console.written c.args.console.now)
    (g.C.Console.written c.run_and_publish.new.console) c.run_and_publish.result) (sym c.in-Run.is) (c.run_and_publish.ensures.ends files agrees)

pub returns-in-Step-clause-ends : goal.returns-in-Step-clause-ends
returns-in-Step-clause-ends g c = λ files agrees.
    subst (λ (t : Task). Ends g.O.Outbox.held t c.args.name.now files c.args.outbox.now c.run_and_publish-in-Step.new.outbox (g.C.Console.written c.args.console.now)
    (g.C.Console.written c.run_and_publish-in-Step.new.console) c.run_and_publish-in-Step.result) (sym c.in-Step.is) (c.run_and_publish-in-Step.ensures.ends files agrees)
