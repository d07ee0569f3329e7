use Rattle.std.proofs.Common.{ℕ, Option, subst, sym}
use Rattle.mit_app.specs.Ends.{RunsAs, task_within}
use Rattle.mit_app.proofs.call.run_within.Goals as goal

pub returns-in-None-clause-ran : goal.returns-in-None-clause-ran
returns-in-None-clause-ran g c = λ files agrees.
    subst (λ (limit : Option ℕ). RunsAs (task_within limit) c.args.typed.now.script c.args.typed.now.types files c.run.result) (sym c.in-None.is)
    (c.run.ensures.ran files agrees)
