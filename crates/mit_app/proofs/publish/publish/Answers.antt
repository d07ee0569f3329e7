use Rattle.std.specs.Prelude.{string_bytes}
use Rattle.std.proofs.Common.{◌∙◌, inr}
use Rattle.mit_app.proofs.TaskLemmas.{all_staged, gains_text, some_staged}
use Rattle.mit_app.proofs.publish.publish.Goals as goal

pub returns-in-Err-Failed-put-clause-published : goal.returns-in-Err-Failed-put-clause-published
returns-in-Err-Failed-put-clause-published g c = some_staged c.args.ran.now.files (g.O.Outbox.held c.args.outbox.now) (g.O.Outbox.held c.stage_all.new.outbox) c.in-Ok.ensures.staged

pub returns-in-Err-NoMemory-put-clause-published : goal.returns-in-Err-NoMemory-put-clause-published
returns-in-Err-NoMemory-put-clause-published g c = some_staged c.args.ran.now.files (g.O.Outbox.held c.args.outbox.now) (g.O.Outbox.held c.stage_all.new.outbox) c.in-Ok.ensures.staged

pub returns-in-Err-Failed-publish-clause-published : goal.returns-in-Err-Failed-publish-clause-published
returns-in-Err-Failed-publish-clause-published g c =
    inr (
      c.in-Err-Failed-publish.ensures.err ∙ all_staged c.args.ran.now.files (g.O.Outbox.held c.args.outbox.now) (g.O.Outbox.held c.stage_all.new.outbox) c.in-Ok.ensures.staged,
      gains_text (string_bytes c.args.ran.now.report) c.as_bytes.result.now (g.C.Console.written c.args.console.now) (g.C.Console.written c.put.new.self)
          c.as_bytes.ensures.value c.in-Ok-put.ensures.ok,
    )

pub returns-in-Err-NoMemory-publish-clause-published : goal.returns-in-Err-NoMemory-publish-clause-published
returns-in-Err-NoMemory-publish-clause-published g c =
    some_staged c.args.ran.now.files (g.O.Outbox.held c.args.outbox.now) (g.O.Outbox.held c.publish.new.self) (c.in-Err-NoMemory-publish.ensures.err ∙ c.in-Ok.ensures.staged)
