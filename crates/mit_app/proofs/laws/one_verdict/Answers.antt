use Rattle.std.proofs.Common.{inr}
use Rattle.mit_app.proofs.DueLemmas.{due_once, some_due}
use Rattle.mit_app.proofs.laws.one_verdict.Goals as goal

pub returns-clause-some : goal.returns-clause-some
returns-clause-some c = λ words files task name command.
    let due = some_due task name files (record { script = c.one_reading.ensures.script; place = c.one_reading.ensures.place; either = c.one_reading.ensures.either; read = c.one_reading.ensures.read }) in
    (due.0, inr (task, name, command, due.1))

pub returns-clause-once : goal.returns-clause-once
returns-clause-once c = λ words files one other a b.
    due_once words files one other (record { script = c.one_reading.ensures.script; place = c.one_reading.ensures.place; either = c.one_reading.ensures.either; read = c.one_reading.ensures.read }) a b
