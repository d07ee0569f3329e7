use Rattle.std.proofs.Common.{ap, refl}
use Rattle.mit_app.specs.Due.{Misspelled, Refused, Rejected}
use Rattle.mit_app.specs.declared.ends.Refusal.TheVariants as refusal
use Rattle.mit_app.proofs.script.accepted.Goals as goal

pub returns-in-Err-Fault-clause-read : goal.returns-in-Err-Fault-clause-read
returns-in-Err-Fault-clause-read c = (
  Misspelled c.in-Err-Fault.place,
  rw c.in-Err-Fault.field-0-is at c.in-Err-Fault.ensures.fault,
  λ task name files. ap (λ place. Refused (refusal.Syntax place)) c.in-Err-Fault.place-is,
)

pub returns-in-Err-Fault-check-clause-read : goal.returns-in-Err-Fault-check-clause-read
returns-in-Err-Fault-check-clause-read c = (
  Rejected c.in-Err-Fault-check.statement c.in-Err-Fault-check.code,
  (c.in-Ok.script, c.in-Ok.ensures.spelled, rw c.in-Err-Fault-check.field-0-is at c.in-Err-Fault-check.ensures.fault),
  λ task name files. refl,
)
