use Rattle.std.proofs.Common.{◌∙◌, Some, None, ap, arith}
use Rattle.mit_engine.specs.Running.{verdict_from, verdict_of}
use Rattle.mit_engine.specs.declared.operators.Outcome.TheVariants as outcome
use Rattle.mit_engine.proofs.OperatorLemmas.{verdict_end, verdict_heard}
use Rattle.mit_engine.proofs.job.Job.verdict.Goals as goal

pub returns-in-None : goal.returns-in-None
returns-in-None c =
    verdict_heard c.deref-operator-items.result.now c.loop-at.at c.operator-item.result None _ (omega arith) c.operator-item.is c.in-None.is c.loop-at.invariant
    ∙ ap (verdict_from 0) c.deref-operator-items.ensures.value ∙ ap verdict_of c.self.view_is

pub returns-in-Some-Fault : goal.returns-in-Some-Fault
returns-in-Some-Fault c =
    verdict_heard c.deref-operator-items.result.now c.loop-at.at c.operator-item.result (Some (outcome.Fault c.in-Some-Fault.kind)) _ (omega arith) c.operator-item.is
    (c.in-Some-Fault.is ∙ ap Some (rw c.in-Some-Fault.is at c.in-Some-Fault.field-0-is)) c.loop-at.invariant
    ∙ ap (verdict_from 0) c.deref-operator-items.ensures.value ∙ ap verdict_of c.self.view_is

pub loop-at-preserved : goal.loop-at-preserved
loop-at-preserved c =
    verdict_heard c.deref-operator-items.result.now c.loop-at.at c.operator-item.result (Some outcome.Done) _ (omega arith) c.operator-item.is
    (c.in-Some-Done.is ∙ ap Some (rw c.in-Some-Done.is at c.in-Some-Done.field-0-is)) c.loop-at.invariant

pub returns : goal.returns
returns c =
    verdict_end c.deref-operator-items.result.now c.loop-at.at _ (omega arith) c.loop-at.invariant ∙ ap (verdict_from 0) c.deref-operator-items.ensures.value ∙ ap verdict_of c.self.view_is
