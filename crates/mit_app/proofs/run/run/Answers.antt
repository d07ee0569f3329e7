use Rattle.std.proofs.Common.{◌≡◌, ap, sym, ◌∙◌}
use Rattle.std.specs.Prelude.{Some}
use Rattle.mit_ops.specs.declared.faults.ScriptFault.{ScriptFault}
use Rattle.mit_words.specs.declared.words.TheConstants.{DECISIONS}
use Rattle.mit_thin.specs.ThinScript.{thin_steps}
use Rattle.mit_app.specs.Due.{Refused}
use Rattle.mit_app.specs.declared.ends.Refusal.TheVariants as refusal
use Rattle.mit_app.proofs.TaskLemmas.{ended_runs, faulty_runs}
use Rattle.mit_app.proofs.run.run.Goals as goal

pub run_thin-requires : goal.run_thin-requires
run_thin-requires g c =
    let typed = c.args.typed.now in
    c.thin_law.ensures.formed typed.script typed.types c.in-Ok-Some.script typed.formed c.requires typed.accepted
    (ap thin_steps (sym c.script.ensures.value) ∙ sym c.in-Ok-Some.ensures ∙ c.in-Ok-Some.field-0-is)

pub returns-in-Ok-told-clause-ran : goal.returns-in-Ok-told-clause-ran
returns-in-Ok-told-clause-ran g c = λ files agrees.
    let typed = c.args.typed.now in
    let gives : thin_steps typed.script ≡ Some c.in-Ok-Some.script = ap thin_steps (sym c.script.ensures.value) ∙ sym c.in-Ok-Some.ensures ∙ c.in-Ok-Some.field-0-is in
    ended_runs typed.script typed.types files c.in-Ok-Some.script c.in-Ok.done c.in-Ok-told.ran gives
    (c.thin_law.ensures.means typed.script typed.types c.in-Ok-Some.script files DECISIONS typed.formed c.requires
    typed.accepted gives)
    (c.in-Ok.ensures.answer files agrees) c.in-Ok-told.ensures.files c.in-Ok-told.ensures.report

pub returns-in-Err-Fault-clause-ran : goal.returns-in-Err-Fault-clause-ran
returns-in-Err-Fault-clause-ran g c = λ files agrees.
    let typed = c.args.typed.now in
    let gives : thin_steps typed.script ≡ Some c.in-Ok-Some.script = ap thin_steps (sym c.script.ensures.value) ∙ sym c.in-Ok-Some.ensures ∙ c.in-Ok-Some.field-0-is in
    faulty_runs typed.script typed.types files c.in-Ok-Some.script c.in-Err-Fault.fault gives
    (c.thin_law.ensures.means typed.script typed.types c.in-Ok-Some.script files DECISIONS typed.formed c.requires
    typed.accepted gives)
    (rw c.in-Err-Fault.field-0-is at c.in-Err-Fault.ensures.answer files agrees)
    ∙ ap (λ (fault : ScriptFault). Refused (refusal.Fault fault)) (sym c.in-Err-Fault.fault-is)
