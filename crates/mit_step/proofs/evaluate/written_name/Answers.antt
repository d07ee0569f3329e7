use Rattle.std.proofs.Common.{[], ◌∙◌, ap, refl, sym}
use Rattle.mit_files.specs.Names.{is_legal}
use Rattle.mit_ops.specs.Answers.{RowsOrKind, at_row}
use Rattle.mit_ops.specs.Operators.{written}
use Rattle.mit_ops.specs.declared.faults.FaultKind.TheVariants.{BadName}
use Rattle.mit_step.proofs.evaluate.written_name.Goals as goal

pub returns-else-legal_name-clause-bag : goal.returns-else-legal_name-clause-bag
returns-else-legal_name-clause-bag c rows =
    let no = sym (c.legal_name.ensures ∙ ap is_legal c.bytes.ensures.value) ∙ c.if-legal_name.false in
    (record { at = []; kind = BadName }, rw (c.in-Ok-Text.ensures.value, c.in-Ok-Text.field-0-is, no) refl, refl)

pub returns-in-Err-Fault-clause-bag : goal.returns-in-Err-Fault-clause-bag
returns-in-Err-Fault-clause-bag c rows =
    (record { at = []; kind = c.in-Err-Fault.kind }, ap (λ (due : RowsOrKind). at_row [] due) (rw c.in-Err-Fault.field-0-is at (c.in-Err-Fault.ensures.value (written rows))), refl)
