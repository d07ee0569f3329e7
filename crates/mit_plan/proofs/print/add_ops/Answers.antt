-- One operator's line more.
use Rattle.std.proofs.Common.{◌+◌, ◌++◌, ap, ◌∙◌, append_assoc, refl, sym}
use Rattle.mit_plan.specs.Printed.{op_line}
use Rattle.mit_plan.proofs.Texts.{flat_map-range_more}
use Rattle.mit_plan.proofs.print.add_ops.Goals as goal

pub loop-index-preserved : goal.loop-index-preserved
loop-index-preserved c =
    let first = c.args.block.now.first in
    let lines = op_line c.args.plan.now in
    c.in_ok-add_op.ensures
    ∙ ap (λ text. text ++ lines (first + c.loop-index.index)) c.loop-index.invariant
    ∙ append_assoc c.args.text.now.items _ _
    ∙ ap (λ more. c.args.text.now.items ++ more) (sym (flat_map-range_more lines first c.loop-index.index (first + c.loop-index.index) refl))
