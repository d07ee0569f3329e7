-- One block's text more.
use Rattle.std.proofs.Common.{◌++◌, ap, ◌∙◌, append_assoc, sym, zero-add}
use Rattle.mit_plan.specs.Printed.{block_text}
use Rattle.mit_plan.proofs.Texts.{flat_map-range_more}
use Rattle.mit_plan.proofs.print.print_plan.Goals as goal

pub loop-number-preserved : goal.loop-number-preserved
loop-number-preserved c =
    let texts = block_text c.args.plan.now in
    let number = c.loop-number.number in
    c.in_ok-add_block.ensures
    ∙ ap (λ text. text ++ texts number) c.loop-number.invariant
    ∙ append_assoc c.add_counts.new.text.items _ _
    ∙ ap (λ more. c.add_counts.new.text.items ++ more) (sym (flat_map-range_more texts 0 number number (zero-add number)))
