-- What is told of the last table is told of the plan.
use Rattle.std.proofs.Common.{◌∙◌, ◌-◌, List, ap, length}
use Rattle.mit_plan.specs.declared.plan.PlanBlock.{PlanBlock}
use Rattle.mit_valid.proofs.Jumped.{ends_told}
use Rattle.mit_valid.proofs.jumps.jumps_end.Goals as goal

pub returns : goal.returns
returns c =
    let most = c.saturating_sub-most.ensures ∙ ap (λ (blocks : List PlanBlock). length blocks - 1) c.blocks-2.ensures.value in
    ends_told c.args.plan.now c.saturating_sub-most.result c.in_ok-last.last.items c.deref.result.now c.all_settled.result most c.in_ok-last.ensures
    c.deref.ensures.value c.all_settled.ensures
