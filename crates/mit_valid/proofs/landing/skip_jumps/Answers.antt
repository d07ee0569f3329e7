use Rattle.std.proofs.Common.{◌≤◌, List, ap, arith, length}
use Rattle.mit_plan.specs.declared.plan.PlanBlock.{PlanBlock}
use Rattle.mit_valid.proofs.Landings.{walks_skip}
use Rattle.mit_valid.proofs.landing.skip_jumps.Goals as goal

pub returns : goal.returns
returns c =
    let same = ap (λ (all : List PlanBlock). length all) c.blocks-in-loop-steps.ensures.value in
    let enough : length c.args.plan.now.blocks ≤ c.loop-steps.steps = omega arith in
    walks_skip c.args.plan.now c.loop-steps.steps c.loop-steps.landings c.requires.lists c.loop-steps.invariant.walks enough
