use Rattle.std.proofs.Common.{◌≡◌, List, ap, arith, length}
use Rattle.mit_plan.specs.declared.plan.PlanBlock.{PlanBlock}
use Rattle.mit_valid.proofs.Landings.{walks_one}
use Rattle.mit_valid.proofs.landing.step_each.Goals as goal

pub returns : goal.returns
returns c =
    let same = ap (λ (all : List PlanBlock). length all) c.blocks-block-end.ensures.value in
    let many : length c.loop-block.landings ≡ length c.args.plan.now.blocks = omega arith in
    walks_one c.args.plan.now c.loop-block.landings many (λ block below. c.loop-block.invariant block (omega (arith, below)))
