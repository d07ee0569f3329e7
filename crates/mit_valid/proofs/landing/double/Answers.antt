use Rattle.std.proofs.Common.{◌<◌, List, ap, arith, length}
use Rattle.mit_plan.specs.declared.plan.PlanBlock.{PlanBlock}
use Rattle.mit_valid.proofs.Landings.{doubled, landing_within}
use Rattle.mit_valid.proofs.landing.double.Goals as goal

pub bounds-landings-landings : goal.bounds-landings-landings
bounds-landings-landings c =
    let same = ap (λ (all : List PlanBlock). length all) c.blocks-block-end.ensures.value in
    let walks = c.loop-block.invariant.walks in
    let many = walks.many in
    let there : c.loop-block.block < length c.args.plan.now.blocks = omega arith in
    let within = landing_within c.args.plan.now c.args.steps c.loop-block.landings c.requires.leaves walks c.loop-block.block there in
    omega arith

pub loop-block-preserved : goal.loop-block-preserved
loop-block-preserved c =
    let same = ap (λ (all : List PlanBlock). length all) c.blocks-block-end.ensures.value in
    let there : c.loop-block.block < length c.args.plan.now.blocks = omega arith in
    let (walks, twice) = doubled c.args.plan.now c.args.steps c.loop-block.block c.loop-block.landings c.requires.leaves there c.loop-block.invariant.walks c.loop-block.invariant.twice in
    record { walks = walks; twice = twice }
