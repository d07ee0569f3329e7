use Rattle.std.proofs.Common.{ap, arith, below_more, length, List}
use Rattle.std.proofs.lemmas.Bool.{MatchBool-at_false, MatchBool-at_true}
use Rattle.mit_plan.specs.declared.plan.PlanBlock.{PlanBlock}
use Rattle.mit_valid.specs.Passed.{BlockPasses}
use Rattle.mit_valid.proofs.passing.blocks_pass.Goals as goal

pub returns-then-not-branch-clause-pass : goal.returns-then-not-branch-clause-pass
returns-then-not-branch-clause-pass c = λ each.
    let same = ap (λ (all : List PlanBlock). length all) c.blocks-block-end.ensures.value in
    MatchBool-at_false (BlockPasses c.args.plan.now c.loop-block.block) (¬ (BlockPasses c.args.plan.now c.loop-block.block)) c.if-not-branch.true c.in_ok-block_passes.ensures.pass
    (each c.loop-block.block (omega arith))

pub loop-block-preserved : goal.loop-block-preserved
loop-block-preserved c = record {
  none = c.in_ok-block_passes.ensures.none;
  pass =
      below_more _ _ c.loop-block.invariant.pass
      (MatchBool-at_true (BlockPasses c.args.plan.now c.loop-block.block) (¬ (BlockPasses c.args.plan.now c.loop-block.block)) c.if-not-branch.false c.in_ok-block_passes.ensures.pass);
}

pub returns-clause-pass : goal.returns-clause-pass
returns-clause-pass c = λ block below.
    let same = ap (λ (all : List PlanBlock). length all) c.blocks-block-end.ensures.value in
    c.loop-block.invariant.pass block (omega arith)
