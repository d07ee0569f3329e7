use Rattle.std.proofs.Common.{below_more}
use Rattle.std.proofs.lemmas.Bool.{MatchBool-at_true}
use Rattle.mit_valid.specs.Passed.{PhiPasses}
use Rattle.mit_valid.proofs.passing.phis_pass.Goals as goal

pub loop-op-preserved : goal.loop-op-preserved
loop-op-preserved c = record {
  none = c.in_ok-phi_passes.ensures.none;
  pass =
      below_more _ _ c.loop-op.invariant.pass
      (MatchBool-at_true (PhiPasses c.args.plan.now c.loop-op.op) (¬ (PhiPasses c.args.plan.now c.loop-op.op)) c.if-not-branch.false c.in_ok-phi_passes.ensures.pass);
}
