use Rattle.mit_ssa.specs.Weaving.{looked, put_in}
use Rattle.mit_ssa.proofs.Inputs.{put_in_all, put_in_more}
use Rattle.mit_ssa.proofs.defined.put_all.Goals as goal

pub loop-one-preserved : goal.loop-one-preserved
loop-one-preserved c =
    put_in_more (looked c.loop-one.after.items) (looked c.put.new.defined.items) (put_in (looked c.args.defined.items) c.args.kept.now)
    c.loop-one.one-index c.args.kept.now _ c.loop-one-test.true c.in_ok-put.ensures c.loop-one.invariant

pub returns : goal.returns
returns c =
    put_in_all (looked c.loop-one.after.items) (put_in (looked c.args.defined.items) c.args.kept.now)
    c.loop-one.one-index c.args.kept.now c.loop-one-test.false c.loop-one.invariant
