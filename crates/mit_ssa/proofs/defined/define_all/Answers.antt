use Rattle.std.proofs.Common.{arith}
use Rattle.mit_ssa.specs.Weaving.{defined_variables, looked}
use Rattle.mit_ssa.specs.Woven.{with_phis}
use Rattle.mit_ssa.proofs.Inputs.{phis_all, phis_more}
use Rattle.mit_ssa.proofs.defined.define_all.Goals as goal

pub loop-phi-preserved : goal.loop-phi-preserved
loop-phi-preserved c = record {
  next = let a = c.loop-phi.invariant.next in omega (arith, a);
  done =
      phis_more (looked c.loop-phi.after.items) (looked c.put.new.defined.items) (with_phis (looked c.args.defined.items) c.args.number (defined_variables c.args.phis.now))
      c.loop-phi.next c.loop-phi.phi-index c.args.phis.now _ c.loop-phi-test.true c.in_ok-put.ensures c.loop-phi.invariant.done;
}

pub returns : goal.returns
returns c =
    phis_all (looked c.loop-phi.after.items) (with_phis (looked c.args.defined.items) c.args.number (defined_variables c.args.phis.now))
    c.loop-phi.next c.loop-phi.phi-index c.args.phis.now c.loop-phi-test.false c.loop-phi.invariant.done
