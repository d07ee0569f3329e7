use Rattle.mit_ssa.specs.Weaving.{looked}
use Rattle.mit_ssa.specs.Woven.{inputs_from}
use Rattle.mit_ssa.proofs.Inputs.{inputs_all, inputs_more}
use Rattle.mit_ssa.proofs.operators.inputs_of.Goals as goal

pub loop-input-preserved : goal.loop-input-preserved
loop-input-preserved c =
    inputs_more c.args.types.now (looked c.args.defined.now) c.args.op.now c.args.args.now c.loop-input.input c.loop-input.inputs.items c.push.new.self.items
    (inputs_from c.args.types.now (looked c.args.defined.now) c.args.op.now 0 c.args.args.now) c.in_ok-source_of.field-0
    c.loop-input-test.true c.in_ok-source_of.ensures.from c.in_ok-source_of.ensures.route c.in_ok-push.ensures.items c.loop-input.invariant

pub returns : goal.returns
returns c =
    inputs_all c.args.types.now (looked c.args.defined.now) c.args.op.now c.args.args.now c.loop-input.input c.loop-input.inputs.items
    (inputs_from c.args.types.now (looked c.args.defined.now) c.args.op.now 0 c.args.args.now) c.loop-input-test.false c.loop-input.invariant
