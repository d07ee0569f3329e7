use Rattle.std.proofs.Common.{arith}
use Rattle.mit_engine.proofs.OperatorLemmas.{files_end, files_more}
use Rattle.mit_engine.proofs.operators.files_of.Goals as goal

pub loop-at-preserved : goal.loop-at-preserved
loop-at-preserved c =
    files_more c.args.steps.now c.args.operators.now c.loop-at.at c.index-steps-at.result c.index-operators-at.result c.loop-at.written c.write_staged.new.written _
    (omega arith) (omega arith) c.index-steps-at.is c.index-operators-at.is c.loop-at.invariant c.in_ok-write_staged.ensures

pub returns : goal.returns
returns c = files_end c.args.steps.now c.args.operators.now c.loop-at.at c.loop-at.written _ (omega arith) c.loop-at.invariant
