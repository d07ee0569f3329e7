-- At the next operator nothing changes, or fewer are left.
use Rattle.mit_valid.proofs.InferredTypes.{gone_on, gone_same}
use Rattle.mit_valid.proofs.inferring.infer_each.Goals as goal
use Rattle.mit_valid.proofs.inferring.infer_each.Goals.{in-Ended, in-Goes}

pub loop-op-preserved : goal.loop-op-preserved
loop-op-preserved c =
    let plan = c.args.plan.now in
    let first = c.args.inferred.now.items in
    let before = c.loop-op.inferred.items in
    let after = c.infer.new.inferred.items in
    let op = c.loop-op.op in
    elim c.match-branch-2.branch [
      | in-Ended w ↦
          let step = rw w.in-Ended.is at c.in_ok-infer.ensures in
          rw w.goes-is (gone_same plan first before after c.loop-op.goes op c.loop-op.invariant step.0 step.1)
      | in-Goes w ↦
          let step = rw w.in-Goes.is at c.in_ok-infer.ensures in
          rw w.goes-is (gone_on plan first before after c.loop-op.goes op c.loop-op.invariant step.0 step.1)
    ]
