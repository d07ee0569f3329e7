-- The lists before the first edge, and with one edge more.
use Rattle.mit_plan.proofs.Lists.{AreLists-none, AreLists-step}
use Rattle.mit_plan.proofs.index.edge_lists.Goals as goal

pub loop-number-init : goal.loop-number-init
loop-number-init c =
    (rw c.in_ok-into.ensures (AreLists-none (λ edge. edge.to) c.args.count), rw c.in_ok-out.ensures (AreLists-none (λ edge. edge.from) c.args.count))

pub loop-number-preserved : goal.loop-number-preserved
loop-number-preserved c =
    let edge = c.index-edges-number in
    let below = c.loop-number-test.true in (
      AreLists-step (λ one. one.to) c.args.count c.args.edges.now c.loop-number.number edge.result _ _ below edge.is c.loop-number.invariant.0 c.in_ok-enlist.ensures,
      AreLists-step (λ one. one.from) c.args.count c.args.edges.now c.loop-number.number edge.result _ _ below edge.is c.loop-number.invariant.1 c.in_ok-enlist-2.ensures,
    )
