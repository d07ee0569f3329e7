use Rattle.mit_tests_kernels.proofs.Numbers.{bags_step}
use Rattle.mit_tests_kernels.proofs.given.bags_of.Goals as goal

pub loop-rows-preserved : goal.loop-rows-preserved
loop-rows-preserved g c =
    bags_step (λ rows. rows.items) c.args.lists.now c.loop-rows.rows-index c.rows-item.result c.loop-rows.bags.items _ c.bag_of.result c.loop-rows-test.true c.rows-item.is c.in-Ok.ensures.items c.bag_of.ensures.wide (rw (← c.deref.ensures.value) c.bag_of.ensures.rows) c.loop-rows.invariant
