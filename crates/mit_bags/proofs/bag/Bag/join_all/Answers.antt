use Rattle.std.proofs.Common.{◌∙◌}
use Rattle.mit_bags.proofs.MergeFacts.{bag_none, sum_more, sum_none}
use Rattle.mit_bags.proofs.bag.Bag.join_all.Goals as goal

pub invariant_of-sum : goal.invariant_of-sum
invariant_of-sum c = bag_none c.new.result.items c.new.ensures.items

pub loop-bag-init : goal.loop-bag-init
loop-bag-init c = c.new.ensures.items ∙ sum_none

pub loop-bag-preserved : goal.loop-bag-preserved
loop-bag-preserved c = sum_more c.loop-bag.yielded c.loop-bag.sum c.in-Some.bag c.in_ok-sum.sum c.loop-bag.invariant c.in_ok-sum.ensures
