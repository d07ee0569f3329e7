use Rattle.std.proofs.Common.{◌≡◌}
use Rattle.mit_rows.specs.Bags.{bag_sum}
use Rattle.mit_bags.proofs.bag.Bag.join_all.Given as goal

abbrev pub invariant-loop-bag : goal.invariant-loop-bag
invariant-loop-bag l = l.sum ≡ bag_sum l.yielded
