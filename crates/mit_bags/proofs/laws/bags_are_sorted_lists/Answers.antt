use Rattle.mit_bags.proofs.BagOrder.{bag_of_bag, bag_of_permutation, bag_of_parts}
use Rattle.mit_bags.proofs.laws.bags_are_sorted_lists.Goals as goal

pub returns : goal.returns
returns c = record { sorted = bag_of_bag; order = bag_of_permutation; parts = bag_of_parts }
