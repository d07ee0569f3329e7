use Rattle.mit_bags.proofs.BagOrder.{bag_of_moved, bag_of_rises}
use Rattle.mit_bags.proofs.laws.bags_are_rows_in_order.Goals as goal

pub returns : goal.returns
returns c = record { rows = bag_of_moved; rising = bag_of_rises }
