use Rattle.std.proofs.Common.{◌+◌}
use Rattle.mit_bags.proofs.MergeFacts.{Merges}
use Rattle.mit_bags.proofs.bag.Bag.joined.Given as goal

abbrev pub invariant-loop-row : goal.invariant-loop-row
invariant-loop-row l = Merges l.fn.self l.fn.other l.left.items l.right.items l.rows.items

abbrev pub decreases-loop-row : goal.decreases-loop-row
decreases-loop-row l = l.left.len + l.right.len
