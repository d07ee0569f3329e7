use Rattle.std.proofs.Common.{◌++◌, List, subst, sym}
use Rattle.mit_rows.specs.Bags.{IsBag, RowOf}
use Rattle.mit_bags.proofs.BagOrder.{bag_of_bag}
use Rattle.mit_bags.proofs.MergeFacts.{Merges, merges_end, merges_more, merges_start}
use Rattle.mit_bags.proofs.bag.Bag.joined.Goals as goal

pub loop-row-init : goal.loop-row-init
loop-row-init c =
    merges_start c.args.self c.args.other c.self.inside.rows.items c.other-2.inside.rows.items c.in_ok-rows.rows.items
    c.self.view_is c.other-2.view_is c.self.invariant c.other-2.invariant c.in_ok-rows.ensures.items

pub loop-row-preserved : goal.loop-row-preserved
loop-row-preserved c =
    subst (λ (l : List RowOf). Merges c.args.self c.args.other c.pop_greatest.new.left.items c.pop_greatest.new.right.items l) (sym c.in_ok-push.ensures.items)
    (merges_more c.args.self c.args.other c.loop-row.left.items c.loop-row.right.items c.pop_greatest.new.left.items c.pop_greatest.new.right.items
    c.loop-row.rows.items c.in-Some.row c.in-Some.ensures.greatest c.loop-row.invariant)

pub returns : goal.returns
returns c =
    merges_end c.args.self c.args.other c.loop-row.left.items c.loop-row.right.items c.pop_greatest.new.left.items c.pop_greatest.new.right.items
    c.loop-row.rows.items c.reverse.new.self.items c.in_default.ensures.greatest c.reverse.ensures.permutation c.reverse.ensures.items c.loop-row.invariant

pub invariant_of-result : goal.invariant_of-result
invariant_of-result c =
    subst (λ (l : List RowOf). IsBag l)
    (sym (merges_end c.args.self c.args.other c.loop-row.left.items c.loop-row.right.items c.pop_greatest.new.left.items c.pop_greatest.new.right.items
    c.loop-row.rows.items c.reverse.new.self.items c.in_default.ensures.greatest c.reverse.ensures.permutation c.reverse.ensures.items c.loop-row.invariant))
    (bag_of_bag (c.args.self ++ c.args.other))
