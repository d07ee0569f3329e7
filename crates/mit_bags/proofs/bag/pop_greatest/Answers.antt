use Rattle.std.proofs.Common.{List, subst, true, false}
use Rattle.mit_rows.specs.Bags.{RowOf}
use Rattle.mit_bags.specs.Merging.{IsSideOf}
use Rattle.mit_bags.proofs.MergeFacts.{took_left, took_right}
use Rattle.mit_bags.proofs.bag.pop_greatest.Goals as goal

pub returns-then-is_left_greatest-clause-greatest : goal.returns-then-is_left_greatest-clause-greatest
returns-then-is_left_greatest-clause-greatest c =
    took_left c.args.left.now.items c.args.right.now.items c.pop_last.new.rows.items c.pop_last.result
    (subst (λ (l : List RowOf). IsSideOf l c.args.right.now.items true) c.deref.ensures.value
    (subst (λ (l : List RowOf). IsSideOf c.deref.result.now l true) c.deref-2.ensures.value c.if-is_left_greatest.ensures))
    c.pop_last.ensures.items c.pop_last.ensures.variant

pub returns-else-is_left_greatest-clause-greatest : goal.returns-else-is_left_greatest-clause-greatest
returns-else-is_left_greatest-clause-greatest c =
    took_right c.args.left.now.items c.args.right.now.items c.pop_last-else-is_left_greatest.new.rows.items c.pop_last-else-is_left_greatest.result
    (subst (λ (l : List RowOf). IsSideOf l c.args.right.now.items false) c.deref.ensures.value
    (subst (λ (l : List RowOf). IsSideOf c.deref.result.now l false) c.deref-2.ensures.value c.if-is_left_greatest.ensures))
    c.pop_last-else-is_left_greatest.ensures.items c.pop_last-else-is_left_greatest.ensures.variant
