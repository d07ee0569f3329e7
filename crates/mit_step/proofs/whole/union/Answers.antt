use Rattle.std.proofs.Common.{◌∙◌, ◌++◌, List, ap, sym}
use Rattle.mit_rows.specs.Bags.{RowOf, bag_of}
use Rattle.mit_step.proofs.Orders.{two_bags}
use Rattle.mit_step.proofs.whole.union.Goals as goal

pub returns : goal.returns
returns c =
    c.from_rows.ensures
    ∙ ap bag_of (c.in_ok-add_copies-2.ensures ∙ ap (λ (rows : List RowOf). rows ++ c.args.right.now) (c.in_ok-add_copies.ensures ∙ ap (λ (rows : List RowOf). rows ++ c.args.left.now) c.in_ok-rows.ensures.items)
    ∙ sym (two_bags c.args.left.now c.args.right.now))
