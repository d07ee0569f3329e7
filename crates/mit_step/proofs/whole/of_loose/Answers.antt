use Rattle.std.proofs.Common.{[], ◌∷◌, ap}
use Rattle.mit_rows.specs.Bags.{BagOf}
use Rattle.mit_step.proofs.Orders.{fits_loose, gives_loose}
use Rattle.mit_step.proofs.whole.of_loose.Goals as goal

pub of_one-requires-clause-fits : goal.of_one-requires-clause-fits
of_one-requires-clause-fits c =
    fits_loose c.bags_are_rows_in_order.ensures.rows c.fewer_rows_law.ensures.fewer c.args.spec.now (c.rows.result.now ∷ []) (c.args.bag.now ∷ []) c.args.captures.now
    (ap (λ (bag : BagOf). bag ∷ []) c.rows.ensures.value) c.requires.fits

pub returns : goal.returns
returns c =
    gives_loose c.bags_are_sorted_lists.ensures.sorted c.partition_law.ensures.order c.args.spec.now (c.rows.result.now ∷ []) (c.args.bag.now ∷ []) c.args.captures.now
    c.of_one.result (ap (λ (bag : BagOf). bag ∷ []) c.rows.ensures.value) c.of_one.ensures
