use Rattle.std.proofs.Common.{[], ◌∷◌}
use Rattle.mit_step.proofs.Orders.{fits_loose, gives_loose}
use Rattle.mit_step.proofs.whole.of_two_loose.Goals as goal

pub of_two-requires-clause-fits : goal.of_two-requires-clause-fits
of_two-requires-clause-fits c =
    fits_loose c.bags_are_rows_in_order.ensures.rows c.fewer_rows_law.ensures.fewer c.args.spec.now (c.rows.result.now ∷ c.rows-2.result.now ∷ [])
    (c.args.left.now ∷ c.args.right.now ∷ []) c.args.captures.now (λ i. c.rows.ensures.value i ∷ c.rows-2.ensures.value i ∷ []) c.requires.fits

pub returns : goal.returns
returns c =
    gives_loose c.bags_are_sorted_lists.ensures.sorted c.partition_law.ensures.order c.args.spec.now (c.rows.result.now ∷ c.rows-2.result.now ∷ [])
    (c.args.left.now ∷ c.args.right.now ∷ []) c.args.captures.now c.of_two.result (λ i. c.rows.ensures.value i ∷ c.rows-2.ensures.value i ∷ []) c.of_two.ensures
