use Rattle.std.proofs.Common.{ap}
use Rattle.std.specs.Ordering.{is_lt}
use Rattle.std.specs.List.Sorted.{IsSorted}
use Rattle.std.proofs.lemmas.List.Sorted.{ranks_by, answers_always, IsPermutation-refl}
use Rattle.mit_rows.specs.Bags.{RowOf}
use Rattle.mit_rows.specs.Order.{row_cmp}
use Rattle.mit_bags.proofs.ValueOrder.{row_cmp_total}
use Rattle.mit_bags.proofs.BagOrder.{bag_from_sorted}
use Rattle.mit_bags.proofs.bag.Bag.from_rows.Goals as goal

pub invariant_of-result : goal.invariant_of-result
invariant_of-result c =
    let rows = c.sort_unstable_by.new.self.items in
    let up : IsSorted row_cmp rows = c.sort_unstable_by.ensures.sorted _ (ranks_by row_cmp_total (λ (row : RowOf). row)) (answers_always _ _ _ (λ f a r f' k. ap is_lt k.met)) in
    bag_from_sorted rows rows (IsPermutation-refl rows) up

pub returns : goal.returns
returns c =
    let rows = c.sort_unstable_by.new.self.items in
    let up : IsSorted row_cmp rows = c.sort_unstable_by.ensures.sorted _ (ranks_by row_cmp_total (λ (row : RowOf). row)) (answers_always _ _ _ (λ f a r f' k. ap is_lt k.met)) in
    bag_from_sorted c.args.rows.items rows c.sort_unstable_by.ensures.permutation up
