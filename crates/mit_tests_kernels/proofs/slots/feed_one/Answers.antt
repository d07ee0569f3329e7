use Rattle.std.proofs.Common.{◌≡◌, ◌∙◌, [], map, slice_index_or, ap, sym, arith}
use Rattle.std.proofs.lemmas.List.{get_or-map}
use Rattle.mit_tests_kernels.proofs.slots.feed_one.Goals as goal

pub feed_row-requires-clause-row : goal.feed_row-requires-clause-row
feed_row-requires-clause-row g c =
    let rows : slice_index_or (map (λ rows. rows.items) c.args.lists.now) c.args.input [] ≡ c.index-lists-from.result.items =
    get_or-map (λ rows. rows.items) c.args.lists.now c.args.input c.index-lists-from.result [] (omega arith) ∙ ap (λ rows. rows.items) (sym (rw c.from-2.ensures at c.index-lists-from.is)) in
    (c.args.number, rw rows (omega arith), rw rows (sym c.index.ensures))
