use Rattle.std.proofs.Common.{◌∷◌, [], take}
use Rattle.std.proofs.lemmas.List.{append_assoc, take_more}
use Rattle.mit_k_rows.proofs.each.add_rows.Goals as goal

pub loop-row-preserved : goal.loop-row-preserved
loop-row-preserved c = record {
  empty = c.in_ok-add_given.ensures.empty;
  sum = λ before is. rw (
    take_more c.args.rows.now c.loop-row.row-index c.row-item.result c.loop-row-test.true,
    ← c.row-item.is,
    ← append_assoc before (take c.loop-row.row-index c.args.rows.now) (c.row-item.result ∷ []),
    c.answers_add_up.ensures.more _ _ _,
    ← c.loop-row.invariant.sum before is,
  ) c.in_ok-add_given.ensures.adds;
}
