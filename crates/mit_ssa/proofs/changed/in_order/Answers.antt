use Rattle.std.proofs.lemmas.List.Filters.{dedup_is}
use Rattle.mit_ssa.proofs.Rising.{marked_same, rise_of_dedup}
use Rattle.mit_ssa.proofs.changed.in_order.Goals as goal

pub returns-clause-rise : goal.returns-clause-rise
returns-clause-rise c = rw (dedup_is _ _ _ c.dedup.ensures.filtered) (rise_of_dedup _ c.sort_unstable.ensures.sorted)

pub returns-clause-same : goal.returns-clause-same
returns-clause-same c variable = rw (dedup_is _ _ _ c.dedup.ensures.filtered) (marked_same _ _ variable c.sort_unstable.ensures.permutation)
