use Rattle.std.proofs.Common.{◌≡◌, take}
use Rattle.mit_ops.specs.declared.kinds.Agg.TheVariants as agg
use Rattle.mit_apply.specs.TotalStored.{HasValue, total_of}
use Rattle.mit_step.proofs.whole.once.summed.Given as goal

abbrev pub invariant-loop-row : goal.invariant-loop-row
invariant-loop-row l = record {
  same : l.sum ≡ total_of (agg.Sum l.column) (take l.row-index l.rows);
  there : HasValue l.sum;
}
