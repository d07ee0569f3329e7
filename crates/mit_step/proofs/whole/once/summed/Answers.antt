use Rattle.std.proofs.Common.{◌∙◌, ap, sym, map, take}
use Rattle.std.proofs.lemmas.List.{take_all}
use Rattle.mit_expr.specs.Types.{type_of_value}
use Rattle.mit_expr.specs.Values.{within}
use Rattle.mit_ops.specs.Totals.{total}
use Rattle.mit_ops.specs.declared.kinds.Agg.TheVariants as agg
use Rattle.mit_apply.specs.TotalStored.{total_of}
use Rattle.mit_step.proofs.Sums.{sum_typed, take_next}
use Rattle.mit_step.proofs.whole.once.summed.Goals as goal

pub loop-row-preserved : goal.loop-row-preserved
loop-row-preserved c =
    let next = take_next c.args.rows.now c.loop-row.row-index c.row-item.result c.loop-row-test.true c.row-item.is in
    let typed = rw (← c.row-item.is) at (c.requires c.loop-row.row-index c.row-item.result c.loop-row-test.true) in
    record {
      same =
          c.in_ok-add.ensures.ok (agg.Sum c.args.column) (take c.loop-row.row-index c.args.rows.now) c.loop-row.invariant.same
          ∙ ap (total_of (agg.Sum c.args.column)) (sym next);
      there = c.in_ok-add.ensures.has_value (agg.Sum c.args.column) (take c.loop-row.row-index c.args.rows.now) c.loop-row.invariant.same (sum_typed (map type_of_value c.row-item.result) c.args.column typed);
    }

pub returns : goal.returns
returns c =
    c.bag_of_value.ensures (within (total c.args.column c.args.rows.now))
    (rw (take_all c.loop-row.row-index c.args.rows.now c.loop-row-test.false) at (c.value.ensures (agg.Sum c.args.column) (take c.loop-row.row-index c.args.rows.now) c.loop-row.invariant.same))
