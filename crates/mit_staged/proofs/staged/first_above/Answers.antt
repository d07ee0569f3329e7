use Rattle.std.proofs.Common.{◌∙◌, arith, sym}
use Rattle.mit_staged.proofs.StagedLemmas.{above_more, above_start, are_lower, first_from, none_lower}
use Rattle.mit_staged.proofs.staged.first_above.Goals as goal

pub loop-at-init : goal.loop-at-init
loop-at-init c = record { within = omega arith; above = above_start c.args.puts.now (c.args.place, c.args.index) }

pub loop-at-preserved : goal.loop-at-preserved
loop-at-preserved c = record {
  within = omega (arith, c.loop-at.invariant.within);
  above = above_more c.args.puts.now (c.args.place, c.args.index) c.loop-at.at c.index-puts-at.result c.loop-at-test.true c.loop-at.invariant.within
      c.index-puts-at.is (sym c.is_above.ensures ∙ c.if-is_above.true);
}

pub returns-else-is_above : goal.returns-else-is_above
returns-else-is_above c =
    first_from c.args.puts.now (c.args.place, c.args.index) c.loop-at.at c.loop-at.invariant.within
    (are_lower c.args.puts.now (c.args.place, c.args.index) c.loop-at.at c.index-puts-at.result c.requires c.loop-at-test.true c.loop-at.invariant.within
    c.index-puts-at.is (sym c.is_above.ensures ∙ c.if-is_above.false))
    c.loop-at.invariant.above

pub returns-after-loop-at : goal.returns-after-loop-at
returns-after-loop-at c =
    first_from c.args.puts.now (c.args.place, c.args.index) c.loop-at.at c.loop-at.invariant.within
    (none_lower c.args.puts.now (c.args.place, c.args.index) c.loop-at.at (omega (arith, c.loop-at-test.false))) c.loop-at.invariant.above
