-- One operator of the block after another.
use Rattle.std.proofs.Common.{◌∙◌, arith, sym}
use Rattle.mit_valid.proofs.Feeding.{index_below, index_feeds, no_index_feeds}
use Rattle.mit_valid.proofs.passing.block_feeds.Goals as goal

pub overflow_add-own : goal.overflow_add-own
overflow_add-own c =
    let below = index_below c.args.plan.now c.blocks-2.result.now c.args.block _ c.requires.lists.ranges c.blocks-2.ensures.value c.requires.block c.loop-index.index c.loop-index-test.true in
    omega arith

pub op_feeds-requires-clause-op : goal.op_feeds-requires-clause-op
op_feeds-requires-clause-op c =
    index_below c.args.plan.now c.blocks-2.result.now c.args.block _ c.requires.lists.ranges c.blocks-2.ensures.value c.requires.block c.loop-index.index c.loop-index-test.true

pub returns-then-op_feeds : goal.returns-then-op_feeds
returns-then-op_feeds c =
    index_feeds c.args.plan.now c.blocks-2.result.now c.args.block _ c.requires.lists.ranges c.blocks-2.ensures.value c.requires.block c.args.marks.now c.loop-index.index c.loop-index-test.true
    (sym c.op_feeds.ensures ∙ c.if-op_feeds.true)

pub returns : goal.returns
returns c =
    no_index_feeds c.args.plan.now c.blocks-2.result.now c.args.block _ c.requires.lists.ranges c.blocks-2.ensures.value c.requires.block c.args.marks.now c.loop-index.index
    c.requires.lists.inputs.name c.loop-index-test.false c.loop-index.invariant
