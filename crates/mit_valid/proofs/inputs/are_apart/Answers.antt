-- A block that has its stamp already, and one that gets it.
use Rattle.std.proofs.Common.{ℕ, ◌+◌, ◌<◌, arith, length, subst}
use Rattle.std.proofs.lemmas.List.{length-set}
use Rattle.mit_plan.specs.Valid.{AreApart, source_blocks}
use Rattle.mit_valid.proofs.Leading.{length-source_blocks, source_at}
use Rattle.mit_valid.proofs.Stamped.{stamped_more, stamped_twice}
use Rattle.mit_valid.proofs.inputs.are_apart.Goals as goal

pub returns-then-stamps-block-clause-apart : goal.returns-then-stamps-block-clause-apart
returns-then-stamps-block-clause-apart c =
    let plan = c.args.plan.now in
    let op = c.args.op in
    let at = c.loop-number.number-index in
    let numbers = c.edges_to-number-items.result.now in
    let block = c.source_block-block in
    let here = c.loop-number-test.true in
    let are = c.edges_to-number-items.ensures.value c.requires.op in
    let within : at < length (source_blocks plan op) = omega (arith, length-source_blocks plan op numbers are, here) in
    subst (λ (own : ℕ). ¬ (AreApart (source_blocks plan op) own)) c.op_block-own.ensures.value
    (stamped_twice c.op_block-own.result (op + 1) (source_blocks plan op) at c.loop-number.stamps block.result c.loop-number.invariant
    (source_at plan op at block.result numbers are here block.ensures.value) within c.if-stamps-block.true)

pub loop-number-preserved : goal.loop-number-preserved
loop-number-preserved c =
    let plan = c.args.plan.now in
    let op = c.args.op in
    let at = c.loop-number.number-index in
    let stamps = c.loop-number.stamps in
    let numbers = c.edges_to-number-items.result.now in
    let block = c.source_block-block in
    let are = c.edges_to-number-items.ensures.value c.requires.op in
    let size = length-set c.args.stamps.now c.op_block-own.result (op + 1) in
    let below : block.result < length stamps = omega (arith, block.ensures.below, c.loop-number.auto.stamps, size, c.requires.many) in
    stamped_more c.op_block-own.result (op + 1) (source_blocks plan op) at stamps block.result c.loop-number.invariant
    (source_at plan op at block.result numbers are c.loop-number-test.true block.ensures.value) below c.if-stamps-block.false
