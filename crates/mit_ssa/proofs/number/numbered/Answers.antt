use Rattle.std.proofs.Common.{◌+◌, ap, arith, rules, length, drop}
use Rattle.std.proofs.lemmas.Result.{err_from_is_err_and}
use Rattle.std.proofs.lemmas.Iterator.Adapters.{YieldsList-from_vec}
use Rattle.std.proofs.lemmas.Iterator.Consumers.{YieldsList-so_far, YieldsList-turn}
use Rattle.mit_ssa.proofs.Numbered.{blocks_more, blocks_stop, length-blocks_from, numbers_none, taken_apart}
use Rattle.mit_ssa.proofs.number.numbered.Goals as goal

pub loop-block-init : goal.loop-block-init
loop-block-init c = numbers_none _ (search rules) (search rules) (search rules)

pub add_block-requires-clause-few : goal.add_block-requires-clause-few
add_block-requires-clause-few c =
    let turn = YieldsList-turn (YieldsList-from_vec {s = c.into_iter-block-iterator.result} c.args.blocks.items (search rules) (search rules))
    c.loop-block.yielded c.loop-block.block-iterator c.loop-block.yielded_by c.next.result c.next.new.self c.in-Some.block c.in-Some.is c.next.ensures.steps in
    let a = turn.0 in
    let b = ap length c.loop-block.invariant.blocks in
    let d = length-blocks_from 0 c.loop-block.yielded in
    let e = c.requires in
    omega (arith, a, b, d, e)

pub returns-in_err-lists-clause-large : goal.returns-in_err-lists-clause-large
returns-in_err-lists-clause-large c =
    let road = YieldsList-from_vec {s = c.into_iter-block-iterator.result} c.args.blocks.items (search rules) (search rules) in
    let so_far = YieldsList-so_far road c.loop-block.yielded c.loop-block.block-iterator c.loop-block.yielded_by in
    let turn = YieldsList-turn road
    c.loop-block.yielded c.loop-block.block-iterator c.loop-block.yielded_by c.next.result c.next.new.self c.in-Some.block c.in-Some.is c.next.ensures.steps in
    let p = err_from_is_err_and c.from_residual.result c.from_residual.ensures.1 in
    rw (p.1, p.2)
    (blocks_stop c.loop-block.yielded (drop (length c.loop-block.yielded + 1) c.args.blocks.items) c.args.blocks.items c.in-Some.block c.loop-block.lists
    c.in_err-lists.field-0.0 c.loop-block.invariant
    (taken_apart c.args.blocks.items c.loop-block.yielded c.in-Some.block so_far turn.0 turn.1) c.in_err-lists.ensures.large)

pub loop-block-preserved : goal.loop-block-preserved
loop-block-preserved c = blocks_more c.loop-block.yielded c.in-Some.block c.loop-block.lists c.in_ok-lists.lists c.loop-block.invariant c.in_ok-lists.ensures.added
