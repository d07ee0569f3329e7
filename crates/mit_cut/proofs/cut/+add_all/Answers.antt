use Rattle.std.proofs.Common.{◌∙◌, ◌+◌, Some, None, ap, arith, map, refl, rules, subst, sym, tests}
use Rattle.std.specs.Prelude.{IfOk}
use Rattle.std.proofs.lemmas.Result.{IfOk-weaker}
use Rattle.std.proofs.lemmas.Grind.{common_steps}
use Rattle.mit_ops.specs.declared.leave.Leave.TheVariants.{End}
use Rattle.mit_script.specs.declared.tree.Stmt.{the_lemmas}
use Rattle.mit_cfg.specs.Blocks.{Cut, cut_adds, cut_counts, cut_in_turn, cut_of}
use Rattle.mit_cut.specs.Laying.{AddsStep, Joins, Lays}
use Rattle.mit_cut.proofs.Counted.{cut_of-Assign, cut_of-If, cut_of-Write, half_more, half_whole, next_counts}
use Rattle.mit_cut.proofs.Laid.{body_few, closed_size, first_few, if_laid, second_few, step_laid, while_laid}
use Rattle.mit_cut.proofs.cut.+add_all.Goals as goal

pub add_all-loop-stmt-init : goal.add_all-loop-stmt-init
add_all-loop-stmt-init t c = record { number = refl; size = refl; blocks = c.requires.blocks; laid = λ after. refl }

pub add_all-loop-stmt-preserved : goal.add_all-loop-stmt-preserved
add_all-loop-stmt-preserved t c =
    half_more c.args.block.now c.loop-stmt.stmt-index c.stmt-item.result c.args.before c.loop-stmt.built c.in_ok-built.built
    c.loop-stmt-test.true c.stmt-item.is c.loop-stmt.invariant c.in_ok-built.ensures

pub add_all-add_one-requires : goal.add_all-add_one-requires
add_all-add_one-requires t c =
    let a = next_counts c.args.block.now c.loop-stmt.stmt-index c.stmt-item.result c.loop-stmt-test.true c.stmt-item.is in
    let b = c.loop-stmt.invariant.number in
    let few = c.requires.few in
    (search (rules, the_lemmas), (omega (arith, a, b, few), c.loop-stmt.invariant.blocks))

pub add_all-returns : goal.add_all-returns
add_all-returns t c =
    half_whole c.args.block.now c.loop-stmt.stmt-index c.args.before c.loop-stmt.built c.loop-stmt-test.false c.loop-stmt.invariant

pub add_while-current-exit-requires : goal.add_while-current-exit-requires
add_while-current-exit-requires t c =
    let few = c.requires.few in
    let all = body_few c.args.op.now c.args.args.now c.args.body.now (c.current-header.result + 1) c.args.before c.in_ok-entered.entered c.in_ok-condition.condition c.in_ok-inside.inside c.in_ok-last.last c.in_ok-all.all
    (record { blocks = c.in_ok-entered.ensures.blocks; steps = c.in_ok-entered.ensures.steps; number = c.in_ok-entered.ensures.number })
    (record { blocks = c.in_ok-condition.ensures.blocks; steps = c.in_ok-condition.ensures.steps; number = c.in_ok-condition.ensures.number })
    (record { blocks = c.in_ok-inside.ensures.blocks; steps = c.in_ok-inside.ensures.steps; number = c.in_ok-inside.ensures.number })
    c.in_ok-last.ensures
    (record { blocks = c.in_ok-all.ensures.blocks; steps = c.in_ok-all.ensures.steps; number = c.in_ok-all.ensures.number }) c.requires.blocks in
    omega (arith, few, all)

pub add_while-returns : goal.add_while-returns
add_while-returns t c =
    while_laid c.args.op.now c.args.args.now (map cut_of c.args.body.now) (c.current-header.result + 1) c.current-exit.result
    c.args.before c.in_ok-entered.entered c.in_ok-condition.condition c.in_ok-inside.inside c.in_ok-last.last c.in_ok-all.all c.left_by.result
    (ap (λ n. n + 1) c.current-header.ensures) c.current-exit.ensures
    (record { blocks = c.in_ok-entered.ensures.blocks; steps = c.in_ok-entered.ensures.steps; number = c.in_ok-entered.ensures.number })
    (record { blocks = c.in_ok-condition.ensures.blocks; steps = c.in_ok-condition.ensures.steps; number = c.in_ok-condition.ensures.number })
    (record { blocks = c.in_ok-inside.ensures.blocks; steps = c.in_ok-inside.ensures.steps; number = c.in_ok-inside.ensures.number })
    c.in_ok-last.ensures
    (record { blocks = c.in_ok-all.ensures.blocks; steps = c.in_ok-all.ensures.steps; number = c.in_ok-all.ensures.number })
    (record { blocks = c.left_by.ensures.blocks; steps = c.left_by.ensures.steps; same = c.left_by.ensures.number })

pub add_one-returns-in-Assign : goal.add_one-returns-in-Assign
add_one-returns-in-Assign t c =
    subst (λ cut. IfOk c.add.result (Lays cut.count cut.added cut.onto c.args.before)) (sym (ap cut_of c.in-Assign.is ∙ cut_of-Assign c.in-Assign.target c.in-Assign.op c.in-Assign.args))
    (IfOk-weaker c.add.result (AddsStep (Some c.in-Assign.target) c.in-Assign.op c.in-Assign.args c.args.before) _
    (λ new added. step_laid (Some c.in-Assign.target) c.in-Assign.op c.in-Assign.args c.args.before new added) c.add.ensures)

pub add_one-returns-in-Write : goal.add_one-returns-in-Write
add_one-returns-in-Write t c =
    subst (λ cut. IfOk c.add-in-Write.result (Lays cut.count cut.added cut.onto c.args.before)) (sym (ap cut_of c.in-Write.is ∙ cut_of-Write c.in-Write.op c.in-Write.args))
    (IfOk-weaker c.add-in-Write.result (AddsStep None c.in-Write.op c.in-Write.args c.args.before) _
    (λ new added. step_laid None c.in-Write.op c.in-Write.args c.args.before new added) c.add-in-Write.ensures)

pub add_one-current-last-requires : goal.add_one-current-last-requires
add_one-current-last-requires t c =
    let first = first_few c.in-If.op c.in-If.args c.as_slice.result.now c.args.before c.in_ok-condition-in-If.condition c.in_ok-inside-in-If.inside c.in_ok-first-in-If.first
    c.in_ok-condition-in-If.ensures
    (record { blocks = c.in_ok-inside-in-If.ensures.blocks; steps = c.in_ok-inside-in-If.ensures.steps; number = c.in_ok-inside-in-If.ensures.number })
    c.in_ok-first-in-If.ensures c.requires.blocks in
    let few = c.requires.few in
    let size = ap (λ (cut : Cut). cut.count) (ap cut_of c.in-If.is ∙ cut_of-If c.in-If.op c.in-If.args c.in-If.yes c.in-If.no) in
    let one = ap (λ block. cut_counts (map cut_of block)) c.as_slice.ensures in
    let a = first.0 in let b = first.1 in
    omega (arith, few, size, one, a, b)

pub add_one-add_all-requires-in-If : goal.add_one-add_all-requires-in-If
add_one-add_all-requires-in-If t c =
    let first = first_few c.in-If.op c.in-If.args c.as_slice.result.now c.args.before c.in_ok-condition-in-If.condition c.in_ok-inside-in-If.inside c.in_ok-first-in-If.first
    c.in_ok-condition-in-If.ensures
    (record { blocks = c.in_ok-inside-in-If.ensures.blocks; steps = c.in_ok-inside-in-If.ensures.steps; number = c.in_ok-inside-in-If.ensures.number })
    c.in_ok-first-in-If.ensures c.requires.blocks in
    let few = c.requires.few in
    let size = ap (λ (cut : Cut). cut.count) (ap cut_of c.in-If.is ∙ cut_of-If c.in-If.op c.in-If.args c.in-If.yes c.in-If.no) in
    let one = ap (λ block. cut_counts (map cut_of block)) c.as_slice.ensures in
    let a = first.0 in let b = first.1 in
    let other = ap (λ block. cut_counts (map cut_of block)) c.as_slice-in-If.ensures in
    let d = c.in_ok-between-in-If.ensures.number in
    let e = closed_size End c.in_ok-first-in-If.first c.in_ok-between-in-If.between (record { blocks = c.in_ok-between-in-If.ensures.blocks; steps = c.in_ok-between-in-If.ensures.steps; number = c.in_ok-between-in-If.ensures.number }) in
    (search (rules, the_lemmas, tests, common_steps), (omega (arith, few, size, one, other, b, d), omega (arith, a, d, e)))

pub add_one-add_join-requires-clause-few : goal.add_one-add_join-requires-clause-few
add_one-add_join-requires-clause-few t c =
    let first = first_few c.in-If.op c.in-If.args c.as_slice.result.now c.args.before c.in_ok-condition-in-If.condition c.in_ok-inside-in-If.inside c.in_ok-first-in-If.first
    c.in_ok-condition-in-If.ensures
    (record { blocks = c.in_ok-inside-in-If.ensures.blocks; steps = c.in_ok-inside-in-If.ensures.steps; number = c.in_ok-inside-in-If.ensures.number })
    c.in_ok-first-in-If.ensures c.requires.blocks in
    let few = c.requires.few in
    let size = ap (λ (cut : Cut). cut.count) (ap cut_of c.in-If.is ∙ cut_of-If c.in-If.op c.in-If.args c.in-If.yes c.in-If.no) in
    let one = ap (λ block. cut_counts (map cut_of block)) c.as_slice.ensures in
    let a = first.0 in let b = first.1 in
    let other = ap (λ block. cut_counts (map cut_of block)) c.as_slice-in-If.ensures in
    let second = second_few c.as_slice-in-If.result.now c.in_ok-first-in-If.first c.in_ok-between-in-If.between c.in_ok-second-in-If.second
    (record { blocks = c.in_ok-between-in-If.ensures.blocks; steps = c.in_ok-between-in-If.ensures.steps; number = c.in_ok-between-in-If.ensures.number }) c.in_ok-second-in-If.ensures a in
    let d = second.1 in let e = second.2 in
    omega (arith, few, size, one, other, b, d, e)

pub add_one-returns-in_ok-second-in-If : goal.add_one-returns-in_ok-second-in-If
add_one-returns-in_ok-second-in-If t c =
    subst (λ cut. IfOk c.add_join.result (Lays cut.count cut.added cut.onto c.args.before)) (sym (ap cut_of c.in-If.is ∙ cut_of-If c.in-If.op c.in-If.args c.in-If.yes c.in-If.no))
    (IfOk-weaker c.add_join.result (Joins c.current-here.result c.current-last.result c.in_ok-second-in-If.second) _
    (λ new joins. if_laid c.in-If.op c.in-If.args (map cut_of c.in-If.yes) (map cut_of c.in-If.no) c.current-here.result c.current-last.result
    c.args.before c.in_ok-condition-in-If.condition c.in_ok-inside-in-If.inside c.in_ok-first-in-If.first c.in_ok-between-in-If.between c.in_ok-second-in-If.second new
    c.current-here.ensures c.current-last.ensures c.in_ok-condition-in-If.ensures
    (record { blocks = c.in_ok-inside-in-If.ensures.blocks; steps = c.in_ok-inside-in-If.ensures.steps; number = c.in_ok-inside-in-If.ensures.number })
    (subst (λ block. Lays (cut_counts (map cut_of block)) (cut_adds (map cut_of block)) (cut_in_turn (map cut_of block)) c.in_ok-inside-in-If.inside c.in_ok-first-in-If.first) c.as_slice.ensures c.in_ok-first-in-If.ensures)
    (record { blocks = c.in_ok-between-in-If.ensures.blocks; steps = c.in_ok-between-in-If.ensures.steps; number = c.in_ok-between-in-If.ensures.number })
    (subst (λ block. Lays (cut_counts (map cut_of block)) (cut_adds (map cut_of block)) (cut_in_turn (map cut_of block)) c.in_ok-between-in-If.between c.in_ok-second-in-If.second) c.as_slice-in-If.ensures c.in_ok-second-in-If.ensures)
    joins) c.add_join.ensures)
