use Rattle.std.proofs.Common.{◌≡◌, ◌∙◌, ◌+◌, ℕ, ap, length, map, rules, refl, subst, sym, tests}
use Rattle.std.proofs.lemmas.Result.{IfErr-weaker, IfOk-weaker, err_from_is_err_and}
use Rattle.std.proofs.lemmas.Grind.{common_steps}
use Rattle.mit_script.specs.Trees.{count_of_all}
use Rattle.mit_script.specs.declared.tree.Stmt.{the_lemmas}
use Rattle.mit_ssa.specs.Weaving.{IsSmall, StopsWeaving, builder_place, defined_variables, inside_at, kept_of, looked, loop_kept, put_in, turned_by}
use Rattle.mit_ssa.specs.Woven.{WeavePlace, weave_of}
use Rattle.mit_ssa.proofs.Counted.{block_counted}
use Rattle.mit_ssa.proofs.Halves.{half_more, half_stops, half_whole}
use Rattle.mit_ssa.proofs.Laid.{beside_small, branch_is, branches_are, enter_stops, first_stops, if_laid, if_number, second_stops, turn_stops, while_laid}
use Rattle.mit_ssa.proofs.Meeting.{beside_is, body_is, ends_alike, enter_number, inside_is, join_met, join_size, loop_size, turn_met, turns_alike}
use Rattle.mit_ssa.proofs.Statements.{both_marked, condition_stops, if_woven, one_marked}
use Rattle.mit_ssa.proofs.weave.+weave_all.Goals as goal

pub weave_all-returns-in_err-built-clause-large : goal.weave_all-returns-in_err-built-clause-large
weave_all-returns-in_err-built-clause-large t c =
    let p = err_from_is_err_and c.from_residual.result c.from_residual.ensures.1 in
    rw (p.1, p.2)
    (half_stops c.args.types.now c.args.block.now c.loop-stmt.stmt-index c.stmt-item.result c.args.before c.loop-stmt.built c.in_err-built.field-0.0
    c.loop-stmt-test.true c.stmt-item.is c.loop-stmt.invariant c.in_err-built.ensures.large)

pub weave_all-loop-stmt-preserved : goal.weave_all-loop-stmt-preserved
weave_all-loop-stmt-preserved t c =
    half_more c.args.types.now c.args.block.now c.loop-stmt.stmt-index c.stmt-item.result c.args.before c.loop-stmt.built c.in_ok-built.built
    c.loop-stmt-test.true c.stmt-item.is c.loop-stmt.invariant c.in_ok-built.ensures.woven

pub weave_all-returns-clause-woven : goal.weave_all-returns-clause-woven
weave_all-returns-clause-woven t c =
    half_whole c.args.types.now c.args.block.now c.loop-stmt.stmt-index c.args.before c.loop-stmt.built c.loop-stmt-test.false c.loop-stmt.invariant

pub weave_one-returns-in_err-condition-in-If-clause-large : goal.weave_one-returns-in_err-condition-in-If-clause-large
weave_one-returns-in_err-condition-in-If-clause-large t c =
    let p = err_from_is_err_and c.from_residual.result c.from_residual.ensures.1 in
    rw (p.1, p.2)
    (condition_stops c.args.types.now c.in-If.op c.in-If.args c.in-If.yes c.in-If.no c.args.stmt.now c.args.before c.in_err-condition-in-If.field-0.0
    c.in-If.is c.in_err-condition-in-If.ensures.large)

pub weave_if-returns-in_err-last-clause-large : goal.weave_if-returns-in_err-last-clause-large
weave_if-returns-in_err-last-clause-large t c =
    let at_true = inside_is c.args.before c.parted-outside.result.0 c.start-inside.result c.parted-outside.result.1.items c.parted-outside.ensures.rest c.parted-outside.ensures.table c.start-inside.ensures in
    let p = err_from_is_err_and c.from_residual-in_err-last.result c.from_residual-in_err-last.ensures.1 in
    rw (p.1, p.2)
    (first_stops c.args.types.now (map (weave_of c.args.types.now) c.args.yes.now) (map (weave_of c.args.types.now) c.args.no.now) (count_of_all c.args.no.now) c.args.before c.start-inside.result c.in_err-last.field-0.0 (block_counted c.args.types.now c.args.no.now) at_true c.in_err-last.ensures.large)

pub weave_if-weave_all-requires-2 : goal.weave_if-weave_all-requires-2
weave_if-weave_all-requires-2 t c =
    (search (rules, the_lemmas, tests, common_steps), small)
  where
    small : IsSmall c.start-beside.result
    small =
        let at_true = inside_is c.args.before c.parted-outside.result.0 c.start-inside.result c.parted-outside.result.1.items c.parted-outside.ensures.rest c.parted-outside.ensures.table c.start-inside.ensures in
        let same = both_marked c.args.types.now c.new.result.items c.in_ok-mark_all.field-0.items c.in_ok-mark_all-2.field-0.items c.in_order-assigned.result.items c.args.yes.now c.args.no.now
        c.new.ensures.items c.in_ok-mark_all.ensures c.in_ok-mark_all-2.ensures c.in_order-assigned.ensures.same in
        let olds : c.in_ok-olds.olds.items ≡ kept_of (looked c.args.before.defined.items) c.in_order-assigned.result.items = c.in_ok-olds.ensures ∙ (λ i. kept_of (looked (c.deref.ensures.value i)) (c.deref-2.ensures.value i)) in
        let back : looked c.in_ok-put_all.field-0.items ≡ put_in (looked c.in_ok-last.last.defined.items) c.in_ok-olds.olds.items =
        c.in_ok-put_all.ensures ∙ (λ i. put_in (looked (c.parted-first.ensures.table i)) (c.deref-5.ensures.value i)) in
        let at_false = beside_is c.args.types.now c.args.yes.now c.args.no.now c.in_order-assigned.result.items c.in_ok-olds.olds.items c.args.before c.start-inside.result c.in_ok-last.last c.parted-first.result.0 c.start-beside.result c.in_ok-put_all.field-0.items
        _ _ same olds at_true c.in_ok-last.ensures.woven c.parted-first.ensures.rest back c.start-beside.ensures in
        let first = branch_is (map (weave_of c.args.types.now) c.args.yes.now) (inside_at (builder_place c.args.before)) c.start-inside.result c.in_ok-last.last at_true c.in_ok-last.ensures.woven in
        beside_small (map (weave_of c.args.types.now) c.args.yes.now) (count_of_all c.args.yes.now) c.args.before c.in_ok-last.last c.start-beside.result (block_counted c.args.types.now c.args.yes.now) first at_false c.requires.room

pub weave_if-returns-in_err-second-clause-large : goal.weave_if-returns-in_err-second-clause-large
weave_if-returns-in_err-second-clause-large t c =
    let at_true = inside_is c.args.before c.parted-outside.result.0 c.start-inside.result c.parted-outside.result.1.items c.parted-outside.ensures.rest c.parted-outside.ensures.table c.start-inside.ensures in
    let same = both_marked c.args.types.now c.new.result.items c.in_ok-mark_all.field-0.items c.in_ok-mark_all-2.field-0.items c.in_order-assigned.result.items c.args.yes.now c.args.no.now
    c.new.ensures.items c.in_ok-mark_all.ensures c.in_ok-mark_all-2.ensures c.in_order-assigned.ensures.same in
    let olds : c.in_ok-olds.olds.items ≡ kept_of (looked c.args.before.defined.items) c.in_order-assigned.result.items = c.in_ok-olds.ensures ∙ (λ i. kept_of (looked (c.deref.ensures.value i)) (c.deref-2.ensures.value i)) in
    let back : looked c.in_ok-put_all.field-0.items ≡ put_in (looked c.in_ok-last.last.defined.items) c.in_ok-olds.olds.items =
    c.in_ok-put_all.ensures ∙ (λ i. put_in (looked (c.parted-first.ensures.table i)) (c.deref-5.ensures.value i)) in
    let at_false = beside_is c.args.types.now c.args.yes.now c.args.no.now c.in_order-assigned.result.items c.in_ok-olds.olds.items c.args.before c.start-inside.result c.in_ok-last.last c.parted-first.result.0 c.start-beside.result c.in_ok-put_all.field-0.items
    _ _ same olds at_true c.in_ok-last.ensures.woven c.parted-first.ensures.rest back c.start-beside.ensures in
    let first = branch_is (map (weave_of c.args.types.now) c.args.yes.now) (inside_at (builder_place c.args.before)) c.start-inside.result c.in_ok-last.last at_true c.in_ok-last.ensures.woven in
    let p = err_from_is_err_and c.from_residual-in_err-second.result c.from_residual-in_err-second.ensures.1 in
    rw (p.1, p.2) (second_stops c.args.types.now (map (weave_of c.args.types.now) c.args.yes.now) (map (weave_of c.args.types.now) c.args.no.now) c.args.before c.in_ok-last.last c.start-beside.result c.in_err-second.field-0.0 first at_false c.in_err-second.ensures.large)

pub weave_if-returns-clause-woven : goal.weave_if-returns-clause-woven
weave_if-returns-clause-woven t c =
    let at_true = inside_is c.args.before c.parted-outside.result.0 c.start-inside.result c.parted-outside.result.1.items c.parted-outside.ensures.rest c.parted-outside.ensures.table c.start-inside.ensures in
    let same = both_marked c.args.types.now c.new.result.items c.in_ok-mark_all.field-0.items c.in_ok-mark_all-2.field-0.items c.in_order-assigned.result.items c.args.yes.now c.args.no.now
    c.new.ensures.items c.in_ok-mark_all.ensures c.in_ok-mark_all-2.ensures c.in_order-assigned.ensures.same in
    let olds : c.in_ok-olds.olds.items ≡ kept_of (looked c.args.before.defined.items) c.in_order-assigned.result.items = c.in_ok-olds.ensures ∙ (λ i. kept_of (looked (c.deref.ensures.value i)) (c.deref-2.ensures.value i)) in
    let back : looked c.in_ok-put_all.field-0.items ≡ put_in (looked c.in_ok-last.last.defined.items) c.in_ok-olds.olds.items =
    c.in_ok-put_all.ensures ∙ (λ i. put_in (looked (c.parted-first.ensures.table i)) (c.deref-5.ensures.value i)) in
    let at_false = beside_is c.args.types.now c.args.yes.now c.args.no.now c.in_order-assigned.result.items c.in_ok-olds.olds.items c.args.before c.start-inside.result c.in_ok-last.last c.parted-first.result.0 c.start-beside.result c.in_ok-put_all.field-0.items
    _ _ same olds at_true c.in_ok-last.ensures.woven c.parted-first.ensures.rest back c.start-beside.ensures in
    let first = branch_is (map (weave_of c.args.types.now) c.args.yes.now) (inside_at (builder_place c.args.before)) c.start-inside.result c.in_ok-last.last at_true c.in_ok-last.ensures.woven in
    let parts = branches_are (map (weave_of c.args.types.now) c.args.yes.now) (map (weave_of c.args.types.now) c.args.no.now) c.args.before c.in_ok-last.last c.start-beside.result c.in_ok-second.second first at_false c.in_ok-second.ensures.woven in
    let ones : c.deref-6.result.now ≡ kept_of (looked c.in_ok-last.last.defined.items) c.in_order-assigned.result.items =
    c.deref-6.ensures.value ∙ (c.in_ok-ones.ensures ∙ (λ i. kept_of (looked (c.deref-3.ensures.value i)) (c.deref-4.ensures.value i))) in
    let alike = ends_alike c.args.types.now c.args.yes.now c.args.no.now c.in_order-assigned.result.items (looked c.args.before.defined.items) c.start-inside.result c.in_ok-last.last c.start-beside.result c.in_ok-second.second _ _ _ _ same
    (ap (λ (at : WeavePlace). at.defined) at_true.there) c.in_ok-last.ensures.woven (ap (λ (at : WeavePlace). at.defined) at_false.there) c.in_ok-second.ensures.woven in
    IfOk-weaker c.join.result _ _
    (λ new joined. if_laid c.args.types.now c.in_order-assigned.result.items (map (weave_of c.args.types.now) c.args.yes.now) (map (weave_of c.args.types.now) c.args.no.now) (count_of_all c.args.yes.now) (count_of_all c.args.no.now) c.args.before c.in_ok-last.last c.in_ok-second.second new
    (block_counted c.args.types.now c.args.yes.now) (block_counted c.args.types.now c.args.no.now) same parts
    (join_met (length c.args.types.now) c.in_order-assigned.result.items c.deref-6.result.now c.args.before c.parted-outside.result.0 c.in_ok-last.last c.parted-first.result.0 c.in_ok-second.second new c.in_order-assigned.ensures.rise ones
    c.parted-outside.ensures.rest c.parted-first.ensures.rest alike joined) c.requires.small c.requires.room) c.join.ensures.joined

pub weave_if-returns-clause-large : goal.weave_if-returns-clause-large
weave_if-returns-clause-large t c =
    let at_true = inside_is c.args.before c.parted-outside.result.0 c.start-inside.result c.parted-outside.result.1.items c.parted-outside.ensures.rest c.parted-outside.ensures.table c.start-inside.ensures in
    let same = both_marked c.args.types.now c.new.result.items c.in_ok-mark_all.field-0.items c.in_ok-mark_all-2.field-0.items c.in_order-assigned.result.items c.args.yes.now c.args.no.now
    c.new.ensures.items c.in_ok-mark_all.ensures c.in_ok-mark_all-2.ensures c.in_order-assigned.ensures.same in
    let olds : c.in_ok-olds.olds.items ≡ kept_of (looked c.args.before.defined.items) c.in_order-assigned.result.items = c.in_ok-olds.ensures ∙ (λ i. kept_of (looked (c.deref.ensures.value i)) (c.deref-2.ensures.value i)) in
    let back : looked c.in_ok-put_all.field-0.items ≡ put_in (looked c.in_ok-last.last.defined.items) c.in_ok-olds.olds.items =
    c.in_ok-put_all.ensures ∙ (λ i. put_in (looked (c.parted-first.ensures.table i)) (c.deref-5.ensures.value i)) in
    let at_false = beside_is c.args.types.now c.args.yes.now c.args.no.now c.in_order-assigned.result.items c.in_ok-olds.olds.items c.args.before c.start-inside.result c.in_ok-last.last c.parted-first.result.0 c.start-beside.result c.in_ok-put_all.field-0.items
    _ _ same olds at_true c.in_ok-last.ensures.woven c.parted-first.ensures.rest back c.start-beside.ensures in
    let first = branch_is (map (weave_of c.args.types.now) c.args.yes.now) (inside_at (builder_place c.args.before)) c.start-inside.result c.in_ok-last.last at_true c.in_ok-last.ensures.woven in
    let parts = branches_are (map (weave_of c.args.types.now) c.args.yes.now) (map (weave_of c.args.types.now) c.args.no.now) c.args.before c.in_ok-last.last c.start-beside.result c.in_ok-second.second first at_false c.in_ok-second.ensures.woven in
    let ones : c.deref-6.result.now ≡ kept_of (looked c.in_ok-last.last.defined.items) c.in_order-assigned.result.items =
    c.deref-6.ensures.value ∙ (c.in_ok-ones.ensures ∙ (λ i. kept_of (looked (c.deref-3.ensures.value i)) (c.deref-4.ensures.value i))) in
    IfErr-weaker c.join.result _ _
    (λ stop large. subst (λ (n : ℕ). StopsWeaving n stop)
    (ap (λ n. c.in_ok-second.second.operator + n)
    (join_size (length c.args.types.now) c.in_order-assigned.result.items c.deref-6.result.now (looked c.in_ok-last.last.defined.items) (looked c.in_ok-second.second.defined.items) c.in_order-assigned.ensures.rise ones)
    ∙ if_number c.args.types.now c.in_order-assigned.result.items (map (weave_of c.args.types.now) c.args.yes.now) (map (weave_of c.args.types.now) c.args.no.now) c.args.before c.in_ok-last.last c.in_ok-second.second same parts) large) c.join.ensures.large

pub weave_one-returns-in_ok-condition-in-If-clause-woven : goal.weave_one-returns-in_ok-condition-in-If-clause-woven
weave_one-returns-in_ok-condition-in-If-clause-woven t c =
    IfOk-weaker c.weave_if.result _ _
    (λ new later. if_woven c.args.types.now c.in-If.op c.in-If.args c.as_slice-in-If.result.now c.in-If.yes c.in-If.no c.as_slice-in-If-2.result.now c.as_slice-in-If-3.result.now
    c.args.stmt.now c.args.before c.in_ok-condition-in-If.condition new c.in-If.is c.as_slice-in-If.ensures c.as_slice-in-If-2.ensures c.as_slice-in-If-3.ensures
    c.in_ok-condition-in-If.ensures.woven later) c.weave_if.ensures.woven

pub weave_while-returns-in_err-inside-clause-large : goal.weave_while-returns-in_err-inside-clause-large
weave_while-returns-in_err-inside-clause-large t c =
    let same = one_marked c.args.types.now c.new.result.items c.in_ok-mark_all.field-0.items c.in_order-assigned.result.items c.args.body.now c.new.ensures.items c.in_ok-mark_all.ensures c.in_order-assigned.ensures.same in
    let rise = c.in_order-assigned.ensures.rise in
    let olds : c.in_ok-olds.olds.items ≡ kept_of (looked c.args.before.defined.items) c.in_order-assigned.result.items = c.in_ok-olds.ensures ∙ (λ i. kept_of (looked (c.deref.ensures.value i)) (c.deref-2.ensures.value i)) in
    let phis : c.in_ok-phis.phis.items ≡ loop_kept (length c.args.types.now) c.in_ok-olds.olds.items = c.in_ok-phis.ensures ∙ ap (loop_kept (length c.args.types.now)) c.deref-3.ensures.value in
    let due : defined_variables c.deref-4.result.now ≡ (turned_by (length c.args.types.now) c.in_order-assigned.result.items (looked c.args.before.defined.items)) =
    ap defined_variables c.deref-4.ensures.value ∙ loop_size (length c.args.types.now) c.in_order-assigned.result.items c.in_ok-olds.olds.items c.in_ok-phis.phis.items (looked c.args.before.defined.items) rise olds phis in
    let p = err_from_is_err_and c.from_residual-in_err-inside.result c.from_residual-in_err-inside.ensures.1 in
    rw (p.1, p.2)
    (enter_stops c.args.types.now c.args.op.now c.args.args.now (map (weave_of c.args.types.now) c.args.body.now) (count_of_all c.args.body.now) c.in_order-assigned.result.items (turned_by (length c.args.types.now) c.in_order-assigned.result.items (looked c.args.before.defined.items)) c.args.before c.in_err-inside.field-0.0 (block_counted c.args.types.now c.args.body.now) same refl
    (subst (λ (n : ℕ). StopsWeaving n c.in_err-inside.field-0.0) (enter_number c.args.before c.parted-outside.result.0 c.deref-4.result.now (turned_by (length c.args.types.now) c.in_order-assigned.result.items (looked c.args.before.defined.items)) c.parted-outside.ensures.rest due) c.in_err-inside.ensures.large))

pub weave_while-returns-in_err-last-clause-large : goal.weave_while-returns-in_err-last-clause-large
weave_while-returns-in_err-last-clause-large t c =
    let same = one_marked c.args.types.now c.new.result.items c.in_ok-mark_all.field-0.items c.in_order-assigned.result.items c.args.body.now c.new.ensures.items c.in_ok-mark_all.ensures c.in_order-assigned.ensures.same in
    let rise = c.in_order-assigned.ensures.rise in
    let olds : c.in_ok-olds.olds.items ≡ kept_of (looked c.args.before.defined.items) c.in_order-assigned.result.items = c.in_ok-olds.ensures ∙ (λ i. kept_of (looked (c.deref.ensures.value i)) (c.deref-2.ensures.value i)) in
    let phis : c.in_ok-phis.phis.items ≡ loop_kept (length c.args.types.now) c.in_ok-olds.olds.items = c.in_ok-phis.ensures ∙ ap (loop_kept (length c.args.types.now)) c.deref-3.ensures.value in
    let due : defined_variables c.deref-4.result.now ≡ (turned_by (length c.args.types.now) c.in_order-assigned.result.items (looked c.args.before.defined.items)) =
    ap defined_variables c.deref-4.ensures.value ∙ loop_size (length c.args.types.now) c.in_order-assigned.result.items c.in_ok-olds.olds.items c.in_ok-phis.phis.items (looked c.args.before.defined.items) rise olds phis in
    let at_body = body_is c.args.before c.parted-outside.result.0 c.in_ok-inside.inside c.parted-outside.result.1.items (defined_variables c.deref-4.result.now) (turned_by (length c.args.types.now) c.in_order-assigned.result.items (looked c.args.before.defined.items))
    c.parted-outside.ensures.rest c.parted-outside.ensures.table due c.in_ok-inside.ensures.inside in
    let p = err_from_is_err_and c.from_residual-in_err-last.result c.from_residual-in_err-last.ensures.1 in
    rw (p.1, p.2)
    (turn_stops c.args.types.now c.args.op.now c.args.args.now (map (weave_of c.args.types.now) c.args.body.now) c.in_order-assigned.result.items (turned_by (length c.args.types.now) c.in_order-assigned.result.items (looked c.args.before.defined.items)) c.args.before c.in_ok-inside.inside c.in_err-last.field-0.0 same refl at_body c.in_err-last.ensures.large)

pub weave_while-returns-clause-woven : goal.weave_while-returns-clause-woven
weave_while-returns-clause-woven t c =
    let same = one_marked c.args.types.now c.new.result.items c.in_ok-mark_all.field-0.items c.in_order-assigned.result.items c.args.body.now c.new.ensures.items c.in_ok-mark_all.ensures c.in_order-assigned.ensures.same in
    let rise = c.in_order-assigned.ensures.rise in
    let olds : c.in_ok-olds.olds.items ≡ kept_of (looked c.args.before.defined.items) c.in_order-assigned.result.items = c.in_ok-olds.ensures ∙ (λ i. kept_of (looked (c.deref.ensures.value i)) (c.deref-2.ensures.value i)) in
    let phis : c.in_ok-phis.phis.items ≡ loop_kept (length c.args.types.now) c.in_ok-olds.olds.items = c.in_ok-phis.ensures ∙ ap (loop_kept (length c.args.types.now)) c.deref-3.ensures.value in
    let due : defined_variables c.deref-4.result.now ≡ (turned_by (length c.args.types.now) c.in_order-assigned.result.items (looked c.args.before.defined.items)) =
    ap defined_variables c.deref-4.ensures.value ∙ loop_size (length c.args.types.now) c.in_order-assigned.result.items c.in_ok-olds.olds.items c.in_ok-phis.phis.items (looked c.args.before.defined.items) rise olds phis in
    let at_body = body_is c.args.before c.parted-outside.result.0 c.in_ok-inside.inside c.parted-outside.result.1.items (defined_variables c.deref-4.result.now) (turned_by (length c.args.types.now) c.in_order-assigned.result.items (looked c.args.before.defined.items))
    c.parted-outside.ensures.rest c.parted-outside.ensures.table due c.in_ok-inside.ensures.inside in
    let kept : c.deref-5.result.now ≡ kept_of (looked c.args.before.defined.items) c.in_order-assigned.result.items = c.deref-5.ensures.value ∙ olds in
    let given : c.deref-6.result.now ≡ loop_kept (length c.args.types.now) c.deref-5.result.now =
    c.deref-6.ensures.value ∙ (phis ∙ ap (loop_kept (length c.args.types.now)) (sym c.deref-5.ensures.value)) in
    while_laid c.args.types.now c.args.op.now c.args.args.now (map (weave_of c.args.types.now) c.args.body.now) (count_of_all c.args.body.now) c.in_order-assigned.result.items (turned_by (length c.args.types.now) c.in_order-assigned.result.items (looked c.args.before.defined.items)) c.args.before c.in_ok-inside.inside c.in_ok-last.last c.in_ok-turn.field-0 (block_counted c.args.types.now c.args.body.now) same refl
    at_body c.in_ok-last.ensures.woven
    (turn_met c.args.types.now c.args.op.now c.args.args.now (length c.args.types.now) c.in_order-assigned.result.items c.deref-5.result.now c.deref-6.result.now c.args.before c.parted-outside.result.0 c.in_ok-last.last c.in_ok-turn.field-0 rise kept given
    c.parted-outside.ensures.rest (turns_alike c.args.types.now c.args.body.now c.in_order-assigned.result.items c.args.before c.in_ok-inside.inside c.in_ok-last.last _ _ same at_body c.in_ok-last.ensures.woven) c.in_ok-turn.ensures) c.requires.small
