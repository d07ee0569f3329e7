use Rattle.std.proofs.Common.{add-one, sym}
use Rattle.std.proofs.Math.Seq.{drop-cons}
use Rattle.std.proofs.lemmas.List.{drop_all}
use Rattle.mit_kernel.proofs.Captures.{after_nothing, no_more, no_scalar, one_scalar}
use Rattle.mit_kernel.proofs.fed.all_captured.Goals as goal

pub loop-rows-init : goal.loop-rows-init
loop-rows-init c = rw c.new-values.ensures.items (sym (after_nothing _))

pub returns-in_default : goal.returns-in_default
returns-in_default c =
    let rest = drop-cons c.args.scalars.now c.loop-rows.rows-index c.rows-item.result c.loop-rows-test.true in
    rw (c.loop-rows.invariant, rest, ← c.rows-item.is, no_scalar c.loop-rows.values.items c.rows-item.result.items _ (rw (← c.deref.ensures.value, ← c.in_ok-value.ensures) c.in_default.is))

pub loop-rows-preserved : goal.loop-rows-preserved
loop-rows-preserved c =
    let rest = drop-cons c.args.scalars.now c.loop-rows.rows-index c.rows-item.result c.loop-rows-test.true in
    rw (c.loop-rows.invariant, rest, ← c.rows-item.is, one_scalar c.loop-rows.values.items c.in-Some.value c.rows-item.result.items _ (rw (← c.deref.ensures.value, ← c.in_ok-value.ensures) c.in-Some.is), c.in_ok-push.ensures.items, add-one)

pub returns : goal.returns
returns c = rw (c.loop-rows.invariant, drop_all c.loop-rows.rows-index c.args.scalars.now c.loop-rows-test.false) (sym (no_more _))
