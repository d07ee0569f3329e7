-- A type is added at each turn, and the last one at the end.
use Rattle.std.proofs.Common.{◌∙◌, slice_get, Some, ap, sym}
use Rattle.mit_ops.specs.Results as due
use Rattle.mit_types.proofs.TypeLists.{all_types, next_type, no_type}
use Rattle.mit_types.proofs.results.reduced.Goals as goal

pub returns-in_default : goal.returns-in_default
returns-in_default c =
    ap (λ l. due.with_column l c.args.more) (sym (no_type (slice_get c.args.columns.now) c.args.keys.now _ 0 _ _ c.loop-key-test.true (sym c.column_type.ensures ∙ c.in_default.is) c.loop-key.invariant))

pub loop-key-preserved : goal.loop-key-preserved
loop-key-preserved c =
    next_type (slice_get c.args.columns.now) c.args.keys.now _ 0 _ _ _ _ c.loop-key-test.true (sym c.column_type.ensures ∙ c.in-Some.is) c.in_ok-push.ensures.items c.loop-key.invariant

pub returns : goal.returns
returns c =
    ap Some (c.bag.ensures ∙ ap due.bag c.in_ok-push-2.ensures.items)
    ∙ sym (ap (λ l. due.with_column l c.args.more) (all_types (slice_get c.args.columns.now) c.args.keys.now _ _ _ c.loop-key-test.false c.loop-key.invariant)
    ∙ ap (due.with_column (Some c.loop-key.types.items)) c.in-Some-more.is)
