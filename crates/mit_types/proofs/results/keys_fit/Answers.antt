-- The keys of the left bag have ended: those of the right bag are to have ended too.
use Rattle.std.proofs.Common.{◌∙◌, slice_get, sym}
use Rattle.mit_types.proofs.TypeLists.{no_left_fits}
use Rattle.mit_types.proofs.results.keys_fit.Goals as goal

pub returns : goal.returns
returns c =
    c.is_empty.ensures ∙ no_left_fits (slice_get c.args.left_columns.now) (slice_get c.args.right_columns.now) _ _ c.in_default.ensures.cases
    ∙ sym c.loop-next_left.invariant
