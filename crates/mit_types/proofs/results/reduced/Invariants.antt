use Rattle.std.proofs.Common.{◌≡◌, drop, slice_get}
use Rattle.mit_ops.specs.Results.{types_of}
use Rattle.mit_types.proofs.TypeLists.{behind}
use Rattle.mit_types.proofs.results.reduced.Given as goal

abbrev pub invariant-loop-key : goal.invariant-loop-key
invariant-loop-key l =
    types_of (slice_get l.columns) l.keys ≡ behind l.types.items (types_of (slice_get l.columns) (drop l.key-index l.keys))
