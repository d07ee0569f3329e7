-- Routes: which rows of an input go to which partition.
use Rattle.std.specs.Prelude.{ℕ, suc, ◌%◌, List, [], ◌∷◌, ◌++◌, Bool, true, ◌==◌, if◌then◌else◌, nat_lt}
use Rattle.std.specs.List.{filter, range_with_len}
use Rattle.mit_rows.specs.Bags.{RowOf}
use Rattle.mit_ops.specs.Keys.{key_hash, key_of}
use Rattle.mit_ops.specs.Kinds.{bag_inputs_of}
use Rattle.mit_ops.specs.declared.kinds.OpSpec.{OpSpec}
use Rattle.mit_ops.specs.declared.kinds.OpSpec.TheVariants as op
use Rattle.mit_ops.specs.declared.routes.Route.{Route}
use Rattle.mit_ops.specs.declared.routes.Route.TheVariants.{Forward, Gather, Broadcast, ByKey}

-- the route of a bag, by its number among the inputs and how many columns it has
abbrev pub bag_route : OpSpec → ℕ → ℕ → Route
bag_route (op.Join left right) input columns = ByKey (if input == 0 then left else right)
bag_route (op.Reduce keys agg) input columns = ByKey keys
bag_route op.Distinct input columns = ByKey (range_with_len 0 columns)
bag_route op.Only input columns = Gather
bag_route op.Count input columns = Gather
bag_route (op.Sum column) input columns = Gather
bag_route (op.Write name) input columns = Gather
bag_route _ input columns = Forward

-- the route of each captured scalar
abbrev pub capture_route : OpSpec → Route
capture_route (op.Scalar expr) = Gather
capture_route (op.MakeRow exprs) = Gather
capture_route (op.Write name) = Gather
capture_route _ = Broadcast

-- the route of an input: bags come first, then the captured scalars
abbrev pub route_to : OpSpec → ℕ → ℕ → Route
route_to spec input columns = if nat_lt input (bag_inputs_of spec) then bag_route spec input columns else capture_route spec

-- the partition to which a row of this one goes
abbrev pub target_of : Route → ℕ → ℕ → RowOf → ℕ
target_of Forward from parts row = from
target_of Gather from parts row = 0
target_of (ByKey columns) from parts row = key_hash (key_of columns row) % parts
-- never asked: it goes to each
target_of Broadcast from parts row = 0

-- whether a row of the partition `from` goes to the partition `to`
abbrev pub goes : Route → ℕ → ℕ → ℕ → RowOf → Bool
goes Broadcast parts from to row = true
goes route parts from to row = target_of route from parts row == to

-- those of these rows of `from` that go to `to`
abbrev pub share : List RowOf → Route → ℕ → ℕ → ℕ → List RowOf
share rows route parts from to = filter (goes route parts from to) rows

-- the first partition to which rows of `from` may go, and how many there are
abbrev pub targets_of : Route → ℕ → ℕ → ℕ × ℕ
targets_of Forward from parts = (from, 1)
targets_of Gather from parts = (0, 1)
targets_of _ from parts = (0, parts)

-- the first partition from which rows may come to `to`, and how many there are
abbrev pub senders_of : Route → ℕ → ℕ → ℕ × ℕ
senders_of Forward to parts = (to, 1)
senders_of Gather to parts = (0, if to == 0 then parts else 0)
senders_of _ to parts = (0, parts)

-- what comes to `to` of an input's parts, which stand in the partitions from `from` on
unfoldable pub routed : Route → ℕ → ℕ → ℕ → List (List RowOf) → List RowOf
routed route parts from to [] = []
routed route parts from to (rows ∷ later) = share rows route parts from to ++ routed route parts (suc from) to later

-- the same of each input, whose routes are given by their numbers, from `input` on
unfoldable pub lists_at : (ℕ → Route) → ℕ → ℕ → ℕ → List (List (List RowOf)) → List (List RowOf)
lists_at routes parts to input [] = []
lists_at routes parts to input (cut ∷ later) = routed (routes input) parts 0 to cut ∷ lists_at routes parts to (suc input) later
