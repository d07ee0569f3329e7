-- Places of a path: those of an operator, what it made there, and how far the path is known and released.
use Rattle.std.specs.Prelude.{◌==◌, ◌+◌, ◌&&◌, ℕ, List, [], ◌∷◌, Bool, true, length, min, take, if◌then◌else◌, slice_index}
use Rattle.std.specs.List.{filter, list_all, list_any, range_with_len}
use Rattle.mit_plan.specs.Held.{held, is_ok}
use Rattle.mit_plan.specs.Plans.{PlanOf, block_at, op_at}
use Rattle.mit_plan.specs.Valid.{is_branch, last_of}
use Rattle.mit_machine.specs.State.{Machine}

-- the places of a block, in rising order
abbrev pub block_places : List ℕ → ℕ → List ℕ
block_places path block = filter (λ place. slice_index path place == block) (range_with_len 0 (length path))

-- those of an operator's block
abbrev pub own_places : PlanOf → List ℕ → ℕ → List ℕ
own_places plan path op = block_places path (op_at plan op).block

-- its part at a place in a partition is ok
abbrev pub makes : Machine → ℕ → ℕ → ℕ → Bool
makes machine op place part = is_ok (held machine.history place (op_at machine.job.plan op).index part)

-- whether something came of the first so many of these places
abbrev pub is_counted : ℕ → List ℕ → ℕ → Bool
is_counted count places place = list_any (λ other. other == place) (take count places)

-- which reports came: of an operator, of a place, from a partition
abbrev pub Reports : Type 0
Reports = ℕ → ℕ → ℕ → Bool

abbrev pub heard_by : Machine → (ℕ → ℕ → ℕ) → Reports
heard_by machine heard op place part = is_counted (heard op part) (own_places machine.job.plan machine.history.path op) place

-- ---- the known path

-- after a place the path is known where its block has no branch, or the report of the condition came from partition 0
abbrev pub leads_on : Machine → Reports → ℕ → ℕ → Bool
leads_on machine reports place block =
    if is_branch (block_at machine.job.plan block).leave then reports (last_of (block_at machine.job.plan block)) place 0 else true

-- how many blocks of the path are known, from this place on
unfoldable pub known_from : Machine → Reports → ℕ → List ℕ → ℕ
known_from machine reports place [] = place
known_from machine reports place (block ∷ later) =
    if leads_on machine reports place block then known_from machine reports (place + 1) later else place + 1

abbrev pub known : Machine → Reports → ℕ
known machine reports = known_from machine reports 0 machine.history.path

-- ---- the front

-- an operator is done at a place: it is heard ok from every partition
abbrev pub is_done : Machine → Reports → ℕ → ℕ → Bool
is_done machine reports op place = list_all (λ part. reports op place part && makes machine op place part) (range_with_len 0 machine.job.partitions)

-- the first index of a block, from this one on, at which the operator isn't done
unfoldable pub open_from : Machine → Reports → ℕ → ℕ → List ℕ → ℕ
open_from machine reports place index [] = index
open_from machine reports place index (op ∷ later) = if is_done machine reports op place then open_from machine reports place (index + 1) later else index

-- the numbers of a block's operators
abbrev pub block_ops : PlanOf → ℕ → List ℕ
block_ops plan block = range_with_len (block_at plan block).first (block_at plan block).count

abbrev pub all_done : Machine → Reports → ℕ → ℕ → Bool
all_done machine reports place block = list_all (λ op. is_done machine reports op place) (block_ops machine.job.plan block)

-- the first place, from this one on, at which an operator isn't done
unfoldable pub front_from : Machine → Reports → ℕ → List ℕ → ℕ
front_from machine reports place [] = place
front_from machine reports place (block ∷ later) = if all_done machine reports place block then front_from machine reports (place + 1) later else place

-- the front: the first place and index of the known path of which not everything is done; its place is the path's length where there is none
abbrev pub front : Machine → Reports → ℕ
front machine reports = front_from machine reports 0 (take (known machine reports) machine.history.path)

abbrev pub front_index : Machine → Reports → ℕ
front_index machine reports =
    open_from machine reports (front machine reports) 0 (block_ops machine.job.plan (slice_index machine.history.path (front machine reports)))

-- how many blocks are released: so many places from the front on, as far as the path is known
abbrev pub released : Machine → Reports → ℕ
released machine reports = min (known machine reports) (front machine reports + machine.window)
