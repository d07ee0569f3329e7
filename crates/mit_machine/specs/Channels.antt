-- What is under way: the messages of each channel, from the oldest on.
use Rattle.std.specs.Prelude.{◌==◌, ◌+◌, ◌-◌, ◌&&◌, ℕ, List, [], Bool, true, false, not, length, drop, take, nat_le, nat_lt, if◌then◌else◌, slice_index}
use Rattle.std.specs.List.{filter}
use Rattle.mit_ops.specs.Routes.{targets_of}
use Rattle.mit_path.specs.Fate.{fate}
use Rattle.mit_path.specs.declared.fate.Fate.{Fate}
use Rattle.mit_path.specs.declared.fate.Fate.TheVariants.{Send, Drop, Undecided}
use Rattle.mit_plan.specs.Plans.{PlanOf, block_at, edge_at, is_phi, op_at, source_block, target_block}
use Rattle.mit_plan.specs.Valid.{is_end, source_blocks}
use Rattle.mit_machine.specs.Places.{makes, own_places}
use Rattle.mit_machine.specs.State.{Machine}

-- ---- fate

-- a path is complete where its last block is the end
abbrev pub is_complete : PlanOf → List ℕ → Bool
is_complete plan path = nat_lt 0 (length path) && is_end (block_at plan (slice_index path (length path - 1))).leave

-- the blocks of a phi's other operands
abbrev pub siblings_of : PlanOf → ℕ → List ℕ
siblings_of plan edge =
    if is_phi (op_at plan (edge_at plan edge).to)
    then filter (λ block. not (block == source_block plan (edge_at plan edge))) (source_blocks plan (edge_at plan edge).to)
    else []

-- what becomes of the bag of a place on an edge, as far as this path tells
abbrev pub fate_of : PlanOf → List ℕ → ℕ → ℕ → Fate
fate_of plan path edge place =
    fate path (source_block plan (edge_at plan edge)) place (target_block plan (edge_at plan edge)) (siblings_of plan edge)
    (is_phi (op_at plan (edge_at plan edge).to)) (is_complete plan path)

abbrev pub is_send : Fate → Bool
is_send Send = true
is_send Drop = false
is_send Undecided = false

abbrev pub is_undecided : Fate → Bool
is_undecided Undecided = true
is_undecided Send = false
is_undecided Drop = false

-- ---- what was made and sent

-- rows of one partition may go to another one over this edge
abbrev pub is_target : Machine → ℕ → ℕ → ℕ → Bool
is_target machine edge from to =
    let targets = targets_of (edge_at machine.job.plan edge).route from machine.job.partitions in nat_le targets.0 to && nat_lt to (targets.0 + targets.1)

-- the places at which an operator was polled in a partition and is ok
abbrev pub made_places : Machine → ℕ → ℕ → ℕ → List ℕ
made_places machine op part polls = filter (λ place. makes machine op place part) (take polls (own_places machine.job.plan machine.history.path op))

-- the places whose bags were sent over an edge, where the sender has seen and polled so much
abbrev pub sent_places : Machine → ℕ → ℕ → ℕ → ℕ → ℕ → List ℕ
sent_places machine edge from to seen polls =
    if is_target machine edge from to
    then filter (λ place. is_send (fate_of machine.job.plan (take seen machine.history.path) edge place))
    (made_places machine (edge_at machine.job.plan edge).from from polls)
    else []

-- ---- the channels

-- blocks that are released and not yet learned
abbrev pub path_channel : Machine → ℕ → ℕ → List ℕ
path_channel machine seen released = drop seen (take released machine.history.path)

-- places that an operator has reported from a partition and that are not yet heard
abbrev pub report_channel : Machine → ℕ → ℕ → ℕ → List ℕ
report_channel machine op polls heard = drop heard (take polls (own_places machine.job.plan machine.history.path op))

-- places whose bags are sent and not yet taken
abbrev pub data_channel : Machine → ℕ → ℕ → ℕ → ℕ → ℕ → ℕ → List ℕ
data_channel machine edge from to seen polls taken = drop taken (sent_places machine edge from to seen polls)
