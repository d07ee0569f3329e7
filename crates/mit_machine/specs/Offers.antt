-- What can be done next.
use Rattle.std.specs.Prelude.{◌+◌, ◌*◌, ◌&&◌, ℕ, List, ◌++◌, Bool, false, length, map, flat_map, take, nat_lt, Option, Some, None, slice_get}
use Rattle.std.specs.List.{filter, list_all, range_with_len}
use Rattle.mit_plan.specs.Chosen.{Choice, chosen, input_numbers}
use Rattle.mit_plan.specs.Held.{senders}
use Rattle.mit_plan.specs.Plans.{edge_at}
use Rattle.mit_machine.specs.Channels.{data_channel, path_channel, report_channel, sent_places}
use Rattle.mit_machine.specs.Places.{heard_by, is_counted, makes, own_places, released}
use Rattle.mit_machine.specs.State.{Action, Machine, State, hear, learn, poll, take_bag}

-- which bags came to a partition: of an edge, from a sender, of a place
abbrev pub Bags : Type 0
Bags = ℕ → ℕ → ℕ → Bool

-- the chosen bag came from every sender
abbrev pub has_come : Machine → Bags → ℕ → Option Choice → Bool
has_come machine bags part None = false
has_come machine bags part (Some choice) =
    list_all (λ from. bags choice.edge from choice.place) (senders machine.job (edge_at machine.job.plan choice.edge) part)

-- the bags came that the inputs of an operator choose at a place
abbrev pub all_come : Machine → Bags → ℕ → ℕ → ℕ → Bool
all_come machine bags op part place =
    list_all (λ input. has_come machine bags part (chosen machine.job.plan machine.history.path op input place)) (input_numbers machine.job.plan op)

-- an operator can be polled at a place of its block that is in the view, where it was ok at those before it and its bags came
abbrev pub can_poll_at : Machine → Bags → ℕ → ℕ → ℕ → ℕ → Option ℕ → Bool
can_poll_at machine bags op part seen polls None = false
can_poll_at machine bags op part seen polls (Some place) =
    nat_lt place seen
    && list_all (λ earlier. makes machine op earlier part) (take polls (own_places machine.job.plan machine.history.path op))
    && all_come machine bags op part place

-- the same at its next place
abbrev pub can_poll : Machine → Bags → ℕ → ℕ → ℕ → ℕ → Bool
can_poll machine bags op part seen polls =
    can_poll_at machine bags op part seen polls (slice_get (own_places machine.job.plan machine.history.path op) polls)

-- the bags that a partition has taken
abbrev pub sent_in : Machine → State → ℕ → ℕ → ℕ → List ℕ
sent_in machine state edge from to = sent_places machine edge from to (state.seen from) (state.polls (edge_at machine.job.plan edge).from from)

abbrev pub bags_taken : Machine → State → ℕ → Bags
bags_taken machine state to edge from place = is_counted (state.taken edge from to) (sent_in machine state edge from to) place

-- how many blocks are released in a state
abbrev pub released_in : Machine → State → ℕ
released_in machine state = released machine (heard_by machine state.heard)

-- what is under way: the blocks for a partition, the reports of an operator from a partition, the bags of an edge from a partition to another
abbrev pub blocks_under_way : Machine → State → ℕ → List ℕ
blocks_under_way machine state part = path_channel machine (state.seen part) (released_in machine state)

abbrev pub reports_under_way : Machine → State → ℕ → ℕ → List ℕ
reports_under_way machine state op part = report_channel machine op (state.polls op part) (state.heard op part)

abbrev pub bags_under_way : Machine → State → ℕ → ℕ → ℕ → List ℕ
bags_under_way machine state edge from to =
    data_channel machine edge from to (state.seen from) (state.polls (edge_at machine.job.plan edge).from from) (state.taken edge from to)

-- what is enabled
abbrev pub is_enabled : Machine → State → Action → Bool
is_enabled machine state (learn part) = nat_lt 0 (length (blocks_under_way machine state part))
is_enabled machine state (hear op part) = nat_lt 0 (length (reports_under_way machine state op part))
is_enabled machine state (take_bag edge from to) = nat_lt 0 (length (bags_under_way machine state edge from to))
is_enabled machine state (poll op part) = can_poll machine (bags_taken machine state part) op part (state.seen part) (state.polls op part)

-- ---- the offer

abbrev pub all_parts : Machine → List ℕ
all_parts machine = range_with_len 0 machine.job.partitions

abbrev pub all_ops : Machine → List ℕ
all_ops machine = range_with_len 0 (length machine.job.plan.ops)

abbrev pub all_edges : Machine → List ℕ
all_edges machine = range_with_len 0 (length machine.job.plan.edges)

-- all actions, in the order of their numbers
abbrev pub actions_of : Machine → List Action
actions_of machine =
    map learn (all_parts machine)
    ++ flat_map (λ op. map (hear op) (all_parts machine)) (all_ops machine)
    ++ flat_map (λ edge. flat_map (λ from. map (take_bag edge from) (all_parts machine)) (all_parts machine)) (all_edges machine)
    ++ flat_map (λ op. map (poll op) (all_parts machine)) (all_ops machine)

-- the number of an action
abbrev pub number_of : Machine → Action → ℕ
number_of machine (learn part) = part
number_of machine (hear op part) = let parts = machine.job.partitions in parts + op * parts + part
number_of machine (take_bag edge from to) =
    let parts = machine.job.partitions in parts + length machine.job.plan.ops * parts + (edge * parts + from) * parts + to
number_of machine (poll op part) = let parts = machine.job.partitions in
    parts + length machine.job.plan.ops * parts + length machine.job.plan.edges * parts * parts + op * parts + part

-- what is offered: the actions that are enabled
abbrev pub offered : Machine → State → List Action
offered machine state = filter (is_enabled machine state) (actions_of machine)
