-- What is enabled is offered.
use Rattle.std.proofs.Common.{◌≡◌, ◌<◌, ◌≤◌, ℕ, List, ◌++◌, length, map, take, drop, arith, true, flat_map}
use Rattle.std.specs.Prelude.{Contains}
use Rattle.std.proofs.lemmas.Bool.{lt-ltb}
use Rattle.std.proofs.lemmas.List.{length-drop, length-take}
use Rattle.std.proofs.lemmas.List.Elements.{Contains-append_left, Contains-append_right}
use Rattle.mit_machine.specs.Offers.{actions_of, bags_under_way, blocks_under_way, all_edges, is_enabled, offered, all_ops, all_parts, released_in, reports_under_way, sent_in}
use Rattle.mit_machine.specs.Places.{own_places}
use Rattle.mit_machine.specs.State.{Action, Machine, State, hear, learn, poll, take_bag}
use Rattle.mit_machine.proofs.Offered.{hear_actions, learn_actions, poll_actions, take_actions}
use Rattle.mit_machine.proofs.Lists.{in_filter, in_flat_map, in_map, range_has}

-- ---- the actions that there are

has_part : (machine : Machine) (part : ℕ) → part < machine.job.partitions → Contains (all_parts machine) part
has_part machine part some = range_has 0 machine.job.partitions part (omega arith) (omega (arith, some))

-- each kind is among them
first_kind : (machine : Machine) (action : Action) → Contains (learn_actions machine) action → Contains (actions_of machine) action
first_kind machine action has =
    Contains-append_left (learn_actions machine ++ hear_actions machine ++ take_actions machine) (poll_actions machine) action
    (Contains-append_left (learn_actions machine ++ hear_actions machine) (take_actions machine) action (Contains-append_left (learn_actions machine) (hear_actions machine) action has))

second_kind : (machine : Machine) (action : Action) → Contains (hear_actions machine) action → Contains (actions_of machine) action
second_kind machine action has =
    Contains-append_left (learn_actions machine ++ hear_actions machine ++ take_actions machine) (poll_actions machine) action
    (Contains-append_left (learn_actions machine ++ hear_actions machine) (take_actions machine) action (Contains-append_right (learn_actions machine) (hear_actions machine) action has))

third_kind : (machine : Machine) (action : Action) → Contains (take_actions machine) action → Contains (actions_of machine) action
third_kind machine action has =
    Contains-append_left (learn_actions machine ++ hear_actions machine ++ take_actions machine) (poll_actions machine) action (Contains-append_right (learn_actions machine ++ hear_actions machine) (take_actions machine) action has)

fourth_kind : (machine : Machine) (action : Action) → Contains (poll_actions machine) action → Contains (actions_of machine) action
fourth_kind machine action has = Contains-append_right (learn_actions machine ++ hear_actions machine ++ take_actions machine) (poll_actions machine) action has

has_learn : (machine : Machine) (part : ℕ) → part < machine.job.partitions → Contains (actions_of machine) (learn part)
has_learn machine part some = first_kind machine (learn part) (in_map learn part (all_parts machine) (has_part machine part some))

has_hear : (machine : Machine) (op part : ℕ) → op < length machine.job.plan.ops → part < machine.job.partitions → Contains (actions_of machine) (hear op part)
has_hear machine op part there some =
    let at = range_has 0 (length machine.job.plan.ops) op (omega arith) (omega (arith, there)) in
    second_kind machine (hear op part)
    (in_flat_map (λ op. map (hear op) (all_parts machine)) op (hear op part) (all_ops machine) at.0 at.1 at.2 (in_map (hear op) part (all_parts machine) (has_part machine part some)))

has_take : (machine : Machine) (edge from to : ℕ) → edge < length machine.job.plan.edges → from < machine.job.partitions → to < machine.job.partitions → Contains (actions_of machine) (take_bag edge from to)
has_take machine edge from to there sender receiver =
    let at = range_has 0 (length machine.job.plan.edges) edge (omega arith) (omega (arith, there)) in
    let part = has_part machine from sender in
    third_kind machine (take_bag edge from to)
    (in_flat_map (λ edge. flat_map (λ from. map (take_bag edge from) (all_parts machine)) (all_parts machine)) edge (take_bag edge from to) (all_edges machine) at.0 at.1 at.2
    (in_flat_map (λ from. map (take_bag edge from) (all_parts machine)) from (take_bag edge from to) (all_parts machine) part.0 part.1 part.2
    (in_map (take_bag edge from) to (all_parts machine) (has_part machine to receiver))))

has_poll : (machine : Machine) (op part : ℕ) → op < length machine.job.plan.ops → part < machine.job.partitions → Contains (actions_of machine) (poll op part)
has_poll machine op part there some =
    let at = range_has 0 (length machine.job.plan.ops) op (omega arith) (omega (arith, there)) in
    fourth_kind machine (poll op part)
    (in_flat_map (λ op. map (poll op) (all_parts machine)) op (poll op part) (all_ops machine) at.0 at.1 at.2 (in_map (poll op) part (all_parts machine) (has_part machine part some)))

offers : (machine : Machine) (state : State) (action : Action) → Contains (actions_of machine) action → is_enabled machine state action ≡ true → 0 < length (offered machine state)
offers machine state action has enabled =
    let kept = in_filter (is_enabled machine state) action (actions_of machine) has.0 has.1 has.2 enabled in
    omega (arith, kept.1)

-- ---- messages

-- what is there beyond the first so many of the first so many
some_left : (few many : ℕ) (xs : List ℕ) → few < many → few < length xs → 0 < length (drop few (take many xs))
some_left few many xs less below =
    let whole = length-drop few (take many xs) in
    let front = length-take many xs in
    omega (arith, whole, front, less, below)

-- a partition that has not seen a released place has a block to learn
pub offers_block : (machine : Machine) (state : State) (part place : ℕ) → part < machine.job.partitions → place < length machine.history.path → place < released_in machine state → state.seen part ≤ place
    → 0 < length (offered machine state)
offers_block machine state part place some entered released unseen =
    let left = some_left (state.seen part) (released_in machine state) machine.history.path (omega (arith, released, unseen)) (omega (arith, entered, unseen)) in
    offers machine state (learn part) (has_learn machine part some) (lt-ltb 0 (length (blocks_under_way machine state part)) left)

-- what was polled and isn't heard is reported
pub offers_report : (machine : Machine) (state : State) (op part : ℕ) → op < length machine.job.plan.ops → part < machine.job.partitions → state.heard op part < state.polls op part
    → state.heard op part < length (own_places machine.job.plan machine.history.path op) → 0 < length (offered machine state)
offers_report machine state op part there some less below =
    let left = some_left (state.heard op part) (state.polls op part) (own_places machine.job.plan machine.history.path op) less below in
    offers machine state (hear op part) (has_hear machine op part there some) (lt-ltb 0 (length (reports_under_way machine state op part)) left)

-- what was sent and isn't taken is under way
pub offers_bag : (machine : Machine) (state : State) (edge from to : ℕ) → edge < length machine.job.plan.edges → from < machine.job.partitions → to < machine.job.partitions
    → state.taken edge from to < length (sent_in machine state edge from to) → 0 < length (offered machine state)
offers_bag machine state edge from to there sender receiver less =
    let whole = length-drop (state.taken edge from to) (sent_in machine state edge from to) in
    let left : 0 < length (bags_under_way machine state edge from to) = omega (arith, whole, less) in
    offers machine state (take_bag edge from to) (has_take machine edge from to there sender receiver) (lt-ltb 0 (length (bags_under_way machine state edge from to)) left)

pub offers_poll : (machine : Machine) (state : State) (op part : ℕ) → op < length machine.job.plan.ops → part < machine.job.partitions → is_enabled machine state (poll op part) ≡ true
    → 0 < length (offered machine state)
offers_poll machine state op part there some enabled = offers machine state (poll op part) (has_poll machine op part there some) enabled
