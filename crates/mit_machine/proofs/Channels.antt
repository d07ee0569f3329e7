-- How the channels move with an action that is offered.
use Rattle.std.proofs.Common.{◌≡◌, ◌∙◌, ◌+◌, ℕ, List, [], take, drop, sym, arith, true}
use Rattle.std.specs.List.{Contains}
use Rattle.std.proofs.lemmas.List.{append-nil, drop-drop}
use Rattle.mit_machine.specs.Moves.{Moves, is_hear, is_learn, is_take}
use Rattle.mit_machine.specs.Offers.{bags_under_way, blocks_under_way, is_enabled, offered, released_in, reports_under_way, sent_in}
use Rattle.mit_machine.specs.Places.{own_places}
use Rattle.mit_machine.specs.Runs.{Runs}
use Rattle.mit_machine.specs.State.{Action, Machine, State, after, hear, learn, poll, take_bag}
use Rattle.mit_machine.proofs.Fed.{sent_later}
use Rattle.mit_machine.proofs.Lengthens.{Lengthens, lengthens_drop, lengthens_none, lengthens_take}
use Rattle.mit_machine.proofs.Monotone.{released_later}
use Rattle.mit_machine.proofs.Offered.{offered_enabled}
use Rattle.mit_machine.proofs.Raised.{raised_bag_tells, raised_in_cases, raised_in_tells, raised_tells}
use Rattle.mit_machine.proofs.Settling.{FateLaws}

first_gone : (n : ℕ) (xs : List ℕ) → Moves true (drop n xs) (drop (n + 1) xs)
first_gone n xs = ([], sym (drop-drop 1 n xs) ∙ sym (append-nil (drop 1 (drop n xs))))

-- ---- the blocks

pub blocks_move : (machine : Machine) (state : State) (action : Action) (part : ℕ) → Moves (is_learn part action) (blocks_under_way machine state part) (blocks_under_way machine (after action state) part)
blocks_move machine state (learn other) part =
    let path = take (released_in machine state) machine.history.path in
    raised_tells other part state.seen (λ told n. Moves told (drop (state.seen part) path) (drop n path)) (lengthens_none (drop (state.seen part) path)) (first_gone (state.seen part) path)
blocks_move machine state (hear op from) part =
    let path = machine.history.path in
    let before = released_in machine state in
    let later = released_in machine (after (hear op from) state) in
    lengthens_drop (state.seen part) (take before path) (take later path) (lengthens_take before later path (released_later machine state (hear op from)))
blocks_move machine state (take_bag edge from to) part = lengthens_none (blocks_under_way machine state part)
blocks_move machine state (poll op from) part = lengthens_none (blocks_under_way machine state part)

-- ---- the reports

pub reports_move : (machine : Machine) (state : State) (action : Action) (op part : ℕ)
    → Moves (is_hear op part action) (reports_under_way machine state op part) (reports_under_way machine (after action state) op part)
reports_move machine state (learn other) op part = lengthens_none (reports_under_way machine state op part)
reports_move machine state (hear other from) op part =
    let told = take (state.polls op part) (own_places machine.job.plan machine.history.path op) in
    raised_in_tells other from op part state.heard (λ own n. Moves own (drop (state.heard op part) told) (drop n told)) (lengthens_none (drop (state.heard op part) told)) (first_gone (state.heard op part) told)
reports_move machine state (take_bag edge from to) op part = lengthens_none (reports_under_way machine state op part)
reports_move machine state (poll other from) op part =
    let own = own_places machine.job.plan machine.history.path op in
    let heard = state.heard op part in
    let polls = state.polls op part in
    raised_in_cases other from op part state.polls (λ n. Lengthens (drop heard (take polls own)) (drop heard (take n own))) (lengthens_none (drop heard (take polls own)))
    (λ same by. lengthens_drop heard (take polls own) (take (polls + 1) own) (lengthens_take polls (polls + 1) own (omega arith)))

-- ---- the bags

bags_longer : FateLaws → (machine : Machine) (state : State) (action : Action) (edge from to : ℕ) → Runs machine → is_enabled machine state action ≡ true
    → let taken = state.taken edge from to in Lengthens (drop taken (sent_in machine state edge from to)) (drop taken (sent_in machine (after action state) edge from to))
bags_longer laws machine state action edge from to runs enabled =
    lengthens_drop (state.taken edge from to) (sent_in machine state edge from to) (sent_in machine (after action state) edge from to)
    (sent_later laws machine state action edge from to runs enabled)

bags_take : (machine : Machine) (state : State) (edge from to other sender receiver : ℕ)
    → Moves (is_take other sender receiver (take_bag edge from to)) (bags_under_way machine state other sender receiver) (bags_under_way machine (after (take_bag edge from to) state) other sender receiver)
bags_take machine state edge from to other sender receiver =
    let sent = sent_in machine state other sender receiver in
    let taken = state.taken other sender receiver in
    raised_bag_tells edge from to other sender receiver state.taken (λ own n. Moves own (drop taken sent) (drop n sent)) (lengthens_none (drop taken sent)) (first_gone taken sent)

pub bags_move : FateLaws → (machine : Machine) (state : State) (action : Action) (edge from to : ℕ) → Runs machine → Contains (offered machine state) action
    → Moves (is_take edge from to action) (bags_under_way machine state edge from to) (bags_under_way machine (after action state) edge from to)
bags_move laws machine state action edge from to runs is = by_action action (offered_enabled machine state action is)
  where
    by_action : (one : Action) → is_enabled machine state one ≡ true → Moves (is_take edge from to one) (bags_under_way machine state edge from to) (bags_under_way machine (after one state) edge from to)
    by_action (learn part) enabled = bags_longer laws machine state (learn part) edge from to runs enabled
    by_action (hear op part) enabled = bags_longer laws machine state (hear op part) edge from to runs enabled
    by_action (take_bag other sender receiver) enabled = bags_take machine state other sender receiver edge from to
    by_action (poll op part) enabled = bags_longer laws machine state (poll op part) edge from to runs enabled
