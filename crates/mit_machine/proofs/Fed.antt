-- Which bags came stays so, and what was polled was polled after its bags had come.
use Rattle.std.proofs.Common.{◌≡◌, ◌∙◌, ◌<◌, ◌≤◌, ◌+◌, ℕ, List, length, take, ap, sym, subst, arith, inl, inr, Bool, true, Option, Some, None}
use Rattle.std.specs.Prelude.{◌==◌, ◌&&◌, ◌⊎◌, Contains, nat_lt, slice_get}
use Rattle.std.specs.List.{list_all, list_any}
use Rattle.std.proofs.lemmas.Bool.{and_parts, cases_lt}
use Rattle.mit_plan.specs.Chosen.{Choice, chosen, input_numbers}
use Rattle.mit_plan.specs.Held.{senders}
use Rattle.mit_plan.specs.Plans.{edge_at}
use Rattle.mit_machine.specs.Channels.{sent_places}
use Rattle.mit_machine.specs.Offers.{Bags, all_come, bags_taken, can_poll, can_poll_at, has_come, is_enabled, released_in, sent_in}
use Rattle.mit_machine.specs.Places.{is_counted, makes, own_places}
use Rattle.mit_machine.specs.Runs.{IsValidState, Runs}
use Rattle.mit_machine.specs.State.{Action, Machine, State, after, hear, learn, poll, take_bag}
use Rattle.mit_machine.proofs.Lengthens.{Lengthens, lengthens_first, lengthens_none}
use Rattle.mit_machine.proofs.Lists.{all_more, any_on, any_take, each_passes}
use Rattle.mit_machine.proofs.Offered.{has_left_of_first}
use Rattle.mit_machine.proofs.Raised.{raised_bag_cases, raised_cases, raised_in_cases}
use Rattle.mit_machine.proofs.Settling.{FateLaws, sent_polled, sent_seen}

-- ---- what was sent

-- what was sent stays, in its order, as a block is learned
sent_learn : FateLaws → (machine : Machine) (state : State) (part edge from to : ℕ) → Runs machine → is_enabled machine state (learn part) ≡ true
    → Lengthens (sent_in machine state edge from to) (sent_in machine (after (learn part) state) edge from to)
sent_learn laws machine state part edge from to runs enabled =
    let polls = state.polls (edge_at machine.job.plan edge).from from in
    let less = has_left_of_first (state.seen part) (released_in machine state) machine.history.path enabled in
    raised_cases part from state.seen (λ n. Lengthens (sent_in machine state edge from to) (sent_places machine edge from to n polls)) (lengthens_none (sent_in machine state edge from to))
    (λ same. sent_seen laws machine runs edge from to (state.seen from) polls (subst (λ (one : ℕ). state.seen one < length machine.history.path) (sym same) less.1))

-- and as an operator is polled
sent_poll : (machine : Machine) (state : State) (op part edge from to : ℕ) → Lengthens (sent_in machine state edge from to) (sent_in machine (after (poll op part) state) edge from to)
sent_poll machine state op part edge from to =
    let source = (edge_at machine.job.plan edge).from in
    let polls = state.polls source from in
    raised_in_cases op part source from state.polls (λ n. Lengthens (sent_in machine state edge from to) (sent_places machine edge from to (state.seen from) n))
    (lengthens_none (sent_in machine state edge from to)) (λ same by. sent_polled machine edge from to (state.seen from) polls (polls + 1) (omega arith))

-- and with each action
pub sent_later : FateLaws → (machine : Machine) (state : State) (action : Action) (edge from to : ℕ) → Runs machine → is_enabled machine state action ≡ true
    → Lengthens (sent_in machine state edge from to) (sent_in machine (after action state) edge from to)
sent_later laws machine state (learn part) edge from to runs enabled = sent_learn laws machine state part edge from to runs enabled
sent_later laws machine state (hear op part) edge from to runs enabled = lengthens_none (sent_in machine state edge from to)
sent_later laws machine state (take_bag other sender receiver) edge from to runs enabled = lengthens_none (sent_in machine state edge from to)
sent_later laws machine state (poll op part) edge from to runs enabled = sent_poll machine state op part edge from to

-- no fewer bags are taken
taken_later : (state : State) (action : Action) (edge from to : ℕ) → state.taken edge from to ≤ (after action state).taken edge from to
taken_later state (learn part) edge from to = omega arith
taken_later state (hear op part) edge from to = omega arith
taken_later state (take_bag other sender receiver) edge from to =
    raised_bag_cases other sender receiver edge from to state.taken (λ n. state.taken edge from to ≤ n) (omega arith) (λ same by own. omega arith)
taken_later state (poll op part) edge from to = omega arith

-- ---- the bags that came

among_longer : (few many : ℕ) (xs ys : List ℕ) (place : ℕ) → few ≤ many → Lengthens xs ys → is_counted few xs place ≡ true → is_counted many ys place ≡ true
among_longer few many xs ys place below longer any =
    let test : ℕ → Bool = λ other. other == place in
    let taken = lengthens_first many xs ys longer in
    ap (list_any test) taken.1 ∙ any_on test (take many xs) taken.0 (any_take test few many xs below any)

-- each of these bags is one of those
abbrev BagsMore : Bags → Bags → Type 0
BagsMore few many = (edge from place : ℕ) → few edge from place ≡ true → many edge from place ≡ true

bags_later : FateLaws → (machine : Machine) (state : State) (action : Action) (part : ℕ) → Runs machine → is_enabled machine state action ≡ true
    → BagsMore (bags_taken machine state part) (bags_taken machine (after action state) part)
bags_later laws machine state action part runs enabled edge from place =
    among_longer (state.taken edge from part) ((after action state).taken edge from part) (sent_in machine state edge from part) (sent_in machine (after action state) edge from part) place
    (taken_later state action edge from part) (sent_later laws machine state action edge from part runs enabled)

come_more : (machine : Machine) (few many : Bags) (part : ℕ) (choice : Option Choice) → BagsMore few many → has_come machine few part choice ≡ true → has_come machine many part choice ≡ true
come_more machine few many part None more come = absurd cc
come_more machine few many part (Some choice) more come =
    all_more (λ from. few choice.edge from choice.place) (λ from. many choice.edge from choice.place) (senders machine.job (edge_at machine.job.plan choice.edge) part)
    (λ from. more choice.edge from choice.place) come

all_come_more : (machine : Machine) (few many : Bags) (op part place : ℕ) → BagsMore few many → all_come machine few op part place ≡ true → all_come machine many op part place ≡ true
all_come_more machine few many op part place more come =
    let at = λ (input : ℕ). chosen machine.job.plan machine.history.path op input place in
    all_more (λ input. has_come machine few part (at input)) (λ input. has_come machine many part (at input)) (input_numbers machine.job.plan op)
    (λ input. come_more machine few many part (at input) more) come

-- ---- what was polled

-- the bags of a place had come
abbrev pub IsFed : Machine → State → ℕ → ℕ → ℕ → Type 0
IsFed machine state op part polls = (count place : ℕ) → count < polls → slice_get (own_places machine.job.plan machine.history.path op) count ≡ Some place
    → all_come machine (bags_taken machine state part) op part place ≡ true

fed_later : FateLaws → (machine : Machine) (state : State) (action : Action) (op part : ℕ) → Runs machine → is_enabled machine state action ≡ true
    → IsFed machine state op part (state.polls op part) → IsFed machine (after action state) op part (state.polls op part)
fed_later laws machine state action op part runs enabled fed count place less is =
    all_come_more machine (bags_taken machine state part) (bags_taken machine (after action state) part) op part place (bags_later laws machine state action part runs enabled) (fed count place less is)

-- where an operator can be polled the bags of the place have come
came_at : (machine : Machine) (bags : Bags) (op part seen polls place : ℕ) → slice_get (own_places machine.job.plan machine.history.path op) polls ≡ Some place
    → can_poll machine bags op part seen polls ≡ true → all_come machine bags op part place ≡ true
came_at machine bags op part seen polls place is can =
    let stood = list_all (λ earlier. makes machine op earlier part) (take polls (own_places machine.job.plan machine.history.path op)) in
    (and_parts (nat_lt place seen && stood) (all_come machine bags op part place) (subst (λ (next : Option ℕ). can_poll_at machine bags op part seen polls next ≡ true) is can)).1

fed_poll : (machine : Machine) (state : State) (op part : ℕ) → is_enabled machine state (poll op part) ≡ true → IsFed machine state op part (state.polls op part)
    → IsFed machine state op part (state.polls op part + 1)
fed_poll machine state op part enabled fed count place less is = by_order (cases_lt count (state.polls op part))
  where
    by_order : (count < state.polls op part) ⊎ (state.polls op part ≤ count) → all_come machine (bags_taken machine state part) op part place ≡ true
    by_order (inl earlier) = fed count place earlier is
    by_order (inr last) =
        let same : count ≡ state.polls op part = omega (arith, less, last) in
        came_at machine (bags_taken machine state part) op part (state.seen part) (state.polls op part) place
        (subst (λ (n : ℕ). slice_get (own_places machine.job.plan machine.history.path op) n ≡ Some place) same is) enabled

-- what is polled, after an action, was polled after its bags had come
pub fed_after : FateLaws → (machine : Machine) (state : State) (action : Action) (op part : ℕ) → Runs machine → IsValidState machine state → is_enabled machine state action ≡ true
    → IsFed machine (after action state) op part ((after action state).polls op part)
fed_after laws machine state (learn other) op part runs valid enabled = fed_later laws machine state (learn other) op part runs enabled (valid.fed op part)
fed_after laws machine state (hear other from) op part runs valid enabled = fed_later laws machine state (hear other from) op part runs enabled (valid.fed op part)
fed_after laws machine state (take_bag edge from to) op part runs valid enabled = fed_later laws machine state (take_bag edge from to) op part runs enabled (valid.fed op part)
fed_after laws machine state (poll other from) op part runs valid enabled =
    let now = after (poll other from) state in
    raised_in_cases other from op part state.polls (λ n. IsFed machine now op part n) (fed_later laws machine state (poll other from) op part runs enabled (valid.fed op part))
    (λ same own. by_this same own)
  where
    by_this : op ≡ other → part ≡ from → IsFed machine (after (poll other from) state) op part (state.polls op part + 1)
    by_this same own count place less is =
        let can : is_enabled machine state (poll op part) ≡ true = ap (λ (one : ℕ). is_enabled machine state (poll one part)) same ∙ ap (λ (one : ℕ). is_enabled machine state (poll other one)) own ∙ enabled in
        all_come_more machine (bags_taken machine state part) (bags_taken machine (after (poll other from) state) part) op part place
        (bags_later laws machine state (poll other from) part runs enabled) (fed_poll machine state op part can (valid.fed op part) count place less is)

-- what was polled had its bags from every sender
pub fed_by_all : (machine : Machine) (state : State) (op part count place input from : ℕ) (choice : Choice) → IsValidState machine state → count < state.polls op part
    → slice_get (own_places machine.job.plan machine.history.path op) count ≡ Some place → Contains (input_numbers machine.job.plan op) input
    → chosen machine.job.plan machine.history.path op input place ≡ Some choice → Contains (senders machine.job (edge_at machine.job.plan choice.edge) part) from
    → bags_taken machine state part choice.edge from choice.place ≡ true
fed_by_all machine state op part count place input from choice valid less there has is sends =
    let bags : Bags = bags_taken machine state part in
    let came = each_passes (λ one. has_come machine bags part (chosen machine.job.plan machine.history.path op one place)) (input_numbers machine.job.plan op) input
    (valid.fed op part count place less there) has in
    each_passes (λ one. bags choice.edge one choice.place) (senders machine.job (edge_at machine.job.plan choice.edge) part) from
    (subst (λ (found : Option Choice). has_come machine bags part found ≡ true) is came) sends
