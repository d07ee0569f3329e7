-- What is known of an action that is offered: it is enabled, and of the operators, edges and partitions that there are.
use Rattle.std.proofs.Common.{◌≡◌, ◌<◌, ℕ, List, [], ◌∷◌, ◌++◌, length, map, take, drop, refl, arith, ltb-true, true, Option, Some, None}
use Rattle.std.specs.Prelude.{◌&&◌, nat_lt, slice_get}
use Rattle.std.specs.List.{All, Contains, flat_map, list_all, range_with_len}
use Rattle.std.proofs.lemmas.Bool.{and_parts}
use Rattle.std.proofs.lemmas.List.{length-drop, length-take}
use Rattle.std.proofs.lemmas.List.Elements.{All-append, All-contains, All-filter, All-head, All-map, All-nil, All-tail, filter_passes}
use Rattle.mit_machine.specs.Offers.{Bags, actions_of, all_come, can_poll, can_poll_at, all_edges, is_enabled, offered, all_ops, all_parts}
use Rattle.mit_machine.specs.Places.{makes, own_places}
use Rattle.mit_machine.specs.State.{Action, Machine, State, hear, learn, poll, take_bag}
use Rattle.mit_machine.proofs.Lists.{range_holds}

-- ---- an offered action is enabled

pub offered_enabled : (machine : Machine) (state : State) (action : Action) → Contains (offered machine state) action → is_enabled machine state action ≡ true
offered_enabled machine state action is =
    All-contains (λ (one : Action). is_enabled machine state one ≡ true) (offered machine state) action (filter_passes (is_enabled machine state) (actions_of machine)) is

-- more is left of a list than its first so many
pub has_left : (n : ℕ) (xs : List ℕ) → nat_lt 0 (length (drop n xs)) ≡ true → n < length xs
has_left n xs some = omega (arith, ltb-true 0 (length (drop n xs)) some, length-drop n xs)

pub has_left_of_first : (n most : ℕ) (xs : List ℕ) → nat_lt 0 (length (drop n (take most xs))) ≡ true → (n < most) × (n < length xs)
has_left_of_first n most xs some =
    let less = has_left n (take most xs) some in
    (omega (arith, less, length-take most xs), omega (arith, less, length-take most xs))

-- where an operator can be polled next, and how it stood before
pub record PollsAt (machine : Machine) (op part seen polls : ℕ) : Type 0 where
  pub place : ℕ
  pub next : slice_get (own_places machine.job.plan machine.history.path op) polls ≡ Some place
  pub before : place < seen
  pub stood : list_all (λ earlier. makes machine op earlier part) (take polls (own_places machine.job.plan machine.history.path op)) ≡ true

pub polls_at : (machine : Machine) (bags : Bags) (op part seen polls : ℕ) → can_poll machine bags op part seen polls ≡ true → PollsAt machine op part seen polls
polls_at machine bags op part seen polls can = by_next (slice_get (own_places machine.job.plan machine.history.path op) polls) refl can
  where
    by_next : (next : Option ℕ) → slice_get (own_places machine.job.plan machine.history.path op) polls ≡ next → can_poll_at machine bags op part seen polls next ≡ true → PollsAt machine op part seen polls
    by_next None is none = absurd cc
    by_next (Some place) is all =
        let stood = list_all (λ earlier. makes machine op earlier part) (take polls (own_places machine.job.plan machine.history.path op)) in
        let came = all_come machine bags op part place in
        let outer = and_parts (nat_lt place seen && stood) came all in
        let inner = and_parts (nat_lt place seen) stood outer.0 in
        record { place = place; next = is; before = ltb-true place seen inner.0; stood = inner.1 }

-- ---- the numbers of an offered action

-- an action of the operators, edges and partitions that there are
abbrev pub IsWithin : Machine → Action → Type 0
IsWithin machine (learn part) = part < machine.job.partitions
IsWithin machine (hear op part) = (op < length machine.job.plan.ops) × (part < machine.job.partitions)
IsWithin machine (take_bag edge from to) = (edge < length machine.job.plan.edges) × (from < machine.job.partitions) × (to < machine.job.partitions)
IsWithin machine (poll op part) = (op < length machine.job.plan.ops) × (part < machine.job.partitions)

-- the actions of each kind
abbrev pub learn_actions : Machine → List Action
learn_actions machine = map learn (all_parts machine)

abbrev pub hear_actions : Machine → List Action
hear_actions machine = flat_map (λ op. map (hear op) (all_parts machine)) (all_ops machine)

abbrev pub take_actions : Machine → List Action
take_actions machine = flat_map (λ edge. flat_map (λ from. map (take_bag edge from) (all_parts machine)) (all_parts machine)) (all_edges machine)

abbrev pub poll_actions : Machine → List Action
poll_actions machine = flat_map (λ op. map (poll op) (all_parts machine)) (all_ops machine)

all_flat_map : {X : Type 0} (P : X → Type 0) (f : ℕ → List X) (xs : List ℕ) → All (λ y. All P (f y)) xs → All P (flat_map f xs)
all_flat_map P f [] all = All-nil P
all_flat_map P f (x ∷ xs) all = All-append P (f x) (flat_map f xs) (All-head (λ y. All P (f y)) x xs all) (all_flat_map P f xs (All-tail (λ y. All P (f y)) x xs all))

-- what holds of the actions that are made of numbers below a bound
all_made : {X : Type 0} (P : X → Type 0) (f : ℕ → X) (n : ℕ) → ((one : ℕ) → one < n → P (f one)) → All P (map f (range_with_len 0 n))
all_made P f n each = All-map P f (range_with_len 0 n) (range_holds (λ one. P (f one)) 0 n (λ one above below. each one (omega (arith, below))))

all_made_of : {X : Type 0} (P : X → Type 0) (f : ℕ → List X) (n : ℕ) → ((one : ℕ) → one < n → All P (f one)) → All P (flat_map f (range_with_len 0 n))
all_made_of P f n each = all_flat_map P f (range_with_len 0 n) (range_holds (λ one. All P (f one)) 0 n (λ one above below. each one (omega (arith, below))))

actions_within : (machine : Machine) → All (IsWithin machine) (actions_of machine)
actions_within machine =
    let P = IsWithin machine in
    let parts = machine.job.partitions in
    let ops = length machine.job.plan.ops in
    let edges = length machine.job.plan.edges in
    All-append P (learn_actions machine ++ hear_actions machine ++ take_actions machine) (poll_actions machine)
    (All-append P (learn_actions machine ++ hear_actions machine) (take_actions machine)
    (All-append P (learn_actions machine) (hear_actions machine)
    (all_made P learn parts (λ part within. within))
    (all_made_of P (λ op. map (hear op) (all_parts machine)) ops (λ op is. all_made P (hear op) parts (λ part within. (is, within)))))
    (all_made_of P (λ edge. flat_map (λ from. map (take_bag edge from) (all_parts machine)) (all_parts machine)) edges
    (λ edge is. all_made_of P (λ from. map (take_bag edge from) (all_parts machine)) parts (λ from sender. all_made P (take_bag edge from) parts (λ to receiver. (is, sender, receiver))))))
    (all_made_of P (λ op. map (poll op) (all_parts machine)) ops (λ op is. all_made P (poll op) parts (λ part within. (is, within))))

pub offered_within : (machine : Machine) (state : State) (action : Action) → Contains (offered machine state) action → IsWithin machine action
offered_within machine state action is =
    All-contains (IsWithin machine) (offered machine state) action (All-filter (is_enabled machine state) (IsWithin machine) (actions_of machine) (actions_within machine)) is
