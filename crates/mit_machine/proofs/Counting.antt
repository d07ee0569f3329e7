-- Each action that is offered raises the sum of the counters by one, and the sum stays within the bound of the plan.
use Rattle.std.proofs.Common.{◌≡◌, ◌≢◌, ◌∙◌, ◌<◌, ◌≤◌, ◌+◌, ◌*◌, ℕ, zero, suc, List, [], ◌∷◌, length, map, take, ap, sym, refl, arith, cond, inl, inr, Bool, true, false}
use Rattle.std.specs.Prelude.{◌⊎◌, ◌==◌, if◌then◌else◌}
use Rattle.std.specs.List.{Contains, filter, range_with_len}
use Rattle.std.proofs.Math.Nat.{suc-mul}
use Rattle.std.proofs.lemmas.Bool.{cases_lt, eq-eqb, ne_eqb}
use Rattle.std.proofs.lemmas.List.{length-take}
use Rattle.std.proofs.lemmas.List.Sums.{sum_by-cons}
use Rattle.mit_plan.specs.Bound.{most_actions, most_places}
use Rattle.mit_plan.specs.Plans.{edge_at, op_at}
use Rattle.mit_machine.specs.Channels.{fate_of, is_send, is_target, made_places, sent_places}
use Rattle.mit_machine.specs.Offers.{offered, released_in}
use Rattle.mit_machine.specs.Places.{heard_by, makes, own_places}
use Rattle.mit_machine.specs.Runs.{IsValidState, Runs, actions_so_far, sum_over}
use Rattle.mit_machine.specs.State.{Action, Machine, State, after, hear, learn, poll, raised, raised_in, take_bag}
use Rattle.mit_machine.proofs.Fronts.{known_most}
use Rattle.mit_machine.proofs.Offered.{IsWithin, offered_within}
use Rattle.mit_machine.proofs.Lists.{filter_shorter}
use Rattle.mit_machine.proofs.Places.{places_shorter}
use Rattle.mit_machine.proofs.WholePaths.{path_length}

-- ---- sums

over_cons : (x : ℕ) (xs : List ℕ) (f : ℕ → ℕ) → sum_over (x ∷ xs) f ≡ f x + sum_over xs f
over_cons x xs f = sum_by-cons (λ (one : ℕ). one) (f x) (map f xs)

-- counts that are the same but at one number
over_past : (before now : ℕ → ℕ) (at first n : ℕ) → at < first → ((one : ℕ) → one ≢ at → now one ≡ before one) → sum_over (range_with_len first n) now ≡ sum_over (range_with_len first n) before
over_past before now at first zero past same = refl
over_past before now at first (suc n) past same =
    omega (
      arith,
      over_cons first (range_with_len (first + 1) n) before,
      over_cons first (range_with_len (first + 1) n) now,
      same first (λ is. omega (arith, is, past)),
      over_past before now at (first + 1) n (omega (arith, past)) same,
    )

over_one : (before now : ℕ → ℕ) (at first n : ℕ) → first ≤ at → at < first + n → ((one : ℕ) → one ≢ at → now one ≡ before one) → now at ≡ before at + 1
    → sum_over (range_with_len first n) now ≡ sum_over (range_with_len first n) before + 1
over_one before now at first zero low high same more = absurd (omega (arith, low, high))
over_one before now at first (suc n) low high same more =
    by_order (λ less. over_one before now at (first + 1) n (omega (arith, less)) (omega (arith, high)) same more) (cases_lt first at)
  where
    by_order : (first < at → sum_over (range_with_len (first + 1) n) now ≡ sum_over (range_with_len (first + 1) n) before + 1) → (first < at) ⊎ (at ≤ first)
        → sum_over (first ∷ range_with_len (first + 1) n) now ≡ sum_over (first ∷ range_with_len (first + 1) n) before + 1
    by_order later (inl less) =
        omega (arith, over_cons first (range_with_len (first + 1) n) before, over_cons first (range_with_len (first + 1) n) now, later less, same first (λ is. omega (arith, is, less)))
    by_order later (inr above) =
        let is : first ≡ at = omega (arith, above, low) in
        let here : now first ≡ before first + 1 = ap now is ∙ more ∙ ap (λ one. before one + 1) (sym is) in
        omega (arith, over_cons first (range_with_len (first + 1) n) before, over_cons first (range_with_len (first + 1) n) now, here, over_past before now at (first + 1) n (omega (arith, is)) same)

-- one of the first so many counts is greater by one
sum_one : (n at : ℕ) (before now : ℕ → ℕ) → at < n → ((one : ℕ) → one ≢ at → now one ≡ before one) → now at ≡ before at + 1
    → sum_over (range_with_len 0 n) now ≡ sum_over (range_with_len 0 n) before + 1
sum_one n at before now within same more = over_one before now at 0 n (omega arith) (omega (arith, within)) same more

-- counts that are at most so many
pub over_most : (most first n : ℕ) (f : ℕ → ℕ) → ((one : ℕ) → f one ≤ most) → sum_over (range_with_len first n) f ≤ n * most
over_most most first zero f below = omega arith
over_most most first (suc n) f below =
    omega (arith, over_cons first (range_with_len (first + 1) n) f, over_most most (first + 1) n f below, below first, suc-mul n most)

-- ---- one counter more

raised_other : (at one : ℕ) (counts : ℕ → ℕ) → one ≢ at → raised at counts one ≡ counts one
raised_other at one counts other = rw (ne_eqb one at other) refl

raised_own : (at : ℕ) (counts : ℕ → ℕ) → raised at counts at ≡ counts at + 1
raised_own at counts = rw (eq-eqb at at refl) refl

sum_raised : (n at : ℕ) (counts : ℕ → ℕ) → at < n → sum_over (range_with_len 0 n) (raised at counts) ≡ sum_over (range_with_len 0 n) counts + 1
sum_raised n at counts within = sum_one n at counts (raised at counts) within (λ one other. raised_other at one counts other) (raised_own at counts)

sum_raised_in : (ops parts op part : ℕ) (counts : ℕ → ℕ → ℕ) → op < ops → part < parts
    → sum_over (range_with_len 0 ops) (λ one. sum_over (range_with_len 0 parts) (raised_in op part counts one)) ≡ sum_over (range_with_len 0 ops) (λ one. sum_over (range_with_len 0 parts) (counts one)) + 1
sum_raised_in ops parts op part counts is within =
    sum_one ops op (λ one. sum_over (range_with_len 0 parts) (counts one)) (λ one. sum_over (range_with_len 0 parts) (raised_in op part counts one)) is
    (λ one other. rw (ne_eqb one op other) refl) (rw (eq-eqb op op refl) (sum_raised parts part (counts op) within))

sum_raised_bag : (edges parts edge from to : ℕ) (counts : ℕ → ℕ → ℕ → ℕ) → edge < edges → from < parts → to < parts
    → sum_over (range_with_len 0 edges) (λ one. sum_over (range_with_len 0 parts) (λ sender. sum_over (range_with_len 0 parts) ((if one == edge then raised_in from to (counts one) else counts one) sender)))
    ≡ sum_over (range_with_len 0 edges) (λ one. sum_over (range_with_len 0 parts) (λ sender. sum_over (range_with_len 0 parts) (counts one sender))) + 1
sum_raised_bag edges parts edge from to counts is sender receiver =
    sum_one edges edge (λ one. sum_over (range_with_len 0 parts) (λ other. sum_over (range_with_len 0 parts) (counts one other)))
    (λ one. sum_over (range_with_len 0 parts) (λ other. sum_over (range_with_len 0 parts) ((if one == edge then raised_in from to (counts one) else counts one) other))) is
    (λ one other. rw (ne_eqb one edge other) refl) (rw (eq-eqb edge edge refl) (sum_raised_in parts parts from to (counts edge) sender receiver))

one_more : (machine : Machine) (state : State) (action : Action) → IsWithin machine action → actions_so_far machine (after action state) ≡ actions_so_far machine state + 1
one_more machine state (learn part) within = omega (arith, sum_raised machine.job.partitions part state.seen within)
one_more machine state (hear op part) within =
    omega (arith, sum_raised_in (length machine.job.plan.ops) machine.job.partitions op part state.heard within.0 within.1)
one_more machine state (take_bag edge from to) within =
    omega (arith, sum_raised_bag (length machine.job.plan.edges) machine.job.partitions edge from to state.taken within.0 within.1 within.2)
one_more machine state (poll op part) within =
    omega (arith, sum_raised_in (length machine.job.plan.ops) machine.job.partitions op part state.polls within.0 within.1)

pub offered_counts : (machine : Machine) (state : State) (action : Action) → Contains (offered machine state) action → actions_so_far machine (after action state) ≡ actions_so_far machine state + 1
offered_counts machine state action is = one_more machine state action (offered_within machine state action is)

-- ---- how far each counter goes

released_most : (machine : Machine) (state : State) → released_in machine state ≤ length machine.history.path
released_most machine state = omega (arith, known_most machine (heard_by machine state.heard))

own_most : (machine : Machine) (op seen : ℕ) → length (own_places machine.job.plan (take seen machine.history.path) op) ≤ length machine.history.path
own_most machine op seen =
    omega (arith, places_shorter (take seen machine.history.path) (op_at machine.job.plan op).block, length-take seen machine.history.path)

sent_most : (machine : Machine) (edge from to seen polls : ℕ) → length (sent_places machine edge from to seen polls) ≤ length machine.history.path
sent_most machine edge from to seen polls = by_target (is_target machine edge from to)
  where
    by_target : (test : Bool)
        → length (cond test (filter (λ place. is_send (fate_of machine.job.plan (take seen machine.history.path) edge place)) (made_places machine (edge_at machine.job.plan edge).from from polls)) [])
        ≤ length machine.history.path
    by_target false = omega arith
    by_target true =
        let op = (edge_at machine.job.plan edge).from in
        let own = own_places machine.job.plan machine.history.path op in
        omega (
          arith,
          filter_shorter (λ place. is_send (fate_of machine.job.plan (take seen machine.history.path) edge place)) (made_places machine op from polls),
          filter_shorter (λ place. makes machine op place from) (take polls own),
          length-take polls own,
          places_shorter machine.history.path (op_at machine.job.plan op).block,
        )

-- ---- the bound

bound_is : (most parts ops edges : ℕ) → parts * most + ops * (parts * most) + ops * (parts * most) + edges * (parts * (parts * most)) ≡ most * parts * (1 + 2 * ops + edges * parts)
bound_is most parts ops edges = grind arith

pub total_most : (machine : Machine) (state : State) → Runs machine → IsValidState machine state → actions_so_far machine state ≤ most_actions machine.job.plan machine.job.decisions machine.job.partitions
total_most machine state runs valid =
    let most = most_places machine.job.plan machine.job.decisions in
    let parts = machine.job.partitions in
    let ops = length machine.job.plan.ops in
    let edges = length machine.job.plan.edges in
    let long : length machine.history.path ≤ most = path_length machine runs in
    let polls_most : (op part : ℕ) → state.polls op part ≤ most = λ op part. omega (arith, long, (valid.polled op part).within, own_most machine op (state.seen part)) in
    let blocks = over_most most 0 parts state.seen (λ part. omega (arith, long, valid.seen part, released_most machine state)) in
    let polls = over_most (parts * most) 0 ops (λ op. sum_over (range_with_len 0 parts) (state.polls op)) (λ op. over_most most 0 parts (state.polls op) (polls_most op)) in
    let reports = over_most (parts * most) 0 ops (λ op. sum_over (range_with_len 0 parts) (state.heard op))
    (λ op. over_most most 0 parts (state.heard op) (λ part. omega (arith, valid.heard op part, polls_most op part))) in
    let bags = over_most (parts * (parts * most)) 0 edges (λ edge. sum_over (range_with_len 0 parts) (λ from. sum_over (range_with_len 0 parts) (state.taken edge from)))
    (λ edge. over_most (parts * most) 0 parts (λ from. sum_over (range_with_len 0 parts) (state.taken edge from))
    (λ from. over_most most 0 parts (state.taken edge from)
    (λ to. omega (arith, long, valid.taken edge from to, sent_most machine edge from to (state.seen from) (state.polls (edge_at machine.job.plan edge).from from))))) in
    omega (arith, bound_is most parts ops edges, blocks, polls, reports, bags)
