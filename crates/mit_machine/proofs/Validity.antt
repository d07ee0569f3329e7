-- The first state is valid, and each action that is offered leads to a valid state.
use Rattle.std.proofs.Common.{◌≡◌, ◌<◌, ◌≤◌, ◌+◌, ℕ, length, take, get_or, sym, subst, arith, ◌∙◌, true}
use Rattle.std.specs.List.{Contains}
use Rattle.std.proofs.lemmas.List.{get_or-take, length-take}
use Rattle.std.proofs.lemmas.List.Sums.{AllPass-from_list_all}
use Rattle.std.proofs.lemmas.Option.{get_or_from_slice_get, slice_get_within}
use Rattle.mit_plan.specs.Plans.{op_at}
use Rattle.mit_machine.specs.Offers.{bags_taken, is_enabled, offered, released_in, sent_in}
use Rattle.mit_machine.specs.Places.{makes, own_places}
use Rattle.mit_machine.specs.Runs.{IsPolled, IsValidState, Runs}
use Rattle.mit_machine.specs.State.{Action, Machine, State, after, first_state, hear, learn, poll, take_bag}
use Rattle.mit_machine.proofs.Fed.{fed_after, sent_later}
use Rattle.mit_machine.proofs.Lengthens.{lengthens_length, lengthens_take}
use Rattle.mit_machine.proofs.Monotone.{released_later}
use Rattle.mit_machine.proofs.Offered.{PollsAt, has_left, has_left_of_first, offered_enabled, polls_at}
use Rattle.mit_machine.proofs.Places.{lengthens_places, in_view}
use Rattle.mit_machine.proofs.Raised.{raised_bag_cases, raised_cases, raised_in_cases}
use Rattle.mit_machine.proofs.Settling.{FateLaws}

-- ---- the first state

pub first_valid : (machine : Machine) → IsValidState machine first_state
first_valid machine = record {
  seen = λ part. omega arith;
  polled = λ op part. record { within = omega arith; stood = λ count place less is. absurd (omega (arith, less)) };
  fed = λ op part count place less is. absurd (omega (arith, less));
  heard = λ op part. omega arith;
  taken = λ edge from to. omega arith;
}

-- ---- a block is learned

polled_seen : (machine : Machine) (op part seen polls : ℕ) → IsPolled machine op part seen polls → IsPolled machine op part (seen + 1) polls
polled_seen machine op part seen polls was = record {
  within =
      let path = machine.history.path in
      omega (
        arith,
        was.within,
        lengthens_length (own_places machine.job.plan (take seen path) op) (own_places machine.job.plan (take (seen + 1) path) op)
            (lengthens_places (take seen path) (take (seen + 1) path) (op_at machine.job.plan op).block (lengthens_take seen (seen + 1) path (omega arith))),
      );
  stood = was.stood;
}

valid_learn : FateLaws → (machine : Machine) (state : State) (part : ℕ) → Runs machine → IsValidState machine state → is_enabled machine state (learn part) ≡ true → IsValidState machine (after (learn part) state)
valid_learn laws machine state part runs valid enabled =
    let less = has_left_of_first (state.seen part) (released_in machine state) machine.history.path enabled in
    record {
      seen = λ other. raised_cases part other state.seen (λ n. n ≤ released_in machine state) (valid.seen other)
          (λ same. subst (λ (one : ℕ). state.seen one + 1 ≤ released_in machine state) (sym same) (omega (arith, less.0)));
      polled = λ op other. raised_cases part other state.seen (λ n. IsPolled machine op other n (state.polls op other)) (valid.polled op other)
          (λ same. polled_seen machine op other (state.seen other) (state.polls op other) (valid.polled op other));
      fed = λ op other. fed_after laws machine state (learn part) op other runs valid enabled;
      heard = valid.heard;
      taken = λ edge from to.
          omega (
            arith,
            valid.taken edge from to,
            lengthens_length (sent_in machine state edge from to) (sent_in machine (after (learn part) state) edge from to) (sent_later laws machine state (learn part) edge from to runs enabled),
          );
    }

-- ---- a report is heard

valid_hear : FateLaws → (machine : Machine) (state : State) (op part : ℕ) → Runs machine → IsValidState machine state → is_enabled machine state (hear op part) ≡ true → IsValidState machine (after (hear op part) state)
valid_hear laws machine state op part runs valid enabled =
    let less = has_left_of_first (state.heard op part) (state.polls op part) (own_places machine.job.plan machine.history.path op) enabled in
    record {
      seen = λ other. omega (arith, valid.seen other, released_later machine state (hear op part));
      polled = valid.polled;
      fed = λ other from. fed_after laws machine state (hear op part) other from runs valid enabled;
      heard = λ other from. raised_in_cases op part other from state.heard (λ n. n ≤ state.polls other from) (valid.heard other from)
          (λ same own. rw (same, own) (omega (arith, less.0)));
      taken = valid.taken;
    }

-- ---- a bag is taken

valid_take : FateLaws → (machine : Machine) (state : State) (edge from to : ℕ) → Runs machine → IsValidState machine state → is_enabled machine state (take_bag edge from to) ≡ true → IsValidState machine (after (take_bag edge from to) state)
valid_take laws machine state edge from to runs valid enabled =
    let less = has_left (state.taken edge from to) (sent_in machine state edge from to) enabled in
    record {
      seen = valid.seen;
      polled = valid.polled;
      fed = λ op part. fed_after laws machine state (take_bag edge from to) op part runs valid enabled;
      heard = valid.heard;
      taken = λ other sender receiver. raised_bag_cases edge from to other sender receiver state.taken (λ n. n ≤ length (sent_in machine state other sender receiver)) (valid.taken other sender receiver)
          (λ same by own. subst (λ (one : ℕ). state.taken one sender receiver + 1 ≤ length (sent_in machine state one sender receiver)) (sym same)
          (subst (λ (one : ℕ). state.taken edge one receiver + 1 ≤ length (sent_in machine state edge one receiver)) (sym by)
          (subst (λ (one : ℕ). state.taken edge from one + 1 ≤ length (sent_in machine state edge from one)) (sym own) (omega (arith, less)))));
    }

-- ---- an operator is polled

polled_more : (machine : Machine) (op part seen polls : ℕ) → PollsAt machine op part seen polls → IsPolled machine op part seen (polls + 1)
polled_more machine op part seen polls at =
    let own = own_places machine.job.plan machine.history.path op in
    let within = slice_get_within own polls at.place at.next in
    record {
      within = omega (arith, in_view machine.history.path (op_at machine.job.plan op).block polls at.place seen at.next at.before);
      stood = λ count place less is.
          let below : count < polls = omega (arith, less) in
          let item : get_or (take polls own) count place ≡ place = get_or-take polls own count place below ∙ get_or_from_slice_get own count place place is in
          subst (λ (one : ℕ). makes machine op one part ≡ true) item
          (AllPass-from_list_all (λ earlier. makes machine op earlier part) (take polls own) at.stood count place (omega (arith, below, within, length-take polls own)));
    }

valid_poll : FateLaws → (machine : Machine) (state : State) (op part : ℕ) → Runs machine → IsValidState machine state → is_enabled machine state (poll op part) ≡ true → IsValidState machine (after (poll op part) state)
valid_poll laws machine state op part runs valid enabled =
    let at = polls_at machine (bags_taken machine state part) op part (state.seen part) (state.polls op part) enabled in
    record {
      seen = valid.seen;
      polled = λ other from. raised_in_cases op part other from state.polls (λ n. IsPolled machine other from (state.seen from) n) (valid.polled other from)
          (λ same own. rw (same, own) (polled_more machine op part (state.seen part) (state.polls op part) at));
      fed = λ other from. fed_after laws machine state (poll op part) other from runs valid enabled;
      heard = λ other from. raised_in_cases op part other from state.polls (λ n. state.heard other from ≤ n) (valid.heard other from) (λ same own. omega (arith, valid.heard other from));
      taken = λ edge from to.
          omega (
            arith,
            valid.taken edge from to,
            lengthens_length (sent_in machine state edge from to) (sent_in machine (after (poll op part) state) edge from to) (sent_later laws machine state (poll op part) edge from to runs enabled),
          );
    }

pub offered_valid : FateLaws → (machine : Machine) (state : State) (action : Action) → Runs machine → IsValidState machine state → Contains (offered machine state) action → IsValidState machine (after action state)
offered_valid laws machine state action runs valid is = by_action action (offered_enabled machine state action is)
  where
    by_action : (one : Action) → is_enabled machine state one ≡ true → IsValidState machine (after one state)
    by_action (learn part) enabled = valid_learn laws machine state part runs valid enabled
    by_action (hear op part) enabled = valid_hear laws machine state op part runs valid enabled
    by_action (take_bag edge from to) enabled = valid_take laws machine state edge from to runs valid enabled
    by_action (poll op part) enabled = valid_poll laws machine state op part runs valid enabled
