-- Picks lead to valid states, and there are no more of them than the bound allows.
use Rattle.std.proofs.Common.{◌≡◌, ◌≤◌, ◌+◌, List, [], ◌∷◌, length, ap, subst, refl, arith, Bool, true, false, Option, Some, None}
use Rattle.std.specs.Prelude.{◌==◌, if◌then◌else◌, option_and_then, option_map, slice_get}
use Rattle.std.specs.List.{Contains, range_with_len}
use Rattle.std.proofs.lemmas.List.Elements.{Contains-get_or}
use Rattle.std.proofs.lemmas.Option.{get_or_from_slice_get, slice_get_within}
use Rattle.mit_plan.specs.Bound.{most_actions}
use Rattle.mit_machine.specs.Offers.{offered}
use Rattle.mit_machine.specs.Runs.{IsValidState, Pick, Runs, actions_so_far, after_picks, picked_from, state_after_pick, sum_over}
use Rattle.mit_machine.specs.State.{Action, Machine, State, after, first_state}
use Rattle.mit_machine.proofs.Counting.{offered_counts, over_most, total_most}
use Rattle.mit_machine.proofs.Settling.{FateLaws}
use Rattle.mit_machine.proofs.Validity.{first_valid, offered_valid}

-- a state comes of one before it by an action that was offered there
record ComesOf (machine : Machine) (state next : State) : Type 0 where
  pub action : Action
  pub is_offered : Contains (offered machine state) action
  pub leads : after action state ≡ next

picked_comes : (machine : Machine) (state next : State) (pick : Pick) → state_after_pick machine state pick ≡ Some next → ComesOf machine state next
picked_comes machine state next pick is = by_count (length (offered machine state) == pick.offered) is
  where
    by_action : (found : Option Action) → slice_get (offered machine state) pick.chosen ≡ found → option_map (λ action. after action state) found ≡ Some next → ComesOf machine state next
    by_action None there same = absurd cc
    by_action (Some action) there same = record {
      action = action;
      is_offered =
          let all = offered machine state in
          subst (Contains all) (get_or_from_slice_get all pick.chosen action action there) (Contains-get_or all pick.chosen action (slice_get_within all pick.chosen action there));
      leads = cc;
    }

    by_count : (same : Bool) → (if same then option_map (λ action. after action state) (slice_get (offered machine state) pick.chosen) else None) ≡ Some next → ComesOf machine state next
    by_count true made = by_action (slice_get (offered machine state) pick.chosen) refl made
    by_count false made = absurd cc

-- ---- valid states

picks_valid : FateLaws → (machine : Machine) (picks : List Pick) (state last : State) → Runs machine → IsValidState machine state → picked_from machine state picks ≡ Some last → IsValidState machine last
unfolding picked_from
picks_valid laws machine [] state last runs valid is =
    let same : state ≡ last = cc in
    subst (IsValidState machine) same valid
picks_valid laws machine (pick ∷ later) state last runs valid is = by_next (picks_valid laws machine later) (state_after_pick machine state pick) refl is
  where
    by_next : ((next end : State) → Runs machine → IsValidState machine next → picked_from machine next later ≡ Some end → IsValidState machine end) → (found : Option State)
        → state_after_pick machine state pick ≡ found → option_and_then (λ next. picked_from machine next later) found ≡ Some last → IsValidState machine last
    by_next rest None there made = absurd cc
    by_next rest (Some next) there made =
        let comes = picked_comes machine state next pick there in
        rest next last runs (subst (IsValidState machine) comes.leads (offered_valid laws machine state comes.action runs valid comes.is_offered)) made

pub after_picks_valid : FateLaws → (machine : Machine) (picks : List Pick) (state : State) → Runs machine → after_picks machine picks ≡ Some state → IsValidState machine state
after_picks_valid laws machine picks state runs is = picks_valid laws machine picks first_state state runs (first_valid machine) is

-- ---- how many picks

picks_count : (machine : Machine) (picks : List Pick) (state last : State) → picked_from machine state picks ≡ Some last → actions_so_far machine last ≡ actions_so_far machine state + length picks
unfolding picked_from
picks_count machine [] state last is =
    let same : state ≡ last = cc in
    omega (arith, ap (actions_so_far machine) same)
picks_count machine (pick ∷ later) state last is = by_next (picks_count machine later) (state_after_pick machine state pick) refl is
  where
    by_next : ((next end : State) → picked_from machine next later ≡ Some end → actions_so_far machine end ≡ actions_so_far machine next + length later) → (found : Option State)
        → state_after_pick machine state pick ≡ found → option_and_then (λ next. picked_from machine next later) found ≡ Some last → actions_so_far machine last ≡ actions_so_far machine state + length (pick ∷ later)
    by_next rest None there made = absurd cc
    by_next rest (Some next) there made =
        let comes = picked_comes machine state next pick there in
        omega (arith, rest next last made, ap (actions_so_far machine) comes.leads, offered_counts machine state comes.action comes.is_offered)

-- nothing was done in the first state
first_total : (machine : Machine) → actions_so_far machine first_state ≡ 0
first_total machine =
    let parts = machine.job.partitions in
    let none : sum_over (range_with_len 0 parts) (λ part. 0) ≤ 0 = omega (arith, over_most 0 0 parts (λ part. 0) (λ part. omega arith)) in
    omega (
      arith,
      none,
      over_most 0 0 (length machine.job.plan.ops) (λ op. sum_over (range_with_len 0 parts) (λ part. 0)) (λ op. none),
      over_most 0 0 (length machine.job.plan.edges) (λ edge. sum_over (range_with_len 0 parts) (λ from. sum_over (range_with_len 0 parts) (λ to. 0)))
          (λ edge. omega (arith, over_most 0 0 parts (λ from. sum_over (range_with_len 0 parts) (λ to. 0)) (λ from. none))),
    )

pub picks_most : (machine : Machine) (picks : List Pick) (state : State) → Runs machine → IsValidState machine state → after_picks machine picks ≡ Some state
    → length picks ≤ most_actions machine.job.plan machine.job.decisions machine.job.partitions
picks_most machine picks state runs valid is = omega (arith, picks_count machine picks first_state state is, first_total machine, total_most machine state runs valid)
