-- Runs: the state after picks, how a run ends, and how many actions it takes.
use Rattle.std.specs.Prelude.{◌≡◌, ◌≤◌, ◌<◌, ◌==◌, ◌+◌, ◌-◌, ℕ, suc, List, [], ◌∷◌, true, length, sum, map, take, nat_lt, Option, Some, None, option_and_then, option_map, if◌then◌else◌, slice_get}
use Rattle.std.specs.List.{list_all}
use Rattle.mit_ops.specs.Endings.{Ending, finished, stopped}
use Rattle.mit_ops.specs.declared.faults.FaultKind.TheVariants.{DecisionLimit}
use Rattle.mit_ops.specs.declared.leave.Leave.{Leave}
use Rattle.mit_ops.specs.declared.leave.Leave.TheVariants.{Jump, Branch, End}
use Rattle.mit_plan.specs.Held.{decisions_before, history_of, op_of}
use Rattle.mit_plan.specs.Meant.{fault_at, last_block, pair, writes_of}
use Rattle.mit_plan.specs.Plans.{op_at}
use Rattle.mit_plan.specs.Valid.{IsValid, last_of}
use Rattle.mit_plan.specs.declared.plan.PlanBlock.{PlanBlock}
use Rattle.mit_machine.specs.Offers.{all_come, bags_taken, all_edges, offered, all_ops, all_parts, released_in, sent_in}
use Rattle.mit_machine.specs.Places.{Reports, front, front_index, heard_by, known, makes, own_places}
use Rattle.mit_machine.specs.State.{Machine, State, after, first_state}

-- ---- what runs

-- a valid plan runs in partitions, over what it holds, with a window of one place or more
pub record Runs (machine : Machine) : Type 0 where
  pub plan : IsValid machine.job.plan
  pub history : machine.history ≡ history_of machine.job
  pub some : 0 < machine.job.partitions
  pub opens : 0 < machine.window

-- ---- picks

-- how many actions were offered, and which of them was taken, counted from 0
pub record Pick : Type 0 where
  pub offered : ℕ
  pub chosen : ℕ

-- a pick is of the offer of a state
abbrev pub state_after_pick : Machine → State → Pick → Option State
state_after_pick machine state pick =
    if length (offered machine state) == pick.offered
    then option_map (λ action. after action state) (slice_get (offered machine state) pick.chosen)
    else None

unfoldable pub picked_from : Machine → State → List Pick → Option State
picked_from machine state [] = Some state
picked_from machine state (pick ∷ later) = option_and_then (λ next. picked_from machine next later) (state_after_pick machine state pick)

-- the state after these picks, where each is of the offer at its turn
abbrev pub after_picks : Machine → List Pick → Option State
after_picks machine picks = picked_from machine first_state picks

-- ---- the end

-- where everything of the known path is done
abbrev pub known_end : Machine → List ℕ → PlanBlock → Leave → Option Ending
known_end machine path block End = Some (finished (writes_of machine.job machine.history) (decisions_before machine.job.plan path (length path)))
known_end machine path block (Jump next) = None
known_end machine path block (Branch on_true on_false) =
    if decisions_before machine.job.plan path (length path - 1) == machine.job.decisions
    then Some (stopped (record { statement = (op_at machine.job.plan (last_of block)).statement; decisions = machine.job.decisions; kind = DecisionLimit }))
    else None

-- how the run has ended, by the reports that came: with the fault of the front, where it was heard from every partition; and where there is no
-- front, with the writes of a complete path, or at the decision limit
abbrev pub ended_by : Machine → Reports → ℕ → ℕ → Option Ending
ended_by machine reports known front =
    if nat_lt front known
    then if list_all (reports (op_of machine.job.plan machine.history.path front (front_index machine reports)) front) (all_parts machine)
    then option_map stopped (fault_at machine.job.plan machine.history (pair front (front_index machine reports)))
    else None
    else let path = take known machine.history.path in
    known_end machine path (last_block machine.job.plan path) (last_block machine.job.plan path).leave

abbrev pub ended : Machine → State → Option Ending
ended machine state =
    let reports = heard_by machine state.heard in ended_by machine reports (known machine reports) (front machine reports)

-- ---- valid states

-- an operator was polled in a partition at places in its view alone, and it was ok at all but the last of them
pub record IsPolled (machine : Machine) (op part seen polls : ℕ) : Type 0 where
  pub within : polls ≤ length (own_places machine.job.plan (take seen machine.history.path) op)
  pub stood : (count place : ℕ) → suc count < polls → slice_get (own_places machine.job.plan machine.history.path op) count ≡ Some place
      → makes machine op place part ≡ true

-- nothing is seen beyond what is released, polled beyond the view or before its bags came, heard that was not polled, or taken that was not
-- sent
pub record IsValidState (machine : Machine) (state : State) : Type 0 where
  pub seen : (part : ℕ) → state.seen part ≤ released_in machine state
  pub polled : (op part : ℕ) → IsPolled machine op part (state.seen part) (state.polls op part)
  pub fed : (op part count place : ℕ) → count < state.polls op part → slice_get (own_places machine.job.plan machine.history.path op) count ≡ Some place
      → all_come machine (bags_taken machine state part) op part place ≡ true
  pub heard : (op part : ℕ) → state.heard op part ≤ state.polls op part
  pub taken : (edge from to : ℕ) → state.taken edge from to ≤ length (sent_in machine state edge from to)

-- ---- how many actions

abbrev pub sum_over : List ℕ → (ℕ → ℕ) → ℕ
sum_over numbers count = sum (map count numbers)

-- the actions so far: the sum of all counters
abbrev pub actions_so_far : Machine → State → ℕ
actions_so_far machine state =
    sum_over (all_parts machine) state.seen
    + sum_over (all_ops machine) (λ op. sum_over (all_parts machine) (state.polls op))
    + sum_over (all_ops machine) (λ op. sum_over (all_parts machine) (state.heard op))
    + sum_over (all_edges machine) (λ edge. sum_over (all_parts machine) (λ from. sum_over (all_parts machine) (state.taken edge from)))
