-- While a run has not ended something is offered.
use Rattle.std.proofs.Common.{◌≡◌, ◌∙◌, ◌<◌, ◌≤◌, ◌+◌, ℕ, zero, suc, List, [], length, take, get_or, ap, sym, refl, arith, cond, eqb, min, Bool, true, false, Option, Some, None, inl, inr}
use Rattle.std.specs.Prelude.{◌&&◌, IsSome, nat_le, nat_lt, option_map, slice_get}
use Rattle.std.specs.List.{filter, list_all, list_any}
use Rattle.std.proofs.lemmas.Bool.{and_from, cases_lt, eq-eqb, eqb-true, le-leb, lt-ltb, ltb-false, ltb-true}
use Rattle.std.proofs.lemmas.Option.{slice_get-get_or, slice_get_within}
use Rattle.mit_path.specs.declared.fate.Fate.TheVariants.{Send}
use Rattle.mit_ops.specs.Endings.{stopped}
use Rattle.mit_ops.specs.Routes.{senders_of, targets_of}
use Rattle.mit_ops.specs.declared.faults.ScriptFault.{ScriptFault}
use Rattle.mit_ops.specs.declared.routes.Route.{Route}
use Rattle.mit_ops.specs.declared.routes.Route.TheVariants.{Forward, Gather, Broadcast, ByKey}
use Rattle.mit_plan.specs.Chosen.{Choice, chosen, input_edges, input_numbers}
use Rattle.mit_plan.specs.Explained.{Explained}
use Rattle.mit_plan.specs.Held.{op_of}
use Rattle.mit_plan.specs.Meant.{fault_at, last_block, pair}
use Rattle.mit_plan.specs.Paths.{IsPath}
use Rattle.mit_plan.specs.Plans.{edge_at, op_at}
use Rattle.mit_plan.specs.Standing.{Names}
use Rattle.mit_machine.specs.Channels.{fate_of, is_send, is_target, made_places}
use Rattle.mit_machine.specs.Offers.{bags_taken, can_poll_at, has_come, offered, all_parts, released_in, sent_in}
use Rattle.mit_machine.specs.Places.{Reports, front, front_index, heard_by, is_done, known, makes, own_places}
use Rattle.mit_machine.specs.Runs.{IsValidState, Runs, ended, known_end}
use Rattle.mit_machine.specs.State.{Machine, State}
use Rattle.mit_machine.proofs.Choosing.{PathLaws, chosen_sends}
use Rattle.mit_machine.proofs.Faults.{FaultLaw, front_fault}
use Rattle.mit_machine.proofs.FrontInputs.{front_names, input_source, input_there, source_done}
use Rattle.mit_machine.proofs.Fronts.{IsFront, done_in, front_is}
use Rattle.mit_machine.proofs.KnownEnds.{PathStops, ended_there}
use Rattle.mit_machine.proofs.Offering.{offers_bag, offers_block, offers_poll, offers_report}
use Rattle.mit_machine.proofs.Places.{came_of, in_order, not_yet, place_found, place_is}
use Rattle.mit_machine.proofs.Lists.{any_at, any_filter, any_found, front_all, more_there, range_found}
use Rattle.mit_machine.proofs.WholePaths.{PartsExplained, explained_is, path_is}

-- ---- routes

-- a sender is a partition, and has the receiver among its targets
sends_to : (route : Route) (parts from to : ℕ) → to < parts → (senders_of route to parts).0 ≤ from → from < (senders_of route to parts).0 + (senders_of route to parts).1
    → (from < parts) × ((nat_le (targets_of route from parts).0 to && nat_lt to ((targets_of route from parts).0 + (targets_of route from parts).1)) ≡ true)
sends_to Forward parts from to some low high =
    let e : from ≡ to = omega (arith, low, high) in
    (omega (arith, e, some), and_from (nat_le from to) (nat_lt to (from + 1)) (le-leb from to (omega (arith, e))) (lt-ltb to (from + 1) (omega (arith, e))))
sends_to Gather parts from to some low high = by_test (eqb to 0) refl high
  where
    by_test : (first : Bool) → eqb to 0 ≡ first → from < 0 + cond first parts 0 → (from < parts) × ((nat_le 0 to && nat_lt to (0 + 1)) ≡ true)
    by_test true is high =
        let e : to ≡ 0 = eqb-true to 0 is in
        (omega (arith, high), and_from (nat_le 0 to) (nat_lt to (0 + 1)) (le-leb 0 to (omega arith)) (lt-ltb to (0 + 1) (omega (arith, e))))
    by_test false is high = absurd (omega (arith, high))
sends_to Broadcast parts from to some low high =
    (omega (arith, high), and_from (nat_le 0 to) (nat_lt to (0 + parts)) (le-leb 0 to (omega arith)) (lt-ltb to (0 + parts) (omega (arith, some))))
sends_to (ByKey columns) parts from to some low high =
    (omega (arith, high), and_from (nat_le 0 to) (nat_lt to (0 + parts)) (le-leb 0 to (omega arith)) (lt-ltb to (0 + parts) (omega (arith, some))))

-- ---- what was sent

-- a place that was heard ok was made
made_there : (machine : Machine) (state : State) (op place part : ℕ) → IsValidState machine state → part < machine.job.partitions → is_done machine (heard_by machine state.heard) op place ≡ true
    → list_any (λ other. eqb other place) (made_places machine op part (state.polls op part)) ≡ true
made_there machine state op place part valid some done =
    let own = own_places machine.job.plan machine.history.path op in
    let both = done_in machine (heard_by machine state.heard) op place part some done in
    let one = any_found (state.heard op part) place own both.0 in
    let polled = valid.heard op part in
    any_filter (λ place. makes machine op place part) place (take (state.polls op part) own) both.1
    (any_at (λ other. eqb other place) (state.polls op part) one.0 place own (omega (arith, one.1, polled)) one.2 (eq-eqb place place refl))

-- and where its fate is to be sent it was sent
sent_there : (machine : Machine) (state : State) (edge from to place : ℕ) → IsValidState machine state → from < machine.job.partitions → is_target machine edge from to ≡ true
    → fate_of machine.job.plan (take (state.seen from) machine.history.path) edge place ≡ Send
    → is_done machine (heard_by machine state.heard) (edge_at machine.job.plan edge).from place ≡ true → list_any (λ other. eqb other place) (sent_in machine state edge from to) ≡ true
sent_there machine state edge from to place valid some target sends done =
    let source : ℕ = (edge_at machine.job.plan edge).from in
    let made = made_places machine source from (state.polls source from) in
    let test : ℕ → Bool = λ place. is_send (fate_of machine.job.plan (take (state.seen from) machine.history.path) edge place) in
    ap (λ (is : Bool). list_any (λ other. eqb other place) (cond is (filter test made) [])) target
    ∙ any_filter test place made (ap is_send sends) (made_there machine state source place from valid some done)

-- ---- the front's operator in a partition

-- a partition from which the front wasn't heard
record Unheard (machine : Machine) (state : State) (place index part : ℕ) : Type 0 where
  runs : Runs machine
  is_path : IsPath machine.job.plan machine.history.path
  valid : IsValidState machine state
  front : IsFront machine (heard_by machine state.heard) place index
  released : place < released_in machine state
  within : part < machine.job.partitions
  unheard : heard_by machine state.heard (op_of machine.job.plan machine.history.path place index) place part ≡ false

abbrev front_places : Machine → ℕ → ℕ → List ℕ
front_places machine place index = own_places machine.job.plan machine.history.path (op_of machine.job.plan machine.history.path place index)

own_name : (machine : Machine) (state : State) (place index part : ℕ) → Unheard machine state place index part → Names machine.job.plan (get_or machine.history.path place 0) index
own_name machine state place index part waits = front_names machine (heard_by machine state.heard) place index waits.runs.plan waits.front

-- at its earlier places the operator is done
earlier_done : (machine : Machine) (state : State) (place index part k m earlier : ℕ) → Unheard machine state place index part → slice_get (front_places machine place index) k ≡ Some place
    → m < k → slice_get (front_places machine place index) m ≡ Some earlier → is_done machine (heard_by machine state.heard) (op_of machine.job.plan machine.history.path place index) earlier ≡ true
earlier_done machine state place index part k m earlier waits there less is =
    let op = op_of machine.job.plan machine.history.path place index in
    let name = own_name machine state place index part waits in
    let block = (op_at machine.job.plan op).block in
    let before = in_order machine.history.path block m k earlier place is there less in
    let at = place_is machine.history.path block m earlier is in
    waits.front.earlier earlier op before name.below (sym at.1)

-- so it was heard at all of them
heard_is : (machine : Machine) (state : State) (place index part k : ℕ) → Unheard machine state place index part → slice_get (front_places machine place index) k ≡ Some place
    → state.heard (op_of machine.job.plan machine.history.path place index) part ≡ k
heard_is machine state place index part k waits there =
    let few = not_yet machine.history.path block (state.heard op part) k place there waits.unheard in
    let many = all_heard k there in
    omega (arith, few, many)
  where
    op : ℕ
    op = op_of machine.job.plan machine.history.path place index

    block : ℕ
    block = (op_at machine.job.plan op).block

    all_heard : (n : ℕ) → slice_get (front_places machine place index) n ≡ Some place → n ≤ state.heard op part
    all_heard zero there = omega arith
    all_heard (suc m) there =
        let within = slice_get_within (front_places machine place index) (suc m) place there in
        let earlier = get_or (front_places machine place index) m 0 in
        let is = slice_get-get_or (front_places machine place index) m 0 (omega (arith, within)) in
        let done = earlier_done machine state place index part (suc m) m earlier waits there (omega arith) is in
        let came = (done_in machine (heard_by machine state.heard) op earlier part waits.within done).0 in
        came_of machine.history.path block (state.heard op part) m earlier is came

-- a bag that has not come is under way, or its sender has a block to learn
missing_bag : PathLaws → (machine : Machine) (state : State) (place index part input : ℕ) (choice : Choice) (from : ℕ) → Unheard machine state place index part
    → chosen machine.job.plan machine.history.path (op_of machine.job.plan machine.history.path place index) input place ≡ Some choice
    → (senders_of (edge_at machine.job.plan choice.edge).route part machine.job.partitions).0 ≤ from
    → from < (senders_of (edge_at machine.job.plan choice.edge).route part machine.job.partitions).0 + (senders_of (edge_at machine.job.plan choice.edge).route part machine.job.partitions).1
    → bags_taken machine state part choice.edge from choice.place ≡ false → 0 < length (offered machine state)
missing_bag laws machine state place index part input choice from waits is low high missing =
    let plan = machine.job.plan in
    let op = op_of plan machine.history.path place index in
    let name = own_name machine state place index part waits in
    let sender = sends_to (edge_at plan choice.edge).route machine.job.partitions from part waits.within low high in
    let source = input_source laws machine (heard_by machine state.heard) place index input choice waits.runs.plan waits.front is in
    let done = source_done machine (heard_by machine state.heard) place index choice waits.runs.plan waits.front source in
    elim (cases_lt place (state.seen from)) [
      | inr unseen ↦ offers_block machine state from place sender.0 waits.front.entered waits.released unseen
      | inl seen ↦
          let sends = chosen_sends laws plan machine.history.path op input place (state.seen from) choice waits.front.entered seen name.block_is is in
          let sent = sent_there machine state choice.edge from part choice.place waits.valid sender.0 sender.1 sends done in
          offers_bag machine state choice.edge from part source.lead.below sender.0 waits.within
          (more_there (state.taken choice.edge from part) choice.place (sent_in machine state choice.edge from part) sent missing)
    ]

-- so it is for an input whose bags have not all come
missing_input : PathLaws → (machine : Machine) (state : State) (place index part input : ℕ) → Unheard machine state place index part
    → input < length (input_edges machine.job.plan (op_of machine.job.plan machine.history.path place index))
    → has_come machine (bags_taken machine state part) part (chosen machine.job.plan machine.history.path (op_of machine.job.plan machine.history.path place index) input place) ≡ false
    → 0 < length (offered machine state)
missing_input laws machine state place index part input waits below missing =
    let choice = input_there machine (heard_by machine state.heard) place index input waits.runs.plan waits.is_path waits.front below in
    let bags = bags_taken machine state part in
    let not_all : has_come machine bags part (Some choice.0) ≡ false = ap (has_come machine bags part) (sym choice.1) ∙ missing in
    let senders = senders_of (edge_at machine.job.plan choice.0.edge).route part machine.job.partitions in
    let one = range_found (λ from. bags choice.0.edge from choice.0.place) senders.0 senders.1 not_all in
    missing_bag laws machine state place index part input choice.0 one.0 waits choice.1 one.1 one.2 one.3

-- ---- something is offered

-- where the operator is at the front's place, and the partition has seen it
poll_or_bag : PathLaws → (machine : Machine) (state : State) (place index part k : ℕ) → Unheard machine state place index part → slice_get (front_places machine place index) k ≡ Some place
    → state.polls (op_of machine.job.plan machine.history.path place index) part ≡ k → place < state.seen part → 0 < length (offered machine state)
poll_or_bag laws machine state place index part k waits there polled seen = by_test (list_all come (input_numbers machine.job.plan op)) refl
  where
    op : ℕ
    op = op_of machine.job.plan machine.history.path place index

    come : ℕ → Bool
    come input = has_come machine (bags_taken machine state part) part (chosen machine.job.plan machine.history.path op input place)

    good : list_all (λ earlier. makes machine op earlier part) (take (state.polls op part) (front_places machine place index)) ≡ true
    good = front_all (λ earlier. makes machine op earlier part) (state.polls op part) (front_places machine place index) (λ m earlier below is.
        (done_in machine (heard_by machine state.heard) op earlier part waits.within (earlier_done machine state place index part k m earlier waits there (omega (arith, below, polled)) is)).1)

    by_test : (all : Bool) → list_all come (input_numbers machine.job.plan op) ≡ all → 0 < length (offered machine state)
    by_test false missing =
        let one = range_found come 0 (length (input_edges machine.job.plan op)) missing in
        missing_input laws machine state place index part one.0 waits (omega (arith, one.2)) one.3
    by_test true all =
        let name = own_name machine state place index part waits in
        let next : slice_get (front_places machine place index) (state.polls op part) ≡ Some place = ap (slice_get (front_places machine place index)) polled ∙ there in
        let first = and_from (nat_lt place (state.seen part)) (list_all (λ earlier. makes machine op earlier part) (take (state.polls op part) (front_places machine place index)))
        (lt-ltb place (state.seen part) seen) good in
        let ready = and_from (nat_lt place (state.seen part) && list_all (λ earlier. makes machine op earlier part) (take (state.polls op part) (front_places machine place index)))
        (list_all come (input_numbers machine.job.plan op)) first all in
        offers_poll machine state op part name.below waits.within
        (ap (can_poll_at machine (bags_taken machine state part) op part (state.seen part) (state.polls op part)) next ∙ ready)

-- something is offered where the front was not heard from a partition
unheard_offers : PathLaws → (machine : Machine) (state : State) (place index part : ℕ) → Unheard machine state place index part → 0 < length (offered machine state)
unheard_offers laws machine state place index part waits = by_position (place_found machine.history.path (op_at machine.job.plan op).block place waits.front.entered (sym name.block_is))
  where
    op : ℕ
    op = op_of machine.job.plan machine.history.path place index

    name : Names machine.job.plan (get_or machine.history.path place 0) index
    name = own_name machine state place index part waits

    by_position : (k : ℕ) × (slice_get (front_places machine place index) k ≡ Some place) → 0 < length (offered machine state)
    by_position at =
        let heard = heard_is machine state place index part at.0 waits at.1 in
        let within = slice_get_within (front_places machine place index) at.0 place at.1 in
        let polled = waits.valid.heard op part in
        elim (cases_lt (state.heard op part) (state.polls op part)) [
          | inl less ↦ offers_report machine state op part name.below waits.within less (omega (arith, heard, within))
          | inr all ↦ elim (cases_lt place (state.seen part)) [
            | inr unseen ↦ offers_block machine state part place waits.within waits.front.entered waits.released unseen
            | inl seen ↦ poll_or_bag laws machine state place index part at.0 waits at.1 (omega (arith, all, polled, heard)) seen
          ]
        ]

-- ---- the laws that this takes

pub record Laws : Type 0 where
  pub paths : PathLaws
  pub stops : PathStops
  pub faulty : FaultLaw
  pub explained : PartsExplained

no_fault : (fault : Option ScriptFault) → IsSome fault → option_map stopped fault ≡ None → ⊥
no_fault None some none = cc
no_fault (Some fault) some none = cc

-- where there is a front
front_offers : Laws → (machine : Machine) (state : State) → Runs machine → IsValidState machine state → let reports = heard_by machine state.heard in front machine reports < known machine reports
    → cond (list_all (reports (op_of machine.job.plan machine.history.path (front machine reports) (front_index machine reports)) (front machine reports)) (all_parts machine))
    (option_map stopped (fault_at machine.job.plan machine.history (pair (front machine reports) (front_index machine reports)))) None ≡ None
    → 0 < length (offered machine state)
front_offers laws machine state runs valid less going = by_heard (list_all (reports (op_of machine.job.plan machine.history.path place index) place) (all_parts machine)) refl going
  where
    reports : Reports
    reports = heard_by machine state.heard

    place : ℕ
    place = front machine reports

    index : ℕ
    index = front_index machine reports

    is : IsFront machine reports place index
    is = front_is machine reports runs.plan.ranges less

    is_path : IsPath machine.job.plan machine.history.path
    is_path = path_is machine runs (omega (arith, is.entered))

    explained : Explained machine.job machine.history
    explained = explained_is laws.explained machine runs

    by_heard : (all : Bool) → list_all (reports (op_of machine.job.plan machine.history.path place index) place) (all_parts machine) ≡ all
        → cond all (option_map stopped (fault_at machine.job.plan machine.history (pair place index))) None ≡ None → 0 < length (offered machine state)
    by_heard true heard none =
        absurd (no_fault (fault_at machine.job.plan machine.history (pair place index))
        (front_fault laws.paths laws.faulty machine reports place index runs.plan is_path explained runs.some is heard) none)
    by_heard false some none =
        let one = range_found (reports (op_of machine.job.plan machine.history.path place index) place) 0 machine.job.partitions some in
        let released : place < min (known machine reports) (place + machine.window) = omega (arith, less, runs.opens) in
        unheard_offers laws.paths machine state place index one.0
        (record { runs = runs; is_path = is_path; valid = valid; front = is; released = released; within = omega (arith, one.2); unheard = one.3 })

pub progress : Laws → (machine : Machine) (state : State) → Runs machine → IsValidState machine state → ended machine state ≡ None → 0 < length (offered machine state)
progress laws machine state runs valid going = by_front (nat_lt (front machine reports) (known machine reports)) refl going
  where
    reports : Reports
    reports = heard_by machine state.heard

    by_front : (there : Bool) → nat_lt (front machine reports) (known machine reports) ≡ there
        → cond there
        (cond (list_all (reports (op_of machine.job.plan machine.history.path (front machine reports) (front_index machine reports)) (front machine reports)) (all_parts machine))
        (option_map stopped (fault_at machine.job.plan machine.history (pair (front machine reports) (front_index machine reports)))) None)
        (let path = take (known machine reports) machine.history.path in known_end machine path (last_block machine.job.plan path) (last_block machine.job.plan path).leave) ≡ None
        → 0 < length (offered machine state)
    by_front true is none = front_offers laws machine state runs valid (ltb-true (front machine reports) (known machine reports) is) none
    by_front false is none = absurd (ended_there laws.stops machine reports runs (ltb-false (front machine reports) (known machine reports) is) none)
