-- What a partition keeps: parts that a place may still choose, and outputs whose fate is undecided.
use Rattle.std.specs.Prelude.{◌==◌, ◌||◌, ◌&&◌, ℕ, List, [], Bool, false, not, length, map, sum, drop, take, Option, Some, None}
use Rattle.std.specs.List.{filter, list_any}
use Rattle.std.specs.Option.{unwrap_or}
use Rattle.mit_ops.specs.Kinds.{kind_of}
use Rattle.mit_path.specs.Fate.{is_superseded}
use Rattle.mit_plan.specs.Chosen.{Choice, chosen, input_numbers}
use Rattle.mit_plan.specs.Held.{lists_of}
use Rattle.mit_plan.specs.Plans.{PlanOf, edge_at, op_at, source_block}
use Rattle.mit_machine.specs.Channels.{fate_of, is_complete, is_undecided, made_places, siblings_of}
use Rattle.mit_machine.specs.Offers.{all_ops, all_parts}
use Rattle.mit_machine.specs.Places.{own_places}
use Rattle.mit_machine.specs.Runs.{sum_over}
use Rattle.mit_machine.specs.State.{Machine, State}

-- a choice takes the bag of this edge and place
abbrev pub takes : ℕ → ℕ → Option Choice → Bool
takes edge place None = false
takes edge place (Some choice) = (choice.edge == edge) && (choice.place == place)

-- a place chooses the bag for an input of an operator
abbrev pub chooses : PlanOf → List ℕ → ℕ → ℕ → ℕ → Bool
chooses plan path edge place later =
    let op = (edge_at plan edge).to in list_any (λ input. takes edge place (chosen plan path op input later)) (input_numbers plan op)

-- a part that was received is kept in a view: an unpolled place chooses it, or it is not superseded
abbrev pub is_part_kept : PlanOf → List ℕ → ℕ → ℕ → ℕ → Bool
is_part_kept plan view polls edge place =
    list_any (chooses plan view edge place) (drop polls (own_places plan view (edge_at plan edge).to))
    || not (is_superseded view (source_block plan (edge_at plan edge)) place (siblings_of plan edge) (is_complete plan view))

-- the parts of an edge and a sender that are kept, of those that were taken
abbrev pub kept_parts : Machine → ℕ → ℕ → ℕ → List ℕ → List ℕ
kept_parts machine edge seen polls taken = filter (is_part_kept machine.job.plan (take seen machine.history.path) polls edge) taken

-- the outputs that wait: what was made, as long as its fate is undecided
abbrev pub waiting : Machine → ℕ → ℕ → ℕ → ℕ → List ℕ
waiting machine edge part seen polls =
    filter (λ place. is_undecided (fate_of machine.job.plan (take seen machine.history.path) edge place))
    (made_places machine (edge_at machine.job.plan edge).from part polls)

-- ---- rows that were fed to kernels

-- the rows of all inputs of an operator at a place in a partition
abbrev pub rows_fed : Machine → ℕ → ℕ → ℕ → ℕ
rows_fed machine op part place = sum (map length (unwrap_or (lists_of machine.job machine.history op place part) []))

-- how many rows the kernel of this kind was fed
abbrev pub fed_rows : Machine → ℕ → State → ℕ
fed_rows machine kind state =
    sum_over (filter (λ op. kind_of (op_at machine.job.plan op).spec == kind) (all_ops machine))
    (λ op. sum_over (all_parts machine) (λ part. sum_over (take (state.polls op part) (own_places machine.job.plan machine.history.path op)) (rows_fed machine op part)))
