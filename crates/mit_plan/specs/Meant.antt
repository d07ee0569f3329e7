-- What a plan means, without messages.
use Rattle.std.specs.Prelude.{ℕ, ◌-◌, List, [], ◌∷◌, map, flat_map, filter_map, length, slice_index}
use Rattle.std.specs.Prelude.{Option, Some, None, option_map, option_and_then, Ok, Err}
use Rattle.std.specs.List.{range_with_len}
use Rattle.mit_files.specs.Files.{FileMap}
use Rattle.mit_files.specs.Printed.{Write}
use Rattle.mit_ops.specs.Answers.{BagOrFault, over}
use Rattle.mit_ops.specs.Endings.{Ending, finished, stopped}
use Rattle.mit_ops.specs.Operators.{name_written}
use Rattle.mit_ops.specs.declared.faults.FaultKind.TheVariants.{DecisionLimit}
use Rattle.mit_ops.specs.declared.faults.ScriptFault.{ScriptFault}
use Rattle.mit_ops.specs.declared.leave.Leave.{Leave}
use Rattle.mit_ops.specs.declared.leave.Leave.TheVariants.{End}
use Rattle.mit_plan.specs.Held.{History, Job, Part, bag_in, decisions_before, failed, held, history_of, lists_of, ok, op_of, row_at, void}
use Rattle.mit_plan.specs.Plans.{PlanOf, block_at, op_at}
use Rattle.mit_plan.specs.Valid.{last_of}
use Rattle.mit_plan.specs.declared.plan.PlanBlock.{PlanBlock}

-- a place of the path and the index of an operator in the block there
pub record Pair : Type 0 where
  pub place : ℕ
  pub index : ℕ

abbrev pub pair : ℕ → ℕ → Pair
pair place index = record { place = place; index = index }

-- all of them, in order of place and then of index
abbrev pub pairs_at : PlanOf → List ℕ → ℕ → List Pair
pairs_at plan path place = map (pair place) (range_with_len 0 (block_at plan (slice_index path place)).count)

abbrev pub pairs_of : PlanOf → List ℕ → List Pair
pairs_of plan path = flat_map (pairs_at plan path) (range_with_len 0 (length path))

-- ---- faults

abbrev pub answer_in : Part → BagOrFault
answer_in (ok bag) = Ok bag
answer_in (failed fault) = Err fault
-- only behind a fault
answer_in void = Ok []

-- what an operator makes at a place: its parts add up to a bag, or to their least fault
abbrev pub made : History → Pair → BagOrFault
made history at = over answer_in (row_at history at.place at.index)

abbrev pub fault_in : BagOrFault → ℕ → ℕ → Option ScriptFault
fault_in (Ok bag) statement decisions = None
fault_in (Err fault) statement decisions = Some (record { statement = statement; decisions = decisions; kind = fault.kind })

abbrev pub fault_at : PlanOf → History → Pair → Option ScriptFault
fault_at plan history at =
    fault_in (made history at) (op_at plan (op_of plan history.path at.place at.index)).statement (decisions_before plan history.path at.place)

-- the faults, in order of place and index
abbrev pub faults_of : Job → History → List ScriptFault
faults_of job history = filter_map (fault_at job.plan history) (pairs_of job.plan history.path)

-- ---- writes

abbrev pub write_of : Option (List ℕ) → Part → Option Write
write_of name part = option_and_then (λ name. option_map (λ bag. record { name = name; bag = bag }) (bag_in part)) name

-- what a write writes in partition 0
abbrev pub write_at : Job → History → Pair → Option Write
write_at job history at =
    let op = op_of job.plan history.path at.place at.index in
    write_of (option_and_then (name_written (op_at job.plan op).spec) (lists_of job history op at.place 0)) (held history at.place at.index 0)

-- the writes, in order of place and index
abbrev pub writes_of : Job → History → List Write
writes_of job history = filter_map (write_at job history) (pairs_of job.plan history.path)

-- ---- the ending

-- where there is no fault: the path is complete, or no decision is left for the condition at its end
abbrev pub at_end : Job → History → PlanBlock → Leave → Ending
at_end job history block End = finished (writes_of job history) (decisions_before job.plan history.path (length history.path))
at_end job history block other =
    stopped (record { statement = (op_at job.plan (last_of block)).statement; decisions = job.decisions; kind = DecisionLimit })

abbrev pub last_block : PlanOf → List ℕ → PlanBlock
last_block plan path = block_at plan (slice_index path (length path - 1))

-- a fault comes before everything else, and the first one of all
abbrev pub first_or : List ScriptFault → Ending → Ending
first_or [] ending = ending
first_or (fault ∷ later) ending = stopped fault

abbrev pub history_ending : Job → History → Ending
history_ending job history =
    let last = last_block job.plan history.path in
    first_or (faults_of job history) (at_end job history last last.leave)

-- what a plan does over these files, with at most so many decisions, in so many partitions
abbrev pub meant : PlanOf → FileMap → ℕ → ℕ → Ending
meant plan files decisions partitions =
    let job : Job = record { plan = plan; files = files; decisions = decisions; partitions = partitions } in history_ending job (history_of job)
