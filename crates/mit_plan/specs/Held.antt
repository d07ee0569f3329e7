-- Held parts: what each operator makes in each partition at each place of the path, and the path that comes of it.
-- There are no messages here: each part is worked out from the parts before it.
use Rattle.std.specs.Prelude.{ℕ, zero, suc, ◌+◌, ◌-◌, List, [], ◌∷◌, ◌++◌, map, length, take, count_by, slice_index, slice_index_or}
use Rattle.std.specs.Prelude.{Bool, true, false, not, ◌||◌, ◌==◌, nat_lt, if◌then◌else◌, Option, Some, None, option_map, option_and_then, Ok, Err}
use Rattle.std.specs.List.{list_all, range_with_len}
use Rattle.mit_rows.specs.Bags.{BagOf, RowOf, bag_sum}
use Rattle.mit_files.specs.Files.{FileMap}
use Rattle.mit_ops.specs.Answers.{BagOrFault}
use Rattle.mit_ops.specs.Endings.{truth_in}
use Rattle.mit_ops.specs.Operators.{part_apply}
use Rattle.mit_ops.specs.Routes.{senders_of, share}
use Rattle.mit_ops.specs.declared.faults.OpFault.{OpFault}
use Rattle.mit_ops.specs.declared.kinds.OpSpec.{OpSpec}
use Rattle.mit_ops.specs.declared.leave.Leave.{Leave}
use Rattle.mit_ops.specs.declared.leave.Leave.TheVariants.{Jump, Branch, End}
use Rattle.mit_plan.specs.Bound.{most_places}
use Rattle.mit_plan.specs.Chosen.{Choice, chosen, input_numbers}
use Rattle.mit_plan.specs.Plans.{PlanOf, block_at, edge_at, op_at}
use Rattle.mit_plan.specs.Valid.{is_branch}
use Rattle.mit_plan.specs.declared.plan.Edge.{Edge}
use Rattle.mit_plan.specs.declared.plan.PlanBlock.{PlanBlock}

-- a plan that runs over these files, in so many partitions, and may take so many decisions
pub record Job : Type 0 where
  pub plan : PlanOf
  pub files : FileMap
  pub decisions : ℕ
  pub partitions : ℕ

-- what an operator makes at a place in one partition
pub data Part : Type 0 where
  ok : BagOf → Part
  failed : OpFault → Part
  -- nothing, since something went wrong before
  void : Part

-- the blocks that are entered; and for each place of this path the parts, by the operator's index in the block and by partition
pub record History : Type 0 where
  pub path : List ℕ
  pub parts : List (List (List Part))

-- the parts of one operator at a place, by partition
abbrev pub row_at : History → ℕ → ℕ → List Part
row_at history place index = slice_index_or (slice_index_or history.parts place []) index []

-- one of them
abbrev pub held : History → ℕ → ℕ → ℕ → Part
held history place index partition = slice_index_or (row_at history place index) partition void

-- the bag of a part that is ok
abbrev pub bag_in : Part → Option BagOf
bag_in (ok bag) = Some bag
bag_in (failed fault) = None
bag_in void = None

abbrev pub is_ok : Part → Bool
is_ok (ok bag) = true
is_ok (failed fault) = false
is_ok void = false

-- ---- what comes to an operator in a partition

-- all of these, where none is missing
unfoldable pub all_there : {A : Type 0} → List (Option A) → Option (List A)
all_there [] = Some []
all_there (one ∷ more) = option_and_then (λ first. option_map (λ later. first ∷ later) (all_there more)) one

-- the partitions from which a route leads to this one
abbrev pub senders : Job → Edge → ℕ → List ℕ
senders job edge partition = range_with_len (senders_of edge.route partition job.partitions).0 (senders_of edge.route partition job.partitions).1

-- the rows of a chosen bag that its part in the partition `from` gives to the partition `to`
abbrev pub sent : Job → History → Edge → ℕ → ℕ → ℕ → Option (List RowOf)
sent job history edge place to from =
    option_map (λ bag. share bag edge.route job.partitions from to) (bag_in (held history place (op_at job.plan edge.from).index from))

-- the sum of what all senders give
abbrev pub received : Job → History → ℕ → Edge → ℕ → Option BagOf
received job history partition edge place = option_map bag_sum (all_there (map (sent job history edge place partition) (senders job edge partition)))

-- the list of an input, where there is a bag to choose
abbrev pub list_of : Job → History → ℕ → Option Choice → Option BagOf
list_of job history partition chosen = option_and_then (λ choice. received job history partition (edge_at job.plan choice.edge) choice.place) chosen

-- the lists of all inputs of an operator at a place
abbrev pub lists_of : Job → History → ℕ → ℕ → ℕ → Option (List BagOf)
lists_of job history op place partition =
    all_there (map (λ input. list_of job history partition (chosen job.plan history.path op input place)) (input_numbers job.plan op))

-- ---- the part that it makes

abbrev pub as_part : BagOrFault → Part
as_part (Ok bag) = ok bag
as_part (Err fault) = failed fault

-- what is made of these lists, where none is missing
abbrev pub applied : Job → OpSpec → ℕ → Option (List BagOf) → Part
applied job spec partition None = void
applied job spec partition (Some lists) = as_part (part_apply spec partition job.partitions lists job.files)

-- the number of the operator with this index in the block of a place
abbrev pub op_of : PlanOf → List ℕ → ℕ → ℕ → ℕ
op_of plan path place index = (block_at plan (slice_index path place)).first + index

abbrev pub same_block : List ℕ → ℕ → ℕ → Bool
same_block path place other = slice_index path place == slice_index path other

-- whether the operator was ok in this partition at every earlier place of its block
abbrev pub stands : History → ℕ → ℕ → ℕ → Bool
stands history place index partition =
    list_all (λ earlier. not (same_block history.path earlier place) || is_ok (held history earlier index partition)) (range_with_len 0 place)

-- the part to which the history before it leads
abbrev pub part : Job → History → ℕ → ℕ → ℕ → Part
part job history place index partition =
    let op = op_of job.plan history.path place index in
    if stands history place index partition
    then applied job (op_at job.plan op).spec partition (lists_of job history op place partition)
    else void

-- ---- the history grows by a place

-- with these parts at a further place
abbrev pub with_place : History → ℕ → List (List Part) → History
with_place history block rows = record { path = history.path ++ block ∷ []; parts = history.parts ++ rows ∷ [] }

-- the parts of the first so many operators of a block that is entered; each operator takes from those before it
unfoldable pub rows : Job → History → ℕ → ℕ → List (List Part)
rows job history block zero = []
rows job history block (suc index) =
    let before = rows job history block index in
    before ++ map (part job (with_place history block before) (length history.path) index) (range_with_len 0 job.partitions) ∷ []

-- the history after this block is entered and its operators have run
abbrev pub enters : Job → History → ℕ → History
enters job history block = with_place history block (rows job history block (block_at job.plan block).count)

-- ---- how the path goes on

-- how many decisions are taken before a place: one at each earlier place whose block is left by a branch
abbrev pub decisions_before : PlanOf → List ℕ → ℕ → ℕ
decisions_before plan path place = count_by (λ block. is_branch (block_at plan block).leave) (take place path)

-- the block to which the part of a condition leads
abbrev pub decided_block : Part → ℕ → ℕ → Option ℕ
decided_block (ok bag) on_true on_false = Some (if truth_in bag then on_true else on_false)
decided_block (failed fault) on_true on_false = None
decided_block void on_true on_false = None

-- the block that is entered after a place, if any; at a branch, where a decision is left, the block's last operator decides in partition 0
abbrev pub follows : Job → History → ℕ → PlanBlock → Leave → Option ℕ
follows job history place block (Jump next) = Some next
follows job history place block (Branch on_true on_false) =
    if nat_lt (decisions_before job.plan history.path place) job.decisions
    then decided_block (held history place (block.count - 1) 0) on_true on_false
    else None
follows job history place block End = None

-- a history, and the block that is entered next, if any
pub record Run : Type 0 where
  pub history : History
  pub next : Option ℕ

abbrev pub grown_run : Job → History → Option ℕ → Run
grown_run job history None = record { history = history; next = None }
grown_run job history (Some block) =
    let after = enters job history block in
    record { history = after; next = follows job after (length history.path) (block_at job.plan block) (block_at job.plan block).leave }

-- the run after so many places; it begins with block 0, and stays where the path stops
unfoldable pub run : Job → ℕ → Run
run job zero = record { history = record { path = []; parts = [] }; next = Some 0 }
run job (suc places) = let before = run job places in grown_run job before.history before.next

-- the history of the whole run: the path of a valid plan stops within so many places
abbrev pub history_of : Job → History
history_of job = (run job (most_places job.plan job.decisions)).history
