-- Devices of the proofs: nobody has to believe them. The operators of a job, one for each statement, with the edges that lead to
-- them and the channels on these.
use Rattle.std.specs.Prelude.{◌≡◌, ◌<◌, ◌≤◌, ⊤, ℕ, ◌+◌, List, [], ◌∷◌, ◌++◌, length, map, slice_set, slice_index_or, sum_by, Bool, true, false, not, ◌==◌, ◌&&◌, if◌then◌else◌, Option, Some, None, Result, Ok, Err}
use Rattle.std.specs.List.{list_all}
use Rattle.mit_rows.specs.Bags.{BagOf, bag_sum}
use Rattle.mit_rows.specs.declared.row.TheConstants.{MAX_COLUMNS}
use Rattle.mit_files.specs.Files.{FileMap}
use Rattle.mit_files.specs.Names.{IsLegal}
use Rattle.mit_files.specs.Printed.{Write}
use Rattle.mit_shelf.specs.declared.stop.Stop.{Stop}
use Rattle.mit_shelf.specs.declared.stop.Stop.TheVariants as stop
use Rattle.mit_ops.specs.declared.faults.FaultKind.{FaultKind}
use Rattle.mit_engine.specs.Reads.{integers, read_bag}
use Rattle.mit_engine.specs.Thin.{item_put}
use Rattle.mit_engine.specs.declared.edges.Edge.{Edge}
use Rattle.mit_engine.specs.declared.edges.Received.{Received}
use Rattle.mit_engine.specs.declared.edges.Received.TheVariants.{Awaited, Here, Fed}
use Rattle.mit_engine.specs.declared.operators.Operator.{Operator}
use Rattle.mit_engine.specs.declared.operators.Outcome.{Outcome}
use Rattle.mit_engine.specs.declared.operators.Outcome.TheVariants as outcome
use Rattle.mit_engine.specs.declared.thin.ThinStep.{ThinStep}
use Rattle.mit_engine.specs.declared.thin.ThinStep.TheVariants as step

-- ---- which operators lead to which

-- the operator that assigned each variable last, after the statement at this place
abbrev pub assigned_after : List ℕ → ℕ → ThinStep → List ℕ
assigned_after assigned at (step.Read target name count) = item_put assigned target at
assigned_after assigned at (step.Union target left right) = item_put assigned target at
assigned_after assigned at (step.Write source name) = assigned

abbrev pub assigner : List ℕ → ℕ → ℕ
assigner assigned variable = slice_index_or assigned variable 0

-- the sources of a statement's arguments, one for each edge
abbrev pub sources_of : List ℕ → ThinStep → List ℕ
sources_of assigned (step.Read target name count) = []
sources_of assigned (step.Union target left right) = assigner assigned left ∷ assigner assigned right ∷ []
sources_of assigned (step.Write source name) = assigner assigned source ∷ []

-- each variable that a statement names is assigned, but for the next new one as its target
abbrev pub FitsVariables : ℕ → ThinStep → Type 0
FitsVariables variables (step.Read target name count) = target ≤ variables
FitsVariables variables (step.Union target left right) = (target ≤ variables) × (left < variables) × (right < variables)
FitsVariables variables (step.Write source name) = source < variables

unfoldable pub sources_from : List ℕ → ℕ → List ThinStep → List (List ℕ)
sources_from assigned at [] = []
sources_from assigned at (step ∷ steps) = sources_of assigned step ∷ sources_from (assigned_after assigned at step) (at + 1) steps

abbrev pub sources : List ThinStep → List (List ℕ)
sources steps = sources_from [] 0 steps

-- ---- edges and operators

-- the first message of a channel is received
abbrev pub received_of : Edge → List BagOf → Edge
received_of edge [] = edge
received_of edge (bag ∷ later) = record edge { parts = later; received = Here bag }

abbrev pub takes_part : Edge → Edge
takes_part edge = received_of edge edge.parts

abbrev pub is_received : Received → Bool
is_received Awaited = false
is_received (Here bag) = true
is_received Fed = false

abbrev pub is_here : Edge → Bool
is_here edge = is_received edge.received

-- what a poll feeds: the received bags, in the order of the edges
abbrev pub bag_received : Received → List BagOf
bag_received Awaited = []
bag_received (Here bag) = bag ∷ []
bag_received Fed = []

unfoldable pub bags_here : List Edge → List BagOf
bags_here [] = []
bags_here (edge ∷ edges) = bag_received edge.received ++ bags_here edges

abbrev pub fed_of : Received → Received
fed_of Awaited = Awaited
fed_of (Here bag) = Fed
fed_of Fed = Fed

abbrev pub feeds_bag : Edge → Edge
feeds_bag edge = record edge { received = fed_of edge.received }

-- a bag goes into the channel of each edge that leads away from this operator
abbrev pub sends : ℕ → BagOf → Edge → Edge
sends source bag edge = if edge.from == source then record edge { parts = edge.parts ++ bag ∷ [] } else edge

abbrev pub sends_all : ℕ → BagOf → Operator → Operator
sends_all source bag operator = record operator { inputs = map (sends source bag) operator.inputs }

-- the first report of a channel is heard
abbrev pub heard_of : Operator → List Outcome → Operator
heard_of operator [] = operator
heard_of operator (outcome ∷ later) = record operator { reports = later; heard = Some outcome }

abbrev pub hears : Operator → Operator
hears operator = heard_of operator operator.reports

-- an operator can be polled once, when each of its inputs is received
abbrev pub is_pollable : Operator → Bool
is_pollable operator = not operator.polled && list_all is_here operator.inputs

-- what a poll leaves of the operator itself: its inputs are fed, and it reports
abbrev pub polls : Outcome → Operator → Operator
polls outcome operator = record operator { inputs = map feeds_bag operator.inputs; polled = true; reports = operator.reports ++ outcome ∷ [] }

abbrev pub first_edge : ℕ → Edge
first_edge source = record { from = source; parts = []; received = Awaited }

abbrev pub first_operator : List ℕ → Operator
first_operator sources = record { inputs = map first_edge sources; polled = false; reports = []; heard = None; staged = None }

-- a job at one moment: the path's channel, whether its block is learned, and the operators
pub record JobState : Type 0 where
  pub path : List ℕ
  pub learned : Bool
  pub operators : List Operator

-- before its first action
abbrev pub first_job : List ThinStep → JobState
first_job steps = record { path = 0 ∷ []; learned = false; operators = map first_operator (sources steps) }

-- the same job with other operators
abbrev pub with_operators : JobState → List Operator → JobState
with_operators job operators = record job { operators = operators }

-- ---- the actions that are left

abbrev pub left_of : Received → ℕ
left_of Awaited = 1
left_of (Here bag) = 0
left_of Fed = 0

abbrev pub edge_left : Edge → ℕ
edge_left edge = left_of edge.received

abbrev pub unheard : Option Outcome → ℕ
unheard None = 1
unheard (Some outcome) = 0

-- its poll, its report, and a part for each edge
abbrev pub operator_left : Operator → ℕ
operator_left operator = (if operator.polled then 0 else 1) + unheard operator.heard + sum_by edge_left operator.inputs

-- the path's message, and those of the operators
abbrev pub actions_left : JobState → ℕ
actions_left job = length job.path + sum_by operator_left job.operators

-- ---- what a statement makes of its inputs

-- a read gives its file, a union the sum of its inputs, and a write the bag that it writes
abbrev pub due_bag : FileMap → ThinStep → List BagOf → Result BagOf FaultKind
due_bag files (step.Read target name count) bags = read_bag files name (integers count)
due_bag files (step.Union target left right) bags = Ok (bag_sum bags)
due_bag files (step.Write source name) bags = Ok (slice_index_or bags 0 [])

-- a bag or a fault of a poll is the due one; a failed folder and out of memory say nothing of it
abbrev pub PollGivesBag : Result BagOf FaultKind → Result BagOf (Stop FaultKind) → Type 0
PollGivesBag due (Ok bag) = due ≡ Ok bag
PollGivesBag due (Err (stop.Fault kind)) = due ≡ Err kind
PollGivesBag due (Err stop.Folder) = ⊤
PollGivesBag due (Err stop.NoMemory) = ⊤

-- what a poll needs: a legal name and few columns for a read, and for a write its bag
abbrev pub IsPollReady : ThinStep → List BagOf → Type 0
IsPollReady (step.Read target name count) bags = IsLegal name × (count ≤ MAX_COLUMNS)
IsPollReady (step.Union target left right) bags = ⊤
IsPollReady (step.Write source name) bags = 0 < length bags

-- where the bag of this operator goes: a write stages it, and any other sends it along its edges
unfoldable pub passed_on : ThinStep → ℕ → Operator → BagOf → List Operator → List Operator
passed_on (step.Read target name count) at operator bag operators = map (sends_all at bag) operators
passed_on (step.Union target left right) at operator bag operators = map (sends_all at bag) operators
passed_on (step.Write source name) at operator bag operators = slice_set operators at (record operator { staged = Some bag })

-- what a poll leaves of all operators: its own has reported, and passed its bag on
unfoldable pub after_poll : ThinStep → ℕ → Operator → Result BagOf FaultKind → List Operator → List Operator
after_poll statement at operator (Ok bag) operators =
    passed_on statement at (polls outcome.Done operator) bag (slice_set operators at (polls outcome.Done operator))
after_poll statement at operator (Err kind) operators = slice_set operators at (polls (outcome.Fault kind) operator)

-- the writes that operators have staged, in the order of the statements
abbrev pub staged_write : List ℕ → Option BagOf → List Write → List Write
staged_write name None later = later
staged_write name (Some bag) later = record { name = name; bag = bag } ∷ later

unfoldable pub staged_writes : List ThinStep → List Operator → List Write
staged_writes [] operators = []
staged_writes (step ∷ steps) [] = []
staged_writes (step.Read target name count ∷ steps) (operator ∷ operators) = staged_writes steps operators
staged_writes (step.Union target left right ∷ steps) (operator ∷ operators) = staged_writes steps operators
staged_writes (step.Write source name ∷ steps) (operator ∷ operators) = staged_write name operator.staged (staged_writes steps operators)
