-- Devices of the proofs: nobody has to believe them. The running job: what is on offer, when it has ended, and what its channels
-- hold at each moment.
use Rattle.std.specs.Prelude.{◌≡◌, ◌<◌, ⊤, ◌⊎◌, ℕ, ◌+◌, List, [], ◌∷◌, ◌++◌, length, map, slice_get, Bool, true, false, if◌then◌else◌, Option, Some, None, Ok, Err}
use Rattle.mit_rows.specs.Bags.{BagOf}
use Rattle.mit_files.specs.Files.{FileMap}
use Rattle.mit_shelf.specs.Shelf.{Agrees, Kept}
use Rattle.mit_ops.specs.declared.faults.FaultKind.{FaultKind}
use Rattle.mit_engine.specs.Operators.{JobState, actions_left, due_bag, is_pollable, sources}
use Rattle.mit_engine.specs.declared.edges.Edge.{Edge}
use Rattle.mit_engine.specs.declared.edges.Received.{Received}
use Rattle.mit_engine.specs.declared.edges.Received.TheVariants.{Awaited, Here, Fed}
use Rattle.mit_engine.specs.declared.operators.Operator.{Operator}
use Rattle.mit_engine.specs.declared.operators.Outcome.{Outcome}
use Rattle.mit_engine.specs.declared.operators.Outcome.TheVariants as outcome
use Rattle.mit_engine.specs.declared.job.Action.{Action}
use Rattle.mit_engine.specs.declared.job.Action.TheVariants as action
use Rattle.mit_engine.specs.declared.job.Verdict.{Verdict}
use Rattle.mit_engine.specs.declared.job.Verdict.TheVariants as verdict
use Rattle.mit_engine.specs.declared.thin.ThinStep.{ThinStep}
use Rattle.mit_engine.specs.declared.thin.ThinStep.TheVariants as step

-- ---- the offer

-- an action where its channel is not empty
abbrev pub where_any : {A : Type 0} → List A → Action → List Action
where_any [] action = []
where_any (message ∷ later) action = action ∷ []

unfoldable pub reports_from : ℕ → List Operator → List Action
reports_from at [] = []
reports_from at (operator ∷ operators) = where_any operator.reports (action.Hear at) ++ reports_from (at + 1) operators

unfoldable pub edge_parts_from : ℕ → ℕ → List Edge → List Action
edge_parts_from at input [] = []
edge_parts_from at input (edge ∷ edges) = where_any edge.parts (action.Take at input) ++ edge_parts_from at (input + 1) edges

unfoldable pub parts_from : ℕ → List Operator → List Action
parts_from at [] = []
parts_from at (operator ∷ operators) = edge_parts_from at 0 operator.inputs ++ parts_from (at + 1) operators

unfoldable pub polls_from : ℕ → List Operator → List Action
polls_from at [] = []
polls_from at (operator ∷ operators) = (if is_pollable operator then action.Poll at ∷ [] else []) ++ polls_from (at + 1) operators

-- the path's message, then the reports by operator, the parts by operator and edge, and the polls by operator
abbrev pub offer_of : JobState → List Action
offer_of job =
    where_any job.path action.Learn ++ reports_from 0 job.operators ++ parts_from 0 job.operators ++ (if job.learned then polls_from 0 job.operators else [])

-- an operator at a place, which can do something
pub record OperatorCan (job : JobState) (at : ℕ) (Can : Operator → Type 0) : Type 0 where
  pub operator : Operator
  pub there : slice_get job.operators at ≡ Some operator
  pub can : Can operator

-- an edge with a message in its channel
pub record HasPart (input : ℕ) (operator : Operator) : Type 0 where
  pub edge : Edge
  pub there : slice_get operator.inputs input ≡ Some edge
  pub some : 0 < length edge.parts

-- an action can be done now
abbrev pub IsEnabled : JobState → Action → Type 0
IsEnabled job action.Learn = 0 < length job.path
IsEnabled job (action.Hear at) = OperatorCan job at (λ operator. 0 < length operator.reports)
IsEnabled job (action.Take at input) = OperatorCan job at (HasPart input)
IsEnabled job (action.Poll at) = (job.learned ≡ true) × OperatorCan job at (λ operator. is_pollable operator ≡ true)

-- ---- the end

-- the first operator in the order of the text that is not heard Done decides
abbrev pub verdict_at : ℕ → Option Outcome → Verdict → Verdict
verdict_at at None later = verdict.Running
verdict_at at (Some outcome.Done) later = later
verdict_at at (Some (outcome.Fault kind)) later = verdict.Fault at kind

unfoldable pub verdict_from : ℕ → List Operator → Verdict
verdict_from at [] = verdict.Complete
verdict_from at (operator ∷ operators) = verdict_at at operator.heard (verdict_from (at + 1) operators)

abbrev pub verdict_of : JobState → Verdict
verdict_of job = verdict_from 0 job.operators

-- ---- what the channels hold

-- what an operator has made: nothing before its poll, then a bag or a fault
pub data MadePart : Type 0 where
  Unmade : MadePart
  Made : BagOf → MadePart
  AtFault : FaultKind → MadePart

-- a report is in its channel, or it was heard
abbrev pub ReportsOutcome : Outcome → List Outcome → Option Outcome → Type 0
ReportsOutcome outcome reports heard = ((reports ≡ outcome ∷ []) × (heard ≡ None)) ⊎ ((reports ≡ []) × (heard ≡ Some outcome))

abbrev pub ReportsPart : MadePart → Bool → List Outcome → Option Outcome → Type 0
ReportsPart Unmade polled reports heard = (polled ≡ false) × (reports ≡ []) × (heard ≡ None)
ReportsPart (Made bag) polled reports heard = (polled ≡ true) × ReportsOutcome outcome.Done reports heard
ReportsPart (AtFault kind) polled reports heard = (polled ≡ true) × ReportsOutcome (outcome.Fault kind) reports heard

-- an edge holds nothing before its source has made a bag; then the bag is in its channel, or received, or fed to its target's poll
abbrev pub EdgeHolds : MadePart → Bool → List BagOf → Received → Type 0
EdgeHolds Unmade polled parts received = (polled ≡ false) × (parts ≡ []) × (received ≡ Awaited)
EdgeHolds (AtFault kind) polled parts received = (polled ≡ false) × (parts ≡ []) × (received ≡ Awaited)
EdgeHolds (Made bag) polled parts received =
    ((polled ≡ false) × (parts ≡ bag ∷ []) × (received ≡ Awaited))
    ⊎ ((polled ≡ false) × (parts ≡ []) × (received ≡ Here bag))
    ⊎ ((polled ≡ true) × (parts ≡ []) × (received ≡ Fed))

-- a write that has made its bag has staged it
abbrev pub StagesPart : ThinStep → MadePart → Option BagOf → Type 0
StagesPart (step.Write source name) (Made bag) staged = staged ≡ Some bag
StagesPart (step.Write source name) Unmade staged = ⊤
StagesPart (step.Write source name) (AtFault kind) staged = ⊤
StagesPart (step.Read target name count) part staged = ⊤
StagesPart (step.Union target left right) part staged = ⊤

-- an operator, its sources and the parts of all operators
pub record OperatorHolds (statement : ThinStep) (from : List ℕ) (parts : ℕ → MadePart) (at : ℕ) (operator : Operator) : Type 0 where
  pub wired : map (λ edge. edge.from) operator.inputs ≡ from
  pub reports : ReportsPart (parts at) operator.polled operator.reports operator.heard
  pub edges : (input : ℕ) (edge : Edge) → slice_get operator.inputs input ≡ Some edge → EdgeHolds (parts edge.from) operator.polled edge.parts edge.received
  pub staged : StagesPart statement (parts at) operator.staged

-- the path's one message is in its channel, or it was learned, and nothing is made before
abbrev pub PathHolds : (ℕ → MadePart) → List ℕ → Bool → Type 0
PathHolds parts path learned =
    ((learned ≡ false) × (path ≡ 0 ∷ []) × ((at : ℕ) → parts at ≡ Unmade)) ⊎ ((learned ≡ true) × (path ≡ []))

-- the channels hold what the parts say
pub record JobHolds (steps : List ThinStep) (parts : ℕ → MadePart) (job : JobState) : Type 0 where
  pub sized : length job.operators ≡ length steps
  pub begun : PathHolds parts job.path job.learned
  pub each : (at : ℕ) (operator : Operator) (statement : ThinStep) (from : List ℕ)
      → slice_get job.operators at ≡ Some operator → slice_get steps at ≡ Some statement → slice_get (sources steps) at ≡ Some from
      → OperatorHolds statement from parts at operator

-- the bags that these operators have made, where all have
abbrev pub with_made_bag : MadePart → Option (List BagOf) → Option (List BagOf)
with_made_bag (Made bag) (Some bags) = Some (bag ∷ bags)
with_made_bag (Made bag) None = None
with_made_bag Unmade bags = None
with_made_bag (AtFault kind) bags = None

abbrev pub bags_made : (ℕ → MadePart) → List ℕ → Option (List BagOf)
bags_made parts [] = Some []
bags_made parts (from ∷ later) = with_made_bag (parts from) (bags_made parts later)

-- what an operator has made is what its statement makes of its sources' bags
abbrev pub MadeOf : FileMap → ThinStep → Option (List BagOf) → MadePart → Type 0
MadeOf files statement bags Unmade = ⊤
MadeOf files statement None (Made bag) = ⊥
MadeOf files statement (Some bags) (Made bag) = due_bag files statement bags ≡ Ok bag
MadeOf files statement None (AtFault kind) = ⊥
MadeOf files statement (Some bags) (AtFault kind) = due_bag files statement bags ≡ Err kind

abbrev pub Means : FileMap → List ThinStep → (ℕ → MadePart) → Type 0
Means files steps parts = (at : ℕ) (statement : ThinStep) (from : List ℕ)
    → slice_get steps at ≡ Some statement → slice_get (sources steps) at ≡ Some from → MadeOf files statement (bags_made parts from) (parts at)

-- the job stands for some parts, which mean the same over all files that agree with the shelf
pub record JobStands (steps : List ThinStep) (shelf : Kept) (job : JobState) : Type 0 where
  pub parts : ℕ → MadePart
  pub holds : JobHolds steps parts job
  pub means : (files : FileMap) → Agrees shelf files → Means files steps parts

-- an action keeps this, and one action fewer is left
pub record Goes (steps : List ThinStep) (shelf : Kept) (before job : JobState) : Type 0 where
  pub stands : JobStands steps shelf job
  pub counted : actions_left job + 1 ≡ actions_left before
