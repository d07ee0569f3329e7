-- Devices of the proofs: nobody has to believe them. What the history of a plan holds where the walk of its script has come to.
use Rattle.std.specs.Prelude.{◌≡◌, ◌<◌, ◌⊎◌, ℕ, suc, List, [], ◌∷◌, ◌++◌, length, map, Contains, false, Option, Some, None, IsSome, slice_index}
use Rattle.mit_rows.specs.Bags.{BagOf}
use Rattle.mit_cfg.specs.declared.block.Block.{Block as Code}
use Rattle.mit_cfg.specs.declared.block.Step.{Step}
use Rattle.mit_plan.specs.Held.{History, Job, op_of}
use Rattle.mit_plan.specs.Paths.{next_of}
use Rattle.mit_plan.specs.Plans.{PlanOf, block_at}
use Rattle.mit_plan.specs.Sums.{TakesBags, bag_at}
use Rattle.mit_plan.specs.Valid.{EdgesGoUp, HasTypes, InputsHaveEdges, LeavesNameBlocks, OperandsApart, RangesFollow, RoutesFit}
use Rattle.mit_script.specs.Execution.{Store, put}
use Rattle.mit_ssa.specs.Reaching.{IsPhi, IsStep, Reaches, Reaching, is_for, reaching}

-- a plan that runs, whose blocks are those of a script, with what its validity gives
pub record Stands (job : Job) (code : List Code) (known : Reaching) : Type 0 where
  pub some : 0 < job.partitions
  pub reaches : Reaches job.plan code known
  pub ranges : RangesFollow job.plan
  pub leaves : LeavesNameBlocks job.plan
  pub inputs : InputsHaveEdges job.plan
  pub operands : OperandsApart job.plan
  pub upward : EdgesGoUp job.plan
  pub types : HasTypes job.plan
  pub routes : RoutesFit job.plan

-- a place of a path and the index of an operator in the block there
abbrev pub IsPair : PlanOf → List ℕ → ℕ → ℕ → Type 0
IsPair plan path place index = (place < length path) × (index < (block_at plan (slice_index path place)).count)

-- a pair stands before another one
abbrev pub IsBefore : ℕ → ℕ → ℕ → ℕ → Type 0
IsBefore place index other at = (place < other) ⊎ ((place ≡ other) × (index < at))

-- the last definition of a variable before a pair
pub record Last (plan : PlanOf) (known : Reaching) (path : List ℕ) (place index variable : ℕ) : Type 0 where
  pub at : ℕ
  pub under : ℕ
  pub pair : IsPair plan path at under
  pub before : IsBefore at under place index
  pub defines : known.defines (op_of plan path at under) ≡ Some variable
  pub none : (other within : ℕ) → IsPair plan path other within → IsBefore at under other within → IsBefore other within place index
      → is_for (known.defines (op_of plan path other within)) variable ≡ false

-- the bag of a variable in the store is that of its last definition, which is one of those that may reach here
pub record Holds (job : Job) (known : Reaching) (history : History) (place index : ℕ) (store : Store) (variable : ℕ) : Type 0 where
  pub last : Last job.plan known history.path place index variable
  pub listed : Contains (reaching job.plan known (slice_index history.path place) index variable) (op_of job.plan history.path last.at last.under)
  pub bag : bag_at job history last.at last.under ≡ Some (store variable)

-- before a pair each operator made its bag, and each variable that is surely defined has its own
pub record Good (job : Job) (known : Reaching) (history : History) (place index : ℕ) (store : Store) : Type 0 where
  pub stood : (other at : ℕ) → IsPair job.plan history.path other at → IsBefore other at place index → IsSome (bag_at job history other at)
  pub holds : (variable : ℕ) → 0 < length (reaching job.plan known (slice_index history.path place) index variable)
      → Holds job known history place index store variable

-- the store after an operator that defines a variable, or none
abbrev pub stored : Option ℕ → BagOf → Store → Store
stored None bag store = store
stored (Some variable) bag store = put store variable bag

-- ---- what is proved of one operator, for blocks and runs to stand on

pub record OneOperator (job : Job) (code : List Code) (known : Reaching) : Type 0 where
  -- at the first place
  pub first : (history : History) (store : Store) → slice_index history.path 0 ≡ 0 → Good job known history 0 0 store
  -- a step's operator takes the bags of its arguments
  pub step : (history : History) (place index : ℕ) (store : Store) (step : Step) → IsPair job.plan history.path place index
      → IsStep job.plan known (slice_index history.path place) index step → Good job known history place index store
      → (columns : ℕ → ℕ) × TakesBags job history place index columns (map store step.args)
  -- a phi takes the bag of its variable
  pub phi : (history : History) (place index : ℕ) (store : Store) → IsPair job.plan history.path place index
      → (phi : IsPhi job.plan known (slice_index history.path place) index) → Good job known history place index store
      → (columns : ℕ → ℕ) × TakesBags job history place index columns (store phi.variable ∷ [])
  -- where an operator made its bag
  pub more : (history : History) (place index : ℕ) (store : Store) (bag : BagOf) → IsPair job.plan history.path place index
      → bag_at job history place index ≡ Some bag → Good job known history place index store
      → Good job known history place (suc index) (stored (known.defines (op_of job.plan history.path place index)) bag store)
  -- the same of a phi, which leaves the store as it is
  pub kept : (history : History) (place index : ℕ) (store : Store) → IsPair job.plan history.path place index
      → (phi : IsPhi job.plan known (slice_index history.path place) index) → bag_at job history place index ≡ Some (store phi.variable)
      → Good job known history place index store → Good job known history place (suc index) store
  -- at the end of a block another one is entered
  pub enter : (history longer : History) (place next : ℕ) (store : Store) → length history.path ≡ suc place
      → longer.path ≡ history.path ++ next ∷ []
      → Contains (next_of (block_at job.plan (slice_index history.path place)).leave) next
      → ((other at : ℕ) → other < length history.path → bag_at job longer other at ≡ bag_at job history other at)
      → Good job known history place (block_at job.plan (slice_index history.path place)).count store
      → Good job known longer (suc place) 0 store
