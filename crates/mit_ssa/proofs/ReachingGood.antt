-- Devices of the proofs: nobody has to believe them. Blocks of operators beside the blocks of steps that they come from.
use Rattle.std.proofs.Common.{◌≡◌, ◌<◌, ◌+◌, ℕ, List, [], ◌∷◌, ◌++◌, length, map, get_or, false, Some, IsTrue, All, ◌⊎◌}
use Rattle.std.specs.Prelude.{Contains}
use Rattle.mit_ops.specs.declared.kinds.OpSpec.TheVariants.{Copy}
use Rattle.mit_ops.specs.declared.leave.Leave.TheVariants.{End}
use Rattle.mit_cfg.specs.declared.block.Block.{Block as Code}
use Rattle.mit_cfg.specs.declared.block.Step.{Step}
use Rattle.mit_plan.specs.Paths.{next_of}
use Rattle.mit_plan.specs.Plans.{no_block}
use Rattle.mit_plan.specs.Valid.{is_branch}
use Rattle.mit_script.specs.Trees.{is_write}
use Rattle.mit_ssa.specs.PlanFor.{blocks_from}
use Rattle.mit_ssa.specs.Reaching.{AreListed, IsDecided, Reaching, no_step, reach}
use Rattle.mit_ssa.specs.declared.block.Block.{Block}
use Rattle.mit_ssa.specs.declared.block.Operator.{Operator}
use Rattle.mit_ssa.proofs.DefinitionsNumbered.{no_operator}

-- the operator of this index is the phi of a variable
pub record GoodPhi (known : Reaching) (block first index : ℕ) (operator : Operator) : Type 0 where
  pub variable : ℕ
  pub phi : operator.phi ≡ 2
  pub spec : operator.spec ≡ Copy
  pub defines : known.defines (first + index) ≡ Some variable
  pub takes : map (λ source. source.from) operator.inputs ≡ reach known block first index variable

-- it stands for a step
pub record GoodStep (known : Reaching) (block first index : ℕ) (operator : Operator) (step : Step) : Type 0 where
  pub plain : operator.phi ≡ 0
  pub spec : operator.spec ≡ step.op
  pub statement : operator.statement ≡ step.statement
  pub defines : known.defines (first + index) ≡ step.target
  pub takes : map (reach known block first index) step.args ≡ map (λ source. source.from ∷ []) operator.inputs
  pub assigns : (target : ℕ) → step.target ≡ Some target → is_write step.op ≡ false

-- phis and then an operator for each step
pub record GoodBlock (known : Reaching) (block first : ℕ) (it : Block) (code : Code) : Type 0 where
  pub leave : it.leave ≡ code.leave
  pub decided : IsTrue (is_branch code.leave) → IsDecided code.steps
  pub phis : List Operator
  pub steps : List Operator
  pub are : it.operators ≡ phis ++ steps
  pub many : length steps ≡ length code.steps
  pub are_phis : (index : ℕ) → index < length phis → GoodPhi known block first index (get_or phis index no_operator)
  pub are_steps : (index : ℕ) → index < length code.steps
      → GoodStep known block first (length phis + index) (get_or steps index no_operator) (get_or code.steps index no_step)

abbrev pub no_operators : Block
no_operators = record { operators = []; leave = End }

abbrev pub no_code : Code
no_code = record { steps = []; leave = End }

-- the number of the first operator of a block
abbrev pub first_of : List Block → ℕ → ℕ
first_of blocks block = (get_or (blocks_from 0 blocks) block no_block).first

pub record GoodCode (known : Reaching) (blocks : List Block) (code : List Code) : Type 0 where
  pub many : length blocks ≡ length code
  pub each : (block : ℕ) → block < length code
      → GoodBlock known block (first_of blocks block) (get_or blocks block no_operators) (get_or code block no_code)
  pub start : (variable : ℕ) → known.entry 0 variable ≡ []
  pub defined : (block variable : ℕ) → All (λ operator. known.defines operator ≡ Some variable) (known.entry block variable)
  pub leads : (block next variable : ℕ) → block < length code → Contains (next_of (get_or blocks block no_operators).leave) next
      → (known.entry next variable ≡ [])
      ⊎ AreListed (reach known block (first_of blocks block) (length (get_or blocks block no_operators).operators) variable) (known.entry next variable)
