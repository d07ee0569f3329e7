-- Devices of the proofs: nobody has to believe them. Which operators may have defined a variable last where an operator takes it.
use Rattle.std.specs.Prelude.{◌≡◌, ◌<◌, ◌⊎◌, ℕ, zero, suc, ◌+◌, List, [], ◌∷◌, ◌++◌, length, map, All, Contains, Bool, true, false, ◌==◌, if◌then◌else◌, Option, Some, None, IsTrue, slice_index_or}
use Rattle.mit_ops.specs.declared.kinds.OpSpec.TheVariants.{Copy}
use Rattle.mit_cfg.specs.Walk.{numbered_block}
use Rattle.mit_cfg.specs.declared.block.Block.{Block as Code}
use Rattle.mit_cfg.specs.declared.block.Step.{Step}
use Rattle.mit_plan.specs.Paths.{next_of}
use Rattle.mit_plan.specs.Plans.{PlanOf, block_at, inputs_of, is_phi, op_at}
use Rattle.mit_plan.specs.Valid.{is_branch}
use Rattle.mit_script.specs.Trees.{is_scalar, is_write}

-- the variable that each operator defines; and for each block and variable the operators of which one defined it last wherever the block is
-- entered, where it is surely defined
pub record Reaching : Type 0 where
  pub defines : ℕ → Option ℕ
  pub entry : ℕ → ℕ → List ℕ

-- whether what an operator defines is this variable
abbrev pub is_for : Option ℕ → ℕ → Bool
is_for None variable = false
is_for (Some target) variable = target == variable

-- the operators of which one defined a variable last before this index of a block, whose first operator has this number
unfoldable pub reach : Reaching → ℕ → ℕ → ℕ → ℕ → List ℕ
reach known block first zero variable = known.entry block variable
reach known block first (suc index) variable =
    if is_for (known.defines (first + index)) variable then (first + index) ∷ [] else reach known block first index variable

-- the same in a plan
abbrev pub reaching : PlanOf → Reaching → ℕ → ℕ → ℕ → List ℕ
reaching plan known block index variable = reach known block (block_at plan block).first index variable

-- the operator of this index of a block is the phi of a variable: it takes what may have defined it last
pub record IsPhi (plan : PlanOf) (known : Reaching) (block index : ℕ) : Type 0 where
  pub variable : ℕ
  pub phi : is_phi (op_at plan ((block_at plan block).first + index)) ≡ true
  pub spec : (op_at plan ((block_at plan block).first + index)).spec ≡ Copy
  pub defines : known.defines ((block_at plan block).first + index) ≡ Some variable
  pub takes : map (λ edge. edge.from) (inputs_of plan ((block_at plan block).first + index)) ≡ reaching plan known block index variable

-- it is a step's: for each argument it takes the one operator that may have defined it last
pub record IsStep (plan : PlanOf) (known : Reaching) (block index : ℕ) (step : Step) : Type 0 where
  pub plain : is_phi (op_at plan ((block_at plan block).first + index)) ≡ false
  pub spec : (op_at plan ((block_at plan block).first + index)).spec ≡ step.op
  pub statement : (op_at plan ((block_at plan block).first + index)).statement ≡ step.statement
  pub defines : known.defines ((block_at plan block).first + index) ≡ step.target
  pub takes : map (reaching plan known block index) step.args ≡ map (λ edge. edge.from ∷ []) (inputs_of plan ((block_at plan block).first + index))
  -- what is assigned is not written
  pub assigns : (target : ℕ) → step.target ≡ Some target → is_write step.op ≡ false

-- a branch is decided by the last step, which gives a scalar to no variable
pub record IsDecided (steps : List Step) : Type 0 where
  pub before : List Step
  pub last : Step
  pub are : steps ≡ before ++ last ∷ []
  pub target : last.target ≡ None
  pub scalar : is_scalar last.op ≡ true

abbrev pub no_step : Step
no_step = record { statement = 0; target = None; op = Copy; args = [] }

-- a block has phis and then an operator for each step, and is left in the same way
pub record IsBlockOf (plan : PlanOf) (known : Reaching) (block : ℕ) (code : Code) : Type 0 where
  pub leave : (block_at plan block).leave ≡ code.leave
  pub decided : IsTrue (is_branch code.leave) → IsDecided code.steps
  pub phis : ℕ
  pub count : (block_at plan block).count ≡ phis + length code.steps
  pub are_phis : (index : ℕ) → index < phis → IsPhi plan known block index
  pub are_steps : (index : ℕ) → index < length code.steps → IsStep plan known block (phis + index) (slice_index_or code.steps index no_step)

-- each of these, and there are some, is one of the others
pub record AreListed (ones others : List ℕ) : Type 0 where
  pub some : 0 < length ones
  pub all : All (Contains others) ones

-- the blocks of a plan are those of a script with phis in front, and each operator takes what defined its arguments last: what may have
-- defined a variable last at the end of a block is listed for each block that may come next, unless nothing is listed there
pub record Reaches (plan : PlanOf) (code : List Code) (known : Reaching) : Type 0 where
  pub many : length plan.blocks ≡ length code
  pub blocks : (block : ℕ) → block < length code → IsBlockOf plan known block (numbered_block code block)
  pub start : (variable : ℕ) → known.entry 0 variable ≡ []
  pub defined : (block variable : ℕ) → All (λ operator. known.defines operator ≡ Some variable) (known.entry block variable)
  pub leads : (block next variable : ℕ) → block < length code → Contains (next_of (block_at plan block).leave) next
      → (known.entry next variable ≡ []) ⊎ AreListed (reaching plan known block (block_at plan block).count variable) (known.entry next variable)
