-- In the plan of good blocks each operator takes what reaches it: what holds block by block holds by the numbers of operators.
use Rattle.std.proofs.Common.{◌≡◌, ◌∙◌, ◌<◌, ◌+◌, ℕ, zero, suc, List, [], ◌∷◌, length, map, get_or, ap, sym, subst, refl, arith, nat_lt, Contains, ◌⊎◌, get_or-append-add, length-append}
use Rattle.std.proofs.lemmas.List.{get_or_append_left}
use Rattle.mit_ops.specs.declared.leave.Leave.{Leave}
use Rattle.mit_cfg.specs.declared.block.Block.{Block as Code}
use Rattle.mit_cfg.specs.declared.block.Step.{Step}
use Rattle.mit_plan.specs.Paths.{next_of}
use Rattle.mit_plan.specs.Plans.{block_at, inputs_of, no_block, op_at}
use Rattle.mit_plan.specs.declared.plan.Edge.{Edge}
use Rattle.mit_plan.specs.declared.plan.PlanBlock.{PlanBlock}
use Rattle.mit_plan.specs.declared.plan.PlanOp.{PlanOp}
use Rattle.mit_ssa.specs.PlanFor.{blocks_from, edges_in, operators_of, plan_of_blocks}
use Rattle.mit_ssa.specs.Reaching.{AreListed, IsBlockOf, IsPhi, IsStep, Reaches, Reaching, no_step, reach}
use Rattle.mit_ssa.specs.declared.block.Block.{Block}
use Rattle.mit_ssa.specs.declared.block.Operator.{Operator}
use Rattle.mit_ssa.specs.declared.block.Source.{Source}
use Rattle.mit_ssa.proofs.DefinitionsNumbered.{blocks_length, no_operator}
use Rattle.mit_ssa.proofs.ReachingGood.{GoodBlock, GoodCode, GoodPhi, GoodStep, first_of, no_code, no_operators}
use Rattle.mit_ssa.proofs.StructureEdges.{inputs_there}
use Rattle.mit_ssa.proofs.StructureInputs.{op_is}

-- ---- where the operators of a block stand

-- a block of a plan has the operators of this one, and is left in the same way
record HasBlock (it : PlanBlock) (block : Block) : Type 0 where
  count : it.count ≡ length block.operators
  leave : it.leave ≡ block.leave

block_there : (blocks : List Block) (first block : ℕ) → block < length blocks → HasBlock (get_or (blocks_from first blocks) block no_block) (get_or blocks block no_operators)
unfolding blocks_from
block_there [] first block below = absurd (omega arith)
block_there (it ∷ more) first zero below = record { count = refl; leave = refl }
block_there (it ∷ more) first (suc block) below = block_there more (first + length it.operators) block (omega arith)

-- an operator of this number is among these, which are numbered from `first` on
record StandsAmong (first number : ℕ) (operators : List Operator) (operator : Operator) : Type 0 where
  place : ℕ
  number_is : number ≡ first + place
  below : place < length operators
  is : get_or operators place no_operator ≡ operator

stands_among : (blocks : List Block) (first block index : ℕ) → block < length blocks → index < length (get_or blocks block no_operators).operators
    → StandsAmong first ((get_or (blocks_from first blocks) block no_block).first + index) (operators_of blocks)
    (get_or (get_or blocks block no_operators).operators index no_operator)
unfolding blocks_from
stands_among [] first block index below short = absurd (omega arith)
stands_among (it ∷ more) first zero index below short =
    let many = length-append it.operators (operators_of more) in
    record {
      place = index;
      number_is = refl;
      below = omega (arith, many, short);
      is = get_or_append_left it.operators (operators_of more) no_operator index short;
    }
stands_among (it ∷ more) first (suc block) index below short =
    let many = length-append it.operators (operators_of more) in
    let later = stands_among more (first + length it.operators) block index (omega arith) short in
    record {
      place = length it.operators + later.place;
      number_is = (let e = later.number_is in omega (arith, e));
      below = (let e = later.below in omega (arith, many, e));
      is = get_or-append-add it.operators (operators_of more) later.place no_operator ∙ later.is;
    }

-- ---- the operators of a plan

-- the operator of this number is this one
record HasOperator (blocks : List Block) (number : ℕ) (operator : Operator) : Type 0 where
  statement : (op_at (plan_of_blocks blocks) number).statement ≡ operator.statement
  spec : (op_at (plan_of_blocks blocks) number).spec ≡ operator.spec
  phi : (op_at (plan_of_blocks blocks) number).phi ≡ operator.phi
  inputs : inputs_of (plan_of_blocks blocks) number ≡ edges_in number 0 operator.inputs

has_operator : (blocks : List Block) (number : ℕ) (operator : Operator) → StandsAmong 0 number (operators_of blocks) operator → HasOperator blocks number operator
has_operator blocks number operator stands =
    let e : stands.place ≡ number = (let f = stands.number_is in omega (arith, f)) in
    subst (λ (n : ℕ). HasOperator blocks n operator) e (subst (λ (one : Operator). HasOperator blocks stands.place one) stands.is here)
  where
    here : HasOperator blocks stands.place (get_or (operators_of blocks) stands.place no_operator)
    here = let same = op_is blocks stands.place stands.below in record {
      statement = ap (λ (one : PlanOp). one.statement) same;
      spec = ap (λ (one : PlanOp). one.spec) same;
      phi = ap (λ (one : PlanOp). one.phi) same;
      inputs = inputs_there blocks stands.place stands.below;
    }

operator_there : (blocks : List Block) (block index : ℕ) → block < length blocks → index < length (get_or blocks block no_operators).operators
    → HasOperator blocks (first_of blocks block + index) (get_or (get_or blocks block no_operators).operators index no_operator)
operator_there blocks block index below short =
    has_operator blocks (first_of blocks block + index) (get_or (get_or blocks block no_operators).operators index no_operator)
    (stands_among blocks 0 block index below short)

-- what the edges to an operator leave is what its sources name
froms : {A : Type 0} (f : ℕ → A) (number input : ℕ) (sources : List Source) → map (λ edge. f edge.from) (edges_in number input sources) ≡ map (λ source. f source.from) sources
unfolding edges_in
froms f number input [] = refl
froms f number input (source ∷ sources) = ap (λ rest. f source.from ∷ rest) (froms f number (suc input) sources)

sources_are : {A : Type 0} (f : ℕ → A) (blocks : List Block) (number : ℕ) (operator : Operator) → HasOperator blocks number operator
    → map (λ edge. f edge.from) (inputs_of (plan_of_blocks blocks) number) ≡ map (λ source. f source.from) operator.inputs
sources_are f blocks number operator has = ap (map (λ (edge : Edge). f edge.from)) has.inputs ∙ froms f number 0 operator.inputs

-- ---- phis and steps

phi_is : (known : Reaching) (blocks : List Block) (block index : ℕ) (operator : Operator) → HasOperator blocks (first_of blocks block + index) operator
    → GoodPhi known block (first_of blocks block) index operator → IsPhi (plan_of_blocks blocks) known block index
phi_is known blocks block index operator has good = record {
  variable = good.variable;
  phi = ap (λ (n : ℕ). nat_lt 0 n) (has.phi ∙ good.phi);
  spec = has.spec ∙ good.spec;
  defines = good.defines;
  takes = sources_are (λ from. from) blocks (first_of blocks block + index) operator has ∙ good.takes;
}

step_is : (known : Reaching) (blocks : List Block) (block index : ℕ) (operator : Operator) (step : Step) → HasOperator blocks (first_of blocks block + index) operator
    → GoodStep known block (first_of blocks block) index operator step → IsStep (plan_of_blocks blocks) known block index step
step_is known blocks block index operator step has good = record {
  plain = ap (λ (n : ℕ). nat_lt 0 n) (has.phi ∙ good.plain);
  spec = has.spec ∙ good.spec;
  statement = has.statement ∙ good.statement;
  defines = good.defines;
  takes = good.takes ∙ sym (sources_are (λ from. from ∷ []) blocks (first_of blocks block + index) operator has);
  assigns = good.assigns;
}

-- ---- a block

block_is : (known : Reaching) (blocks : List Block) (block : ℕ) (code : Code) → block < length blocks
    → GoodBlock known block (first_of blocks block) (get_or blocks block no_operators) code → IsBlockOf (plan_of_blocks blocks) known block code
block_is known blocks block code below good = record {
  leave = there.leave ∙ good.leave;
  decided = good.decided;
  phis = length good.phis;
  count = (let a = there.count in let b = good.many in omega (arith, a, b, sized));
  are_phis = λ index short. phi_is known blocks block index (get_or good.phis index no_operator) (phi_there index short) (good.are_phis index short);
  are_steps = λ index short. step_is known blocks block (length good.phis + index) (get_or good.steps index no_operator) (get_or code.steps index no_step)
      (step_there index short) (good.are_steps index short);
}
  where
    it : Block
    it = get_or blocks block no_operators

    there : HasBlock (get_or (blocks_from 0 blocks) block no_block) it
    there = block_there blocks 0 block below

    sized : length it.operators ≡ length good.phis + length good.steps
    sized = ap (λ (l : List Operator). length l) good.are ∙ length-append good.phis good.steps

    phi_there : (index : ℕ) → index < length good.phis → HasOperator blocks (first_of blocks block + index) (get_or good.phis index no_operator)
    phi_there index short =
        subst (λ (one : Operator). HasOperator blocks (first_of blocks block + index) one)
        (ap (λ (l : List Operator). get_or l index no_operator) good.are ∙ get_or_append_left good.phis good.steps no_operator index short)
        (operator_there blocks block index below (omega (arith, sized, short)))

    step_there : (index : ℕ) → index < length code.steps
        → HasOperator blocks (first_of blocks block + (length good.phis + index)) (get_or good.steps index no_operator)
    step_there index short =
        let many = good.many in
        subst (λ (one : Operator). HasOperator blocks (first_of blocks block + (length good.phis + index)) one)
        (ap (λ (l : List Operator). get_or l (length good.phis + index) no_operator) good.are ∙ get_or-append-add good.phis good.steps index no_operator)
        (operator_there blocks block (length good.phis + index) below (omega (arith, sized, many, short)))

-- ---- all blocks

-- what holds of blocks holds of their plan
pub reaches_of : (known : Reaching) (blocks : List Block) (code : List Code) → GoodCode known blocks code → Reaches (plan_of_blocks blocks) code known
reaches_of known blocks code good = record {
  many = blocks_length 0 blocks ∙ good.many;
  blocks = λ block below. block_is known blocks block (get_or code block no_code) (within block below) (good.each block below);
  start = good.start;
  defined = good.defined;
  leads = leads_on;
}
  where
    within : (block : ℕ) → block < length code → block < length blocks
    within block below = let many = good.many in omega (arith, many, below)

    leads_on : (block next variable : ℕ) → block < length code → Contains (next_of (block_at (plan_of_blocks blocks) block).leave) next
        → (known.entry next variable ≡ [])
        ⊎ AreListed (reach known block (first_of blocks block) (block_at (plan_of_blocks blocks) block).count variable) (known.entry next variable)
    leads_on block next variable below comes =
        let there = block_there blocks 0 block (within block below) in
        subst (λ (count : ℕ). (known.entry next variable ≡ []) ⊎ AreListed (reach known block (first_of blocks block) count variable) (known.entry next variable))
        (sym there.count)
        (good.leads block next variable below (subst (λ (leave : Leave). Contains (next_of leave) next) there.leave comes))
