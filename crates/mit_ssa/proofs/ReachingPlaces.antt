-- Each block of operators beside its steps, by its number.
use Rattle.std.proofs.Common.{◌≡◌, ◌<◌, ◌+◌, ℕ, zero, suc, List, [], ◌∷◌, length, get_or, ap, subst, refl, arith, length-append}
use Rattle.mit_plan.specs.Plans.{no_block}
use Rattle.mit_cfg.specs.declared.block.Block.{Block as Code}
use Rattle.mit_cfg.specs.declared.block.Step.{Step}
use Rattle.mit_ssa.specs.PlanFor.{blocks_from}
use Rattle.mit_ssa.specs.Reaching.{Reaching, no_step}
use Rattle.mit_ssa.specs.declared.block.Block.{Block}
use Rattle.mit_ssa.specs.declared.block.Operator.{Operator}
use Rattle.mit_ssa.proofs.DefinitionsNumbered.{no_operator}
use Rattle.mit_ssa.proofs.ReachingGood.{GoodBlock, GoodPhi, GoodStep, no_code, no_operators}
use Rattle.mit_ssa.proofs.ReachingParts.{CodeBlocks, GoodSteps, GoodWhole}
use Rattle.mit_ssa.proofs.StructureEach.{each_at}

steps_end : (known : Reaching) (block first index : ℕ) (operators : List Operator) (steps : List Step) (end : ℕ) → GoodSteps known block first index operators steps end
    → index + length operators ≡ end
unfolding GoodSteps
steps_end known block first index [] [] end good = omega (arith, good)
steps_end known block first index [] (step ∷ steps) end good = absurd good
steps_end known block first index (operator ∷ operators) [] end good = absurd good
steps_end known block first index (operator ∷ operators) (step ∷ steps) end good =
    let e = steps_end known block first (suc index) operators steps end good.1 in omega (arith, e)

steps_many : (known : Reaching) (block first index : ℕ) (operators : List Operator) (steps : List Step) (end : ℕ) → GoodSteps known block first index operators steps end
    → length operators ≡ length steps
unfolding GoodSteps
steps_many known block first index [] [] end good = refl
steps_many known block first index [] (step ∷ steps) end good = absurd good
steps_many known block first index (operator ∷ operators) [] end good = absurd good
steps_many known block first index (operator ∷ operators) (step ∷ steps) end good =
    ap suc (steps_many known block first (suc index) operators steps end good.1)

steps_at : (known : Reaching) (block first index : ℕ) (operators : List Operator) (steps : List Step) (end : ℕ) → GoodSteps known block first index operators steps end
    → (k : ℕ) → k < length steps → GoodStep known block first (index + k) (get_or operators k no_operator) (get_or steps k no_step)
unfolding GoodSteps
steps_at known block first index [] [] end good k below = absurd (omega arith)
steps_at known block first index [] (step ∷ steps) end good k below = absurd good
steps_at known block first index (operator ∷ operators) [] end good k below = absurd good
steps_at known block first index (operator ∷ operators) (step ∷ steps) end good zero below =
    let e : index ≡ index + 0 = omega arith in subst (λ (i : ℕ). GoodStep known block first i operator step) e good.0
steps_at known block first index (operator ∷ operators) (step ∷ steps) end good (suc k) below =
    let e : suc index + k ≡ index + suc k = omega arith in
    subst (λ (i : ℕ). GoodStep known block first i (get_or operators k no_operator) (get_or steps k no_step)) e
    (steps_at known block first (suc index) operators steps end good.1 k (omega arith))

pub whole_end : (variables : ℕ) (known : Reaching) (block first : ℕ) (it : Block) (code : Code) (end : ℕ) → GoodWhole variables known block first it code end
    → end ≡ length it.operators
whole_end variables known block first it code end good =
    let e = steps_end known block first (length good.phis) good.operators code.steps end good.rest.steps in
    let f = ap (λ (operators : List Operator). length operators) good.are in
    let g = length-append good.phis good.operators in
    omega (arith, e, f, g)

pub whole_good : (variables : ℕ) (known : Reaching) (block first : ℕ) (it : Block) (code : Code) (end : ℕ) → GoodWhole variables known block first it code end
    → GoodBlock known block first it code
whole_good variables known block first it code end good = record {
  leave = good.rest.leave_is;
  decided = good.rest.decided;
  phis = good.phis;
  steps = good.operators;
  are = good.are;
  many = steps_many known block first (length good.phis) good.operators code.steps end good.rest.steps;
  are_phis = λ index below.
      let e : 0 + index ≡ index = omega arith in
      subst (λ (i : ℕ). GoodPhi known block first i (get_or good.phis index no_operator)) e
      (each_at (GoodPhi known block first) good.phis 0 index no_operator good.good_phis below);
  are_steps = steps_at known block first (length good.phis) good.operators code.steps end good.rest.steps;
}

-- ---- all blocks

pub code_many : (variables : ℕ) (known : Reaching) (block first : ℕ) (blocks : List Block) (codes : List Code) (last most : ℕ)
    → CodeBlocks variables known block first blocks codes last most → length blocks ≡ length codes
unfolding CodeBlocks
code_many variables known block first [] [] last most good = refl
code_many variables known block first [] (code ∷ codes) last most good = absurd good
code_many variables known block first (it ∷ more) [] last most good = absurd good
code_many variables known block first (it ∷ more) (code ∷ codes) last most good =
    ap suc (code_many variables known (block + 1) (first + good.end) more codes last most good.later)

pub code_last : (variables : ℕ) (known : Reaching) (block first : ℕ) (blocks : List Block) (codes : List Code) (last most : ℕ)
    → CodeBlocks variables known block first blocks codes last most → block + length codes ≡ last
unfolding CodeBlocks
code_last variables known block first [] [] last most good = let e = good.0 in omega (arith, e)
code_last variables known block first [] (code ∷ codes) last most good = absurd good
code_last variables known block first (it ∷ more) [] last most good = absurd good
code_last variables known block first (it ∷ more) (code ∷ codes) last most good =
    let e = code_last variables known (block + 1) (first + good.end) more codes last most good.later in omega (arith, e)

pub record WholeAt (variables : ℕ) (known : Reaching) (block first : ℕ) (it : Block) (code : Code) : Type 0 where
  pub end : ℕ
  pub good : GoodWhole variables known block first it code end

pub code_at : (variables : ℕ) (known : Reaching) (block first : ℕ) (blocks : List Block) (codes : List Code) (last most : ℕ)
    → CodeBlocks variables known block first blocks codes last most → (k : ℕ) → k < length codes
    → WholeAt variables known (block + k) (get_or (blocks_from first blocks) k no_block).first (get_or blocks k no_operators) (get_or codes k no_code)
unfolding CodeBlocks blocks_from
code_at variables known block first [] [] last most good k below = absurd (omega arith)
code_at variables known block first [] (code ∷ codes) last most good k below = absurd good
code_at variables known block first (it ∷ more) [] last most good k below = absurd good
code_at variables known block first (it ∷ more) (code ∷ codes) last most good zero below =
    let e : block ≡ block + 0 = omega arith in
    subst (λ (b : ℕ). WholeAt variables known b first it code) e (record { end = good.end; good = good.good })
code_at variables known block first (it ∷ more) (code ∷ codes) last most good (suc k) below =
    let e : block + 1 + k ≡ block + suc k = omega arith in
    let f = whole_end variables known block first it code good.end good.good in
    subst (λ (b : ℕ). WholeAt variables known b (get_or (blocks_from (first + length it.operators) more) k no_block).first (get_or more k no_operators) (get_or codes k no_code)) e
    (subst (λ (n : ℕ). WholeAt variables known (block + 1 + k) (get_or (blocks_from (first + n) more) k no_block).first (get_or more k no_operators) (get_or codes k no_code)) f
    (code_at variables known (block + 1) (first + good.end) more codes last most good.later k (omega arith)))
