-- What holds of the lists of a plan, whatever its blocks are: their ranges, the places of operators, the order of edges and the inputs.
use Rattle.std.proofs.Common.{◌≡◌, ◌∙◌, ◌<◌, ◌+◌, ℕ, suc, List, [], ◌∷◌, ◌++◌, length, get_or, ap, subst, refl, arith, length-append}
use Rattle.mit_plan.specs.Plans.{PlanOf, no_block, no_op, op_at}
use Rattle.mit_plan.specs.Valid.{Follow, RangesFollow, StandsAt}
use Rattle.mit_plan.specs.declared.plan.PlanBlock.{PlanBlock}
use Rattle.mit_plan.specs.declared.plan.PlanOp.{PlanOp}
use Rattle.mit_ssa.specs.PlanFor.{blocks_from, operators_of, ops_from, ops_in, plan_of_blocks}
use Rattle.mit_ssa.specs.declared.block.Block.{Block}
use Rattle.mit_ssa.specs.declared.block.Operator.{Operator}
use Rattle.mit_ssa.proofs.StructureEach.{Each, each_at, each_from, each_join, each_weaker}

-- ---- how long the lists are

pub length-blocks_from : (blocks : List Block) (first : ℕ) → length (blocks_from first blocks) ≡ length blocks
unfolding blocks_from
length-blocks_from [] first = refl
length-blocks_from (block ∷ blocks) first = ap (λ n. suc n) (length-blocks_from blocks (first + length block.operators))

pub length-ops_in : (operators : List Operator) (block index : ℕ) → length (ops_in block index operators) ≡ length operators
unfolding ops_in
length-ops_in [] block index = refl
length-ops_in (operator ∷ operators) block index = ap (λ n. suc n) (length-ops_in operators block (suc index))

pub length-ops_from : (blocks : List Block) (number : ℕ) → length (ops_from number blocks) ≡ length (operators_of blocks)
unfolding ops_from
length-ops_from [] number = refl
length-ops_from (block ∷ blocks) number =
    let a = length-append (ops_in number 0 block.operators) (ops_from (suc number) blocks) in
    let b = length-append block.operators (operators_of blocks) in
    let c = length-ops_in block.operators number 0 in let d = length-ops_from blocks (suc number) in
    omega (arith, a, b, c, d)

-- ---- ranges

ranges_follow : (blocks : List Block) (first : ℕ) → Follow first (blocks_from first blocks) (first + length (operators_of blocks))
unfolding blocks_from
ranges_follow [] first = omega arith
ranges_follow (block ∷ blocks) first =
    let a = length-append block.operators (operators_of blocks) in
    let e : first + length block.operators + length (operators_of blocks) ≡ first + length (block.operators ++ operators_of blocks) = omega (arith, a) in (
      refl,
      subst (λ end. Follow (first + length block.operators) (blocks_from (first + length block.operators) blocks) end) e
          (ranges_follow blocks (first + length block.operators)),
    )

-- an operator of this number is one of a block of these, which are numbered from this one on
record Stands (number : ℕ) (blocks : List PlanBlock) (op : ℕ) (operator : PlanOp) : Type 0 where
  block : ℕ
  names : operator.block ≡ number + block
  stands : block < length blocks
  index : operator.index < (get_or blocks block no_block).count
  is : op ≡ (get_or blocks block no_block).first + operator.index

stands_later : (number : ℕ) (first : PlanBlock) (blocks : List PlanBlock) (op : ℕ) (operator : PlanOp)
    → Stands (suc number) blocks op operator → Stands number (first ∷ blocks) op operator
stands_later number first blocks op operator stands = record {
  block = suc stands.block;
  names = let a = stands.names in omega (arith, a);
  stands = let a = stands.stands in omega (arith, a);
  index = stands.index;
  is = stands.is;
}

stand_in : (number first count : ℕ) (one : PlanBlock) (blocks : List PlanBlock) (operators : List Operator) (index : ℕ)
    → one.first ≡ first → one.count ≡ count → index + length operators ≡ count
    → Each (Stands number (one ∷ blocks)) (first + index) (ops_in number index operators)
unfolding ops_in
stand_in number first count one blocks [] index is_first is_count whole = tt
stand_in number first count one blocks (operator ∷ operators) index is_first is_count whole = (
  record {
    block = 0;
    names = omega arith;
    stands = omega arith;
    index = omega (arith, is_count, whole);
    is = omega (arith, is_first);
  },
  each_from (Stands number (one ∷ blocks)) (ops_in number (suc index) operators) (first + suc index) (suc (first + index)) (omega arith)
      (stand_in number first count one blocks operators (suc index) is_first is_count (omega (arith, whole))),
)

stand_from : (blocks : List Block) (number first : ℕ) → Each (Stands number (blocks_from first blocks)) first (ops_from number blocks)
unfolding blocks_from ops_from
stand_from [] number first = tt
stand_from (block ∷ blocks) number first =
    let count = length block.operators in
    let later = blocks_from (first + count) blocks in
    let one : PlanBlock = record { first = first; count = count; leave = block.leave } in
    let a = length-ops_in block.operators number 0 in
    each_join (Stands number (one ∷ later)) (ops_in number 0 block.operators) (ops_from (suc number) blocks) first
    (each_from (Stands number (one ∷ later)) (ops_in number 0 block.operators) (first + 0) first (omega arith)
    (stand_in number first count one later block.operators 0 refl refl (omega arith)))
    (each_from (Stands number (one ∷ later)) (ops_from (suc number) blocks) (first + count) (first + length (ops_in number 0 block.operators)) (omega (arith, a))
    (each_weaker (Stands (suc number) later) (Stands number (one ∷ later)) (stands_later number one later) (ops_from (suc number) blocks) (first + count)
    (stand_from blocks (suc number) (first + count))))

stands_at : (plan : PlanOf) (op : ℕ) → Stands 0 plan.blocks (0 + op) (op_at plan op) → StandsAt plan.blocks (op_at plan op) op
stands_at plan op stands =
    let e : stands.block ≡ (op_at plan op).block = let a = stands.names in omega (arith, a) in
    record {
      block = subst (λ n. n < length plan.blocks) e stands.stands;
      index = subst (λ n. (op_at plan op).index < (get_or plan.blocks n no_block).count) e stands.index;
      number =
          let a = subst (λ n. 0 + op ≡ (get_or plan.blocks n no_block).first + (op_at plan op).index) e stands.is in
          let b : op ≡ 0 + op = omega arith in b ∙ a;
    }

pub ranges_are : (blocks : List Block) → RangesFollow (plan_of_blocks blocks)
ranges_are blocks = record {
  follow =
      let a = length-ops_from blocks 0 in
      let e : 0 + length (operators_of blocks) ≡ length (ops_from 0 blocks) = omega (arith, a) in
      subst (λ end. Follow 0 (blocks_from 0 blocks) end) e (ranges_follow blocks 0);
  each = λ op less. stands_at (plan_of_blocks blocks) op
      (each_at (Stands 0 (blocks_from 0 blocks)) (ops_from 0 blocks) 0 op no_op (stand_from blocks 0 0) less);
}
