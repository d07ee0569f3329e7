-- Where the operators of good blocks stand in their plan.
use Rattle.std.proofs.Common.{◌≡◌, ◌∙◌, ◌<◌, ◌≤◌, ◌+◌, ◌-◌, ℕ, zero, suc, List, [], ◌∷◌, ◌++◌, length, get_or, ap, sym, subst, refl, arith, ◌⊎◌, inl, inr, length-append, get_or-append-add}
use Rattle.std.proofs.lemmas.Bool.{cases_lt}
use Rattle.mit_ops.specs.declared.kinds.OpSpec.TheVariants.{Copy}
use Rattle.mit_plan.specs.Paths.{next_of}
use Rattle.mit_plan.specs.Plans.{no_block, no_op}
use Rattle.mit_plan.specs.declared.plan.PlanBlock.{PlanBlock}
use Rattle.mit_plan.specs.declared.plan.PlanOp.{PlanOp}
use Rattle.mit_ssa.specs.PlanFor.{blocks_from, operators_of, ops_from, ops_in}
use Rattle.mit_ssa.specs.declared.block.Block.{Block}
use Rattle.mit_ssa.specs.declared.block.Operator.{Operator}
use Rattle.mit_ssa.proofs.DefinitionsPhis.{Each}
use Rattle.mit_ssa.proofs.DefinitionsGood.{GoodBlocks, GoodOp, GoodOps, Leads, Marks}

abbrev pub no_operator : Operator
no_operator = record { statement = 0; spec = Copy; phi = 0; inputs = [] }

at_left : {A : Type 0} (xs ys : List A) (k : ℕ) (d : A) → k < length xs → get_or (xs ++ ys) k d ≡ get_or xs k d
at_left [] ys k d below = absurd (omega arith)
at_left (x ∷ xs) ys zero d below = refl
at_left (x ∷ xs) ys (suc k) d below = at_left xs ys k d (omega arith)

-- ---- how many

ops_in_length : (block index : ℕ) (operators : List Operator) → length (ops_in block index operators) ≡ length operators
unfolding ops_in
ops_in_length block index [] = refl
ops_in_length block index (operator ∷ operators) = ap suc (ops_in_length block (suc index) operators)

ops_end : (variables : ℕ) (look : Marks) (block number : ℕ) (operators : List Operator) (end : ℕ) → GoodOps variables look block number operators end
    → number + length operators ≡ end
unfolding GoodOps
ops_end variables look block number [] end good = omega (arith, good)
ops_end variables look block number (operator ∷ operators) end good =
    let e = ops_end variables look block (number + 1) operators end good.1 in omega (arith, e)

pub blocks_last : (variables : ℕ) (look : Marks) (block number : ℕ) (blocks : List Block) (last end : ℕ) → GoodBlocks variables look block number blocks last end
    → block + length blocks ≡ last
unfolding GoodBlocks
blocks_last variables look block number [] last end good = let e = good.0 in omega (arith, e)
blocks_last variables look block number (it ∷ more) last end good =
    let e = blocks_last variables look (block + 1) good.1.next more last end good.1.rest in omega (arith, e)

pub blocks_end : (variables : ℕ) (look : Marks) (block number from : ℕ) (blocks : List Block) (last end : ℕ) → GoodBlocks variables look block number blocks last end
    → number + length (ops_from from blocks) ≡ end
unfolding GoodBlocks ops_from
blocks_end variables look block number from [] last end good = let e = good.1 in omega (arith, e)
blocks_end variables look block number from (it ∷ more) last end good =
    let e = blocks_end variables look (block + 1) good.1.next (suc from) more last end good.1.rest in
    let f = length-append (ops_in from 0 it.operators) (ops_from (suc from) more) in
    let g = ops_in_length from 0 it.operators in
    let h = ops_end variables look block number it.operators good.1.next good.1.good.ops in
    omega (arith, e, f, g, h)

pub blocks_length : (first : ℕ) (blocks : List Block) → length (blocks_from first blocks) ≡ length blocks
unfolding blocks_from
blocks_length first [] = refl
blocks_length first (block ∷ blocks) = ap suc (blocks_length (first + length block.operators) blocks)

-- later blocks begin later
starts_from : (variables : ℕ) (look : Marks) (block number : ℕ) (blocks : List Block) (last end : ℕ) → GoodBlocks variables look block number blocks last end
    → (other : ℕ) → block ≤ other → other < last → number ≤ (look other).start
unfolding GoodBlocks
starts_from variables look block number [] last end good other low high = absurd (let e = good.0 in omega (arith, e))
starts_from variables look block number (it ∷ more) last end good other low high =
    by_order (cases_lt block other) (starts_from variables look (block + 1) good.1.next more last end good.1.rest other)
  where
    by_order : (block < other) ⊎ (other ≤ block) → (block + 1 ≤ other → other < last → good.1.next ≤ (look other).start) → number ≤ (look other).start
    by_order (inl above) later =
        let e = later (omega arith) high in
        let f = ops_end variables look block number it.operators good.1.next good.1.good.ops in
        omega (arith, e, f)
    by_order (inr same) later =
        let e : block ≡ other = omega arith in
        subst (λ (b : ℕ). number ≤ (look b).start) e (let f = good.0 in omega (arith, f))

-- no block begins behind the last operator
pub starts_to : (variables : ℕ) (look : Marks) (block number : ℕ) (blocks : List Block) (last end : ℕ) → GoodBlocks variables look block number blocks last end
    → (other : ℕ) → block ≤ other → other < last → (look other).start ≤ end
unfolding GoodBlocks
starts_to variables look block number [] last end good other low high = absurd (let e = good.0 in omega (arith, e))
starts_to variables look block number (it ∷ more) last end good other low high =
    by_order (cases_lt block other) (starts_to variables look (block + 1) good.1.next more last end good.1.rest other)
  where
    by_order : (block < other) ⊎ (other ≤ block) → (block + 1 ≤ other → other < last → (look other).start ≤ end) → (look other).start ≤ end
    by_order (inl above) later = later (omega arith) high
    by_order (inr same) later =
        let e : block ≡ other = omega arith in
        let many = ops_end variables look block number it.operators good.1.next good.1.good.ops in
        let after = blocks_end variables look (block + 1) good.1.next 0 more last end good.1.rest in
        subst (λ (b : ℕ). (look b).start ≤ end) e (let f = good.0 in omega (arith, f, many, after))

pub ops_length : (block : ℕ) (blocks : List Block) → length (ops_from block blocks) ≡ length (operators_of blocks)
unfolding ops_from
ops_length block [] = refl
ops_length block (it ∷ more) =
    let e = length-append (ops_in block 0 it.operators) (ops_from (suc block) more) in
    let f = length-append it.operators (operators_of more) in
    let g = ops_in_length block 0 it.operators in
    let h = ops_length (suc block) more in
    omega (arith, e, f, g, h)

-- ---- operators

ops_good : (variables : ℕ) (look : Marks) (block number : ℕ) (operators : List Operator) (end : ℕ) → GoodOps variables look block number operators end
    → (k : ℕ) → k < length operators → GoodOp variables look block (number + k) (get_or operators k no_operator)
unfolding GoodOps
ops_good variables look block number [] end good k below = absurd (omega arith)
ops_good variables look block number (operator ∷ operators) end good zero below =
    let e : number ≡ number + 0 = omega arith in subst (λ (n : ℕ). GoodOp variables look block n operator) e good.0
ops_good variables look block number (operator ∷ operators) end good (suc k) below =
    let e : number + 1 + k ≡ number + suc k = omega arith in
    subst (λ (n : ℕ). GoodOp variables look block n (get_or operators k no_operator)) e
    (ops_good variables look block (number + 1) operators end good.1 k (omega arith))

-- an operator of a plan is this one of its block
pub record IsOp (block index : ℕ) (op : PlanOp) (operator : Operator) : Type 0 where
  pub block_is : op.block ≡ block
  pub index_is : op.index ≡ index
  pub phi_is : op.phi ≡ operator.phi

ops_in_at : (block index : ℕ) (operators : List Operator) (k : ℕ) → k < length operators
    → IsOp block (index + k) (get_or (ops_in block index operators) k no_op) (get_or operators k no_operator)
unfolding ops_in
ops_in_at block index [] k below = absurd (omega arith)
ops_in_at block index (operator ∷ operators) zero below = record { block_is = refl; index_is = omega arith; phi_is = refl }
ops_in_at block index (operator ∷ operators) (suc k) below =
    let e : suc index + k ≡ index + suc k = omega arith in
    subst (λ (i : ℕ). IsOp block i (get_or (ops_in block (suc index) operators) k no_op) (get_or operators k no_operator)) e
    (ops_in_at block (suc index) operators k (omega arith))

-- where an operator with this number stands, among blocks from this one up to a last one
pub record Stands (variables : ℕ) (look : Marks) (first number last : ℕ) (op : PlanOp) (operator : Operator) : Type 0 where
  pub block : ℕ
  pub is : IsOp block op.index op operator
  pub low : first ≤ block
  pub high : block < last
  pub number_is : number ≡ (look block).start + op.index
  pub later : (other : ℕ) → block < other → other < last → number < (look other).start
  pub earlier : (other : ℕ) → first ≤ other → other ≤ block → (look other).start ≤ number
  pub good : GoodOp variables look block number operator

pub stands : (variables : ℕ) (look : Marks) (block number : ℕ) (blocks : List Block) (last end : ℕ) → GoodBlocks variables look block number blocks last end
    → (k : ℕ) → k < length (ops_from block blocks)
    → Stands variables look block (number + k) last (get_or (ops_from block blocks) k no_op) (get_or (operators_of blocks) k no_operator)
unfolding GoodBlocks ops_from
stands variables look block number [] last end good k below = absurd (omega arith)
stands variables look block number (it ∷ more) last end good k below =
    by_order (cases_lt k (length it.operators))
    (stands variables look (suc block) good.1.next more last end
    (let e : block + 1 ≡ suc block = omega arith in subst (λ (b : ℕ). GoodBlocks variables look b good.1.next more last end) e good.1.rest))
  where
    many : number + length it.operators ≡ good.1.next
    many = ops_end variables look block number it.operators good.1.next good.1.good.ops

    here : k < length it.operators → IsOp block k (get_or (ops_in block 0 it.operators) k no_op) (get_or it.operators k no_operator)
        → Stands variables look block (number + k) last (get_or (ops_in block 0 it.operators) k no_op) (get_or it.operators k no_operator)
    here lt is = record {
      block = block;
      is = record { block_is = is.block_is; index_is = refl; phi_is = is.phi_is };
      low = omega arith;
      high = (let e = blocks_last variables look (block + 1) good.1.next more last end good.1.rest in omega (arith, e));
      number_is = (let e = good.0 in let f = is.index_is in omega (arith, e, f));
      later = λ other above under.
          let e = starts_from variables look (block + 1) good.1.next more last end good.1.rest other (omega arith) under in omega (arith, e, many);
      earlier = λ other low high. let e : block ≡ other = omega arith in
          subst (λ (b : ℕ). (look b).start ≤ number + k) e (let f = good.0 in omega (arith, f));
      good = ops_good variables look block number it.operators good.1.next good.1.good.ops k lt;
    }

    behind : (n : ℕ) (op : PlanOp) (operator : Operator) → number ≤ n → Stands variables look (suc block) n last op operator → Stands variables look block n last op operator
    behind n op operator more stood = record {
      block = stood.block;
      is = stood.is;
      low = (let e = stood.low in omega (arith, e));
      high = stood.high;
      number_is = stood.number_is;
      later = stood.later;
      earlier = λ other low high. by_first other low (cases_lt block other) high;
      good = stood.good;
    }
      where
        by_first : (other : ℕ) → block ≤ other → (block < other) ⊎ (other ≤ block) → other ≤ stood.block → (look other).start ≤ n
        by_first other low (inl above) high = stood.earlier other (omega arith) high
        by_first other low (inr under) high =
            let e : block ≡ other = omega arith in subst (λ (b : ℕ). (look b).start ≤ n) e (let f = good.0 in omega (arith, f))

    by_order : (k < length it.operators) ⊎ (length it.operators ≤ k)
        → ((j : ℕ) → j < length (ops_from (suc block) more)
        → Stands variables look (suc block) (good.1.next + j) last (get_or (ops_from (suc block) more) j no_op) (get_or (operators_of more) j no_operator))
        → Stands variables look block (number + k) last (get_or (ops_in block 0 it.operators ++ ops_from (suc block) more) k no_op)
        (get_or (it.operators ++ operators_of more) k no_operator)
    by_order (inl lt) rest =
        let in_length = ops_in_length block 0 it.operators in
        let e = at_left (ops_in block 0 it.operators) (ops_from (suc block) more) k no_op (omega (arith, in_length)) in
        let f = at_left it.operators (operators_of more) k no_operator lt in
        let at = ops_in_at block 0 it.operators k lt in
        let zero_plus : 0 + k ≡ k = omega arith in
        subst (λ (op : PlanOp). Stands variables look block (number + k) last op (get_or (it.operators ++ operators_of more) k no_operator)) (sym e)
        (subst (λ (o : Operator). Stands variables look block (number + k) last (get_or (ops_in block 0 it.operators) k no_op) o) (sym f)
        (here lt (subst (λ (i : ℕ). IsOp block i (get_or (ops_in block 0 it.operators) k no_op) (get_or it.operators k no_operator)) zero_plus at)))
    by_order (inr ge) rest = at_place (k - length it.operators) (omega arith)
      where
        at_place : (j : ℕ) → length it.operators + j ≡ k
            → Stands variables look block (number + k) last (get_or (ops_in block 0 it.operators ++ ops_from (suc block) more) k no_op)
            (get_or (it.operators ++ operators_of more) k no_operator)
        at_place j same =
            let in_length = ops_in_length block 0 it.operators in
            let whole = length-append (ops_in block 0 it.operators) (ops_from (suc block) more) in
            let stood = rest j (omega (arith, in_length, whole, below, same)) in
            let e = get_or-append-add (ops_in block 0 it.operators) (ops_from (suc block) more) j no_op in
            let f = get_or-append-add it.operators (operators_of more) j no_operator in
            let g : length (ops_in block 0 it.operators) + j ≡ k = omega (arith, in_length, same) in
            let n : good.1.next + j ≡ number + k = omega (arith, many, same) in
            subst (λ (op : PlanOp). Stands variables look block (number + k) last op (get_or (it.operators ++ operators_of more) k no_operator))
            (sym e ∙ ap (λ (i : ℕ). get_or (ops_in block 0 it.operators ++ ops_from (suc block) more) i no_op) g)
            (subst (λ (o : Operator). Stands variables look block (number + k) last (get_or (ops_from (suc block) more) j no_op) o)
            (sym f ∙ ap (λ (i : ℕ). get_or (it.operators ++ operators_of more) i no_operator) same)
            (behind (number + k) (get_or (ops_from (suc block) more) j no_op) (get_or (operators_of more) j no_operator) (omega arith)
            (subst (λ (m : ℕ). Stands variables look (suc block) m last (get_or (ops_from (suc block) more) j no_op) (get_or (operators_of more) j no_operator)) n stood)))

-- ---- how blocks are left

pub record Leaves (variables : ℕ) (look : Marks) (block last end : ℕ) (it : PlanBlock) : Type 0 where
  pub until : ℕ
  pub leads : Each (Leads variables look block until) (next_of it.leave)
  pub bound : (other : ℕ) → block < other → other < last → until ≤ (look other).start
  pub within : until ≤ end

pub leaves : (variables : ℕ) (look : Marks) (block number : ℕ) (blocks : List Block) (last end : ℕ) → GoodBlocks variables look block number blocks last end
    → (k : ℕ) → k < length blocks → Leaves variables look (block + k) last end (get_or (blocks_from number blocks) k no_block)
unfolding GoodBlocks blocks_from
leaves variables look block number [] last end good k below = absurd (omega arith)
leaves variables look block number (it ∷ more) last end good zero below =
    let e : block ≡ block + 0 = omega arith in
    subst (λ (b : ℕ). Leaves variables look b last end (record { first = number; count = length it.operators; leave = it.leave })) e (record {
      until = good.1.next;
      leads = good.1.good.leads;
      bound = λ other above under. starts_from variables look (block + 1) good.1.next more last end good.1.rest other (omega arith) under;
      within = (let f = blocks_end variables look (block + 1) good.1.next 0 more last end good.1.rest in omega (arith, f));
    })
leaves variables look block number (it ∷ more) last end good (suc k) below =
    let e : block + 1 + k ≡ block + suc k = omega arith in
    let f : good.1.next ≡ number + length it.operators = sym (ops_end variables look block number it.operators good.1.next good.1.good.ops) in
    subst (λ (b : ℕ). Leaves variables look b last end (get_or (blocks_from (number + length it.operators) more) k no_block)) e
    (subst (λ (n : ℕ). Leaves variables look (block + 1 + k) last end (get_or (blocks_from n more) k no_block)) f
    (leaves variables look (block + 1) good.1.next more last end good.1.rest k (omega arith)))
