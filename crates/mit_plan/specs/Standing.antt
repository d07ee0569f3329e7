-- Devices of the proofs: nobody has to believe them. Where ranges of operators follow one another, an operator names the block and the
-- index at which it stands; and what holds of each number that is found in a list.
use Rattle.std.proofs.Common.{◌≡◌, ◌<◌, ◌≤◌, ◌+◌, ℕ, zero, suc, List, [], ◌∷◌, length, get_or, ap, refl, subst, arith, All, Bool, true, false, cond, inl, inr}
use Rattle.std.specs.Prelude.{◌⊎◌}
use Rattle.std.proofs.lemmas.Bool.{cases_lt}
use Rattle.std.proofs.lemmas.List.Elements.{All-cons}
use Rattle.mit_plan.specs.Plans.{PlanOf, block_at, no_block, numbers_where, op_at}
use Rattle.mit_plan.specs.Valid.{Follow, RangesFollow, StandsAt}
use Rattle.mit_plan.specs.declared.plan.PlanBlock.{PlanBlock}

abbrev nth : List PlanBlock → ℕ → PlanBlock
nth blocks block = get_or blocks block no_block

-- a range begins no earlier than the first one, and ends no later than the last one
record Within (first end : ℕ) (block : PlanBlock) : Type 0 where
  above : first ≤ block.first
  below : block.first + block.count ≤ end

rest_above : (first : ℕ) (blocks : List PlanBlock) (end : ℕ) → Follow first blocks end → first ≤ end
rest_above first [] end follow = let e : first ≡ end = follow in omega (arith, e)
rest_above first (block ∷ blocks) end follow = omega (arith, rest_above (first + block.count) blocks end follow.1)

within : (first : ℕ) (blocks : List PlanBlock) (end block : ℕ) → Follow first blocks end → block < length blocks → Within first end (nth blocks block)
within first [] end block follow below = absurd (omega (arith, below))
within first (one ∷ blocks) end zero follow below =
    record { above = omega (arith, follow.0); below = omega (arith, follow.0, rest_above (first + one.count) blocks end follow.1) }
within first (one ∷ blocks) end (suc block) follow below =
    let later = within (first + one.count) blocks end block follow.1 (omega (arith, below)) in
    record { above = omega (arith, later.above); below = later.below }

-- a range ends before each later one
in_order : (first : ℕ) (blocks : List PlanBlock) (end one other : ℕ) → Follow first blocks end → one < other → other < length blocks → (nth blocks one).first + (nth blocks one).count ≤ (nth blocks other).first
in_order first [] end one other follow less below = absurd (omega (arith, below))
in_order first (block ∷ blocks) end zero zero follow less below = absurd (omega (arith, less))
in_order first (block ∷ blocks) end zero (suc other) follow less below =
    let later = within (first + block.count) blocks end other follow.1 (omega (arith, below)) in omega (arith, follow.0, later.above)
in_order first (block ∷ blocks) end (suc one) zero follow less below = absurd (omega (arith, less))
in_order first (block ∷ blocks) end (suc one) (suc other) follow less below =
    in_order (first + block.count) blocks end one other follow.1 (omega (arith, less)) (omega (arith, below))

-- an operator names the block and the index at which it stands
pub record Names (plan : PlanOf) (block index : ℕ) : Type 0 where
  pub below : (block_at plan block).first + index < length plan.ops
  pub block_is : (op_at plan ((block_at plan block).first + index)).block ≡ block
  pub index_is : (op_at plan ((block_at plan block).first + index)).index ≡ index

pub names : (plan : PlanOf) (block index : ℕ) → RangesFollow plan → block < length plan.blocks → index < (block_at plan block).count → Names plan block index
names plan block index ranges below stands =
    let op = (block_at plan block).first + index in
    let range = within 0 plan.blocks (length plan.ops) block ranges.follow below in
    let some : op < length plan.ops = omega (arith, range.below, stands) in
    let own = ranges.each op some in
    by_order own (cases_lt (op_at plan op).block block) (cases_lt block (op_at plan op).block)
  where
    by_order : StandsAt plan.blocks (op_at plan ((block_at plan block).first + index)) ((block_at plan block).first + index)
        → ((op_at plan ((block_at plan block).first + index)).block < block) ⊎ (block ≤ (op_at plan ((block_at plan block).first + index)).block)
        → (block < (op_at plan ((block_at plan block).first + index)).block) ⊎ ((op_at plan ((block_at plan block).first + index)).block ≤ block) → Names plan block index
    by_order own (inl less) other =
        absurd (omega (arith, own.number, own.index, in_order 0 plan.blocks (length plan.ops) (op_at plan ((block_at plan block).first + index)).block block ranges.follow less below))
    by_order own (inr more) (inl less) =
        absurd (omega (arith, own.number, stands, in_order 0 plan.blocks (length plan.ops) block (op_at plan ((block_at plan block).first + index)).block ranges.follow less own.block))
    by_order own (inr more) (inr less) =
        let same : (op_at plan ((block_at plan block).first + index)).block ≡ block = omega (arith, more, less) in
        let first : (block_at plan (op_at plan ((block_at plan block).first + index)).block).first ≡ (block_at plan block).first = ap (λ (b : ℕ). (block_at plan b).first) same in
        let range = within 0 plan.blocks (length plan.ops) block ranges.follow below in
        record { below = omega (arith, range.below, stands); block_is = same; index_is = omega (arith, own.number, first) }

pub all_where : {A : Type 0} (passes : A → Bool) (P : ℕ → Type 0) (from : ℕ) (xs : List A) → ((k : ℕ) → k < length xs → ((d : A) → passes (get_or xs k d) ≡ true) → P (from + k)) → All P (numbers_where passes from xs)
unfolding numbers_where
all_where passes P from [] each = λ k d below. absurd (omega (arith, below))
all_where {A} passes P from (x ∷ xs) each =
    by_test (passes x) refl (all_where passes P (suc from) xs (λ k below pass. let e : from + suc k ≡ suc from + k = omega arith in subst P e (each (suc k) (omega (arith, below)) pass)))
  where
    by_test : (pass : Bool) → passes x ≡ pass → All P (numbers_where passes (suc from) xs) → All P (cond pass (from ∷ numbers_where passes (suc from) xs) (numbers_where passes (suc from) xs))
    by_test true is rest =
        let e : from + 0 ≡ from = omega arith in
        All-cons P from (numbers_where passes (suc from) xs) (subst P e (each 0 (omega arith) (λ d. is))) rest
    by_test false is rest = rest
