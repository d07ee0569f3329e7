-- Where jumps lead from blocks without operators: landings after enough steps skip all of these blocks.
use Rattle.std.proofs.Common.{◌≡◌, ◌∙◌, ◌<◌, ◌≤◌, ◌+◌, ℕ, zero, suc, List, length, set, eqb, ap, sym, subst, refl, inl, inr, arith, Bool, true, false}
use Rattle.std.specs.Prelude.{◌⊎◌}
use Rattle.std.proofs.Math.ListN.{length-set}
use Rattle.std.proofs.lemmas.Bool.{cases_eq, ne_eqb}
use Rattle.std.proofs.lemmas.List.{get_or-set_other, get_or-set_same}
use Rattle.mit_ops.specs.declared.leave.Leave.{Leave}
use Rattle.mit_ops.specs.declared.leave.Leave.TheVariants.{Jump, Branch, End}
use Rattle.mit_plan.specs.Plans.{EachBlock, PlanOf, block_at, op_at}
use Rattle.mit_plan.specs.Valid.{LeavesNameBlocks, NamesBlocks, RangesFollow, by_leave, settles}
use Rattle.mit_valid.specs.Deciding.{ListsStand}
use Rattle.mit_valid.specs.Searched.{Hops, Skips, Stays, Walks, WalksTo, after_steps, jump_step, landing_of}

-- ---- a step

-- a step stays, or follows a jump
record StepsOn (plan : PlanOf) (block : ℕ) : Type 0 where
  next : ℕ
  jumps : (block_at plan block).leave ≡ Jump next
  is : jump_step plan block ≡ next

cases_step : (plan : PlanOf) (block : ℕ) → (jump_step plan block ≡ block) ⊎ StepsOn plan block
cases_step plan block = by_count (eqb (block_at plan block).count 0) refl
  where
    by_jump : (leave : Leave) → (block_at plan block).leave ≡ leave → eqb (block_at plan block).count 0 ≡ true → (jump_step plan block ≡ block) ⊎ StepsOn plan block
    by_jump (Jump next) is none = inr (record { next = next; jumps = is; is = rw (none, is) refl })
    by_jump (Branch on_true on_false) is none = inl (rw (none, is) refl)
    by_jump End is none = inl (rw (none, is) refl)

    by_count : (none : Bool) → eqb (block_at plan block).count 0 ≡ none → (jump_step plan block ≡ block) ⊎ StepsOn plan block
    by_count true none = by_jump (block_at plan block).leave refl none
    by_count false some = inl (rw some refl)

-- it leads to a block, and stays at a block of an operator
step_within : (plan : PlanOf) (block : ℕ) → LeavesNameBlocks plan → block < length plan.blocks → jump_step plan block < length plan.blocks
step_within plan block leaves below = by_step (cases_step plan block)
  where
    by_step : (jump_step plan block ≡ block) ⊎ StepsOn plan block → jump_step plan block < length plan.blocks
    by_step (inl stays) = rw stays below
    by_step (inr on) = rw on.is (subst (λ (leave : Leave). NamesBlocks (length plan.blocks) leave) on.jumps (leaves block below))

own_step : (plan : PlanOf) (op : ℕ) → RangesFollow plan → op < length plan.ops → jump_step plan (op_at plan op).block ≡ (op_at plan op).block
own_step plan op ranges below =
    let stands = ranges.each op below in
    let block = block_at plan (op_at plan op).block in
    let some : eqb block.count 0 ≡ false = ne_eqb block.count 0 (λ none. absurd (omega (arith, none, stands.index))) in
    rw some refl

-- ---- steps

walk-add : (plan : PlanOf) (steps more block : ℕ) → after_steps plan (steps + more) block ≡ after_steps plan more (after_steps plan steps block)
unfolding after_steps
walk-add plan zero more block = let e : more ≡ 0 + more = omega arith in subst (λ (n : ℕ). after_steps plan n block ≡ after_steps plan more block) e refl
walk-add plan (suc steps) more block =
    let e : suc (steps + more) ≡ suc steps + more = omega arith in
    subst (λ (n : ℕ). after_steps plan n block ≡ after_steps plan more (after_steps plan steps (jump_step plan block))) e (walk-add plan steps more (jump_step plan block))

walk_within : (plan : PlanOf) (steps block : ℕ) → LeavesNameBlocks plan → block < length plan.blocks → after_steps plan steps block < length plan.blocks
unfolding after_steps
walk_within plan zero block leaves below = below
walk_within plan (suc steps) block leaves below = walk_within plan steps (jump_step plan block) leaves (step_within plan block leaves below)

walk_stays : (plan : PlanOf) (steps block : ℕ) → jump_step plan block ≡ block → after_steps plan steps block ≡ block
unfolding after_steps
walk_stays plan zero block stays = refl
walk_stays plan (suc steps) block stays = ap (λ (one : ℕ). after_steps plan steps one) stays ∙ walk_stays plan steps block stays

walk_on : (plan : PlanOf) (steps block next : ℕ) → jump_step plan block ≡ next → after_steps plan (suc steps) block ≡ after_steps plan steps next
unfolding after_steps
walk_on plan steps block next is = ap (λ (one : ℕ). after_steps plan steps one) is

-- after enough steps more of them change nothing
settled_on : (plan : PlanOf) (block next bound steps more : ℕ) → settles plan bound next ≡ true → bound ≤ steps → bound ≤ more → jump_step plan block ≡ next
    → ((steps more : ℕ) → bound ≤ suc steps → bound ≤ suc more → after_steps plan steps next ≡ after_steps plan more next) → after_steps plan steps block ≡ after_steps plan more block
unfolding settles
settled_on plan block next zero steps more later enough also is same = absurd cc
settled_on plan block next (suc bound) zero more later enough also is same = absurd (omega (arith, enough))
settled_on plan block next (suc bound) (suc steps) zero later enough also is same = absurd (omega (arith, also))
settled_on plan block next (suc bound) (suc steps) (suc more) later enough also is same =
    walk_on plan steps block next is ∙ same steps more enough also ∙ sym (walk_on plan more block next is)

settled_walk : (plan : PlanOf) (bound steps more block : ℕ) → settles plan bound block ≡ true → bound ≤ suc steps → bound ≤ suc more → after_steps plan steps block ≡ after_steps plan more block
unfolding settles
settled_walk plan zero steps more block settled enough also = absurd cc
settled_walk plan (suc bound) steps more block settled enough also =
    by_step (λ next later steps more enough also. settled_walk plan bound steps more next later enough also) (cases_step plan block)
  where
    by_step : ((next : ℕ) → settles plan bound next ≡ true → (steps more : ℕ) → bound ≤ suc steps → bound ≤ suc more → after_steps plan steps next ≡ after_steps plan more next)
        → (jump_step plan block ≡ block) ⊎ StepsOn plan block → after_steps plan steps block ≡ after_steps plan more block
    by_step same (inl stays) = walk_stays plan steps block stays ∙ sym (walk_stays plan more block stays)
    by_step same (inr on) =
        let later : settles plan bound on.next ≡ true = ap (λ (leave : Leave). by_leave (settles plan bound) leave) (sym on.jumps) ∙ settled in
        settled_on plan block on.next bound steps more later (omega (arith, enough)) (omega (arith, also)) on.is (same on.next later)

-- ---- landings

-- what holds of a block and its new landing, and of each other one and its landing, holds after the change
set_each : (P : ℕ → ℕ → Type 0) (landings : List ℕ) (block landing : ℕ) → block < length landings → P block landing
    → (one : ℕ) → ((one ≡ block → ⊥) → P one (landing_of landings one)) → P one (landing_of (set landings block landing) one)
set_each P landings block landing below here one there = by_same (cases_eq one block)
  where
    by_same : (one ≡ block) ⊎ (one ≡ block → ⊥) → P one (landing_of (set landings block landing) one)
    by_same (inl same) = rw (same, get_or-set_same landings block landing 0 below) here
    by_same (inr other) = rw (get_or-set_other landings block one landing 0 other) (there other)

-- landings of one step
pub walks_one : (plan : PlanOf) (landings : List ℕ) → length landings ≡ length plan.blocks → EachBlock plan (λ block. landing_of landings block ≡ jump_step plan block) → Walks plan 1 landings
unfolding after_steps
walks_one plan landings many each = record { many = many; each = λ block below. record { steps = 1; enough = omega arith; is = each block below } }

-- landings are blocks, and the landing of a landing is twice as many steps on
pub landing_within : (plan : PlanOf) (least : ℕ) (landings : List ℕ) → LeavesNameBlocks plan → Walks plan least landings → EachBlock plan (λ block. landing_of landings block < length plan.blocks)
landing_within plan least landings leaves walks block below = let to = walks.each block below in rw to.is (walk_within plan to.steps block leaves below)

twice : (plan : PlanOf) (least : ℕ) (landings : List ℕ) → LeavesNameBlocks plan → Walks plan least landings
    → EachBlock plan (λ block. WalksTo plan (least + least) block (landing_of landings (landing_of landings block)))
twice plan least landings leaves walks block below =
    let near = walks.each block below in
    let far = walks.each (landing_of landings block) (landing_within plan least landings leaves walks block below) in record {
      steps = near.steps + far.steps;
      enough = omega (arith, near.enough, far.enough);
      is = far.is ∙ ap (λ (one : ℕ). after_steps plan far.steps one) near.is ∙ sym (walk-add plan near.steps far.steps block);
    }

fewer : (plan : PlanOf) (least block landing : ℕ) → WalksTo plan (least + least) block landing → WalksTo plan least block landing
fewer plan least block landing to = record { steps = to.steps; enough = omega (arith, to.enough); is = to.is }

-- one landing more is that of a landing
pub doubled : (plan : PlanOf) (least block : ℕ) (landings : List ℕ) → LeavesNameBlocks plan → block < length plan.blocks → Walks plan least landings
    → ((one : ℕ) → one < block → WalksTo plan (least + least) one (landing_of landings one))
    → Walks plan least (set landings block (landing_of landings (landing_of landings block)))
    × ((one : ℕ) → one < block + 1 → WalksTo plan (least + least) one (landing_of (set landings block (landing_of landings (landing_of landings block))) one))
doubled plan least block landings leaves below walks before =
    let landing = landing_of landings (landing_of landings block) in
    let many = walks.many in
    let there : block < length landings = omega arith in
    let to = twice plan least landings leaves walks block below in (
      record {
        many = length-set landings block landing ∙ many;
        each = λ one less. set_each (WalksTo plan least) landings block landing there (fewer plan least block landing to) one (λ other. walks.each one less);
      },
      λ one less. set_each (WalksTo plan (least + least)) landings block landing there to one (λ other. before one (omega (arith, less, other))),
    )

-- as many steps as there are blocks are enough
pub walks_skip : (plan : PlanOf) (least : ℕ) (landings : List ℕ) → ListsStand plan → Walks plan least landings → length plan.blocks ≤ least → Skips plan landings
walks_skip plan least landings lists walks enough = record {
  many = walks.many;
  within = landing_within plan least landings lists.leaves walks;
  hops = λ block below. by_step block below (cases_step plan block);
  own = λ op below.
      let to = walks.each (op_at plan op).block (lists.ranges.each op below).block in
      to.is ∙ walk_stays plan to.steps (op_at plan op).block (own_step plan op lists.ranges below);
}
  where
    by_step : (block : ℕ) → block < length plan.blocks → (jump_step plan block ≡ block) ⊎ StepsOn plan block → (landing_of landings block ≡ block) ⊎ Hops plan landings block
    by_step block below (inl stays) = let to = walks.each block below in inl (to.is ∙ walk_stays plan to.steps block stays)
    by_step block below (inr on) =
        let there : on.next < length plan.blocks = subst (λ (leave : Leave). NamesBlocks (length plan.blocks) leave) on.jumps (lists.leaves block below) in
        let near = walks.each block below in
        let far = walks.each on.next there in
        inr (record {
          next = on.next;
          jumps = on.jumps;
          same =
              near.is
              ∙ settled_walk plan (length plan.blocks) near.steps (suc far.steps) block (lists.jumps block below) (omega (arith, enough, near.enough)) (omega (arith, enough, far.enough))
              ∙ walk_on plan far.steps block on.next on.is ∙ sym far.is;
        })

-- so do landings of blocks at themselves, of no steps
pub stays_skip : (plan : PlanOf) (landings : List ℕ) → ListsStand plan → Stays plan landings → Skips plan landings
stays_skip plan landings lists stays = record {
  many = stays.many;
  within = λ block below. rw (stays.each block below) below;
  hops = λ block below. inl (stays.each block below);
  own = λ op below. stays.each (op_at plan op).block (lists.ranges.each op below).block;
}
