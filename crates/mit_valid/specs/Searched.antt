-- Devices of the proofs: nobody has to believe them. What a search of a plan's blocks from block 0 finds.
use Rattle.std.specs.Prelude.{◌≡◌, ◌<◌, ◌≤◌, ◌-◌, ◌==◌, ◌++◌, ◌∷◌, ◌⊎◌, ℕ, zero, suc, List, [], Bool, true, false, Contains, if◌then◌else◌, length, slice_index, slice_index_or, slice_set}
use Rattle.mit_ops.specs.declared.leave.Leave.{Leave}
use Rattle.mit_ops.specs.declared.leave.Leave.TheVariants.{Jump, Branch, End}
use Rattle.mit_plan.specs.Paths.{IsPath, next_of}
use Rattle.mit_plan.specs.Plans.{EachBlock, EachOp, PlanOf, block_at, op_at}

-- whether a block is marked
abbrev pub is_marked : List Bool → ℕ → Bool
is_marked marks block = slice_index_or marks block false

-- a search: which blocks are marked, and those of them that it has still to go on from
pub record Search : Type 0 where
  pub marks : List Bool
  pub waiting : List ℕ

-- with a block that waits, if it was not marked
abbrev pub visits : Search → ℕ → Search
visits state block =
    if is_marked state.marks block then state else record { marks = slice_set state.marks block true; waiting = state.waiting ++ block ∷ [] }

-- the block where a search goes on from a block, as a list tells it
abbrev pub landing_of : List ℕ → ℕ → ℕ
landing_of landings block = slice_index landings block

-- with the landings of the blocks that may come next
abbrev pub visits_next : List ℕ → Search → Leave → Search
visits_next landings state (Jump next) = visits state (landing_of landings next)
visits_next landings state (Branch on_true on_false) = visits (visits state (landing_of landings on_true)) (landing_of landings on_false)
visits_next landings state End = state

-- a block is left by a jump to one of the same landing
pub record Hops (plan : PlanOf) (landings : List ℕ) (block : ℕ) : Type 0 where
  pub next : ℕ
  pub jumps : (block_at plan block).leave ≡ Jump next
  pub same : landing_of landings block ≡ landing_of landings next

-- each block lands at itself or hops, and one with operators lands at itself
pub record Skips (plan : PlanOf) (landings : List ℕ) : Type 0 where
  pub many : length landings ≡ length plan.blocks
  pub within : EachBlock plan (λ block. landing_of landings block < length plan.blocks)
  pub hops : EachBlock plan (λ block. (landing_of landings block ≡ block) ⊎ Hops plan landings block)
  pub own : EachOp plan (λ op. landing_of landings (op_at plan op).block ≡ (op_at plan op).block)

-- the block after a block without operators that is left by a jump, and otherwise the block itself
abbrev pub after_jump : ℕ → Leave → ℕ
after_jump block (Jump next) = next
after_jump block _ = block

abbrev pub jump_step : PlanOf → ℕ → ℕ
jump_step plan block = if (block_at plan block).count == 0 then after_jump block (block_at plan block).leave else block

-- the block after so many steps of this kind
unfoldable pub after_steps : PlanOf → ℕ → ℕ → ℕ
after_steps plan zero block = block
after_steps plan (suc steps) block = after_steps plan steps (jump_step plan block)

-- so many steps at least lead from a block to another one
pub record WalksTo (plan : PlanOf) (least block landing : ℕ) : Type 0 where
  pub steps : ℕ
  pub enough : least ≤ steps
  pub is : landing ≡ after_steps plan steps block

-- so many steps at least lead from each block to its landing
pub record Walks (plan : PlanOf) (least : ℕ) (landings : List ℕ) : Type 0 where
  pub many : length landings ≡ length plan.blocks
  pub each : EachBlock plan (λ block. WalksTo plan least block (landing_of landings block))

-- each block lands at itself
pub record Stays (plan : PlanOf) (landings : List ℕ) : Type 0 where
  pub many : length landings ≡ length plan.blocks
  pub each : EachBlock plan (λ block. landing_of landings block ≡ block)

-- a path leads to a block, and meets no avoided one
pub record LeadsTo (plan : PlanOf) (avoided : List Bool) (block : ℕ) : Type 0 where
  pub path : List ℕ
  pub is_path : IsPath plan path
  pub ends : slice_index path (length path - 1) ≡ block
  pub clear : (place : ℕ) → place < length path → is_marked avoided (slice_index path place) ≡ false

-- of the blocks that are not avoided those are marked to which such a path leads: the landings of block 0 and of every block after one of
-- them are marked, or were to be avoided
pub record IsSearched (plan : PlanOf) (landings : List ℕ) (avoided marks : List Bool) : Type 0 where
  pub found : (block : ℕ) → is_marked marks block ≡ true → is_marked avoided block ≡ false → LeadsTo plan avoided block
  pub start : is_marked marks (landing_of landings 0) ≡ true
  pub closed : (block next : ℕ) → is_marked marks block ≡ true → is_marked avoided block ≡ false
      → Contains (next_of (block_at plan block).leave) next → is_marked marks (landing_of landings next) ≡ true
