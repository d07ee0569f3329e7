-- Paths through a plan's blocks, from block 0 on, along how each is left.
use Rattle.std.specs.Prelude.{◌≡◌, ◌<◌, ℕ, suc, List, [], ◌∷◌, length, Contains, slice_index}
use Rattle.mit_ops.specs.declared.leave.Leave.{Leave}
use Rattle.mit_ops.specs.declared.leave.Leave.TheVariants.{Jump, Branch, End}
use Rattle.mit_plan.specs.Plans.{PlanOf, block_at}

-- the blocks that may come next
abbrev pub next_of : Leave → List ℕ
next_of (Jump next) = next ∷ []
next_of (Branch on_true on_false) = on_true ∷ on_false ∷ []
next_of End = []

-- blocks entered one after another: block 0 is the first, and each other one may come next after the one before it
pub record IsPath (plan : PlanOf) (path : List ℕ) : Type 0 where
  pub starts : 0 < length path
  pub first : slice_index path 0 ≡ 0
  pub leads : (place : ℕ) → suc place < length path
      → Contains (next_of (block_at plan (slice_index path place)).leave) (slice_index path (suc place))
