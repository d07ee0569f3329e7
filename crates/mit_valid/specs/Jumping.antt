-- Devices of the proofs: nobody has to believe them. Where jumps alone lead.
use Rattle.std.specs.Prelude.{◌≡◌, ◌<◌, ◌+◌, ℕ, suc, List, length, All, Bool, false, slice_index}
use Rattle.mit_ops.specs.declared.leave.Leave.{Leave}
use Rattle.mit_ops.specs.declared.leave.Leave.TheVariants.{Jump}
use Rattle.mit_plan.specs.Plans.{EachBlock, PlanOf, block_at}
use Rattle.mit_plan.specs.Valid.{by_leave, settles}

-- the block that a jump names, or else this one
abbrev pub jumped : ℕ → Leave → ℕ
jumped block (Jump next) = next
jumped block _ = block

-- where one jump leads from a block
abbrev pub next_after : PlanOf → ℕ → ℕ
next_after plan block = jumped block (block_at plan block).leave

-- whether a block isn't left by a jump
abbrev pub is_no_jump : Leave → Bool
is_no_jump = by_leave (λ next. false)

-- so many jumps lead from a block to another one, or fewer to one that isn't left by a jump
abbrev pub JumpsTo : PlanOf → ℕ → ℕ → ℕ → Type 0
JumpsTo plan steps from to = (more : ℕ) → settles plan (steps + suc more) from ≡ settles plan (suc more) to

-- a table of the blocks to which so many jumps lead, one for each block
pub record AreLed (plan : PlanOf) (steps : ℕ) (table : List ℕ) : Type 0 where
  pub many : length table ≡ length plan.blocks
  pub within : All (λ block. block < length plan.blocks) table
  pub leads : EachBlock plan (λ block. JumpsTo plan steps block (slice_index table block))
