-- Devices of the proofs: nobody has to believe them. What statements add to blocks that are being built.
use Rattle.std.specs.Prelude.{◌≡◌, ℕ, ◌+◌, Option, List, [], ◌∷◌, ◌++◌, length, slice_set}
use Rattle.mit_ops.specs.declared.kinds.OpSpec.{OpSpec}
use Rattle.mit_ops.specs.declared.leave.Leave.{Leave}
use Rattle.mit_ops.specs.declared.leave.Leave.TheVariants.{Branch, Jump}
use Rattle.mit_cfg.specs.Blocks.{Stretch, step_of}
use Rattle.mit_cfg.specs.Walk.{numbered_block}
use Rattle.mit_cfg.specs.declared.block.Block.{Block}
use Rattle.mit_cut.specs.declared.build.Builder.{Builder}

-- a block is left in another way
abbrev pub with_leave : List Block → ℕ → Leave → List Block
with_leave blocks number leave = slice_set blocks number (record { steps = (numbered_block blocks number).steps; leave = leave })

-- all blocks, where the current one goes on so
abbrev pub built : Builder → Stretch → List Block
built builder after =
    builder.blocks.items
    ++ record { steps = builder.steps.items ++ after.first.steps; leave = after.first.leave } ∷ after.later

-- one step comes to those of the current block
pub record AddsStep (target : Option ℕ) (operator : OpSpec) (args : List ℕ) (old new : Builder) : Type 0 where
  pub blocks : new.blocks.items ≡ old.blocks.items
  pub steps : new.steps.items ≡ old.steps.items ++ step_of old.number target operator args ∷ []
  pub number : new.number ≡ old.number + 1

-- so many statements and blocks come to the old ones, and they are cut so
pub record Lays (count added : ℕ) (onto : ℕ → ℕ → Stretch → Stretch) (old new : Builder) : Type 0 where
  pub number : new.number ≡ old.number + count
  pub size : length new.blocks.items ≡ length old.blocks.items + added
  pub laid : (after : Stretch) → built new after ≡ built old (onto (length old.blocks.items) old.number after)

-- the second part of an `if` goes on to the join, as does the first one, whose last block has this number, and the block with its condition decides between them
pub record Joins (here last : ℕ) (old new : Builder) : Type 0 where
  pub number : new.number ≡ old.number
  pub steps : new.steps.items ≡ []
  pub blocks : new.blocks.items
      ≡ with_leave (with_leave (old.blocks.items ++ record { steps = old.steps.items; leave = Jump (length old.blocks.items + 1) } ∷ [])
      last (Jump (length old.blocks.items + 1))) here (Branch (here + 1) (last + 1))
