-- Devices of the proofs: nobody has to believe them. What blocks add to the lists of a plan.
use Rattle.std.specs.Prelude.{◌≡◌, ◌≤◌, ℕ, List, [], ◌∷◌, ◌++◌, length}
use Rattle.mit_plan.specs.declared.plan.TheConstants.{MAX_EDGES, MAX_OPS}
use Rattle.mit_ssa.specs.PlanFor.{edges_in, operator_edges, ops_in}
use Rattle.mit_ssa.specs.declared.block.Block.{Block}
use Rattle.mit_ssa.specs.declared.block.Operator.{Operator}
use Rattle.mit_ssa.specs.declared.number.Lists.{Lists}

pub record AddsOperator (block index : ℕ) (operator : Operator) (old new : Lists) : Type 0 where
  pub blocks : new.blocks.items ≡ old.blocks.items
  pub ops : new.ops.items ≡ old.ops.items
      ++ record { block = block; index = index; statement = operator.statement; spec = operator.spec; phi = operator.phi } ∷ []
  pub edges : new.edges.items ≡ old.edges.items ++ edges_in (length old.ops.items) 0 operator.inputs
  pub few : length new.edges.items ≤ MAX_EDGES

pub record AddsOperators (block : ℕ) (operators : List Operator) (old new : Lists) : Type 0 where
  pub blocks : new.blocks.items ≡ old.blocks.items
  pub ops : new.ops.items ≡ old.ops.items ++ ops_in block 0 operators
  pub edges : new.edges.items ≡ old.edges.items ++ operator_edges (length old.ops.items) operators
  pub few : length new.edges.items ≤ MAX_EDGES

pub record AddsBlock (block : Block) (old new : Lists) : Type 0 where
  pub blocks : new.blocks.items ≡ old.blocks.items
      ++ record { first = length old.ops.items; count = length block.operators; leave = block.leave } ∷ []
  pub ops : new.ops.items ≡ old.ops.items ++ ops_in (length old.blocks.items) 0 block.operators
  pub edges : new.edges.items ≡ old.edges.items ++ operator_edges (length old.ops.items) block.operators
  pub few_ops : length new.ops.items ≤ MAX_OPS
  pub few : length new.edges.items ≤ MAX_EDGES
