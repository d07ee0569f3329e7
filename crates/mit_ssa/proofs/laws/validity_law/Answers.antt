use Rattle.std.proofs.Common.{◌<◌, ◌≤◌, ◌*◌, ℕ, inl, inr, arith}
use Rattle.std.proofs.Math.Nat.{lt_of_not-le}
use Rattle.mit_ssa.proofs.laws.validity_law.Goals as goal

at_most : {most count : ℕ} → ¬ (most < count) → count ≤ most
at_most not_more = let below = lt_of_not-le not_more in omega (arith, below)

few_edges : {count : ℕ} → ¬ (1048576 < 256 * count) → count ≤ 4096
few_edges not_more = let below = lt_of_not-le not_more in omega (arith, below)

pub returns : goal.returns
returns c = λ script types formed accepted small. record {
  ranges = c.structure_law.ensures.ranges script types formed accepted;
  phis = c.structure_law.ensures.phis script types formed accepted;
  order = c.structure_law.ensures.order script types formed accepted;
  leaves = c.structure_law.ensures.leaves script types formed accepted;
  branches = c.types_law.ensures.branches script types formed accepted;
  jumps = c.structure_law.ensures.jumps script types formed accepted;
  reached = c.structure_law.ensures.reached script types formed accepted;
  inputs = c.structure_law.ensures.inputs script types formed accepted;
  operands = c.definitions_law.ensures.operands script types formed accepted;
  upward = c.definitions_law.ensures.upward script types formed accepted;
  places = c.definitions_law.ensures.places script types formed accepted;
  writes = c.structure_law.ensures.writes script types formed accepted;
  types = c.types_law.ensures.types script types formed accepted;
  routes = c.types_law.ensures.routes script types formed accepted;
  limits = c.structure_law.ensures.limits script types formed accepted
      (at_most (λ more. small (inl more))) (few_edges (λ more. small (inr more)));
}
