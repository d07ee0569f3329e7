use Rattle.mit_ssa.specs.Woven.{woven_blocks}
use Rattle.mit_ssa.proofs.StructureBlocks.{blocks_reached, jumps_end, leaves_name_blocks}
use Rattle.mit_ssa.proofs.StructureEdges.{edges_in_order}
use Rattle.mit_ssa.proofs.StructureInputs.{inputs_have_edges, phis_copy, writes_give_nothing}
use Rattle.mit_ssa.proofs.StructureLimits.{within_limits}
use Rattle.mit_ssa.proofs.StructureLists.{ranges_are}
use Rattle.mit_ssa.proofs.laws.structure_law.Goals as goal

pub returns : goal.returns
returns c = record {
  ranges = λ script types formed accepted. ranges_are (woven_blocks script types);
  phis = λ script types formed accepted. phis_copy script types formed;
  order = λ script types formed accepted. edges_in_order (woven_blocks script types);
  leaves = λ script types formed accepted. leaves_name_blocks script types;
  jumps = λ script types formed accepted. jumps_end script types;
  reached = λ script types formed accepted. blocks_reached script types;
  inputs = inputs_have_edges;
  writes = writes_give_nothing;
  limits = λ script types formed accepted. within_limits script types;
}
