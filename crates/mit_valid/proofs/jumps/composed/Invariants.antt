use Rattle.std.proofs.Common.{◌≡◌, map, take}
use Rattle.std.specs.Prelude.{slice_index}
use Rattle.mit_valid.proofs.jumps.composed.Given as goal

abbrev pub invariant-loop-block : goal.invariant-loop-block
invariant-loop-block l = l.table.items ≡ map (λ block. slice_index l.second block) (take l.block-index l.first)
