use Rattle.std.proofs.Common.{◌≡◌, map, take}
use Rattle.mit_valid.specs.Jumping.{next_after}
use Rattle.mit_valid.proofs.jumps.stepped.Given as goal

abbrev pub invariant-loop-block : goal.invariant-loop-block
invariant-loop-block l = l.longer.items ≡ map (next_after l.plan) (take l.block-index l.table)
