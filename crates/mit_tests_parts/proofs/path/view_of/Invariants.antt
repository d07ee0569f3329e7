use Rattle.std.proofs.Common.{◌≡◌}
use Rattle.mit_tests_parts.proofs.path.view_of.Given as goal

abbrev pub invariant-loop-block : goal.invariant-loop-block
invariant-loop-block g l = l.view.blocks ≡ 8
