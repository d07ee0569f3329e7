-- What is counted so far and what is left give the whole.
use Rattle.std.proofs.Common.{◌≡◌, ◌+◌, drop}
use Rattle.mit_script.specs.Trees.{count_of_all}
use Rattle.mit_step.proofs.count.+count.Given as goal

abbrev pub invariant-count_all-loop-stmt : goal.invariant-count_all-loop-stmt
invariant-count_all-loop-stmt l = l.count + count_of_all (drop l.stmt-index l.block) ≡ count_of_all l.block
