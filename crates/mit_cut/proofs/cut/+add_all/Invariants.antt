-- What is built so far and what is left give the whole.
use Rattle.mit_cut.proofs.Counted.{Half}
use Rattle.mit_cut.proofs.cut.+add_all.Given as goal

abbrev pub invariant-add_all-loop-stmt : goal.invariant-add_all-loop-stmt
invariant-add_all-loop-stmt l = Half l.block l.stmt-index l.fn.before l.built
