use Rattle.mit_ssa.proofs.Numbered.{Numbers}
use Rattle.mit_ssa.proofs.number.numbered.Given as goal

abbrev pub invariant-loop-block : goal.invariant-loop-block
invariant-loop-block l = Numbers l.yielded l.lists
