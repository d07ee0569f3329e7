use Rattle.mit_plan.specs.Valid.{source_blocks}
use Rattle.mit_valid.proofs.Stamped.{Stamped}
use Rattle.mit_valid.proofs.inputs.are_apart.Given as goal

abbrev pub invariant-loop-number : goal.invariant-loop-number
invariant-loop-number l = Stamped l.own l.stamp (source_blocks l.plan l.op) l.number-index l.stamps
