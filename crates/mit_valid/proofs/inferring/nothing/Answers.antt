-- One more that is not inferred.
use Rattle.std.proofs.Common.{None, Option}
use Rattle.std.proofs.lemmas.Grind.{replicate_next}
use Rattle.mit_ops.specs.declared.types.VarType.{VarType}
use Rattle.mit_valid.proofs.inferring.nothing.Goals as goal

pub loop-op-preserved : goal.loop-op-preserved
loop-op-preserved c =
    let next = replicate_next {X = Option VarType} c.loop-op._op None in
    cc (c.in_ok-push.ensures.items)
