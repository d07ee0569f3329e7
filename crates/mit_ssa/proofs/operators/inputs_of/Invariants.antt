use Rattle.std.proofs.Common.{◌≡◌, ◌++◌, drop}
use Rattle.mit_ssa.specs.Weaving.{looked}
use Rattle.mit_ssa.specs.Woven.{inputs_from}
use Rattle.mit_ssa.proofs.operators.inputs_of.Given as goal

abbrev pub invariant-loop-input : goal.invariant-loop-input
invariant-loop-input l =
    l.inputs.items ++ inputs_from l.types (looked l.defined) l.op l.input (drop l.input l.args) ≡ inputs_from l.types (looked l.defined) l.op 0 l.args
