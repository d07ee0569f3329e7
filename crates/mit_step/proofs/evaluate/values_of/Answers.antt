use Rattle.std.proofs.Common.{◌∙◌}
use Rattle.mit_step.proofs.Inputs.{value_at}
use Rattle.mit_step.proofs.evaluate.values_of.Goals as goal

pub value_of-requires : goal.value_of-requires
value_of-requires c =
    value_at c.args.store.now c.args.args.now c.loop-variable.variable-index c.deref.result.now c.loop-variable-test.true c.requires.values (c.deref.ensures ∙ c.get.ensures)
