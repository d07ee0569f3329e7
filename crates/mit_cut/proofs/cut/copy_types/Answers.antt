use Rattle.std.proofs.Common.{◌∙◌}
use Rattle.std.proofs.lemmas.List.{take_all}
use Rattle.mit_cut.proofs.cut.copy_types.Goals as goal

pub returns : goal.returns
returns c = c.from_vec.ensures ∙ c.loop-one.invariant ∙ take_all c.loop-one.one-index c.args.types.now c.loop-one-test.false
