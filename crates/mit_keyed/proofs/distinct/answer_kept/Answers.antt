use Rattle.mit_ops.specs.Answers.{over}
use Rattle.mit_keyed.proofs.distinct.answer_kept.Goals as goal

pub loop-key-init : goal.loop-key-init
unfolding over
loop-key-init c = c.new-answer.ensures
