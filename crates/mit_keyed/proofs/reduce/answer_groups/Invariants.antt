use Rattle.std.proofs.Common.{◌≡◌, map}
use Rattle.std.specs.Map.Iter.{deref_pair}
use Rattle.mit_ops.specs.Answers.{over}
use Rattle.mit_keyed.specs.Groups.{made_at}
use Rattle.mit_keyed.proofs.reduce.answer_groups.Given as goal

abbrev pub invariant-loop-key : goal.invariant-loop-key
invariant-loop-key l = l.answer ≡ over made_at (map deref_pair l.yielded)
