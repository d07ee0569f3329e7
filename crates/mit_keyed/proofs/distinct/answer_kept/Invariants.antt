use Rattle.std.proofs.Common.{◌≡◌, [], ◌∷◌, map, Ok}
use Rattle.std.specs.Map.Iter.{deref}
use Rattle.mit_ops.specs.Answers.{over}
use Rattle.mit_keyed.proofs.distinct.answer_kept.Given as goal

abbrev pub invariant-loop-key : goal.invariant-loop-key
invariant-loop-key l = l.answer ≡ over (λ row. Ok (row ∷ [])) (map deref l.yielded)
