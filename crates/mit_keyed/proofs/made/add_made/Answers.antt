-- The fault of a total, at the key.
use Rattle.std.proofs.Common.{[], ◌∷◌, ◌++◌, Ok}
use Rattle.mit_ops.specs.EachRow.{given}
use Rattle.mit_ops.specs.Totals.{aggregate}
use Rattle.mit_keyed.proofs.Making.{made_due}
use Rattle.mit_keyed.proofs.made.add_made.Goals as goal

pub returns-in-Err : goal.returns-in-Err
returns-in-Err c =
    let has = c.requires.1 in
    let key = c.args.key.now in
    rw (made_due key c.args.total.now has.0 has.1 has.2) at (c.add_stop.ensures
    (given (aggregate has.0 has.1) (λ value. Ok ((key ++ value ∷ []) ∷ []))) (c.in-Err.ensures has.0 has.1 has.2 (λ value. Ok ((key ++ value ∷ []) ∷ []))))
