use Rattle.std.proofs.Common.{◌<◌, ◌≤◌, arith, false, length, ⊎_elim}
use Rattle.std.proofs.lemmas.Bool.{cases_lt}
use Rattle.std.proofs.lemmas.List.{get_or_past}
use Rattle.mit_valid.proofs.passing.clear.Goals as goal

pub returns : goal.returns
returns c = λ block.
    let marks = c.loop-mark.marks in
    ⊎_elim (λ (below : block < length marks). c.loop-mark.invariant block (omega arith)) (λ (past : length marks ≤ block). get_or_past marks block false past)
    (cases_lt block (length marks))
