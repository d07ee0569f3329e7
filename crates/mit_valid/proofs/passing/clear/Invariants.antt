use Rattle.std.proofs.Common.{◌≡◌, ◌<◌, ℕ, false}
use Rattle.mit_valid.specs.Searched.{is_marked}
use Rattle.mit_valid.proofs.passing.clear.Given as goal

abbrev pub invariant-loop-mark : goal.invariant-loop-mark
invariant-loop-mark l = (block : ℕ) → block < l.mark-index → is_marked l.marks block ≡ false
