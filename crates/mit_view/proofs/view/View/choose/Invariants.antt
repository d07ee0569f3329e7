use Rattle.std.proofs.Common.{◌≡◌, take}
use Rattle.mit_path.specs.Choice.{last_below}
use Rattle.mit_view.proofs.view.View.choose.Given as goal

abbrev pub invariant-loop-number : goal.invariant-loop-number
invariant-loop-number l = l.best ≡ last_below l.self.path (take l.number l.operands) l.bound
