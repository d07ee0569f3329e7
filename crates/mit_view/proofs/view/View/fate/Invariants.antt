use Rattle.std.proofs.Common.{◌≡◌, ◌∷◌, take}
use Rattle.mit_view.specs.Walks.{next_among}
use Rattle.mit_view.proofs.view.View.fate.Given as goal

abbrev pub invariant-loop-sibling : goal.invariant-loop-sibling
invariant-loop-sibling l = l.dropped ≡ next_among l.self.path (l.source ∷ take l.sibling-index l.siblings) l.from
