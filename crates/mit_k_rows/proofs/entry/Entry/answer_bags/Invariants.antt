use Rattle.std.proofs.Common.{◌≡◌, take}
use Rattle.mit_rows.specs.Bags.{all_rows}
use Rattle.mit_k_rows.specs.Gives.{sum_given}
use Rattle.mit_k_rows.proofs.entry.Entry.answer_bags.Given as goal

abbrev pub invariant-loop-input : goal.invariant-loop-input
invariant-loop-input l = l.answer ≡ sum_given l.self.spec l.captures (all_rows (take l.input l.self.lists))
