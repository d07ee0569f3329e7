use Rattle.std.proofs.Common.{Bor, List, ℕ, Some}
use Rattle.mit_shelf.proofs.ParseFacts.{Progress}
use Rattle.mit_shelf.proofs.rows.parse_part.Given as goal

abbrev pub invariant-loop-number : goal.invariant-loop-number
invariant-loop-number l = Progress (λ (s : Bor (List ℕ)). Some s.now) l.types l.part l.parts l.fn.bytes l.reader l.rows.items l.number
