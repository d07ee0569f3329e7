use Rattle.std.proofs.Common.{◌-◌, ◌≤◌, length}
use Rattle.mit_lex.proofs.ScanFacts.{Reading}
use Rattle.mit_lex.proofs.lexer.scan.Given as goal

abbrev pub invariant-loop-at : goal.invariant-loop-at
invariant-loop-at l = Reading l.text l.tokens.items l.limits.run l.limits.braces l.at × (length l.tokens.items ≤ l.at)

abbrev pub decreases-loop-at : goal.decreases-loop-at
decreases-loop-at l = length l.text - l.at
