use Rattle.std.proofs.Common.{drop}
use Rattle.mit_rows.proofs.DigitFacts.{Reads}
use Rattle.mit_rows.proofs.integers.parse_digits.Given as goal

abbrev pub invariant-loop-byte : goal.invariant-loop-byte
invariant-loop-byte l = Reads l.digits l.value (drop l.byte-index l.digits)
