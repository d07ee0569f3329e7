use Rattle.std.proofs.Common.{drop}
use Rattle.mit_lex.proofs.Digits.{Reads}
use Rattle.mit_lex.proofs.piece.number_of.Given as goal

abbrev pub invariant-loop-byte : goal.invariant-loop-byte
invariant-loop-byte l = Reads l.digits l.value (drop l.byte-index l.digits)
