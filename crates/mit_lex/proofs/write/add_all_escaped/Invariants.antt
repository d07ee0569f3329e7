use Rattle.std.proofs.Common.{◌≡◌, ◌++◌, flat_map, take}
use Rattle.mit_lex.specs.Written.{escaped_as}
use Rattle.mit_lex.proofs.write.add_all_escaped.Given as goal

abbrev pub invariant-loop-byte : goal.invariant-loop-byte
invariant-loop-byte l = l.text.items ≡ l.initial.text.items ++ flat_map escaped_as (take l.byte-index l.bytes)
