use Rattle.std.proofs.Common.{◌≡◌, ◌++◌, flat_map, take}
use Rattle.mit_print.specs.Printed.{spaced}
use Rattle.mit_print.specs.PrintedTokens.{comma, type_tokens}
use Rattle.mit_print.proofs.printed_tokens.add_listed_types.Given as goal

abbrev pub invariant-loop-is : goal.invariant-loop-is
invariant-loop-is l =
    l.text.items ≡ l.initial.text.items ++ spaced (flat_map (λ is. comma ++ type_tokens is) (take l.is-index l.more))
