use Rattle.std.proofs.Common.{◌≡◌, ◌++◌, flat_map, take}
use Rattle.mit_print.specs.Printed.{spaced}
use Rattle.mit_print.specs.PrintedTokens.{column_tokens, comma}
use Rattle.mit_print.proofs.printed_tokens.add_columns.Given as goal

abbrev pub invariant-loop-column : goal.invariant-loop-column
invariant-loop-column l =
    l.text.items ≡ l.initial.text.items ++ spaced (flat_map (λ column. comma ++ column_tokens column) (take l.column-index l.more))
