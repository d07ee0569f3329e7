use Rattle.std.proofs.Common.{◌≡◌, ◌++◌, flat_map, take}
use Rattle.mit_print.specs.Printed.{spaced}
use Rattle.mit_print.specs.PrintedTokens.{comma, expr_tokens}
use Rattle.mit_print.proofs.printed_tokens.add_listed_exprs.Given as goal

abbrev pub invariant-loop-expr : goal.invariant-loop-expr
invariant-loop-expr l =
    l.text.items ≡ l.initial.text.items ++ spaced (flat_map (λ expr. comma ++ expr_tokens l.names l.captured expr) (take l.expr-index l.more))
