use Rattle.std.proofs.Common.{◌≡◌, ◌++◌, take}
use Rattle.mit_print.specs.Printed.{block_lines, lines_text}
use Rattle.mit_print.proofs.printed.+add_all.Given as goal

abbrev pub invariant-add_all-loop-stmt : goal.invariant-add_all-loop-stmt
invariant-add_all-loop-stmt l =
    l.text.items ≡ l.initial.text.items ++ lines_text (block_lines l.names (take l.stmt-index l.stmts) l.indent)
