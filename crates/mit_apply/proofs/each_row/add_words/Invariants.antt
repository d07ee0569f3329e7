use Rattle.std.proofs.Common.{◌≡◌, ◌++◌, map}
use Rattle.mit_apply.proofs.EachRows.{word_rows}
use Rattle.mit_apply.proofs.each_row.add_words.Given as goal

abbrev pub invariant-loop-piece : goal.invariant-loop-piece
invariant-loop-piece l = l.out.items ≡ l.initial.out.items ++ word_rows l.row (map (λ piece. piece.now) l.yielded)
