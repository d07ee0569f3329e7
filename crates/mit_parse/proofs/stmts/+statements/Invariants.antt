use Rattle.std.proofs.Common.{◌≡◌, ◌+◌, ◌*◌, ◌-◌}
use Rattle.mit_script.specs.Reading.{statements, with_front}
use Rattle.mit_parse.proofs.stmts.+statements.Given as goal

abbrev pub decreases-statements : goal.decreases-statements
decreases-statements l = 8 * l.left

abbrev pub decreases-statement : goal.decreases-statement
decreases-statement l = 8 * l.left + 6

abbrev pub decreases-branch : goal.decreases-branch
decreases-branch l = 8 * l.left + 4

abbrev pub decreases-repeated : goal.decreases-repeated
decreases-repeated l = 8 * l.left + 4

abbrev pub decreases-else_at : goal.decreases-else_at
decreases-else_at l = 8 * l.left + 3

abbrev pub decreases-block_at : goal.decreases-block_at
decreases-block_at l = 8 * l.left + 2

abbrev pub invariant-statements-loop-turn : goal.invariant-statements-loop-turn
invariant-statements-loop-turn l =
    with_front l.found.items (statements l.names l.most (l.left - l.turn) l.rest) ≡ statements l.names l.most l.left l.fn.tokens
