use Rattle.std.proofs.Common.{◌≡◌, ◌+◌, ◌*◌, ◌-◌}
use Rattle.mit_script.specs.Grammar.{number_in}
use Rattle.mit_script.specs.Reading.{chain_from, expression, ranked}
use Rattle.mit_parse.proofs.expr.+expression.Given as goal

abbrev pub decreases-expression : goal.decreases-expression
decreases-expression l = 40 * l.depth

abbrev pub decreases-enclosed_at : goal.decreases-enclosed_at
decreases-enclosed_at l = 40 * l.depth + 2

abbrev pub decreases-called_at : goal.decreases-called_at
decreases-called_at l = 40 * l.depth + 4

abbrev pub decreases-by_word : goal.decreases-by_word
decreases-by_word l = 40 * l.depth + 6

abbrev pub decreases-primary : goal.decreases-primary
decreases-primary l = 40 * l.depth + 8

abbrev pub decreases-ranked : goal.decreases-ranked
decreases-ranked l = 40 * l.depth + 10 + 3 * l.below

abbrev pub decreases-chain_from : goal.decreases-chain_from
decreases-chain_from l = 40 * l.depth + 10 + 3 * l.below + 1

abbrev pub decreases-comparison : goal.decreases-comparison
decreases-comparison l = 40 * l.depth + 10 + 3 * l.below + 1

abbrev pub decreases-negation : goal.decreases-negation
decreases-negation l = 40 * l.depth + 10 + 3 * l.below + 1

abbrev pub decreases-chain : goal.decreases-chain
decreases-chain l = 40 * l.depth + 10 + 3 * l.below + 2

abbrev pub invariant-chain_from-loop : goal.invariant-chain_from-loop
invariant-chain_from-loop l =
    let operand = ranked (expression (number_in l.captured) l.depth) (number_in l.captured) l.depth l.below in
    chain_from operand (6 - l.below) (l.depth - l.counter) l.left l.rest ≡ chain_from operand (6 - l.below) l.depth l.initial.left l.fn.tokens
