use Rattle.std.proofs.Common.{◌∙◌, arith}
use Rattle.mit_lex.proofs.Digits.{none_beyond, reads_digit, reads_more, some_at_end}
use Rattle.mit_lex.proofs.piece.number_of.Goals as goal

pub with_digit-requires : goal.with_digit-requires
with_digit-requires c = reads_digit c.args.digits.now c.loop-byte.value c.loop-byte.byte-index (omega arith) c.loop-byte.invariant

pub returns-in_err-value : goal.returns-in_err-value
returns-in_err-value c =
    c.from_residual.ensures
    ∙ none_beyond c.args.digits.now c.loop-byte.value c.loop-byte.byte-index (omega arith) c.loop-byte.invariant c.in_err-value.ensures.none

pub loop-byte-preserved : goal.loop-byte-preserved
loop-byte-preserved c =
    let some = c.in_ok-value.ensures.some in
    reads_more c.args.digits.now c.loop-byte.value _ c.loop-byte.byte-index (omega arith) c.loop-byte.invariant some.0 some.1

pub returns : goal.returns
returns c = some_at_end c.args.digits.now c.loop-byte.value c.loop-byte.byte-index (omega arith) c.loop-byte.invariant
