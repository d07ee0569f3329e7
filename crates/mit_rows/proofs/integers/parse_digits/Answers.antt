use Rattle.std.proofs.Common.{◌∙◌, arith, rules}
use Rattle.mit_rows.proofs.DigitFacts.{none_of_empty, none_of_large, reads_more, reads_none, reads_start, some_of_all}
use Rattle.mit_rows.proofs.integers.parse_digits.Goals as goal

pub returns-then-is_empty-clause-value : goal.returns-then-is_empty-clause-value
returns-then-is_empty-clause-value c = none_of_empty c.args.most c.args.digits.now (search rules)

pub loop-byte-init : goal.loop-byte-init
loop-byte-init c = reads_start c.args.digits.now

pub returns-in_err-value-clause-value : goal.returns-in_err-value-clause-value
returns-in_err-value-clause-value c =
    c.from_residual.ensures
    ∙ reads_none c.args.most c.args.digits.now c.loop-byte.value c.loop-byte.byte-index (omega arith) (omega arith) c.loop-byte.invariant c.in_err-value.ensures.none

pub loop-byte-preserved : goal.loop-byte-preserved
loop-byte-preserved c =
    let some = c.in_ok-value.ensures.some in
    rw some.1 (reads_more c.args.digits.now c.loop-byte.value c.loop-byte.byte-index (omega arith) c.loop-byte.invariant some.0)

pub returns-then-value-most-clause-value : goal.returns-then-value-most-clause-value
returns-then-value-most-clause-value c =
    some_of_all c.args.most c.args.digits.now c.loop-byte.value c.loop-byte.byte-index (grind arith) (omega arith) c.loop-byte.invariant (omega arith)

pub returns-else-value-most-clause-value : goal.returns-else-value-most-clause-value
returns-else-value-most-clause-value c =
    none_of_large c.args.most c.args.digits.now c.loop-byte.value c.loop-byte.byte-index (omega arith) c.loop-byte.invariant (omega arith)
