-- The numbers so far.
use Rattle.std.proofs.Common.{◌≡◌, ◌≤◌, ◌<◌, arith, rules, ◌+ℤ◌, ◌-ℤ◌, pos}
use Rattle.std.specs.Prelude.{◌≤ℤ◌, unsigned_abs}
use Rattle.std.proofs.lemmas.Int.{ints, to_z-of_z}
use mir.Val.{SFits, of_z, to_z}
use mir.Syntax.{w64}
use Rattle.mit_ops.specs.declared.kinds.TheConstants.{MAX_RANGE}
use Rattle.mit_apply.proofs.EachRows.{distance, kept_front, memory_stops, next_number, no_numbers, none_yet, numbers_added, too_many_numbers}
use Rattle.mit_apply.proofs.each_row.add_numbers.Goals as goal

pub loop-number-preserved : goal.loop-number-preserved
loop-number-preserved c =
    let low = c.loop-number.invariant.above in
    let test = c.loop-number-test.true in
    let t : to_z w64 (of_z w64 c.args.to) ≡ c.args.to = to_z-of_z w64 c.args.to c.ranges.to in
    let fits : SFits w64 (to_z w64 c.loop-number.number-bits +ℤ pos 1) = search rules in
    let same : to_z w64 (of_z w64 (to_z w64 c.loop-number.number-bits +ℤ pos 1)) ≡ to_z w64 c.loop-number.number-bits +ℤ pos 1 = to_z-of_z w64 (to_z w64 c.loop-number.number-bits +ℤ pos 1) fits in
    record {
      above = omega (arith, ints);
      below = omega (arith, ints);
      rows = next_number _ _ _ _ _ _ _ low same c.loop-number.invariant.rows c.in_ok-add_extended.ensures.ok;
    }

pub returns-clause-ok : goal.returns-clause-ok
returns-clause-ok c =
    let low = c.loop-number.invariant.above in
    let high = c.loop-number.invariant.below in
    let test = c.loop-number-test.false in
    let f : to_z w64 (of_z w64 c.args.from) ≡ c.args.from = to_z-of_z w64 c.args.from c.ranges.from in
    let t : to_z w64 (of_z w64 c.args.to) ≡ c.args.to = to_z-of_z w64 c.args.to c.ranges.to in
    let last : to_z w64 c.loop-number.number-bits ≡ c.args.to = omega (arith, ints) in
    let rises : c.args.from ≤ℤ c.args.to = omega (arith, ints) in
    let count = rw (f, t) at c.abs_diff.ensures in
    let few : unsigned_abs (c.args.to -ℤ c.args.from) ≤ MAX_RANGE = omega (arith, count, c.if-abs_diff.false) in
    numbers_added _ _ _ _ _ _ (distance _ _ rises) few (rw (f, last) at c.loop-number.invariant.rows)

pub returns-then-to-from-clause-ok : goal.returns-then-to-from-clause-ok
returns-then-to-from-clause-ok c =
    let test = c.if-to-from.true in
    let f : to_z w64 (of_z w64 c.args.from) ≡ c.args.from = to_z-of_z w64 c.args.from c.ranges.from in
    let t : to_z w64 (of_z w64 c.args.to) ≡ c.args.to = to_z-of_z w64 c.args.to c.ranges.to in
    let falls : (c.args.to -ℤ c.args.from) ≤ℤ pos 0 = omega (arith, ints) in
    no_numbers _ _ _ _ falls

pub returns-then-abs_diff-clause-err : goal.returns-then-abs_diff-clause-err
returns-then-abs_diff-clause-err c =
    let test = c.if-to-from.false in
    let f : to_z w64 (of_z w64 c.args.from) ≡ c.args.from = to_z-of_z w64 c.args.from c.ranges.from in
    let t : to_z w64 (of_z w64 c.args.to) ≡ c.args.to = to_z-of_z w64 c.args.to c.ranges.to in
    let rises : c.args.from ≤ℤ c.args.to = omega (arith, ints) in
    let count = rw (f, t) at c.abs_diff.ensures in
    let many : MAX_RANGE < unsigned_abs (c.args.to -ℤ c.args.from) = omega (arith, count, c.if-abs_diff.true) in
    too_many_numbers _ _ _ _ (distance _ _ rises) many

pub loop-number-init : goal.loop-number-init
loop-number-init c =
    let test = c.if-to-from.false in
    record {
      above = omega (arith, ints);
      below = omega (arith, ints);
      rows = none_yet c.args.row.now (to_z w64 (of_z w64 c.args.from)) c.args.out.now.items;
    }

pub returns-in_err-add_extended-clause-err : goal.returns-in_err-add_extended-clause-err
returns-in_err-add_extended-clause-err c = memory_stops c.from_residual.result _ c.from_residual.ensures.1

pub returns-in_err-add_extended-clause-kept : goal.returns-in_err-add_extended-clause-kept
returns-in_err-add_extended-clause-kept c =
    kept_front c.from_residual.result _ _ _ _ c.loop-number.invariant.rows c.in_err-add_extended.ensures.err
