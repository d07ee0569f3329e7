use Rattle.std.proofs.Common.{◌≡◌, length, arith}
use Rattle.mit_tests_kernels.proofs.Numbers.{bags_count, inputs_fit}
use Rattle.mit_tests_kernels.proofs.given.expect_fits.Goals as goal

pub result_type-requires-clause-count : goal.result_type-requires-clause-count
result_type-requires-clause-count g c =
    let long : length c.bags_of-bags.result.items ≡ length c.split_at.result.0.now = bags_count (λ rows. rows.items) c.bags_of-bags.result.items c.split_at.result.0.now c.bags_of-bags.ensures.rows in
    rw (c.deref.ensures.value) (omega arith)

pub returns-clause-fits : goal.returns-clause-fits
returns-clause-fits g c =
    let long : length c.bags_of-bags.result.items ≡ length c.split_at.result.0.now = bags_count (λ rows. rows.items) c.bags_of-bags.result.items c.split_at.result.0.now c.bags_of-bags.ensures.rows in (
      c.deref.result.now,
      c.deref-2.result.now,
      c.in-Ok._type,
      record {
        count = rw (c.deref.ensures.value) (omega arith);
        wide = rw (c.deref.ensures.value) c.bags_of-bags.ensures.wide;
        typed = c.in-Ok.ensures.typed;
        rows = rw (c.deref.ensures.value, c.deref-2.ensures.value) (inputs_fit (λ rows. rows.items) c.args.lists.now _ _ _ c.bags_of-bags.result.items c.int_types-captures.result.items _ c.split_at.ensures.front c.split_at.ensures.back
            c.bags_of-bags.ensures.rows (c.all_numbers-numbers.ensures.0 c.if-not-numbers.false) c.int_types-captures.ensures (omega arith));
      },
    )
