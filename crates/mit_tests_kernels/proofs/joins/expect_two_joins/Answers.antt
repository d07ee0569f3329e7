use Rattle.mit_tests_kernels.proofs.joins.expect_two_joins.Goals as goal

pub expect-requires-3 : goal.expect-requires-3
expect-requires-3 g c = c.expect-2.ensures c.begin-b.result (c.feed_again.ensures c.begin-b.result (c.expect.ensures c.begin-b.result (c.feed_both.ensures c.begin-b.result c.begin-b.ensures.held)))
