use Rattle.std.proofs.Common.{[]}
use Rattle.mit_parse.proofs.Numbering.{numbers-more}
use Rattle.mit_parse.proofs.names.add_numbers.Goals as goal

pub loop-word-preserved : goal.loop-word-preserved
loop-word-preserved c =
    rw c.in_ok-push.ensures.items (numbers-more c.args.numbers.now.items c.loop-word.numbers.items c.args.names.now c.args.words.now c.loop-word.word-index (record { ref_ptr = (0, 0); now = [] }) c.variable.result c.loop-word-test.true c.variable.ensures c.loop-word.invariant)
