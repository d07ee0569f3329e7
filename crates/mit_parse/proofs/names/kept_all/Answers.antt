use Rattle.std.proofs.Common.{[]}
use Rattle.mit_parse.proofs.NameBounds.{word-short}
use Rattle.mit_parse.proofs.names.kept_all.Goals as goal

pub kept_one-requires : goal.kept_one-requires
kept_one-requires c = word-short c.args.words.now c.loop-word.word-index (record { ref_ptr = (0, 0); now = [] }) c.loop-word-test.true c.requires
