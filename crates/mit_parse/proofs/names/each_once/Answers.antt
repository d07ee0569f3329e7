use Rattle.std.proofs.Common.{[], ap}
use Rattle.mit_script.specs.Grammar.{each_once}
use Rattle.mit_parse.specs.Words.{texts_of}
use Rattle.mit_parse.proofs.Numbering.{once-more}
use Rattle.mit_parse.proofs.names.each_once.Goals as goal

pub loop-word-init : goal.loop-word-init
unfolding each_once
loop-word-init c = ap texts_of c.new-names.ensures.empty

pub loop-word-preserved : goal.loop-word-preserved
loop-word-preserved c =
    rw c.in_ok-insert.ensures.keys (once-more c.loop-word.names.keys c.args.words.now c.loop-word.word-index (record { ref_ptr = (0, 0); now = [] }) c.loop-word-test.true c.loop-word.invariant)
