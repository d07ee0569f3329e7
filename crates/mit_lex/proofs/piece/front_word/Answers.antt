use Rattle.mit_lex.proofs.Runs.{word_ascii}
use Rattle.mit_lex.proofs.piece.front_word.Goals as goal

pub returns-clause-ascii : goal.returns-clause-ascii
returns-clause-ascii c = word_ascii c.word_len.result c.args.text.now c.word_len.ensures.value
