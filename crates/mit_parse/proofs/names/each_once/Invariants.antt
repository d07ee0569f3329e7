use Rattle.std.proofs.Common.{◌≡◌, take}
use Rattle.mit_script.specs.Grammar.{each_once}
use Rattle.mit_parse.specs.Words.{texts_of}
use Rattle.mit_parse.proofs.names.each_once.Given as goal

abbrev pub invariant-loop-word : goal.invariant-loop-word
invariant-loop-word l = texts_of l.names.keys ≡ each_once (texts_of (take l.word-index l.words))
