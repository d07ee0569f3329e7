use Rattle.std.proofs.Common.{◌≡◌, take}
use Rattle.mit_parse.specs.Words.{texts_of}
use Rattle.mit_parse.proofs.names.kept_all.Given as goal

abbrev pub invariant-loop-word : goal.invariant-loop-word
invariant-loop-word l = l.names.items ≡ texts_of (take l.word-index l.words)
