use Rattle.std.proofs.Common.{◌≡◌, ◌++◌, map, take}
use Rattle.mit_script.specs.Grammar.{number_in}
use Rattle.mit_parse.specs.Words.{texts_of}
use Rattle.mit_parse.proofs.names.add_numbers.Given as goal

abbrev pub invariant-loop-word : goal.invariant-loop-word
invariant-loop-word l = l.numbers.items ≡ l.initial.numbers.items ++ map (number_in l.names) (texts_of (take l.word-index l.words))
