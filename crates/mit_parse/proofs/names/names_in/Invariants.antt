use Rattle.std.proofs.Common.{◌≡◌, take}
use Rattle.mit_script.specs.Grammar.{names_in}
use Rattle.mit_script.specs.Grammar.{kinds}
use Rattle.mit_parse.specs.Words.{texts_of}
use Rattle.mit_parse.proofs.names.names_in.Given as goal

abbrev pub invariant-loop-token : goal.invariant-loop-token
invariant-loop-token l = texts_of l.words.items ≡ names_in (kinds (take l.token-index l.tokens))
