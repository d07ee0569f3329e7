use Rattle.std.proofs.Common.{◌≡◌, ◌++◌, take, drop}
use Rattle.mit_script.specs.Reading.{run_of}
use Rattle.mit_script.specs.Grammar.{kinds}
use Rattle.mit_parse.proofs.ahead.run_in.Given as goal

-- the tokens so far are of the run
abbrev pub invariant-loop-token : goal.invariant-loop-token
invariant-loop-token l =
    (l.size ≡ l.token-index) × (run_of (kinds l.tokens) ≡ kinds (take l.size l.tokens) ++ run_of (kinds (drop l.size l.tokens)))
