-- Tokens whose runs are short: the run at the front, and the tokens after the first one.
use Rattle.std.proofs.Common.{◌≤◌, ◌-◌, [], ◌∷◌, List, length, take, drop, arith}
use Rattle.std.proofs.lemmas.List.{take_rest}
use Rattle.mit_lex.specs.declared.limits.TheConstants.{MAX_RUN}
use Rattle.mit_lex.specs.declared.token.Token.{Token}
use Rattle.mit_script.specs.Grammar.{Kinds, kinds}
use Rattle.mit_script.specs.Reading.{run_of}
use Rattle.mit_parse.specs.Runs.{HasShortRuns}

pub run_short : (tokens : Kinds) → HasShortRuns tokens → length (run_of tokens) ≤ MAX_RUN
unfolding HasShortRuns
run_short [] short = omega arith
run_short (token ∷ rest) short = short.0

pub rest_short : (tokens : List Token) → HasShortRuns (kinds tokens) → HasShortRuns (kinds (take (length tokens - 1) (drop 1 tokens)))
unfolding HasShortRuns
rest_short [] short = tt
rest_short (token ∷ rest) short = rw (take_rest (token ∷ rest) 1) short.1
