-- A device of the proofs: nobody has to believe it. How many tokens stand in the runs of a text.
use Rattle.std.specs.Prelude.{◌≤◌, [], ◌∷◌, length, ⊤}
use Rattle.mit_lex.specs.declared.limits.TheConstants.{MAX_RUN}
use Rattle.mit_script.specs.Grammar.{Kinds}
use Rattle.mit_script.specs.Reading.{run_of}

-- from each of these tokens on, the run ahead has no more tokens than a run may have
unfoldable pub HasShortRuns : Kinds → Type 0
HasShortRuns [] = ⊤
HasShortRuns (token ∷ rest) = (length (run_of (token ∷ rest)) ≤ MAX_RUN) × HasShortRuns rest
