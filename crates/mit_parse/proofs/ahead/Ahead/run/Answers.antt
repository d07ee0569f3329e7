use Rattle.std.proofs.Common.{◌≤◌, length, subst}
use Rattle.mit_lex.specs.declared.limits.TheConstants.{MAX_RUN}
use Rattle.mit_script.specs.Grammar.{Kinds, kinds}
use Rattle.mit_script.specs.Reading.{run_of}
use Rattle.mit_parse.proofs.ShortRuns.{run_short}
use Rattle.mit_parse.proofs.ahead.Ahead.run.Goals as goal

pub returns-clause-few : goal.returns-clause-few
returns-clause-few c =
    subst (λ (tokens : Kinds). length (run_of tokens) ≤ MAX_RUN) c.self.view_is (run_short (kinds c.self.inside.tokens.now) c.self.invariant)
