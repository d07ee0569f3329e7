use Rattle.std.proofs.Common.{◌≤◌, ◌∙◌, ap, List, length, subst, sym, ℕ}
use Rattle.std.specs.Prelude.{All}
use Rattle.mit_lex.specs.declared.limits.TheConstants.{MAX_SCRIPT}
use Rattle.mit_script.specs.Grammar.{each_once}
use Rattle.mit_parse.specs.Words.{IsShortName, texts_of}
use Rattle.mit_parse.proofs.NameBounds.{variables-bounded}
use Rattle.mit_parse.proofs.names.variables.Goals as goal

pub invariant_of-result : goal.invariant_of-result
invariant_of-result c =
    let same = c.in_ok-numbered.ensures ∙ ap each_once (ap texts_of c.deref.ensures.value ∙ c.in_ok-words.ensures) in
    subst (λ (names : List (List ℕ)). (length names ≤ MAX_SCRIPT) × All IsShortName names) (sym same) (variables-bounded c.args.tokens.now c.requires.few c.requires.valid)
