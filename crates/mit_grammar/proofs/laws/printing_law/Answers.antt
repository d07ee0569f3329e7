use Rattle.std.proofs.lemmas.List.Elements.{All-map}
use Rattle.mit_lex.specs.Valid.{IsToken}
use Rattle.mit_script.specs.Grammar.{kinds}
use Rattle.mit_grammar.proofs.laws.printing_law.Goals as goal

pub returns : goal.returns
returns c = λ text script is. record {
  tokens = kinds is.tokens;
  valid = All-map IsToken (λ token. token.kind) is.tokens (c.validity_law.ensures text is.tokens is.read);
  spelled = is.spelled;
}
