-- Tokens that are printed in place of others: they have the same names, and are tokens of a text where those are.
use Rattle.std.proofs.Common.{◌≡◌, ◌∷◌, ◌++◌, refl}
use Rattle.std.specs.List.{AllByRecursion as Each}
use Rattle.mit_lex.specs.Valid.{IsToken}
use Rattle.mit_lex.specs.declared.token.TokenKind.{TokenKind}
use Rattle.mit_script.specs.Grammar.{Kinds, names_in}
use Rattle.mit_grammar.specs.NamesOnce.{names_in-append}
use Rattle.mit_print.proofs.PrintNames.{each_append, each_back, each_front, names_in-cons}

-- the tokens have the names of those, and can be a text's where those can
pub record Same (kinds tokens : Kinds) : Type 0 where
  pub names : names_in kinds ≡ names_in tokens
  pub valid : Each IsToken tokens → Each IsToken kinds

pub same_refl : {tokens : Kinds} → Same tokens tokens
same_refl = record { names = refl; valid = λ valid. valid }

pub same_cons : {kind : TokenKind} {kinds tokens : Kinds} → Same kinds tokens → Same (kind ∷ kinds) (kind ∷ tokens)
same_cons {kind = kind} {kinds = kinds} {tokens = tokens} same = record {
  names = rw (names_in-cons kind kinds, names_in-cons kind tokens, same.names) refl;
  valid = λ valid. (valid.0, same.valid valid.1);
}

pub same_append : {kinds tokens others more : Kinds} → Same kinds tokens → Same others more → Same (kinds ++ others) (tokens ++ more)
same_append {kinds = kinds} {tokens = tokens} {others = others} {more = more} same later = record {
  names = rw (names_in-append kinds others, names_in-append tokens more, same.names, later.names) refl;
  valid = λ valid.
      each_append IsToken kinds others (same.valid (each_front IsToken tokens more valid)) (later.valid (each_back IsToken tokens more valid));
}

-- tokens like those spell the same
pub record Reprint (Spelled : Kinds → Type 0) (kinds tokens : Kinds) : Type 0 where
  pub spelled : Spelled kinds
  pub same : Same kinds tokens

pub reprint : {Spelled : Kinds → Type 0} {kinds tokens : Kinds} → Spelled kinds → Same kinds tokens → Reprint Spelled kinds tokens
reprint spelled same = record { spelled = spelled; same = same }
