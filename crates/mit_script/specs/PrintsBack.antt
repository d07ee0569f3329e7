-- What a printed script is read as.
use Rattle.std.specs.Prelude.{◌≡◌, ◌≤◌, ℕ, List, length, map, All, true, None}
use Rattle.std.specs.Str.{is_utf8}
use Rattle.mit_lex.specs.declared.limits.TheConstants.{MAX_SCRIPT}
use Rattle.mit_lex.specs.Limits.{first_too_many}
use Rattle.mit_lex.specs.Tokens.{scanned}
use Rattle.mit_lex.specs.Valid.{IsToken}
use Rattle.mit_lex.specs.declared.token.Token.{Token}
use Rattle.mit_script.specs.Grammar.{Kinds, Spells}
use Rattle.mit_script.specs.declared.tree.Script.{Script}

-- some tokens that a text can have spell the script
pub record CanBeSpelled (script : Script) : Type 0 where
  pub tokens : Kinds
  pub valid : All IsToken tokens
  pub spelled : Spells script tokens

-- the tokens into which a text is cut, whatever its size, and however many stand in a run or open a block
abbrev pub cut : List ℕ → List Token
cut text = (scanned 0 0 text).tokens

-- the text is UTF-8, and is cut into tokens to its end, which spell the script
pub record PrintsBack (script : Script) (text : List ℕ) : Type 0 where
  pub utf8 : is_utf8 text ≡ true
  pub whole : (scanned 0 0 text).stop ≡ None
  pub spelled : Spells script (map (λ token. token.kind) (cut text))

-- the text is short enough for a script, and so are its runs of tokens and the blocks in one another
pub record KeepsLimits (text : List ℕ) : Type 0 where
  pub size : length text ≤ MAX_SCRIPT
  pub runs : first_too_many 0 0 (cut text) ≡ None
