-- How many tokens may stand in a run, and how many braces may be open.
use Rattle.std.specs.Prelude.{ℕ, ◌+◌, ◌-◌, List, [], ◌∷◌, Bool, false, not, nat_le, ◌==◌, ◌&&◌, ◌||◌, if◌then◌else◌, Option, Some, None}
use Rattle.mit_lex.specs.declared.limits.TheConstants.{MAX_OPEN, MAX_RUN}
use Rattle.mit_lex.specs.declared.symbol.TheConstants.{LEFT_BRACE, RIGHT_BRACE, SEMICOLON}
use Rattle.mit_lex.specs.declared.token.Token.{Token}
use Rattle.mit_lex.specs.declared.token.TokenKind.{TokenKind}
use Rattle.mit_lex.specs.declared.token.TokenKind.TheVariants.{Name, Number, Column, Text, Symbol, Keyword}

-- the token is the symbol with this place in the table
abbrev pub is_symbol : ℕ → TokenKind → Bool
is_symbol wanted (Symbol place) = place == wanted
is_symbol wanted (Name word) = false
is_symbol wanted (Number value) = false
is_symbol wanted (Column value) = false
is_symbol wanted (Text bytes) = false
is_symbol wanted (Keyword place) = false

-- `{`, and `}`
abbrev pub opens : TokenKind → Bool
opens kind = is_symbol LEFT_BRACE kind

abbrev pub closes : TokenKind → Bool
closes kind = is_symbol RIGHT_BRACE kind

-- a run of tokens ends with `;`, `{` or `}`, which it does not count
abbrev pub ends_run : TokenKind → Bool
ends_run kind = is_symbol SEMICOLON kind || opens kind || closes kind

-- a token after so many of its run, with so many braces open, is one too many
abbrev pub is_too_many : ℕ → ℕ → TokenKind → Bool
is_too_many run braces kind = (not (ends_run kind) && nat_le MAX_RUN run) || (opens kind && nat_le MAX_OPEN braces)

abbrev pub run_after : ℕ → TokenKind → ℕ
run_after run kind = if ends_run kind then 0 else run + 1

-- a `}` where none is open leaves none open
abbrev pub open_after : ℕ → TokenKind → ℕ
open_after braces kind = if opens kind then braces + 1 else (if closes kind then braces - 1 else braces)

-- where the first token starts that is one too many
abbrev pub first_too_many : ℕ → ℕ → List Token → Option ℕ
first_too_many run braces [] = None
first_too_many run braces (token ∷ tokens) =
    if is_too_many run braces token.kind then Some token.start
    else first_too_many (run_after run token.kind) (open_after braces token.kind) tokens
