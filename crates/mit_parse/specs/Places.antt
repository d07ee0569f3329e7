-- Where a text is refused.
use Rattle.std.specs.Prelude.{◌≡◌, ℕ, List, [], ◌∷◌, ◌++◌, length, Ok, Err, ⊤}
use Rattle.mit_lex.specs.Tokens.{tokens_of}
use Rattle.mit_lex.specs.declared.token.Token.{Token}
use Rattle.mit_script.specs.Grammar.{StopsBefore, kinds}
use Rattle.mit_parse.specs.declared.stop.ParseStop.{ParseStop}
use Rattle.mit_parse.specs.declared.stop.ParseStop.TheVariants.{Fault, NoMemory}

-- where the first of the tokens that are left starts, and the text's end where none is left
abbrev pub start_of : List ℕ → List Token → ℕ
start_of text [] = length text
start_of text (token ∷ rest) = token.start

-- a text is refused at this place: where it has no tokens; or at the token before which the grammar stops, and at the
-- text's end where the grammar wants more tokens
pub data IsRefusedAt (text : List ℕ) : ℕ → Type 0 where
  no_tokens : {place : ℕ} → tokens_of text ≡ Err place → IsRefusedAt text place
  at_token : (front rest : List Token) → tokens_of text ≡ Ok (front ++ rest) → StopsBefore (kinds (front ++ rest)) (kinds rest)
      → IsRefusedAt text (start_of text rest)

-- what a refusal tells of a text; where memory ran out, nothing
abbrev pub TellsRefusal : List ℕ → ParseStop → Type 0
TellsRefusal text (Fault place) = IsRefusedAt text place
TellsRefusal text NoMemory = ⊤
