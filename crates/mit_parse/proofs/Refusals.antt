-- Where a text is refused whose tokens stop being read.
use Rattle.std.proofs.Common.{◌≡◌, ℕ, ◌-◌, List, ◌++◌, length, take, drop, Result, Ok, Err, refl, sym, ap, subst, ◌∙◌, ◌⊎◌, inl, inr}
use Rattle.std.specs.Prelude.{All, MatchResult}
use Rattle.std.proofs.lemmas.List.{drop-map, length-map, take-append-drop}
use Rattle.std.proofs.lemmas.List.Elements.{All-map}
use Rattle.mit_lex.specs.Tokens.{tokens_of}
use Rattle.mit_lex.specs.Valid.{IsToken}
use Rattle.mit_lex.specs.declared.token.Token.{Token}
use Rattle.mit_script.specs.Grammar.{IsSpelled, Kinds, Spells, StopsBefore, kinds}
use Rattle.mit_script.specs.PrintsBack.{CanBeSpelled}
use Rattle.mit_script.specs.Reading.{read_script}
use Rattle.mit_script.specs.declared.tree.Script.{Script}
use Rattle.mit_parse.proofs.OneReading.{end_is}
use Rattle.mit_parse.specs.Places.{IsRefusedAt, at_token, no_tokens, start_of}

-- the place of a refusal, by the tokens that are left
place_is : (text : List ℕ) (tokens : List Token) (rest : Kinds) → tokens_of text ≡ Ok tokens → StopsBefore (kinds tokens) rest
    → IsRefusedAt text (start_of text (drop (length tokens - length rest) tokens))
place_is text tokens rest found stops =
    let count = length tokens - length rest in
    let first = take count tokens in
    let left = drop count tokens in
    let whole : tokens ≡ first ++ left = sym (take-append-drop count tokens) in
    let size : length (kinds tokens) ≡ length tokens = length-map tokens (λ (token : Token). token.kind) in
    let left_is : kinds left ≡ rest =
    sym (drop-map (λ (token : Token). token.kind) count tokens) ∙ ap (λ (n : ℕ). drop (n - length rest) (kinds tokens)) (sym size)
    ∙ rw stops.cut (end_is stops.front rest) in
    at_token first left (found ∙ ap (λ (l : List Token). Ok l) whole)
    (subst (λ (k : Kinds). StopsBefore (kinds (first ++ left)) k) (sym left_is) (subst (λ (l : List Token). StopsBefore (kinds l) rest) whole stops))

-- where reading stopped, a text is refused at the place of the first token left
pub refused_place : (text : List ℕ) (tokens : List Token) (rest : Kinds) (outcome : Result Script Kinds) (place : ℕ) → tokens_of text ≡ Ok tokens → outcome ≡ Err rest
    → MatchResult outcome (λ script. Spells script (kinds tokens)) (λ rest. StopsBefore (kinds tokens) rest)
    → place ≡ start_of text (drop (length tokens - length rest) tokens) → IsRefusedAt text place
refused_place text tokens rest outcome place read is law at =
    let stops : StopsBefore (kinds tokens) rest =
    subst (λ (o : Result Script Kinds). MatchResult o (λ script. Spells script (kinds tokens)) (λ rest. StopsBefore (kinds tokens) rest)) is law in
    subst (λ (p : ℕ). IsRefusedAt text p) (sym at) (place_is text tokens rest read stops)

-- a script that was read of valid tokens can be spelled
pub spelled_back : (tokens : List Token) (outcome : Result Script Kinds) (script : Script) → All (λ token. IsToken token.kind) tokens → outcome ≡ Ok script
    → MatchResult outcome (λ script. Spells script (kinds tokens)) (λ rest. StopsBefore (kinds tokens) rest) → CanBeSpelled script
spelled_back tokens outcome script valid is law =
    let spelled : Spells script (kinds tokens) =
    subst (λ (o : Result Script Kinds). MatchResult o (λ script. Spells script (kinds tokens)) (λ rest. StopsBefore (kinds tokens) rest)) is law in
    record { tokens = kinds tokens; valid = All-map IsToken (λ (t : Token). t.kind) tokens valid; spelled = spelled }

-- a text spells a script, or is refused somewhere
by_reading : (text : List ℕ) (tokens : List Token) (outcome : Result Script Kinds) → tokens_of text ≡ Ok tokens
    → MatchResult outcome (λ script. Spells script (kinds tokens)) (λ rest. StopsBefore (kinds tokens) rest)
    → ((script : Script) × IsSpelled text script) ⊎ ((place : ℕ) × IsRefusedAt text place)
by_reading text tokens (Ok script) read law = inl (script, record { tokens = tokens; read = read; spelled = law })
by_reading text tokens (Err rest) read law = inr (start_of text (drop (length tokens - length rest) tokens), place_is text tokens rest read law)

by_tokens : (text : List ℕ) (found : Result (List Token) ℕ) → tokens_of text ≡ found
    → ((tokens : Kinds) → MatchResult (read_script tokens) (λ script. Spells script tokens) (λ rest. StopsBefore tokens rest))
    → ((script : Script) × IsSpelled text script) ⊎ ((place : ℕ) × IsRefusedAt text place)
by_tokens text (Ok tokens) read law = by_reading text tokens (read_script (kinds tokens)) read (law (kinds tokens))
by_tokens text (Err place) read law = inr (place, no_tokens read)

pub read_or_refused : ((tokens : Kinds) → MatchResult (read_script tokens) (λ script. Spells script tokens) (λ rest. StopsBefore tokens rest))
    → (text : List ℕ) → ((script : Script) × IsSpelled text script) ⊎ ((place : ℕ) × IsRefusedAt text place)
read_or_refused law text = by_tokens text (tokens_of text) refl law
