-- What is read as a script is what the grammar spells as one, and reading stops before the token that is refused.
use Rattle.std.proofs.Common.{◌≡◌, ℕ, ◌+◌, ◌<◌, ◌≤◌, List, [], ◌∷◌, ◌++◌, length, Result, Ok, Err, MatchResult, refl, ap, sym, subst, ◌∙◌, arith, append_assoc, append-nil}
use Rattle.mit_lex.specs.declared.token.TokenKind.{TokenKind}
use Rattle.mit_script.specs.Grammar.{Kinds, IsRefused, Spells, SpellsBody, StopsBefore, each_once, names_in}
use Rattle.mit_script.specs.Reading.{Reading, ended_reading, read_script, statements, with_names}
use Rattle.mit_script.specs.declared.tree.Script.{Script}
use Rattle.mit_script.specs.declared.tree.Stmt.{Stmt}
use Rattle.mit_grammar.proofs.Readers.{first_of, ok_once, ok_or_err, reads_err, reads_ok, some_or_none}
use Rattle.mit_grammar.proofs.Renamed.{body_renamed}
use Rattle.mit_grammar.proofs.StmtReaders.{Fits, Larger}
use Rattle.mit_grammar.proofs.StmtForms.{Names}
use Rattle.mit_grammar.proofs.StmtBodies.{reads_body}

-- the bounds of a script's reader
fits : (most : ℕ) (tokens : Kinds) → length tokens < most → Fits 0 most 0 most tokens
fits most tokens few = record { low = omega arith; deep = omega (arith, few); wide = few }

larger : (most bound : ℕ) → most ≤ bound → Larger 0 0 most 0 bound
larger most bound more = record { low = omega arith; deep = omega arith; wide = more }

-- statements are read to the end
body_read : (names : Names) (body : List Stmt) (tokens : Kinds) (most : ℕ) → SpellsBody names body tokens → length tokens < most
    → statements names most most tokens ≡ Ok (body, [])
body_read names body tokens most x few =
    ap (statements names most most) (sym (append-nil tokens)) ∙ (reads_body 0 most).complete names 0 most body tokens [] (fits most tokens few) x (refl, refl)

-- a script is read
pub script_read : (script : Script) (tokens : Kinds) → Spells script tokens → read_script tokens ≡ Ok script
unfolding read_script
script_read script tokens x =
    let read : statements script.names (length tokens + 1) (length tokens + 1) tokens ≡ Ok (script.body, [])
    = body_read script.names script.body tokens (length tokens + 1) x.body (omega arith) in
    rw (sym x.named, read) refl

-- statements with any names are the tokens of a script
some_script : (names : Names) (body : List Stmt) (tokens : Kinds) → SpellsBody names body tokens → (script : Script) × Spells script tokens
some_script names body tokens x =
    let others = each_once (names_in tokens) in
    let y = body_renamed names others body tokens x in
    (record { body = y.0; names = others }, record { named = refl; body = y.1 })

-- no statements are read to the end of tokens that begin so
abbrev NeverEnds : ℕ → Kinds → Kinds → Type 0
NeverEnds most front rest =
    (names : Names) (bound : ℕ) (later : Kinds) (body : List Stmt) → most ≤ bound → first_of later ≡ first_of rest → statements names bound bound (front ++ later) ≡ Ok (body, []) → ⊥

-- then the next token is refused
never_refused : (most : ℕ) (front rest : Kinds) → NeverEnds most front rest → IsRefused front rest
never_refused most front [] never = λ script x.
    let bound = most + length front + 1 in
    never script.names bound [] script.body (omega arith) refl
    (ap (statements script.names bound bound) (append-nil front) ∙ body_read script.names script.body front bound x.body (omega arith))
never_refused most front (token ∷ rest) never = λ goes_on.
    let script = goes_on.0 in
    let all = (front ++ token ∷ []) ++ goes_on.1 in
    let bound = most + length all + 1 in
    never script.names bound (token ∷ goes_on.1) script.body (omega arith) refl
    (ap (statements script.names bound bound) (sym (append_assoc front (token ∷ []) goes_on.1)) ∙ body_read script.names script.body all bound goes_on.2.body (omega arith))

-- statements were read, and tokens are left
stops_behind : (names : Names) (most : ℕ) (body : List Stmt) (tokens : Kinds) (token : TokenKind) (rest : Kinds) → length tokens < most
    → statements names most most tokens ≡ Ok (body, token ∷ rest) → StopsBefore tokens (token ∷ rest)
stops_behind names most body tokens token rest few read =
    let x = reads_ok body (token ∷ rest) ((reads_body 0 most).reads names 0 most tokens (fits most tokens few)) read in
    record {
      front = x.0;
      cut = x.1;
      goes_on = let y = some_script names body x.0 x.2 in (y.0, [], subst (Spells y.0) (sym (append-nil x.0)) y.1);
      refused = never_refused most x.0 (token ∷ rest) (λ others bound later other more same is.
          let y = x.4 (others, 0, bound, larger most bound more) later same in
          let end : later ≡ [] = ap (λ t. t.1) (ok_once _ _ (sym y.1 ∙ is)) in
          some_or_none token (sym same ∙ ap first_of end));
    }

-- reading stopped within statements
stops_within : (names : Names) (most : ℕ) (tokens rest : Kinds) → length tokens < most → statements names most most tokens ≡ Err rest → StopsBefore tokens rest
stops_within names most tokens rest few read =
    let x = reads_err rest ((reads_body 0 most).reads names 0 most tokens (fits most tokens few)) read in
    record {
      front = x.0;
      cut = x.3;
      goes_on = let y = some_script names x.1 (x.0 ++ x.2) x.4 in (y.0, x.2, y.1);
      refused = never_refused most x.0 rest (λ others bound later other more same is.
          ok_or_err _ _ (sym is ∙ x.5 (others, 0, bound, larger most bound more) later same));
    }

abbrev Gives : Kinds → Result Script Kinds → Type 0
Gives tokens result = MatchResult result (λ script. Spells script tokens) (λ rest. StopsBefore tokens rest)

-- what the statements that were read give
read_gives : (tokens : Kinds) (read : Reading (List Stmt)) → statements (each_once (names_in tokens)) (length tokens + 1) (length tokens + 1) tokens ≡ read
    → Gives tokens (with_names (each_once (names_in tokens)) (ended_reading read))
read_gives tokens (Ok (body, [])) is =
    let x = reads_ok body [] ((reads_body 0 (length tokens + 1)).reads (each_once (names_in tokens)) 0 (length tokens + 1) tokens (fits _ tokens (omega arith))) is in
    record { named = refl; body = subst (SpellsBody (each_once (names_in tokens)) body) (sym (append-nil x.0) ∙ sym x.1) x.2 }
read_gives tokens (Ok (body, token ∷ rest)) is = stops_behind (each_once (names_in tokens)) (length tokens + 1) body tokens token rest (omega arith) is
read_gives tokens (Err rest) is = stops_within (each_once (names_in tokens)) (length tokens + 1) tokens rest (omega arith) is

-- reading gives the script that is spelled, or where the tokens are refused
pub read_script-gives : (tokens : Kinds) → MatchResult (read_script tokens) (λ script. Spells script tokens) (λ rest. StopsBefore tokens rest)
unfolding read_script
read_script-gives tokens = read_gives tokens (statements (each_once (names_in tokens)) (length tokens + 1) (length tokens + 1) tokens) refl

-- tokens spell at most one script
pub one_script : (tokens : Kinds) (one other : Script) → Spells one tokens → Spells other tokens → one ≡ other
one_script tokens one other x y = ok_once _ _ (sym (script_read one tokens x) ∙ script_read other tokens y)
