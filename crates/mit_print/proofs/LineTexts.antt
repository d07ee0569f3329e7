-- The text of a line, as its pieces are added one after another.
use Rattle.std.proofs.Common.{◌≡◌, ℕ, List, [], ◌∷◌, ◌++◌, codes, append_assoc}
use Rattle.std.proofs.lemmas.List.{append-nil}
use Rattle.mit_lex.specs.Written.{token_text}
use Rattle.mit_lex.specs.declared.token.TokenKind.TheVariants.{Name, Symbol}
use Rattle.mit_lex.specs.declared.symbol.TheConstants as symbol
use Rattle.mit_script.specs.Grammar.{Kinds}
use Rattle.mit_print.specs.Printed.{line_of, line_text, spaced}

pub assignment_added : (start indented named signed opened last indent target : List ℕ) (tokens : Kinds) →
    indented ≡ start ++ indent → named ≡ indented ++ spaced (Name target ∷ []) → signed ≡ named ++ spaced (Symbol symbol.EQUALS ∷ []) →
    opened ≡ signed ++ spaced tokens → last ≡ opened ++ token_text (Symbol symbol.SEMICOLON) ++ codes "\n" →
    last ≡ start ++ line_text (line_of indent (Name target ∷ Symbol symbol.EQUALS ∷ tokens) (Symbol symbol.SEMICOLON))
assignment_added start indented named signed opened last indent target tokens p q r s t =
    rw (t, s, r, q, p) (simp (append_assoc, append-nil))
