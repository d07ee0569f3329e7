-- The printed text of a script: one statement a line, its tokens one blank apart.
use Rattle.std.specs.Prelude.{ℕ, List, [], ◌∷◌, ◌++◌, map, flat_map, codes, slice_get, unwrap_or}
use Rattle.mit_lex.specs.Written.{token_text}
use Rattle.mit_lex.specs.declared.token.TokenKind.{TokenKind}
use Rattle.mit_lex.specs.declared.token.TokenKind.TheVariants.{Name, Symbol, Keyword}
use Rattle.mit_lex.specs.declared.symbol.TheConstants as symbol
use Rattle.mit_lex.specs.declared.keyword.TheConstants as word
use Rattle.mit_script.specs.Grammar.{Kinds}
use Rattle.mit_script.specs.declared.tree.Script.{Script}
use Rattle.mit_script.specs.declared.tree.Stmt.{Stmt}
use Rattle.mit_script.specs.declared.tree.Stmt.TheFolds.{fold-Stmt}
use Rattle.mit_script.specs.declared.tree.Stmt.TheOpen.{Stmt-F}
use Rattle.mit_script.specs.declared.tree.Stmt.TheOpen as stmt
use Rattle.mit_print.specs.PrintedTokens.{op_tokens}

-- one line: its indentation, tokens, and the token that ends it
pub data Line : Type 0 where
  line_of : List ℕ → Kinds → TokenKind → Line

-- each token as it is written, and a blank after it
abbrev pub spaced : Kinds → List ℕ
spaced = flat_map (λ token. token_text token ++ codes " ")

abbrev pub line_text : Line → List ℕ
line_text (line_of indent tokens last) = indent ++ spaced tokens ++ token_text last ++ codes "\n"

abbrev pub lines_text : List Line → List ℕ
lines_text = flat_map line_text

-- a block is two blanks deeper
abbrev pub deeper : List ℕ → List ℕ
deeper indent = indent ++ codes "  "

-- statements one after another, each with this indentation
abbrev pub lines_at : List ℕ → List (List ℕ → List Line) → List Line
lines_at indent = flat_map (λ lines. lines indent)

-- what stands between the blocks of an `if`, and the second one, where it is not empty
abbrev pub else_lines : List ℕ → List (List ℕ → List Line) → List Line
else_lines indent [] = []
else_lines indent (first ∷ more) =
    line_of indent (Symbol symbol.RIGHT_BRACE ∷ Keyword word.ELSE ∷ []) (Symbol symbol.LEFT_BRACE) ∷ lines_at (deeper indent) (first ∷ more)

abbrev pub end_line : List ℕ → List Line
end_line indent = line_of indent [] (Symbol symbol.RIGHT_BRACE) ∷ []

-- one layer of a statement, with the lines of each inner one, by its indentation, in its place
abbrev pub stmt_step : List (List ℕ) → Stmt-F (List ℕ → List Line) → List ℕ → List Line
stmt_step names (stmt.Assign target operator args) indent =
    line_of indent (Name (unwrap_or (slice_get names target) []) ∷ Symbol symbol.EQUALS ∷ op_tokens names args operator)
    (Symbol symbol.SEMICOLON) ∷ []
stmt_step names (stmt.Write operator args) indent = line_of indent (op_tokens names args operator) (Symbol symbol.SEMICOLON) ∷ []
stmt_step names (stmt.If operator args on_true on_false) indent =
    line_of indent (Keyword word.IF ∷ op_tokens names args operator) (Symbol symbol.LEFT_BRACE) ∷ lines_at (deeper indent) on_true
    ++ else_lines indent on_false ++ end_line indent
stmt_step names (stmt.While operator args body) indent =
    line_of indent (Keyword word.WHILE ∷ op_tokens names args operator) (Symbol symbol.LEFT_BRACE) ∷ lines_at (deeper indent) body
    ++ end_line indent

-- the lines of a statement, by its indentation
abbrev pub stmt_lines : List (List ℕ) → Stmt → List ℕ → List Line
stmt_lines names = fold-Stmt (List ℕ → List Line) (stmt_step names)

abbrev pub block_lines : List (List ℕ) → List Stmt → List ℕ → List Line
block_lines names block indent = lines_at indent (map (stmt_lines names) block)

-- the text of a script
abbrev pub printed : Script → List ℕ
printed script = lines_text (block_lines script.names script.body [])
