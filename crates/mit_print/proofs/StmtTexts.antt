-- The lines of each kind of statement, by those of the statements inside it.
use Rattle.std.proofs.Common.{◌≡◌, ℕ, List, [], ◌∷◌, ◌++◌, map, slice_get, unwrap_or, ap, sym, ◌∙◌, append_assoc}
use Rattle.std.proofs.lemmas.Grind.{flat_map-append}
use Rattle.std.proofs.lemmas.List.{append-nil}
use Rattle.mit_ops.specs.declared.kinds.OpSpec.{OpSpec}
use Rattle.mit_lex.specs.declared.token.TokenKind.TheVariants.{Name, Symbol, Keyword}
use Rattle.mit_lex.specs.declared.symbol.TheConstants as symbol
use Rattle.mit_lex.specs.declared.keyword.TheConstants as word
use Rattle.mit_script.specs.declared.tree.Stmt.{Stmt}
use Rattle.mit_script.specs.declared.tree.Stmt.TheFolds.{fold-roll-Stmt}
use Rattle.mit_script.specs.declared.tree.Stmt.TheOpen as layer
use Rattle.mit_script.specs.declared.tree.Stmt.TheVariants.{Assign, Write, If, While, rolls-Assign, rolls-Write, rolls-If, rolls-While}
use Rattle.mit_print.specs.Printed.{Line, block_lines, deeper, else_lines, end_line, line_of, line_text, lines_text, stmt_lines, stmt_step}
use Rattle.mit_print.specs.PrintedTokens.{op_tokens}

-- ---- the lines

pub assign_lines : (names : List (List ℕ)) (target : ℕ) (operator : OpSpec) (args indent : List ℕ) →
    stmt_lines names (Assign target operator args) indent
    ≡ line_of indent (Name (unwrap_or (slice_get names target) []) ∷ Symbol symbol.EQUALS ∷ op_tokens names args operator) (Symbol symbol.SEMICOLON) ∷ []
assign_lines names target operator args indent =
    ap (λ s. stmt_lines names s indent) (sym (rolls-Assign target operator args))
    ∙ ap (λ lines. lines indent) (fold-roll-Stmt (List ℕ → List Line) (stmt_step names) (layer.Assign target operator args))

pub write_lines : (names : List (List ℕ)) (operator : OpSpec) (args indent : List ℕ) →
    stmt_lines names (Write operator args) indent ≡ line_of indent (op_tokens names args operator) (Symbol symbol.SEMICOLON) ∷ []
write_lines names operator args indent =
    ap (λ s. stmt_lines names s indent) (sym (rolls-Write operator args))
    ∙ ap (λ lines. lines indent) (fold-roll-Stmt (List ℕ → List Line) (stmt_step names) (layer.Write operator args))

pub if_lines : (names : List (List ℕ)) (operator : OpSpec) (args : List ℕ) (on_true on_false : List Stmt) (indent : List ℕ) →
    stmt_lines names (If operator args on_true on_false) indent
    ≡ line_of indent (Keyword word.IF ∷ op_tokens names args operator) (Symbol symbol.LEFT_BRACE)
    ∷ block_lines names on_true (deeper indent) ++ else_lines indent (map (stmt_lines names) on_false) ++ end_line indent
if_lines names operator args on_true on_false indent =
    ap (λ s. stmt_lines names s indent) (sym (rolls-If operator args on_true on_false))
    ∙ ap (λ lines. lines indent) (fold-roll-Stmt (List ℕ → List Line) (stmt_step names) (layer.If operator args on_true on_false))

pub while_lines : (names : List (List ℕ)) (operator : OpSpec) (args : List ℕ) (body : List Stmt) (indent : List ℕ) →
    stmt_lines names (While operator args body) indent
    ≡ line_of indent (Keyword word.WHILE ∷ op_tokens names args operator) (Symbol symbol.LEFT_BRACE)
    ∷ block_lines names body (deeper indent) ++ end_line indent
while_lines names operator args body indent =
    ap (λ s. stmt_lines names s indent) (sym (rolls-While operator args body))
    ∙ ap (λ lines. lines indent) (fold-roll-Stmt (List ℕ → List Line) (stmt_step names) (layer.While operator args body))

-- ---- their texts

pub line_alone : (one : Line) → lines_text (one ∷ []) ≡ line_text one
line_alone one = append-nil (line_text one)

pub block_text : (first : Line) (inner : List Line) (indent : List ℕ) →
    lines_text (first ∷ inner ++ end_line indent) ≡ line_text first ++ (lines_text inner ++ line_text (line_of indent [] (Symbol symbol.RIGHT_BRACE)))
block_text first inner indent =
    ap (λ text. line_text first ++ text) (flat_map-append line_text inner (end_line indent)
    ∙ ap (λ text. lines_text inner ++ text) (line_alone (line_of indent [] (Symbol symbol.RIGHT_BRACE))))

pub branches_text : (first : Line) (inner other : List Line) (indent : List ℕ) →
    lines_text (first ∷ inner ++ other ++ end_line indent)
    ≡ line_text first ++ (lines_text inner ++ (lines_text other ++ line_text (line_of indent [] (Symbol symbol.RIGHT_BRACE))))
branches_text first inner other indent =
    block_text first (inner ++ other) indent
    ∙ ap (λ text. line_text first ++ text) (ap (λ text. text ++ line_text (line_of indent [] (Symbol symbol.RIGHT_BRACE))) (flat_map-append line_text inner other)
    ∙ append_assoc (lines_text inner) (lines_text other) (line_text (line_of indent [] (Symbol symbol.RIGHT_BRACE))))

-- the pieces that were added one after another
pub added_three : (start first second third a b c : List ℕ) → first ≡ start ++ a → second ≡ first ++ b → third ≡ second ++ c →
    third ≡ start ++ (a ++ (b ++ c))
added_three start first second third a b c p q r = rw (r, q, p) (simp append_assoc)

pub added_four : (start first second third last a b c d : List ℕ) → first ≡ start ++ a → second ≡ first ++ b →
    third ≡ second ++ c → last ≡ third ++ d → last ≡ start ++ (a ++ (b ++ (c ++ d)))
added_four start first second third last a b c d p q r s = rw (s, r, q, p) (simp append_assoc)
