-- The printed lines of statements have tokens that spell them.
use Rattle.std.proofs.Common.{◌≡◌, ℕ, List, [], ◌∷◌, ◌++◌, flat_map, map, slice_get, unwrap_or, refl, sym, ap, append_assoc, inl, inr}
use Rattle.std.specs.List.{AllByRecursion as Each}
use Rattle.std.proofs.lemmas.Grind.{flat_map-append}
use Rattle.std.proofs.lemmas.List.{append-nil}
use Rattle.mit_ops.specs.declared.kinds.OpSpec.{OpSpec}
use Rattle.mit_lex.specs.Valid.{IsToken}
use Rattle.mit_lex.specs.Written.{IsWrittenAs, gap_first, nothing_written, token_first, token_text}
use Rattle.mit_lex.specs.declared.token.TokenKind.{TokenKind}
use Rattle.mit_lex.specs.declared.token.TokenKind.TheVariants.{Name, Symbol, Keyword}
use Rattle.mit_lex.specs.declared.symbol.TheConstants as symbol
use Rattle.mit_lex.specs.declared.keyword.TheConstants as word
use Rattle.mit_script.specs.Grammar.{Kinds, SpellsBody, SpellsElse, SpellsOver, SpellsCondition, SpellsRight, SpellsStmt, SpellsWrite, assign, branch, followed, loop, name_in, names_in, no_more, number_in, otherwise, without, write}
use Rattle.mit_script.specs.declared.tree.Stmt.{Stmt}
use Rattle.mit_script.specs.declared.tree.Stmt.TheVariants as stmt
use Rattle.mit_print.specs.Printed.{Line, block_lines, deeper, else_lines, end_line, line_of, lines_text, spaced, stmt_lines}
use Rattle.mit_print.specs.PrintedTokens.{op_tokens}
use Rattle.mit_print.proofs.PrintNames.{IsFound, each_append, each_back, each_front, names_in-cons}
use Rattle.mit_print.proofs.PrintOps.{condition_over, names_back, names_front, right_over, write_over}
use Rattle.mit_print.proofs.PrintSame.{Reprint, Same, reprint, same_append, same_cons, same_refl}
use Rattle.mit_print.proofs.StmtTexts.{assign_lines, if_lines, while_lines, write_lines}

-- ---- tokens

-- the tokens of a line, and of lines
abbrev pub line_tokens : Line → Kinds
line_tokens (line_of indent tokens last) = tokens ++ last ∷ []

abbrev pub lines_tokens : List Line → Kinds
lines_tokens = flat_map line_tokens

-- those of a statement with a block
block_tokens : (indent : List ℕ) (tokens : Kinds) (inner end : List Line)
    → lines_tokens (line_of indent tokens (Symbol symbol.LEFT_BRACE) ∷ inner ++ end)
    ≡ (tokens ++ Symbol symbol.LEFT_BRACE ∷ lines_tokens inner) ++ lines_tokens end
block_tokens indent tokens inner end =
    rw (
      flat_map-append line_tokens inner end,
      append_assoc tokens (Symbol symbol.LEFT_BRACE ∷ []) (lines_tokens inner ++ lines_tokens end),
      append_assoc tokens (Symbol symbol.LEFT_BRACE ∷ lines_tokens inner) (lines_tokens end),
    ) refl

-- the line begins with gaps alone
abbrev pub IsIndented : Line → Type 0
IsIndented (line_of indent tokens last) = IsWrittenAs indent []

-- the indentation of a block
deeper_blank : {indent : List ℕ} → IsWrittenAs indent [] → IsWrittenAs (deeper indent) []
deeper_blank nothing_written = gap_first 32 (inl refl) (gap_first 32 (inl refl) nothing_written)
deeper_blank (gap_first gap is_gap later) = gap_first gap is_gap (deeper_blank later)

-- ---- statements

-- the lines are indented, and their tokens spell the same as those
pub record Relined (Spelled : Kinds → Type 0) (lines : List Line) (tokens : Kinds) : Type 0 where
  pub one : Reprint Spelled (lines_tokens lines) tokens
  pub indented : Each IsIndented lines

-- the lines after a first block: a `}`, and then what is spelled
record Rest (names : List (List ℕ)) (no : List Stmt) (lines : List Line) (tokens : Kinds) : Type 0 where
  kinds : Kinds
  is : lines_tokens lines ≡ Symbol symbol.RIGHT_BRACE ∷ kinds
  spelled : SpellsElse names no kinds
  same : Same kinds tokens
  indented : Each IsIndented lines

-- what is known of the names after a token
known_later : (names : List (List ℕ)) (token : TokenKind) (tokens : Kinds) → Each (IsFound names) (names_in (token ∷ tokens)) → Each (IsFound names) (names_in tokens)
known_later names token tokens each = each_back (IsFound names) (name_in token) (names_in tokens) (rw names_in-cons at each)

assign_relined : (names : List (List ℕ)) (op : OpSpec) (args : List ℕ) (target : List ℕ) (tokens : Kinds) → SpellsOver SpellsRight names op args tokens
    → Each (IsFound names) (names_in (Name target ∷ Symbol symbol.EQUALS ∷ tokens ++ Symbol symbol.SEMICOLON ∷ []))
    → (indent : List ℕ) → IsWrittenAs indent []
    → Relined (SpellsStmt names (stmt.Assign (number_in names target) op args)) (stmt_lines names (stmt.Assign (number_in names target) op args) indent)
    (Name target ∷ Symbol symbol.EQUALS ∷ tokens ++ Symbol symbol.SEMICOLON ∷ [])
unfolding names_in
assign_relined names op args target tokens over known indent blank =
    let one = right_over over (names_front (IsFound names) tokens (Symbol symbol.SEMICOLON ∷ []) known.1) in
    let found : unwrap_or (slice_get names (number_in names target)) [] ≡ target = ap (λ o. unwrap_or o []) known.0 in
    rw (assign_lines names (number_in names target) op args indent, found) (record {
      one = rw (append-nil (op_tokens names args op ++ Symbol symbol.SEMICOLON ∷ []))
          (reprint (assign target one.spelled) (same_cons (same_cons (same_append one.same same_refl))));
      indented = (blank, tt);
    })

write_relined : (names : List (List ℕ)) (op : OpSpec) (args : List ℕ) (tokens : Kinds) → SpellsOver SpellsWrite names op args tokens
    → Each (IsFound names) (names_in (tokens ++ Symbol symbol.SEMICOLON ∷ [])) → (indent : List ℕ) → IsWrittenAs indent []
    → Relined (SpellsStmt names (stmt.Write op args)) (stmt_lines names (stmt.Write op args) indent) (tokens ++ Symbol symbol.SEMICOLON ∷ [])
write_relined names op args tokens over known indent blank =
    let one = write_over over (names_front (IsFound names) tokens (Symbol symbol.SEMICOLON ∷ []) known) in
    rw (write_lines names op args indent) (record {
      one = rw (append-nil (op_tokens names args op ++ Symbol symbol.SEMICOLON ∷ [])) (reprint (write one.spelled) (same_append one.same same_refl));
      indented = (blank, tt);
    })

while_relined : (names : List (List ℕ)) (op : OpSpec) (args : List ℕ) (body : List Stmt) (tokens inside : Kinds) → SpellsOver SpellsCondition names op args tokens
    → Each (IsFound names) (names_in tokens) → (indent : List ℕ) → IsWrittenAs indent []
    → Relined (SpellsBody names body) (block_lines names body (deeper indent)) inside
    → Relined (SpellsStmt names (stmt.While op args body)) (stmt_lines names (stmt.While op args body) indent)
    (Keyword word.WHILE ∷ tokens ++ Symbol symbol.LEFT_BRACE ∷ inside ++ Symbol symbol.RIGHT_BRACE ∷ [])
while_relined names op args body tokens inside over known indent blank block =
    let one = condition_over over known in
    let inner = block_lines names body (deeper indent) in
    rw (while_lines names op args body indent) (record {
      one = rw (block_tokens indent (Keyword word.WHILE ∷ op_tokens names args op) inner (end_line indent))
          (reprint (loop one.spelled block.one.spelled) (same_cons (same_append (same_append one.same (same_cons block.one.same)) same_refl)));
      indented = (blank, each_append IsIndented inner (end_line indent) block.indented (blank, tt));
    })

if_relined : (names : List (List ℕ)) (op : OpSpec) (args : List ℕ) (on_true on_false : List Stmt) (tokens inside others : Kinds) → SpellsOver SpellsCondition names op args tokens
    → Each (IsFound names) (names_in tokens) → (indent : List ℕ) → IsWrittenAs indent []
    → Relined (SpellsBody names on_true) (block_lines names on_true (deeper indent)) inside
    → Rest names on_false (else_lines indent (map (stmt_lines names) on_false) ++ end_line indent) others
    → Relined (SpellsStmt names (stmt.If op args on_true on_false)) (stmt_lines names (stmt.If op args on_true on_false) indent)
    (Keyword word.IF ∷ tokens ++ Symbol symbol.LEFT_BRACE ∷ inside ++ Symbol symbol.RIGHT_BRACE ∷ others)
if_relined names op args on_true on_false tokens inside others over known indent blank block rest =
    let one = condition_over over known in
    let inner = block_lines names on_true (deeper indent) in
    let other = else_lines indent (map (stmt_lines names) on_false) in
    rw (if_lines names op args on_true on_false indent, append_assoc inner other (end_line indent)) (record {
      one = rw (block_tokens indent (Keyword word.IF ∷ op_tokens names args op) inner (other ++ end_line indent), rest.is)
          (reprint (branch one.spelled block.one.spelled rest.spelled) (same_cons (same_append (same_append one.same (same_cons block.one.same)) (same_cons rest.same))));
      indented = (blank, each_append IsIndented inner (other ++ end_line indent) block.indented rest.indented);
    })

-- ---- what stands after the first block

empty_body : {names : List (List ℕ)} {tokens : Kinds} → SpellsBody names [] tokens → tokens ≡ []
empty_body no_more = refl

no_rest : (names : List (List ℕ)) (tokens : Kinds) (indent : List ℕ) → IsWrittenAs indent [] → names_in tokens ≡ names_in []
    → Rest names [] (else_lines indent (map (stmt_lines names) []) ++ end_line indent) tokens
no_rest names tokens indent blank same = record {
  kinds = [];
  is = refl;
  spelled = without;
  same = record { names = sym same; valid = λ valid. tt };
  indented = (blank, tt);
}

no_names : names_in (Keyword word.ELSE ∷ Symbol symbol.LEFT_BRACE ∷ [] ++ Symbol symbol.RIGHT_BRACE ∷ []) ≡ names_in []
unfolding names_in
no_names = refl

else_rest : (names : List (List ℕ)) (no : List Stmt) (tokens : Kinds) (indent : List ℕ) → IsWrittenAs indent [] → SpellsBody names no tokens
    → Relined (SpellsBody names no) (block_lines names no (deeper indent)) tokens
    → Rest names no (else_lines indent (map (stmt_lines names) no) ++ end_line indent)
    (Keyword word.ELSE ∷ Symbol symbol.LEFT_BRACE ∷ tokens ++ Symbol symbol.RIGHT_BRACE ∷ [])
else_rest names [] tokens indent blank body block =
    no_rest names (Keyword word.ELSE ∷ Symbol symbol.LEFT_BRACE ∷ tokens ++ Symbol symbol.RIGHT_BRACE ∷ []) indent blank (rw (empty_body body) no_names)
else_rest names (first ∷ more) tokens indent blank body block =
    let inner = block_lines names (first ∷ more) (deeper indent) in
    record {
      kinds = Keyword word.ELSE ∷ Symbol symbol.LEFT_BRACE ∷ lines_tokens inner ++ Symbol symbol.RIGHT_BRACE ∷ [];
      is = block_tokens indent (Symbol symbol.RIGHT_BRACE ∷ Keyword word.ELSE ∷ []) inner (end_line indent);
      spelled = otherwise block.one.spelled;
      same = same_cons (same_cons (same_append block.one.same same_refl));
      indented = (blank, each_append IsIndented inner (end_line indent) block.indented (blank, tt));
    }

-- ---- blocks

-- what is known of the parts of a statement with a block
record Parts (names : List (List ℕ)) (tokens inside end : Kinds) : Type 0 where
  known : Each (IsFound names) (names_in tokens)
  known_inside : Each (IsFound names) (names_in inside)
  known_end : Each (IsFound names) (names_in end)

block_parts : (names : List (List ℕ)) (first : TokenKind) (tokens inside end : Kinds)
    → Each (IsFound names) (names_in (first ∷ tokens ++ Symbol symbol.LEFT_BRACE ∷ inside ++ end)) → Parts names tokens inside end
block_parts names first tokens inside end known =
    let block = Symbol symbol.LEFT_BRACE ∷ inside in
    let all = known_later names first (tokens ++ block ++ end) known in
    let front = names_front (IsFound names) (tokens ++ block) end all in
    record {
      known = names_front (IsFound names) tokens block front;
      known_inside = known_later names (Symbol symbol.LEFT_BRACE) inside (names_back (IsFound names) tokens block front);
      known_end = names_back (IsFound names) (tokens ++ block) end all;
    }

else_known : (names : List (List ℕ)) (tokens end : Kinds) → Each (IsFound names) (names_in (Keyword word.ELSE ∷ Symbol symbol.LEFT_BRACE ∷ tokens ++ end))
    → Each (IsFound names) (names_in tokens)
else_known names tokens end known =
    names_front (IsFound names) tokens end (known_later names (Symbol symbol.LEFT_BRACE) (tokens ++ end)
    (known_later names (Keyword word.ELSE) (Symbol symbol.LEFT_BRACE ∷ tokens ++ end) known))

mutual
  stmt_relined : (names : List (List ℕ)) {s : Stmt} {tokens : Kinds} → SpellsStmt names s tokens → Each (IsFound names) (names_in tokens)
      → (indent : List ℕ) → IsWrittenAs indent [] → Relined (SpellsStmt names s) (stmt_lines names s indent) tokens
  stmt_relined names (assign {op = op} {args = args} {tokens = ts} target over) known indent blank = assign_relined names op args target ts over known indent blank
  stmt_relined names (write {op = op} {args = args} {tokens = ts} over) known indent blank = write_relined names op args ts over known indent blank
  stmt_relined names (branch {op = op} {args = args} {yes = on_true} {no = on_false} {tokens = ts} {inside = inside} {others = others} over block rest) known indent blank =
      let parts = block_parts names (Keyword word.IF) ts inside (Symbol symbol.RIGHT_BRACE ∷ others) known in
      if_relined names op args on_true on_false ts inside others over parts.known indent blank
      (body_relined names block parts.known_inside (deeper indent) (deeper_blank blank))
      (rest_relined names rest (known_later names (Symbol symbol.RIGHT_BRACE) others parts.known_end) indent blank)
  stmt_relined names (loop {op = op} {args = args} {body = body} {tokens = ts} {inside = inside} over block) known indent blank =
      let parts = block_parts names (Keyword word.WHILE) ts inside (Symbol symbol.RIGHT_BRACE ∷ []) known in
      while_relined names op args body ts inside over parts.known indent blank
      (body_relined names block parts.known_inside (deeper indent) (deeper_blank blank))

  rest_relined : (names : List (List ℕ)) {on_false : List Stmt} {tokens : Kinds} → SpellsElse names on_false tokens → Each (IsFound names) (names_in tokens)
      → (indent : List ℕ) → IsWrittenAs indent [] → Rest names on_false (else_lines indent (map (stmt_lines names) on_false) ++ end_line indent) tokens
  rest_relined names without known indent blank = no_rest names [] indent blank refl
  rest_relined names (otherwise {no = on_false} {tokens = ts} block) known indent blank =
      let inner = else_known names ts (Symbol symbol.RIGHT_BRACE ∷ []) known in
      else_rest names on_false ts indent blank block (body_relined names block inner (deeper indent) (deeper_blank blank))

  -- so a spelled body is printed
  pub body_relined : (names : List (List ℕ)) {body : List Stmt} {tokens : Kinds} → SpellsBody names body tokens → Each (IsFound names) (names_in tokens)
      → (indent : List ℕ) → IsWrittenAs indent [] → Relined (SpellsBody names body) (block_lines names body indent) tokens
  body_relined names no_more known indent blank = record { one = reprint no_more same_refl; indented = tt }
  body_relined names (followed {first = s} {body = body} {tokens = ts} {others = others} first more) known indent blank =
      let one = stmt_relined names first (names_front (IsFound names) ts others known) indent blank in
      let later = body_relined names more (names_back (IsFound names) ts others known) indent blank in
      record {
        one = rw (flat_map-append line_tokens (stmt_lines names s indent) (block_lines names body indent))
            (reprint (followed one.one.spelled later.one.spelled) (same_append one.one.same later.one.same));
        indented = each_append IsIndented (stmt_lines names s indent) (block_lines names body indent) one.indented later.indented;
      }

-- ---- the text

line_assoc : (indent tokens last rest : List ℕ) → (((indent ++ tokens) ++ last) ++ 10 ∷ []) ++ rest ≡ indent ++ (tokens ++ (last ++ 10 ∷ rest))
line_assoc indent tokens last rest = simp append_assoc

-- tokens with a blank after each, before a text
spaced_written : (kinds : Kinds) {text : List ℕ} {others : Kinds} → Each IsToken kinds → IsWrittenAs text others → IsWrittenAs (spaced kinds ++ text) (kinds ++ others)
spaced_written [] valid later = later
spaced_written (kind ∷ kinds) {text = text} valid later =
    rw (append_assoc (token_text kind ++ 32 ∷ []) (spaced kinds) text, append_assoc (token_text kind) (32 ∷ []) (spaced kinds ++ text))
    (token_first kind 32 valid.0 (inl refl) (spaced_written kinds valid.1 later))

-- gaps before a text
gaps_written : {indent text : List ℕ} {kinds : Kinds} → IsWrittenAs indent [] → IsWrittenAs text kinds → IsWrittenAs (indent ++ text) kinds
gaps_written nothing_written later = later
gaps_written (gap_first gap is_gap more) later = gap_first gap is_gap (gaps_written more later)

-- indented lines are written as their tokens
pub lines_written : (lines : List Line) → Each IsIndented lines → Each IsToken (lines_tokens lines) → IsWrittenAs (lines_text lines) (lines_tokens lines)
lines_written [] indented valid = nothing_written
lines_written (line_of indent tokens last ∷ lines) indented valid =
    let front = each_front IsToken (tokens ++ last ∷ []) (lines_tokens lines) valid in
    let later = lines_written lines indented.1 (each_back IsToken (tokens ++ last ∷ []) (lines_tokens lines) valid) in
    let end = token_first last 10 (each_back IsToken tokens (last ∷ []) front).0 (inr refl) later in
    rw (append_assoc tokens (last ∷ []) (lines_tokens lines), line_assoc indent (spaced tokens) (token_text last) (lines_text lines))
    (gaps_written indented.0 (spaced_written tokens (each_front IsToken tokens (last ∷ []) front) end))
