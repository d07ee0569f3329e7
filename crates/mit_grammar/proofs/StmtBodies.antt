-- The reader of statements one after another.
use Rattle.std.proofs.Common.{◌≡◌, ℕ, zero, suc, ◌+◌, ◌≤◌, List, [], ◌∷◌, ◌++◌, length, true, false, Option, Some, None, inl, inr, refl, ap, sym, subst, ◌∙◌, arith, append_assoc, append-nil, true≢false}
use Rattle.std.proofs.lemmas.Bool.Decides.{eqb_tells}
use Rattle.mit_lex.specs.declared.token.TokenKind.{TokenKind}
use Rattle.mit_lex.specs.declared.token.TokenKind.TheVariants.{Keyword}
use Rattle.mit_lex.specs.declared.keyword.TheConstants as word
use Rattle.mit_script.specs.Grammar.{Kinds, SpellsStmt, assign, write, branch, loop, SpellsBody, no_more, followed}
use Rattle.mit_script.specs.Reading.{begins_statement, statements}
use Rattle.mit_script.specs.declared.tree.Stmt.{Stmt}
use Rattle.mit_grammar.proofs.Readers.{first_of}
use Rattle.mit_grammar.proofs.StmtReaders.{Spelling, IsReader, Bind, both, bind_within, Made, made, make, along, convert, Pure, pure, reads_pure, Or, this, other, choose, deeper, at_no_depth, widely}
use Rattle.mit_grammar.proofs.StmtForms.{Names, EndsStmt, EndsBody, begins-first, begins_local, first_begins, reads_stmt, write_begins}

-- a statement begins as one
stmt_begins : (names : Names) (s : Stmt) (tokens after : Kinds) → SpellsStmt names s tokens → begins_statement (tokens ++ after) ≡ true
unfolding begins_statement
stmt_begins names s tokens after (assign target x) = refl
stmt_begins names s tokens after (write {op = op} {tokens = front} x) = write_begins _ op front _ after x.form
stmt_begins names s tokens after (branch x y z) = refl
stmt_begins names s tokens after (loop x y) = refl

-- so it has a token
nonempty : (tokens : Kinds) → begins_statement tokens ≡ true → 1 ≤ 0 + length tokens
unfolding begins_statement
nonempty [] begins = absurd (true≢false (sym begins))
nonempty (token ∷ tokens) begins = grind arith

-- so many tokens a statement has
stmt_length : (names : Names) (s : Stmt) (tokens : Kinds) → SpellsStmt names s tokens → 1 ≤ 0 + length tokens
stmt_length names s tokens x = nonempty tokens (ap begins_statement (sym (append-nil tokens)) ∙ stmt_begins names s tokens [] x)

-- what begins a statement is no `else`
begins_no_else : (first : Option TokenKind) → first_begins first ≡ true → EndsStmt first
begins_no_else None begins = refl
begins_no_else (Some (Keyword place)) begins = elim (eqb_tells place word.ELSE) [
  | inl e ↦ absurd (true≢false (sym begins ∙ ap (λ p. first_begins (Some (Keyword p))) e.1))
  | inr e ↦ e.0
]
begins_no_else (Some _) begins = refl

-- the statements after the first one
abbrev Rest : Spelling (Names × Stmt) (List Stmt)
Rest = Made (λ q. SpellsBody q.0) (λ q rest. (q.1 ∷ []) ++ rest)

-- a statement and those after it, or none
abbrev BodyForm : Spelling Names (List Stmt)
BodyForm = Or (Bind SpellsStmt Rest) (Pure (λ names. []))

-- these are the words of the grammar
is_body : (names : Names) (body : List Stmt) (tokens : Kinds) → BodyForm names body tokens → SpellsBody names body tokens
is_body names body tokens (this (both x (made y))) = followed x y
is_body names body tokens (other pure) = no_more

body_is : (names : Names) (body : List Stmt) (tokens : Kinds) → SpellsBody names body tokens → BodyForm names body tokens
body_is names body tokens no_more = other pure
body_is names body tokens (followed x y) = this (both x (made y))

-- a statement is seen where one stands, and none where there is none
body_seen : (names : Names) (body : List Stmt) (tokens after : Kinds) → Bind SpellsStmt Rest names body tokens → begins_statement (tokens ++ after) ≡ true
body_seen names body tokens after (both {a = s} {front = front} {back = back} x y) = ap begins_statement (append_assoc front back after) ∙ stmt_begins names s front (back ++ after) x

body_unseen : (names : Names) (body : List Stmt) (tokens after : Kinds) → Pure (λ names. []) names body tokens → EndsBody (first_of after) → begins_statement (tokens ++ after) ≡ false
body_unseen names body tokens after pure ends = begins-first after ∙ ends.0

-- what begins statements, or follows them, may follow a statement
body_first : (names : Names) (body : List Stmt) (tokens after : Kinds) → SpellsBody names body tokens → EndsBody (first_of after) → EndsStmt (first_of (tokens ++ after))
body_first names body tokens after no_more ends = ends.1
body_first names body tokens after (followed {first = s} {tokens = front} {others = others} x y) ends =
    let all = front ++ (others ++ after) in
    let begins : first_begins (first_of all) ≡ true = sym (begins-first all) ∙ stmt_begins names s front (others ++ after) x in
    subst (λ t. EndsStmt (first_of t)) (sym (append_assoc front others after)) (begins_no_else (first_of all) begins)

-- the same of the statements after the first one
rest_first : (names : Names) (s : Stmt) (body : List Stmt) (tokens after : Kinds) → Rest (names, s) body tokens → EndsBody (first_of after) → EndsStmt (first_of (tokens ++ after))
rest_first names s body tokens after (made {a = rest} x) ends = body_first names rest tokens after x ends

-- the reader of statements, to each depth
reads_statements : (top : ℕ) → IsReader top 0 SpellsBody EndsBody (λ names left most. statements names most left)
unfolding statements
reads_statements zero = at_no_depth (λ names. ([], [], no_more))
reads_statements (suc top) =
    deeper (λ names left most. statements names most left)
    (convert
    (choose begins_statement begins_local
    (bind_within 0 (reads_stmt (λ names left most. statements names most left) (reads_statements top)) (make (along (λ q. q.0) (reads_statements top)) (λ q rest. (q.1 ∷ []) ++ rest)) stmt_length rest_first)
    (reads_pure EndsBody (λ names. [])) body_seen body_unseen)
    is_body body_is (λ first e. e) (λ names left most tokens. refl))

-- with one bound for both
pub reads_body : (top slack : ℕ) → IsReader top slack SpellsBody EndsBody (λ names left most. statements names most most)
reads_body top slack = widely reads_statements
