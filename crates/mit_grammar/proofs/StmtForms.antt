-- The readers of statements.
use Rattle.std.proofs.Common.{◌≡◌, ℕ, ◌+◌, ◌≤◌, List, [], ◌∷◌, ◌++◌, length, Bool, true, false, ◌==◌, ◌||◌, Option, Some, inl, refl, ap, sym, subst, ◌∙◌, arith, append_assoc, length-append}
use Rattle.mit_ops.specs.declared.kinds.OpSpec.{OpSpec}
use Rattle.mit_lex.specs.declared.token.TokenKind.{TokenKind}
use Rattle.mit_lex.specs.declared.token.TokenKind.TheVariants.{Name, Symbol, Keyword}
use Rattle.mit_lex.specs.declared.symbol.TheConstants as symbol
use Rattle.mit_lex.specs.declared.keyword.TheConstants as word
use Rattle.mit_script.specs.Grammar.{Kinds, SpellsRight, SpellsWrite, write_form, SpellsCondition, SpellsStmt, assign, write, branch, loop, SpellsElse, without, otherwise, SpellsBody, number_in}
use Rattle.mit_script.specs.Reading.{Operation, assignment, begins_statement, condition_at, else_at, if_statement, rest_of_block, right_at, sees_word, statement, while_statement, write_form_at, write_statement}
use Rattle.mit_script.specs.declared.tree.Stmt.{Stmt}
use Rattle.mit_script.specs.declared.tree.Stmt.TheVariants as stmt
use Rattle.mit_grammar.proofs.Readers.{first_is_word, first_of, sees_word-first, word_local}
use Rattle.mit_grammar.proofs.RunLemmas.{right_run, write_run, condition_run}
use Rattle.mit_grammar.proofs.Renamed.{right_renamed, write_renamed, condition_renamed}
use Rattle.mit_grammar.proofs.StmtReaders.{Spelling, Reader, IsReader, IsLocal, One, one, Bind, both, bind_within, Made, made, make, along, convert, Pure, pure, reads_pure, Or, this, other, choose}
use Rattle.mit_grammar.proofs.StmtTokens.{Whatever, SymbolOf, reads_one_symbol, reads_one_name, AfterWord, AfterSymbol, after_symbol, choose_word}
use Rattle.mit_grammar.proofs.RightReaders.{begins_one, begins_made, follow, then_any, ends_so, EndsExpr, EndsRight}
use Rattle.mit_grammar.proofs.RightForms.{word_unseen, or_unseen, reads_write, reads_condition}
use Rattle.mit_grammar.proofs.RightSide.{reads_right_side, right_bags, write_bags, condition_bags, write_first}
use Rattle.mit_grammar.proofs.StmtOperation.{IsForm, Ended, with_end, reads_operation}

abbrev pub Names : Type 0
Names = List (List ℕ)

-- ---- operators in statements

right_is_form : IsForm SpellsRight EndsRight right_at symbol.SEMICOLON
right_is_form = record { reads = λ top slack. reads_right_side; in_run = right_run; bags = right_bags; renamed = right_renamed; ends = (refl, refl); ends_it = refl }

write_is_form : IsForm SpellsWrite EndsExpr write_form_at symbol.SEMICOLON
write_is_form = record {
  reads = λ top slack. reads_write;
  in_run = write_run;
  bags = λ number op tokens after x. inl (write_bags number op tokens after x);
  renamed = write_renamed;
  ends = refl;
  ends_it = refl;
}

condition_is_form : IsForm SpellsCondition EndsExpr condition_at symbol.LEFT_BRACE
condition_is_form = record {
  reads = λ top slack. reads_condition;
  in_run = condition_run;
  bags = λ number op tokens after x. inl (condition_bags number op tokens after x);
  renamed = condition_renamed;
  ends = refl;
  ends_it = refl;
}

-- each of them with the symbol that ends it
abbrev RightEnded : Spelling Names Operation
RightEnded = Ended SpellsRight symbol.SEMICOLON

abbrev WriteEnded : Spelling Names Operation
WriteEnded = Ended SpellsWrite symbol.SEMICOLON

abbrev ConditionEnded : Spelling Names Operation
ConditionEnded = Ended SpellsCondition symbol.LEFT_BRACE

-- there is a token at least, the one that ends it
ended_length : (Form : Spelling (List ℕ → ℕ) OpSpec) (ending : ℕ) (names : Names) (operator : Operation) (tokens : Kinds) → Ended Form ending names operator tokens
    → 1 ≤ 0 + length tokens
ended_length Form ending names operator tokens (with_end {tokens = front} x) = grind (arith, length-append, length-append front (Symbol ending ∷ []))

-- ---- what may follow

abbrev pub first_begins : Option TokenKind → Bool
first_begins (Some (Name name)) = true
first_begins (Some (Keyword place)) = (place == word.WRITE) || (place == word.IF) || (place == word.WHILE)
first_begins _ = false

-- whether a statement is ahead depends on the first token
pub begins-first : (tokens : Kinds) → begins_statement tokens ≡ first_begins (first_of tokens)
unfolding begins_statement
begins-first [] = refl
begins-first (Name name ∷ rest) = refl
begins-first (Keyword place ∷ rest) = refl
begins-first (_ ∷ rest) = refl

pub begins_local : IsLocal begins_statement
begins_local x y same = begins-first x ∙ ap first_begins same ∙ sym (begins-first y)

-- no `else`; and no statement either
abbrev pub EndsStmt : Option TokenKind → Type 0
EndsStmt first = first_is_word word.ELSE first ≡ false

abbrev pub EndsBody : Option TokenKind → Type 0
EndsBody first = (first_begins first ≡ false) × EndsStmt first

-- ---- statements that hold no others

abbrev AssignForm : Spelling Names Stmt
AssignForm = Bind (One Name) (AfterSymbol symbol.EQUALS (Made (λ q. RightEnded q.0) (λ q made. stmt.Assign (number_in q.0 q.1) made.0 made.1)))

reads_assignment : {top slack : ℕ} → IsReader top slack AssignForm Whatever (λ names left most. assignment names most)
unfolding assignment
reads_assignment {slack = slack} =
    then_any reads_one_name (after_symbol slack symbol.EQUALS (omega arith)
    (make (along (λ q. q.0) (reads_operation SpellsRight EndsRight right_at symbol.SEMICOLON right_is_form)) (λ q made. stmt.Assign (number_in q.0 q.1) made.0 made.1)))

-- a `write`
abbrev WriteForm : Spelling Names Stmt
WriteForm = Made WriteEnded (λ names made. stmt.Write made.0 made.1)

reads_write_stmt : {top slack : ℕ} → IsReader top slack WriteForm Whatever (λ names left most. write_statement names most)
unfolding write_statement
reads_write_stmt = make (reads_operation SpellsWrite EndsExpr write_form_at symbol.SEMICOLON write_is_form) (λ names made. stmt.Write made.0 made.1)

-- it begins with its keyword
write_seen : (names : Names) (s : Stmt) (tokens after : Kinds) → WriteForm names s tokens → sees_word word.WRITE (tokens ++ after) ≡ true
write_seen names s tokens after (made (with_end {op = op} {tokens = front} x)) =
    ap (sees_word word.WRITE) (append_assoc front (Symbol symbol.SEMICOLON ∷ []) after) ∙ write_first _ op front (Symbol symbol.SEMICOLON ∷ after) x.form

-- so it begins as a statement does
pub write_begins : (number : List ℕ → ℕ) (op : OpSpec) (tokens further after : Kinds) → SpellsWrite number op tokens → begins_statement ((tokens ++ further) ++ after) ≡ true
unfolding begins_statement
write_begins number op tokens further after (write_form bag x) = refl

-- ---- blocks

-- the reader of the statements inside
abbrev Inner : Type 0
Inner = Reader Names (List Stmt)

-- the rest of a block, after its `{`
abbrev Block : Spelling Names (List Stmt)
Block = Bind SpellsBody (Made (SymbolOf symbol.RIGHT_BRACE) (λ q end. q.1))

reads_block : {top slack : ℕ} (inner : Inner) → IsReader top slack SpellsBody EndsBody inner → IsReader top slack Block Whatever (λ names left most. rest_of_block (inner names left most))
unfolding rest_of_block
reads_block inner reads = follow reads (make (reads_one_symbol symbol.RIGHT_BRACE) (λ q end. q.1))
    (begins_made (SymbolOf symbol.RIGHT_BRACE) (λ q end. q.1) EndsBody (begins_one (λ u. Symbol symbol.RIGHT_BRACE) EndsBody (λ u. (refl, refl))))

-- what stands after the first block of an `if`
abbrev ElseForm : Spelling Names (List Stmt)
ElseForm = Or (AfterWord word.ELSE (AfterSymbol symbol.LEFT_BRACE Block)) (Pure (λ names. []))

-- its words are those of the grammar
is_else : (names : Names) (body : List Stmt) (tokens : Kinds) → ElseForm names body tokens → SpellsElse names body tokens
is_else names body tokens (this (both one (both one (both x (made one))))) = otherwise x
is_else names body tokens (other pure) = without

else_is : (names : Names) (body : List Stmt) (tokens : Kinds) → SpellsElse names body tokens → ElseForm names body tokens
else_is names body tokens without = other pure
else_is names body tokens (otherwise x) = this (both one (both one (both x (made one))))

-- no `else` is seen where there is none
none_unseen : (names : Names) (body : List Stmt) (tokens after : Kinds) → Pure (λ names. []) names body tokens → EndsStmt (first_of after) → sees_word word.ELSE (tokens ++ after) ≡ false
none_unseen names body tokens after pure ends = sees_word-first word.ELSE after ∙ ends

reads_else : {top slack : ℕ} (inner : Inner) → IsReader top slack SpellsBody EndsBody inner → IsReader top slack SpellsElse EndsStmt (λ names left most. else_at (inner names left most))
unfolding else_at
reads_else {slack = slack} inner reads = convert
    (choose_word slack word.ELSE (omega arith) (ends_so (after_symbol slack symbol.LEFT_BRACE (omega arith) (reads_block inner reads)) (λ first e. tt)) (reads_pure EndsStmt (λ names. [])) none_unseen)
    is_else else_is (λ first e. e) (λ names left most tokens. refl)

-- ---- `if` and `while`

abbrev BranchForm : Spelling Names Stmt
BranchForm = Bind ConditionEnded (Bind (λ q. Block q.0) (Made (λ q. SpellsElse q.0.0) (λ q no_block. stmt.If q.0.1.0 q.0.1.1 q.1 no_block)))

reads_branch : {top : ℕ} (inner : Inner) → IsReader top 0 SpellsBody EndsBody inner → IsReader top 1 BranchForm EndsStmt (λ names left most. if_statement (inner names left most) names most)
unfolding if_statement
reads_branch inner reads =
    bind_within 0 (reads_operation SpellsCondition EndsExpr condition_at symbol.LEFT_BRACE condition_is_form)
    (then_any (along (λ q. q.0) (reads_block inner reads)) (make (along (λ q. q.0.0) (reads_else inner reads)) (λ q no_block. stmt.If q.0.1.0 q.0.1.1 q.1 no_block)))
    (ended_length SpellsCondition symbol.LEFT_BRACE) (λ p a c tokens after x e. tt)

-- a `while`, after its keyword
abbrev LoopForm : Spelling Names Stmt
LoopForm = Bind ConditionEnded (Made (λ q. Block q.0) (λ q body. stmt.While q.1.0 q.1.1 body))

reads_loop : {top : ℕ} (inner : Inner) → IsReader top 0 SpellsBody EndsBody inner → IsReader top 1 LoopForm Whatever (λ names left most. while_statement (inner names left most) names most)
unfolding while_statement
reads_loop inner reads =
    bind_within 0 (reads_operation SpellsCondition EndsExpr condition_at symbol.LEFT_BRACE condition_is_form)
    (make (along (λ q. q.0) (reads_block inner reads)) (λ q body. stmt.While q.1.0 q.1.1 body))
    (ended_length SpellsCondition symbol.LEFT_BRACE) (λ p a c tokens after x e. tt)

-- ---- a statement

abbrev StmtForm : Spelling Names Stmt
StmtForm = Or WriteForm (Or (AfterWord word.IF BranchForm) (Or (AfterWord word.WHILE LoopForm) AssignForm))

-- an assignment begins with no keyword
assign_unseen : (wanted : ℕ) (names : Names) (s : Stmt) (tokens after : Kinds) → AssignForm names s tokens → sees_word wanted (tokens ++ after) ≡ false
unfolding sees_word
assign_unseen wanted names s tokens after (both one x) = refl

-- the reader of one of the four
reads_stmt_form : {top : ℕ} (inner : Inner) → IsReader top 0 SpellsBody EndsBody inner → IsReader top 1 StmtForm EndsStmt (λ names left most. statement (inner names left most) names most)
unfolding statement
reads_stmt_form inner reads =
    choose (sees_word word.WRITE) (word_local word.WRITE) (ends_so reads_write_stmt (λ first e. tt))
    (choose_word 1 word.IF (omega arith) (reads_branch inner reads)
    (choose_word 1 word.WHILE (omega arith) (ends_so (reads_loop inner reads) (λ first e. tt)) (ends_so reads_assignment (λ first e. tt))
    (λ p a tokens after x e. assign_unseen word.WHILE p a tokens after x))
    (λ p a tokens after x e. or_unseen word.IF (AfterWord word.WHILE LoopForm) AssignForm (word_unseen word.WHILE word.IF LoopForm refl) (assign_unseen word.IF) p a tokens after x))
    write_seen
    (λ p a tokens after x e. or_unseen word.WRITE (AfterWord word.IF BranchForm) (Or (AfterWord word.WHILE LoopForm) AssignForm) (word_unseen word.IF word.WRITE BranchForm refl)
    (or_unseen word.WRITE (AfterWord word.WHILE LoopForm) AssignForm (word_unseen word.WHILE word.WRITE LoopForm refl) (assign_unseen word.WRITE)) p a tokens after x)

-- the braces of one block, and of a block and what is after it
one_block : (first opening closing : TokenKind) (tokens inside : Kinds)
    → (first ∷ []) ++ ((tokens ++ opening ∷ []) ++ (inside ++ closing ∷ [])) ≡ first ∷ tokens ++ opening ∷ inside ++ closing ∷ []
one_block first opening closing tokens inside =
    ap (λ t. first ∷ t) (append_assoc tokens (opening ∷ []) (inside ++ closing ∷ [])) ∙ sym (append_assoc (first ∷ tokens) (opening ∷ inside) (closing ∷ []))

two_blocks : (first opening closing : TokenKind) (tokens inside others : Kinds)
    → (first ∷ []) ++ ((tokens ++ opening ∷ []) ++ ((inside ++ closing ∷ []) ++ others)) ≡ first ∷ tokens ++ opening ∷ inside ++ closing ∷ others
two_blocks first opening closing tokens inside others =
    ap (λ t. first ∷ t) (append_assoc tokens (opening ∷ []) ((inside ++ closing ∷ []) ++ others))
    ∙ ap (λ t. first ∷ (tokens ++ opening ∷ t)) (append_assoc inside (closing ∷ []) others) ∙ sym (append_assoc (first ∷ tokens) (opening ∷ inside) (closing ∷ others))

-- the statements inside a block
block_is : (names : Names) (body : List Stmt) (tokens : Kinds) → Block names body tokens
    → (inside : Kinds) × (tokens ≡ inside ++ Symbol symbol.RIGHT_BRACE ∷ []) × SpellsBody names body inside
block_is names body tokens (both {front = inside} x (made one)) = (inside, refl, x)

-- the statements after the first block
else_of : (names : Names) (operator : Operation) (yes_block : List Stmt) (s : Stmt) (tokens : Kinds)
    → Made {P = (Names × Operation) × List Stmt} (λ q. SpellsElse q.0.0) (λ q no_block. stmt.If q.0.1.0 q.0.1.1 q.1 no_block) ((names, operator), yes_block) s tokens
    → (no_block : List Stmt) × (s ≡ stmt.If operator.0 operator.1 yes_block no_block) × SpellsElse names no_block tokens
else_of names operator yes_block s tokens (made {a = no_block} x) = (no_block, refl, x)

-- an assignment, from its target on
assign_of : (names : Names) (target : List ℕ) (s : Stmt) (tokens : Kinds)
    → AfterSymbol {P = Names × List ℕ} symbol.EQUALS (Made (λ q. RightEnded q.0) (λ q made. stmt.Assign (number_in q.0 q.1) made.0 made.1)) (names, target) s tokens
    → SpellsStmt names s (Name target ∷ tokens)
assign_of names target s tokens (both one (made (with_end x))) = assign target x

-- the words of the four are those of the grammar
is_stmt : (names : Names) (s : Stmt) (tokens : Kinds) → StmtForm names s tokens → SpellsStmt names s tokens
is_stmt names s tokens (this (made (with_end x))) = write x
is_stmt names s tokens (other (this (both one (both (with_end {op = op} {args = args} {tokens = front} x) (both {a = yes_block} {front = block} {back = others} y z))))) =
    let inside = block_is names yes_block block y in
    let rest = else_of names (op, args) yes_block s others z in
    subst (λ t. SpellsStmt names s t)
    (sym (ap (λ t. Keyword word.IF ∷ (front ++ Symbol symbol.LEFT_BRACE ∷ []) ++ (t ++ others)) inside.1 ∙ two_blocks (Keyword word.IF) (Symbol symbol.LEFT_BRACE) (Symbol symbol.RIGHT_BRACE) front inside.0 others))
    (subst (λ t. SpellsStmt names t (Keyword word.IF ∷ front ++ Symbol symbol.LEFT_BRACE ∷ inside.0 ++ Symbol symbol.RIGHT_BRACE ∷ others)) (sym rest.1) (branch x inside.2 rest.2))
is_stmt names s tokens (other (other (this (both one (both (with_end {op = op} {args = args} {tokens = front} x) (made {a = body} {tokens = block} y)))))) =
    let inside = block_is names body block y in
    subst (λ t. SpellsStmt names (stmt.While op args body) t)
    (sym (ap (λ t. Keyword word.WHILE ∷ (front ++ Symbol symbol.LEFT_BRACE ∷ []) ++ t) inside.1 ∙ one_block (Keyword word.WHILE) (Symbol symbol.LEFT_BRACE) (Symbol symbol.RIGHT_BRACE) front inside.0))
    (loop x inside.2)
is_stmt names s tokens (other (other (other (both (one {a = target}) x)))) = assign_of names target s _ x

stmt_is : (names : Names) (s : Stmt) (tokens : Kinds) → SpellsStmt names s tokens → StmtForm names s tokens
stmt_is names s tokens (assign target x) = other (other (other (both one (both one (made (with_end x))))))
stmt_is names s tokens (write x) = this (made (with_end x))
stmt_is names s tokens (branch {op = op} {args = args} {yes = yes_block} {«no» = no_block} {tokens = front} {inside = inside} {others = others} x y z) =
    subst (λ t. StmtForm names (stmt.If op args yes_block no_block) t) (two_blocks (Keyword word.IF) (Symbol symbol.LEFT_BRACE) (Symbol symbol.RIGHT_BRACE) front inside others)
    (other (this (both one (both (with_end x) (both (both y (made one)) (made z))))))
stmt_is names s tokens (loop {op = op} {args = args} {body = body} {tokens = front} {inside = inside} x y) =
    subst (λ t. StmtForm names (stmt.While op args body) t) (one_block (Keyword word.WHILE) (Symbol symbol.LEFT_BRACE) (Symbol symbol.RIGHT_BRACE) front inside)
    (other (other (this (both one (both (with_end x) (made (both y (made one))))))))

-- the reader of a statement
pub reads_stmt : {top : ℕ} (inner : Inner) → IsReader top 0 SpellsBody EndsBody inner → IsReader top 1 SpellsStmt EndsStmt (λ names left most. statement (inner names left most) names most)
reads_stmt inner reads = convert (reads_stmt_form inner reads) is_stmt stmt_is (λ first e. e) (λ names left most tokens. refl)
