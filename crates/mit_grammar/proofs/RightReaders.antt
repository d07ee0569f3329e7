-- The readers of operators: the forms of the right side, of `write` and of a condition.
use Rattle.std.proofs.Common.{◌≡◌, ℕ, List, ◌++◌, Option, Some, None, refl, sym, subst, ◌∙◌, arith, append_assoc}
use Rattle.mit_rows.specs.declared.value.ColType.{ColType}
use Rattle.mit_expr.specs.declared.expr.Expr.{Expr}
use Rattle.mit_lex.specs.declared.token.TokenKind.{TokenKind}
use Rattle.mit_lex.specs.declared.token.TokenKind.TheVariants.{Symbol}
use Rattle.mit_lex.specs.declared.symbol.TheConstants as symbol
use Rattle.mit_script.specs.Grammar.{Kinds, Listed, SpellsType, SpellsColumn, SpellsExpr, stronger, positive}
use Rattle.mit_script.specs.Reading.{column_at, type_word_at, any_expression, exprs_at, types_at, columns_at}
use Rattle.mit_grammar.proofs.Readers.{Anything, first_of, reads_as}
use Rattle.mit_grammar.proofs.ExprFacts.{ends_none, first_operator, operator_at-first}
use Rattle.mit_grammar.proofs.ExprComplete.{expressions_complete}
use Rattle.mit_grammar.proofs.ExprReads.{reads_expression}
use Rattle.mit_grammar.proofs.StmtReaders.{Spelling, Reader, IsReader, Others, One, one, Bind, both, bound, bind, Made, made, make, convert}
use Rattle.mit_grammar.proofs.StmtTokens.{Whatever, SymbolOf, reads_one_symbol, reads_the_column, reads_the_type, AfterSymbol, after_symbol, EndsList, reads_list}

-- the numbers of names
abbrev pub Numbers : Type 0
Numbers = List ℕ → ℕ

-- ---- what may follow

-- no operator follows
abbrev pub EndsExpr : Option TokenKind → Type 0
EndsExpr first = first_operator first ≡ None

-- no operator and no comma follows
abbrev pub EndsRight : Option TokenKind → Type 0
EndsRight = EndsList EndsExpr

-- each word begins with a token that may stand there
abbrev pub Begins : {P A : Type 0} → Spelling P A → (Option TokenKind → Type 0) → Type 0
Begins {P = P} {A = A} R F = (p : P) (a : A) (tokens after : Kinds) → R p a tokens → F (first_of (tokens ++ after))

-- how words begin: of one token, of two pieces, of a value that is made
pub begins_one : {P A : Type 0} (token : A → TokenKind) (F : Option TokenKind → Type 0) → ((a : A) → F (Some (token a))) → Begins {P = P} (One token) F
begins_one token F may p a tokens after one = may a

pub begins_both : {P A C : Type 0} (R : Spelling P A) (S : Spelling (P × A) C) (F : Option TokenKind → Type 0) → Begins R F → Begins (Bind R S) F
begins_both R S F may p c tokens after (both {a = a} {front = front} {back = back} x y) =
    subst (λ t. F (first_of t)) (sym (append_assoc front back after)) (may p a front (back ++ after) x)

pub begins_made : {P A C : Type 0} (R : Spelling P A) (f : P → A → C) (F : Option TokenKind → Type 0) → Begins R F → Begins (Made R f) F
begins_made R f F may p c tokens after (made {a = a} x) = may p a tokens after x

-- one piece after another, which begins with a token that may follow the first
pub follow : {P A C : Type 0} {top slack : ℕ} {R : Spelling P A} {F G : Option TokenKind → Type 0} {r : Reader P A} {S : Spelling (P × A) C} {s : Reader (P × A) C}
    → IsReader top slack R F r → IsReader top slack S G s → Begins S F → IsReader top slack (Bind R S) G (bound r s)
follow first second may = bind first second (λ p a c tokens after x e. may (p, a) c tokens after x)

-- anything may follow the first
pub then_any : {P A C : Type 0} {top slack : ℕ} {R : Spelling P A} {G : Option TokenKind → Type 0} {r : Reader P A} {S : Spelling (P × A) C} {s : Reader (P × A) C}
    → IsReader top slack R Whatever r → IsReader top slack S G s → IsReader top slack (Bind R S) G (bound r s)
then_any first second = bind first second (λ p a c tokens after x e. tt)

-- less may follow
pub ends_so : {P A : Type 0} {top slack : ℕ} {R : Spelling P A} {F G : Option TokenKind → Type 0} {r : Reader P A} → IsReader top slack R F r → ((first : Option TokenKind) → G first → F first)
    → IsReader top slack R G r
ends_so reads so = convert reads (λ p a tokens x. x) (λ p a tokens x. x) so (λ p left most tokens. refl)

-- ---- expressions

abbrev pub AnExpr : Spelling Numbers Expr
AnExpr number = SpellsExpr number 0

-- the number 0
an_expr : (number : Numbers) → (e : Expr) × (tokens : Kinds) × AnExpr number e tokens
an_expr number = (_, _, stronger (stronger (stronger (stronger (stronger (stronger (stronger (positive 0 (omega arith)))))))))

-- the reader of an expression
pub reads_expr : {top slack : ℕ} → IsReader top slack AnExpr EndsExpr (λ number left most. any_expression number most)
reads_expr {top = top} {slack = slack} = record {
  some = an_expr;
  complete = λ number left most e tokens after fits x ends. (expressions_complete number most).0 e tokens after x (ends_none 0 after (operator_at-first after ∙ ends)) fits.wide;
  reads = λ number left most tokens fits.
      reads_as (AnExpr number) Anything (λ (x : Others Numbers top left most). any_expression x.0 x.2) (λ e used x. x) (λ rest ends. tt) (λ x. ((x.0, x.2, x.3.wide), λ later. refl))
      (reads_expression number most tokens fits.wide);
}

-- ---- lists in brackets and parentheses

abbrev pub Exprs : Spelling Numbers (List Expr)
Exprs = AfterSymbol symbol.LEFT_BRACKET (Bind (λ number. Listed (AnExpr number)) (Made (SymbolOf symbol.RIGHT_BRACKET) (λ q end. q.1)))

pub reads_exprs : {top slack : ℕ} → IsReader top slack Exprs Whatever (λ number left most. exprs_at number most)
unfolding exprs_at
reads_exprs {slack = slack} =
    after_symbol slack symbol.LEFT_BRACKET (omega arith)
    (follow (reads_list AnExpr EndsExpr any_expression (λ top slack. reads_expr) refl) (make (reads_one_symbol symbol.RIGHT_BRACKET) (λ q end. q.1))
    (begins_made (SymbolOf symbol.RIGHT_BRACKET) (λ q end. q.1) EndsRight (begins_one (λ u. Symbol symbol.RIGHT_BRACKET) EndsRight (λ u. (refl, refl)))))

-- types in parentheses
abbrev pub Types : {P : Type 0} → Spelling P (List ColType)
Types = AfterSymbol symbol.LEFT_PAREN (Bind (λ p. Listed SpellsType) (Made (SymbolOf symbol.RIGHT_PAREN) (λ q end. q.1)))

pub reads_types : {P : Type 0} {top slack : ℕ} → IsReader {P = P} top slack Types Whatever (λ p left most. types_at most)
unfolding types_at
reads_types {slack = slack} =
    after_symbol slack symbol.LEFT_PAREN (omega arith)
    (follow (reads_list (λ p. SpellsType) Whatever (λ p most. type_word_at) (λ top slack. reads_the_type) tt) (make (reads_one_symbol symbol.RIGHT_PAREN) (λ q end. q.1))
    (begins_made (SymbolOf symbol.RIGHT_PAREN) (λ q end. q.1) (EndsList Whatever) (begins_one (λ u. Symbol symbol.RIGHT_PAREN) (EndsList Whatever) (λ u. (tt, refl)))))

-- columns with commas between
abbrev pub Columns : {P : Type 0} → Spelling P (List ℕ)
Columns p = Listed SpellsColumn

pub reads_columns : {P : Type 0} {top slack : ℕ} → IsReader {P = P} top slack Columns (EndsList Whatever) (λ p left most. columns_at most)
reads_columns = reads_list (λ p. SpellsColumn) Whatever (λ p most. column_at) (λ top slack. reads_the_column) tt
