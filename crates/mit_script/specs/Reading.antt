-- Devices of the proofs: nobody has to believe them. How a script is read from its tokens, from left to right; that what is
-- read is what the grammar spells, and where reading stops, is `laws::reading_law`.
use Rattle.std.specs.Prelude.{ℕ, zero, suc, ◌-◌, ◌+◌, ◌^◌, pos, neg_ℤ, List, [], ◌∷◌, ◌++◌, length, take_while, Bool, true, false, not, nat_lt, nat_le, ◌==◌, ◌||◌, if◌then◌else◌, Option, Some, None, Result, Ok, Err}
use Rattle.mit_rows.specs.declared.value.Value.TheVariants as value
use Rattle.mit_rows.specs.declared.value.ColType.{ColType}
use Rattle.mit_rows.specs.declared.value.ColType.TheVariants.{Int, Text as Letters, Bool as Truth}
use Rattle.mit_expr.specs.declared.expr.BinOp.{BinOp}
use Rattle.mit_expr.specs.declared.expr.BinOp.TheVariants as operator
use Rattle.mit_expr.specs.declared.expr.Call.{Call}
use Rattle.mit_expr.specs.declared.expr.Call.TheVariants as call
use Rattle.mit_expr.specs.declared.expr.Expr.{Expr}
use Rattle.mit_expr.specs.declared.expr.Expr.TheVariants as expr
use Rattle.mit_ops.specs.Kinds.{bag_inputs_of}
use Rattle.mit_ops.specs.declared.kinds.Agg.{Agg}
use Rattle.mit_ops.specs.declared.kinds.Agg.TheVariants as agg
use Rattle.mit_ops.specs.declared.kinds.Flat.TheVariants as flat
use Rattle.mit_ops.specs.declared.kinds.OpSpec.{OpSpec}
use Rattle.mit_ops.specs.declared.kinds.OpSpec.TheVariants as kind
use Rattle.mit_lex.specs.Limits.{ends_run}
use Rattle.mit_lex.specs.declared.token.TokenKind.{TokenKind}
use Rattle.mit_lex.specs.declared.token.TokenKind.TheVariants.{Name, Number, Column, Text, Symbol, Keyword}
use Rattle.mit_lex.specs.declared.symbol.TheConstants as symbol
use Rattle.mit_lex.specs.declared.keyword.TheConstants as word
use Rattle.mit_script.specs.Grammar.{Kinds, arguments_in, captured_in, each_once, is_name, names_in, number_in}
use Rattle.mit_script.specs.Grammar.{rank_of}
use Rattle.mit_script.specs.declared.tree.Script.{Script}
use Rattle.mit_script.specs.declared.tree.Stmt.{Stmt}
use Rattle.mit_script.specs.declared.tree.Stmt.TheVariants as stmt

-- what was read and the tokens after it, or the tokens from the refused one on
abbrev pub Reading : Type 0 → Type 0
Reading A = Result (A × Kinds) Kinds

infixl 10 ◌>>=◌
abbrev pub ◌>>=◌ : {A B : Type 0} → Reading A → (A × Kinds → Reading B) → Reading B
(Ok read) >>= next = next read
(Err rest) >>= next = Err rest

-- ---- one token

-- this symbol, and this keyword
unfoldable pub expect_symbol : ℕ → Kinds → Reading (Unit {0})
expect_symbol wanted [] = Err []
expect_symbol wanted (Symbol place ∷ rest) = if place == wanted then Ok (tt, rest) else Err (Symbol place ∷ rest)
expect_symbol wanted (token ∷ rest) = Err (token ∷ rest)

unfoldable pub expect_word : ℕ → Kinds → Reading (Unit {0})
expect_word wanted [] = Err []
expect_word wanted (Keyword place ∷ rest) = if place == wanted then Ok (tt, rest) else Err (Keyword place ∷ rest)
expect_word wanted (token ∷ rest) = Err (token ∷ rest)

unfoldable pub name_at : Kinds → Reading (List ℕ)
name_at [] = Err []
name_at (Name name ∷ rest) = Ok (name, rest)
name_at (token ∷ rest) = Err (token ∷ rest)

unfoldable pub column_at : Kinds → Reading ℕ
column_at [] = Err []
column_at (Column column ∷ rest) = Ok (column, rest)
column_at (token ∷ rest) = Err (token ∷ rest)

unfoldable pub text_at : Kinds → Reading (List ℕ)
text_at [] = Err []
text_at (Text bytes ∷ rest) = Ok (bytes, rest)
text_at (token ∷ rest) = Err (token ∷ rest)

abbrev pub type_of_word : ℕ → Option ColType
type_of_word place =
    if place == word.INT then Some Int else (if place == word.TEXT then Some Letters else (if place == word.BOOL then Some Truth else None))

abbrev pub type_by : Option ColType → Kinds → Kinds → Reading ColType
type_by None all rest = Err all
type_by (Some type) all rest = Ok (type, rest)

unfoldable pub type_word_at : Kinds → Reading ColType
type_word_at [] = Err []
type_word_at (Keyword place ∷ rest) = type_by (type_of_word place) (Keyword place ∷ rest) rest
type_word_at (token ∷ rest) = Err (token ∷ rest)

-- the next token is this symbol, and this keyword
unfoldable pub sees_symbol : ℕ → Kinds → Bool
sees_symbol wanted (Symbol place ∷ rest) = place == wanted
sees_symbol wanted _ = false

unfoldable pub sees_word : ℕ → Kinds → Bool
sees_word wanted (Keyword place ∷ rest) = place == wanted
sees_word wanted _ = false

-- the tokens after the next one
abbrev pub after_next : Kinds → Kinds
after_next [] = []
after_next (token ∷ rest) = rest

-- ---- lists: the number bounds the turns, each of which takes a token

abbrev pub with_front : {A : Type 0} → List A → Reading (List A) → Reading (List A)
with_front items later = later >>= λ read. Ok (items ++ read.0, read.1)

unfoldable pub listed : {A : Type 0} → (Kinds → Reading A) → ℕ → Kinds → Reading (List A)
listed item zero tokens = Err tokens
listed item (suc turns) tokens =
    item tokens >>= λ first. if sees_symbol symbol.COMMA first.1 then with_front (first.0 ∷ []) (listed item turns (after_next first.1)) else Ok (first.0 ∷ [], first.1)

-- ---- expressions

abbrev pub operator_of_symbol : ℕ → Option BinOp
operator_of_symbol place =
    if place == symbol.PLUS then Some operator.Add else (if place == symbol.MINUS then Some operator.Sub
    else (if place == symbol.TIMES then Some operator.Mul else (if place == symbol.DIVIDE then Some operator.Div
    else (if place == symbol.REMAINDER then Some operator.Rem else (if place == symbol.JOINED then Some operator.Concat
    else (if place == symbol.SAME then Some operator.Eq else (if place == symbol.DIFFERENT then Some operator.Ne
    else (if place == symbol.BELOW then Some operator.Lt else (if place == symbol.AT_MOST then Some operator.Le
    else (if place == symbol.ABOVE then Some operator.Gt else (if place == symbol.AT_LEAST then Some operator.Ge else None)))))))))))

abbrev pub operator_of_word : ℕ → Option BinOp
operator_of_word place = if place == word.AND then Some operator.And else (if place == word.OR then Some operator.Or else None)

unfoldable pub operator_at : Kinds → Option BinOp
operator_at (Symbol place ∷ rest) = operator_of_symbol place
operator_at (Keyword place ∷ rest) = operator_of_word place
operator_at _ = None

-- the next token, where it is an operator of this rank
abbrev pub of_rank : ℕ → Option BinOp → Option BinOp
of_rank rank None = None
of_rank rank (Some op) = if rank_of op == rank then Some op else None

unfoldable pub ranked_operator : ℕ → Kinds → Option BinOp
ranked_operator rank tokens = of_rank rank (operator_at tokens)

abbrev pub call_of_word : ℕ → Option Call
call_of_word place =
    if place == word.TEXT then Some call.ToText else (if place == word.INT then Some call.ToInt else (if place == word.LEN then Some call.Len else None))

-- the size after a `-`
unfoldable pub negative_at : Kinds → Reading Expr
negative_at [] = Err []
negative_at (Number size ∷ rest) =
    if nat_le size (2 ^ 63) then Ok (expr.Lit (value.Int (neg_ℤ (pos size))), rest) else Err (Number size ∷ rest)
negative_at (token ∷ rest) = Err (token ∷ rest)

-- what stands after a `(`
unfoldable pub enclosed_at : (Kinds → Reading Expr) → Kinds → Reading Expr
enclosed_at inner tokens = inner tokens >>= λ e. expect_symbol symbol.RIGHT_PAREN e.1 >>= λ end. Ok (e.0, end.1)

unfoldable pub called_at : (Kinds → Reading Expr) → Call → Kinds → Reading Expr
called_at inner function tokens =
    expect_symbol symbol.LEFT_PAREN tokens >>= λ opened. enclosed_at inner opened.1 >>= λ e. Ok (expr.Call function e.0, e.1)

abbrev pub call_by : (Kinds → Reading Expr) → Option Call → Kinds → Kinds → Reading Expr
call_by inner None all rest = Err all
call_by inner (Some function) all rest = called_at inner function rest

abbrev pub primary_by : (Kinds → Reading Expr) → (List ℕ → ℕ) → TokenKind → Kinds → Reading Expr
primary_by inner number (Number size) rest =
    if nat_lt size (2 ^ 63) then Ok (expr.Lit (value.Int (pos size)), rest) else Err (Number size ∷ rest)
primary_by inner number (Text bytes) rest = Ok (expr.Lit (value.Text bytes), rest)
primary_by inner number (Column column) rest = Ok (expr.Column column, rest)
primary_by inner number (Name name) rest = Ok (expr.Capture (number name), rest)
primary_by inner number (Symbol place) rest =
    if place == symbol.MINUS then negative_at rest
    else (if place == symbol.LEFT_PAREN then enclosed_at inner rest else Err (Symbol place ∷ rest))
primary_by inner number (Keyword place) rest =
    if place == word.TRUE then Ok (expr.Lit (value.Bool true), rest)
    else (if place == word.FALSE then Ok (expr.Lit (value.Bool false), rest)
    else call_by inner (call_of_word place) (Keyword place ∷ rest) rest)

-- what stands alone
unfoldable pub primary : (Kinds → Reading Expr) → (List ℕ → ℕ) → Kinds → Reading Expr
primary inner number [] = Err []
primary inner number (token ∷ rest) = primary_by inner number token rest

-- operators of one rank, with an operand before each, and what stands left of the next one
abbrev pub chain_by : (Expr → Kinds → Reading Expr) → (Kinds → Reading Expr) → Option BinOp → Expr → Kinds → Reading Expr
chain_by later operand None left tokens = Ok (left, tokens)
chain_by later operand (Some op) left tokens = operand (after_next tokens) >>= λ right. later (expr.Bin op left right.0) right.1

unfoldable pub chain_from : (Kinds → Reading Expr) → ℕ → ℕ → Expr → Kinds → Reading Expr
chain_from operand rank zero left tokens = Err tokens
chain_from operand rank (suc turns) left tokens = chain_by (chain_from operand rank turns) operand (ranked_operator rank tokens) left tokens

unfoldable pub chain : (Kinds → Reading Expr) → ℕ → ℕ → Kinds → Reading Expr
chain operand rank turns tokens = operand tokens >>= λ left. chain_from operand rank turns left.0 left.1

-- a comparison has at most one operator: a second one is refused
abbrev pub alone : Option BinOp → Expr → Kinds → Reading Expr
alone None e tokens = Ok (e, tokens)
alone (Some op) e tokens = Err tokens

abbrev pub compared : (Kinds → Reading Expr) → Option BinOp → Expr → Kinds → Reading Expr
compared operand None left tokens = Ok (left, tokens)
compared operand (Some op) left tokens =
    operand (after_next tokens) >>= λ right. alone (ranked_operator 3 right.1) (expr.Bin op left right.0) right.1

unfoldable pub comparison : (Kinds → Reading Expr) → Kinds → Reading Expr
comparison operand tokens = operand tokens >>= λ left. compared operand (ranked_operator 3 left.1) left.0 left.1

unfoldable pub negation : (Kinds → Reading Expr) → (Kinds → Reading Expr) → Kinds → Reading Expr
negation inner operand tokens =
    if sees_word word.NOT tokens then (inner (after_next tokens) >>= λ e. Ok (expr.Not e.0, e.1)) else operand tokens

-- an expression of a rank, over those of the next rank
abbrev pub layer_at : (Kinds → Reading Expr) → ℕ → ℕ → (Kinds → Reading Expr) → Kinds → Reading Expr
layer_at inner turns rank operand =
    if rank == 2 then negation inner operand else (if rank == 3 then comparison operand else chain operand rank turns)

-- the rank is 7 less the second number; `inner` reads the expressions of the ranks after a `(` and a `not`
unfoldable pub ranked : (ℕ → Kinds → Reading Expr) → (List ℕ → ℕ) → ℕ → ℕ → Kinds → Reading Expr
ranked inner number turns zero tokens = primary (inner 7) number tokens
ranked inner number turns (suc below) tokens = layer_at (inner 5) turns (6 - below) (ranked inner number turns below) tokens

-- the first number bounds the depth and the turns: it is to be above the number of tokens
unfoldable pub expression : (List ℕ → ℕ) → ℕ → ℕ → Kinds → Reading Expr
expression number zero below tokens = Err tokens
expression number (suc depth) below tokens = ranked (expression number depth) number depth below tokens

-- ---- operators. An expression is read with the captured names of its statement, which are those ahead.

-- the tokens of the run ahead, up to the next `;`, `{` or `}`
abbrev pub run_of : Kinds → Kinds
run_of tokens = take_while (λ token. not (ends_run token)) tokens

-- how many bags an operator takes that begins with this keyword
abbrev pub bags_of_word : ℕ → ℕ
bags_of_word place =
    if (place == word.JOIN) || (place == word.UNION) then 2
    else (if (place == word.MAP) || (place == word.FILTER) || (place == word.FLAT) || (place == word.REDUCE) || (place == word.DISTINCT)
    || (place == word.ONLY) || (place == word.COUNT) || (place == word.SUM) || (place == word.WRITE) then 1 else 0)

unfoldable pub bags_ahead : Kinds → ℕ
bags_ahead (Keyword place ∷ rest) = bags_of_word place
bags_ahead _ = 0

-- the numbers of the names that are captured ahead
unfoldable pub number_ahead : Kinds → List ℕ → ℕ
number_ahead tokens = number_in (captured_in (bags_ahead tokens) (run_of tokens))

-- an expression where any may stand, with these numbers of names and a bound on the tokens
abbrev pub any_expression : (List ℕ → ℕ) → ℕ → Kinds → Reading Expr
any_expression number most = expression number most 7

unfoldable pub exprs_at : (List ℕ → ℕ) → ℕ → Kinds → Reading (List Expr)
exprs_at number most tokens =
    expect_symbol symbol.LEFT_BRACKET tokens >>= λ opened. listed (any_expression number most) most opened.1 >>= λ exprs.
    expect_symbol symbol.RIGHT_BRACKET exprs.1 >>= λ end. Ok (exprs.0, end.1)

unfoldable pub types_at : ℕ → Kinds → Reading (List ColType)
types_at most tokens =
    expect_symbol symbol.LEFT_PAREN tokens >>= λ opened. listed type_word_at most opened.1 >>= λ types.
    expect_symbol symbol.RIGHT_PAREN types.1 >>= λ end. Ok (types.0, end.1)

abbrev pub columns_at : ℕ → Kinds → Reading (List ℕ)
columns_at most = listed column_at most

abbrev pub of_column : (ℕ → Agg) → Reading ℕ → Reading Agg
of_column made read = read >>= λ column. Ok (made column.0, column.1)

abbrev pub agg_by : ℕ → Kinds → Reading Agg
agg_by place rest =
    if place == word.COUNT then Ok (agg.Count, rest)
    else (if place == word.SUM then of_column agg.Sum (column_at rest)
    else (if place == word.MIN then of_column agg.Min (column_at rest)
    else (if place == word.MAX then of_column agg.Max (column_at rest) else Err (Keyword place ∷ rest))))

unfoldable pub agg_at : Kinds → Reading Agg
agg_at [] = Err []
agg_at (Keyword place ∷ rest) = agg_by place rest
agg_at (token ∷ rest) = Err (token ∷ rest)

-- each form from the token after its keyword on
unfoldable pub read_at : (List ℕ → ℕ) → ℕ → Kinds → Reading OpSpec
read_at number most tokens =
    any_expression number most tokens >>= λ name. types_at most name.1 >>= λ types. Ok (kind.Read name.0 types.0, types.1)

unfoldable pub map_at : (List ℕ → ℕ) → ℕ → Kinds → Reading OpSpec
map_at number most tokens = name_at tokens >>= λ bag. exprs_at number most bag.1 >>= λ exprs. Ok (kind.Map exprs.0, exprs.1)

unfoldable pub filter_at : (List ℕ → ℕ) → ℕ → Kinds → Reading OpSpec
filter_at number most tokens =
    name_at tokens >>= λ bag. expect_word word.WHERE bag.1 >>= λ wanted. any_expression number most wanted.1 >>= λ e. Ok (kind.Filter e.0, e.1)

unfoldable pub words_at : (List ℕ → ℕ) → ℕ → Kinds → Reading OpSpec
words_at number most tokens =
    any_expression number most tokens >>= λ e. expect_symbol symbol.COMMA e.1 >>= λ comma. text_at comma.1 >>= λ separator.
    Ok (kind.FlatMap (flat.Words e.0 separator.0), separator.1)

unfoldable pub range_at : (List ℕ → ℕ) → ℕ → Kinds → Reading OpSpec
range_at number most tokens =
    any_expression number most tokens >>= λ from. expect_symbol symbol.COMMA from.1 >>= λ comma. any_expression number most comma.1 >>= λ to.
    Ok (kind.FlatMap (flat.Range from.0 to.0), to.1)

unfoldable pub flat_by : (List ℕ → ℕ) → ℕ → Kinds → Reading OpSpec
flat_by number most tokens =
    if sees_word word.WORDS tokens then words_at number most (after_next tokens)
    else (if sees_word word.RANGE tokens then range_at number most (after_next tokens) else Err tokens)

unfoldable pub flat_at : (List ℕ → ℕ) → ℕ → Kinds → Reading OpSpec
flat_at number most tokens = name_at tokens >>= λ bag. flat_by number most bag.1

unfoldable pub join_at : ℕ → Kinds → Reading OpSpec
join_at most tokens =
    name_at tokens >>= λ bag. columns_at most bag.1 >>= λ left. expect_word word.WITH left.1 >>= λ second. name_at second.1 >>= λ other.
    columns_at most other.1 >>= λ right. Ok (kind.Join left.0 right.0, right.1)

unfoldable pub reduce_at : ℕ → Kinds → Reading OpSpec
reduce_at most tokens =
    name_at tokens >>= λ bag. expect_word word.BY bag.1 >>= λ by. columns_at most by.1 >>= λ keys. agg_at keys.1 >>= λ of_key.
    Ok (kind.Reduce keys.0 of_key.0, of_key.1)

unfoldable pub union_at : Kinds → Reading OpSpec
union_at tokens =
    name_at tokens >>= λ bag. expect_symbol symbol.COMMA bag.1 >>= λ comma. name_at comma.1 >>= λ other. Ok (kind.Union, other.1)

unfoldable pub of_bag_at : OpSpec → Kinds → Reading OpSpec
of_bag_at op tokens = name_at tokens >>= λ bag. Ok (op, bag.1)

unfoldable pub sum_at : Kinds → Reading OpSpec
sum_at tokens = name_at tokens >>= λ bag. column_at bag.1 >>= λ column. Ok (kind.Sum column.0, column.1)

unfoldable pub row_form_at : (List ℕ → ℕ) → ℕ → Kinds → Reading OpSpec
row_form_at number most tokens = exprs_at number most tokens >>= λ exprs. Ok (kind.MakeRow exprs.0, exprs.1)

unfoldable pub empty_at : ℕ → Kinds → Reading OpSpec
empty_at most tokens = types_at most tokens >>= λ types. Ok (kind.Empty types.0, types.1)

abbrev pub copy_or_scalar : Expr → OpSpec
copy_or_scalar e = if is_name e then kind.Copy else kind.Scalar e

unfoldable pub scalar_at : (List ℕ → ℕ) → ℕ → Kinds → Reading OpSpec
scalar_at number most tokens = any_expression number most tokens >>= λ e. Ok (copy_or_scalar e.0, e.1)

-- the form of a keyword, or an expression
abbrev pub right_by : (List ℕ → ℕ) → ℕ → ℕ → Kinds → Kinds → Reading OpSpec
right_by number most place all rest =
    if place == word.READ then read_at number most rest else (if place == word.MAP then map_at number most rest
    else (if place == word.FILTER then filter_at number most rest else (if place == word.FLAT then flat_at number most rest
    else (if place == word.JOIN then join_at most rest else (if place == word.REDUCE then reduce_at most rest
    else (if place == word.UNION then union_at rest else (if place == word.DISTINCT then of_bag_at kind.Distinct rest
    else (if place == word.ONLY then of_bag_at kind.Only rest else (if place == word.COUNT then of_bag_at kind.Count rest
    else (if place == word.SUM then sum_at rest else (if place == word.ROW then row_form_at number most rest
    else (if place == word.EMPTY then empty_at most rest else scalar_at number most all))))))))))))

unfoldable pub right_at : (List ℕ → ℕ) → ℕ → Kinds → Reading OpSpec
right_at number most (Keyword place ∷ rest) = right_by number most place (Keyword place ∷ rest) rest
right_at number most tokens = scalar_at number most tokens

unfoldable pub write_form_at : (List ℕ → ℕ) → ℕ → Kinds → Reading OpSpec
write_form_at number most tokens =
    expect_word word.WRITE tokens >>= λ write. name_at write.1 >>= λ bag. expect_word word.TO bag.1 >>= λ to. any_expression number most to.1 >>= λ name.
    Ok (kind.Write name.0, name.1)

unfoldable pub condition_at : (List ℕ → ℕ) → ℕ → Kinds → Reading OpSpec
condition_at number most tokens = any_expression number most tokens >>= λ e. Ok (kind.Scalar e.0, e.1)

-- ---- statements

-- an operator and the numbers of its arguments
abbrev pub Operation : Type 0
Operation = OpSpec × List ℕ

-- an operator of a form, up to and with the symbol that ends its run
unfoldable pub operation : ((List ℕ → ℕ) → ℕ → Kinds → Reading OpSpec) → ℕ → List (List ℕ) → ℕ → Kinds → Reading Operation
operation form ending names most tokens =
    form (number_ahead tokens) most tokens >>= λ op. expect_symbol ending op.1 >>= λ end.
    Ok ((op.0, arguments_in names (bag_inputs_of op.0) (run_of tokens)), end.1)

unfoldable pub assignment : List (List ℕ) → ℕ → Kinds → Reading Stmt
assignment names most tokens =
    name_at tokens >>= λ target. expect_symbol symbol.EQUALS target.1 >>= λ equals. operation right_at symbol.SEMICOLON names most equals.1 >>= λ made.
    Ok (stmt.Assign (number_in names target.0) made.0.0 made.0.1, made.1)

unfoldable pub write_statement : List (List ℕ) → ℕ → Kinds → Reading Stmt
write_statement names most tokens = operation write_form_at symbol.SEMICOLON names most tokens >>= λ made. Ok (stmt.Write made.0.0 made.0.1, made.1)

-- the rest of a block, after its `{`
unfoldable pub rest_of_block : (Kinds → Reading (List Stmt)) → Kinds → Reading (List Stmt)
rest_of_block inner tokens = inner tokens >>= λ body. expect_symbol symbol.RIGHT_BRACE body.1 >>= λ end. Ok (body.0, end.1)

unfoldable pub else_at : (Kinds → Reading (List Stmt)) → Kinds → Reading (List Stmt)
else_at inner tokens =
    if sees_word word.ELSE tokens then (expect_symbol symbol.LEFT_BRACE (after_next tokens) >>= λ opened. rest_of_block inner opened.1) else Ok ([], tokens)

-- after the words `if` and `while`
unfoldable pub if_statement : (Kinds → Reading (List Stmt)) → List (List ℕ) → ℕ → Kinds → Reading Stmt
if_statement inner names most tokens =
    operation condition_at symbol.LEFT_BRACE names most tokens >>= λ made. rest_of_block inner made.1 >>= λ yes. else_at inner yes.1 >>= λ no.
    Ok (stmt.If made.0.0 made.0.1 yes.0 no.0, no.1)

unfoldable pub while_statement : (Kinds → Reading (List Stmt)) → List (List ℕ) → ℕ → Kinds → Reading Stmt
while_statement inner names most tokens =
    operation condition_at symbol.LEFT_BRACE names most tokens >>= λ made. rest_of_block inner made.1 >>= λ body.
    Ok (stmt.While made.0.0 made.0.1 body.0, body.1)

unfoldable pub statement : (Kinds → Reading (List Stmt)) → List (List ℕ) → ℕ → Kinds → Reading Stmt
statement inner names most tokens =
    if sees_word word.WRITE tokens then write_statement names most tokens
    else (if sees_word word.IF tokens then if_statement inner names most (after_next tokens)
    else (if sees_word word.WHILE tokens then while_statement inner names most (after_next tokens) else assignment names most tokens))

-- the next token begins a statement
unfoldable pub begins_statement : Kinds → Bool
begins_statement (Name name ∷ rest) = true
begins_statement (Keyword place ∷ rest) = (place == word.WRITE) || (place == word.IF) || (place == word.WHILE)
begins_statement _ = false

-- statements one after another; the first number bounds their depth and number, and the second one the tokens of each
unfoldable pub statements : List (List ℕ) → ℕ → ℕ → Kinds → Reading (List Stmt)
statements names most zero tokens = Err tokens
statements names most (suc left) tokens =
    if begins_statement tokens
    then (statement (statements names most left) names most tokens >>= λ first. with_front (first.0 ∷ []) (statements names most left first.1))
    else Ok ([], tokens)

-- ---- scripts

-- nothing may be left
abbrev pub to_the_end : List Stmt → Kinds → Result (List Stmt) Kinds
to_the_end body [] = Ok body
to_the_end body (token ∷ rest) = Err (token ∷ rest)

abbrev pub ended_reading : Reading (List Stmt) → Result (List Stmt) Kinds
ended_reading (Ok read) = to_the_end read.0 read.1
ended_reading (Err rest) = Err rest

abbrev pub with_names : List (List ℕ) → Result (List Stmt) Kinds → Result Script Kinds
with_names names (Ok body) = Ok (record { body = body; names = names })
with_names names (Err rest) = Err rest

-- the script of these tokens, or the tokens from the refused one on
unfoldable pub read_script : Kinds → Result Script Kinds
read_script tokens =
    let names = each_once (names_in tokens) in
    with_names names (ended_reading (statements names (length tokens + 1) (length tokens + 1) tokens))
