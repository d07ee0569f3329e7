-- The grammar of scripts: which tokens spell which tree, one case for each form.
use Rattle.std.specs.Prelude.{◌≡◌, ◌<◌, ◌≤◌, ℕ, suc, ◌+◌, ◌^◌, ◌==◌, pos, neg_ℤ, List, [], ◌∷◌, ◌++◌, map, filter, take, drop, Bool, true, false, not, bytes_eq, if◌then◌else◌, unwrap_or, position, Ok}
use Rattle.mit_rows.specs.declared.value.Value.TheVariants as value
use Rattle.mit_rows.specs.declared.value.ColType.{ColType}
use Rattle.mit_rows.specs.declared.value.ColType.TheVariants.{Int, Text as Letters, Bool as Truth}
use Rattle.mit_expr.specs.declared.expr.BinOp.{BinOp}
use Rattle.mit_expr.specs.declared.expr.BinOp.TheVariants as operator
use Rattle.mit_expr.specs.declared.expr.Call.{Call}
use Rattle.mit_expr.specs.declared.expr.Call.TheVariants as call
use Rattle.mit_expr.specs.declared.expr.Expr.{Expr, out-Expr}
use Rattle.mit_expr.specs.declared.expr.Expr.TheVariants as expr
use Rattle.mit_expr.specs.declared.expr.Expr.TheOpen.{Expr-F}
use Rattle.mit_expr.specs.declared.expr.Expr.TheOpen as layer
use Rattle.mit_ops.specs.Kinds.{bag_inputs_of}
use Rattle.mit_ops.specs.declared.kinds.Agg.{Agg}
use Rattle.mit_ops.specs.declared.kinds.Agg.TheVariants as agg
use Rattle.mit_ops.specs.declared.kinds.Flat.TheVariants as flat
use Rattle.mit_ops.specs.declared.kinds.OpSpec.{OpSpec}
use Rattle.mit_ops.specs.declared.kinds.OpSpec.TheVariants as kind
use Rattle.mit_lex.specs.Tokens.{tokens_of}
use Rattle.mit_lex.specs.declared.token.Token.{Token}
use Rattle.mit_lex.specs.declared.token.TokenKind.{TokenKind}
use Rattle.mit_lex.specs.declared.token.TokenKind.TheVariants.{Name, Number, Column, Text, Symbol, Keyword}
use Rattle.mit_lex.specs.declared.symbol.TheConstants as symbol
use Rattle.mit_lex.specs.declared.keyword.TheConstants as word
use Rattle.mit_script.specs.declared.tree.Script.{Script}
use Rattle.mit_script.specs.declared.tree.Stmt.{Stmt}
use Rattle.mit_script.specs.declared.tree.Stmt.TheVariants as stmt

-- what tokens are, without their places in the text
abbrev pub Kinds : Type 0
Kinds = List TokenKind

-- ---- names

-- the names among tokens, in their order
abbrev pub name_in : TokenKind → List (List ℕ)
name_in (Name word) = word ∷ []
name_in _ = []

unfoldable pub names_in : Kinds → List (List ℕ)
names_in [] = []
names_in (token ∷ tokens) = name_in token ++ names_in tokens

-- each name once, in the order in which they appear first
unfoldable pub each_once : List (List ℕ) → List (List ℕ)
each_once [] = []
each_once (word ∷ words) = word ∷ filter (λ other. not (bytes_eq word other)) (each_once words)

-- the number of a name among these, from 0
abbrev pub number_in : List (List ℕ) → List ℕ → ℕ
number_in names word = unwrap_or (position (λ name. bytes_eq name word) names) 0

-- ---- lists

-- one or more, with commas between
pub data Listed {A : Type 0} (Item : A → Kinds → Type 0) : List A → Kinds → Type 0 where
  single_item : {item : A} {tokens : Kinds} → Item item tokens → Listed Item (item ∷ []) tokens
  and_more : {item : A} {items : List A} {tokens others : Kinds} → Item item tokens → Listed Item items others
      → Listed Item (item ∷ items) (tokens ++ Symbol symbol.COMMA ∷ others)

-- the one token of a type, and of a column
abbrev pub type_token : ColType → TokenKind
type_token Int = Keyword word.INT
type_token Letters = Keyword word.TEXT
type_token Truth = Keyword word.BOOL

abbrev pub SpellsType : ColType → Kinds → Type 0
SpellsType type tokens = tokens ≡ type_token type ∷ []

abbrev pub SpellsColumn : ℕ → Kinds → Type 0
SpellsColumn column tokens = tokens ≡ Column column ∷ []

-- ---- expressions

abbrev pub operator_token : BinOp → TokenKind
operator_token operator.Add = Symbol symbol.PLUS
operator_token operator.Sub = Symbol symbol.MINUS
operator_token operator.Mul = Symbol symbol.TIMES
operator_token operator.Div = Symbol symbol.DIVIDE
operator_token operator.Rem = Symbol symbol.REMAINDER
operator_token operator.Concat = Symbol symbol.JOINED
operator_token operator.Eq = Symbol symbol.SAME
operator_token operator.Ne = Symbol symbol.DIFFERENT
operator_token operator.Lt = Symbol symbol.BELOW
operator_token operator.Le = Symbol symbol.AT_MOST
operator_token operator.Gt = Symbol symbol.ABOVE
operator_token operator.Ge = Symbol symbol.AT_LEAST
operator_token operator.And = Keyword word.AND
operator_token operator.Or = Keyword word.OR

abbrev pub call_token : Call → TokenKind
call_token call.ToText = Keyword word.TEXT
call_token call.ToInt = Keyword word.INT
call_token call.Len = Keyword word.LEN

abbrev pub truth_token : Bool → TokenKind
truth_token true = Keyword word.TRUE
truth_token false = Keyword word.FALSE

-- how strongly an operator binds; `not` has rank 2, and what stands alone has rank 7
abbrev pub rank_of : BinOp → ℕ
rank_of operator.Or = 0
rank_of operator.And = 1
rank_of operator.Eq = 3
rank_of operator.Ne = 3
rank_of operator.Lt = 3
rank_of operator.Le = 3
rank_of operator.Gt = 3
rank_of operator.Ge = 3
rank_of operator.Concat = 4
rank_of operator.Add = 5
rank_of operator.Sub = 5
rank_of operator.Mul = 6
rank_of operator.Div = 6
rank_of operator.Rem = 6

-- the least rank that a left operand has without parentheses: chains group to the left, and comparisons are no chains
abbrev pub left_rank : BinOp → ℕ
left_rank op = if rank_of op == 3 then 4 else rank_of op

-- and a right operand: one more than the operator's
abbrev pub right_rank : BinOp → ℕ
right_rank op = rank_of op + 1

-- The tokens spell the expression where one of at least this rank is wanted: 0 is the rank of `or`, 1 of `and`, 2 of `not`,
-- 3 of comparisons, 4 of `++`, 5 of `+` and `-`, 6 of `*`, `/` and `%`, and 7 of what stands alone. A captured name has a
-- number. Chains group to the left, and a comparison is no operand of another.
pub data SpellsExpr (number : List ℕ → ℕ) : ℕ → Expr → Kinds → Type 0 where
  stronger : {rank : ℕ} {e : Expr} {tokens : Kinds} → SpellsExpr number (suc rank) e tokens → SpellsExpr number rank e tokens
  binary : {left right : Expr} {tokens others : Kinds} → (op : BinOp) → SpellsExpr number (left_rank op) left tokens
      → SpellsExpr number (right_rank op) right others
      → SpellsExpr number (rank_of op) (expr.Bin op left right) (tokens ++ operator_token op ∷ others)
  negated : {e : Expr} {tokens : Kinds} → SpellsExpr number 2 e tokens → SpellsExpr number 2 (expr.Not e) (Keyword word.NOT ∷ tokens)
  positive : (size : ℕ) → size < 2 ^ 63 → SpellsExpr number 7 (expr.Lit (value.Int (pos size))) (Number size ∷ [])
  negative : (size : ℕ) → size ≤ 2 ^ 63
      → SpellsExpr number 7 (expr.Lit (value.Int (neg_ℤ (pos size)))) (Symbol symbol.MINUS ∷ Number size ∷ [])
  text_literal : (bytes : List ℕ) → SpellsExpr number 7 (expr.Lit (value.Text bytes)) (Text bytes ∷ [])
  truth_literal : (holds : Bool) → SpellsExpr number 7 (expr.Lit (value.Bool holds)) (truth_token holds ∷ [])
  column_place : (place : ℕ) → SpellsExpr number 7 (expr.Column place) (Column place ∷ [])
  captured_name : (name : List ℕ) → SpellsExpr number 7 (expr.Capture (number name)) (Name name ∷ [])
  function_call : {e : Expr} {tokens : Kinds} → (function : Call) → SpellsExpr number 0 e tokens
      → SpellsExpr number 7 (expr.Call function e)
      (call_token function ∷ Symbol symbol.LEFT_PAREN ∷ tokens ++ Symbol symbol.RIGHT_PAREN ∷ [])
  enclosed : {e : Expr} {tokens : Kinds} → SpellsExpr number 0 e tokens
      → SpellsExpr number 7 e (Symbol symbol.LEFT_PAREN ∷ tokens ++ Symbol symbol.RIGHT_PAREN ∷ [])

-- the expression is a single name
abbrev pub is_name_layer : Expr-F Expr → Bool
is_name_layer (layer.Capture capture) = true
is_name_layer _ = false

abbrev pub is_name : Expr → Bool
is_name e = is_name_layer (out-Expr e)

-- ---- operators

abbrev pub agg_tokens : Agg → Kinds
agg_tokens agg.Count = Keyword word.COUNT ∷ []
agg_tokens (agg.Sum column) = Keyword word.SUM ∷ Column column ∷ []
agg_tokens (agg.Min column) = Keyword word.MIN ∷ Column column ∷ []
agg_tokens (agg.Max column) = Keyword word.MAX ∷ Column column ∷ []

-- the right side of an assignment; a single name is copied, and any other expression is a scalar
pub data SpellsRight (number : List ℕ → ℕ) : OpSpec → Kinds → Type 0 where
  read_form : {name : Expr} {types : List ColType} {tokens others : Kinds} → SpellsExpr number 0 name tokens → Listed SpellsType types others
      → SpellsRight number (kind.Read name types)
      (Keyword word.READ ∷ tokens ++ Symbol symbol.LEFT_PAREN ∷ others ++ Symbol symbol.RIGHT_PAREN ∷ [])
  map_form : {exprs : List Expr} {tokens : Kinds} → (bag : List ℕ) → Listed (SpellsExpr number 0) exprs tokens
      → SpellsRight number (kind.Map exprs)
      (Keyword word.MAP ∷ Name bag ∷ Symbol symbol.LEFT_BRACKET ∷ tokens ++ Symbol symbol.RIGHT_BRACKET ∷ [])
  filter_form : {e : Expr} {tokens : Kinds} → (bag : List ℕ) → SpellsExpr number 0 e tokens
      → SpellsRight number (kind.Filter e) (Keyword word.FILTER ∷ Name bag ∷ Keyword word.WHERE ∷ tokens)
  words_form : {e : Expr} {tokens : Kinds} → (bag separator : List ℕ) → SpellsExpr number 0 e tokens
      → SpellsRight number (kind.FlatMap (flat.Words e separator))
      (Keyword word.FLAT ∷ Name bag ∷ Keyword word.WORDS ∷ tokens ++ Symbol symbol.COMMA ∷ Text separator ∷ [])
  range_form : {from to : Expr} {tokens others : Kinds} → (bag : List ℕ) → SpellsExpr number 0 from tokens → SpellsExpr number 0 to others
      → SpellsRight number (kind.FlatMap (flat.Range from to))
      (Keyword word.FLAT ∷ Name bag ∷ Keyword word.RANGE ∷ tokens ++ Symbol symbol.COMMA ∷ others)
  join_form : {left right : List ℕ} {tokens others : Kinds} → (bag other : List ℕ) → Listed SpellsColumn left tokens
      → Listed SpellsColumn right others
      → SpellsRight number (kind.Join left right)
      (Keyword word.JOIN ∷ Name bag ∷ tokens ++ Keyword word.WITH ∷ Name other ∷ others)
  reduce_form : {keys : List ℕ} {tokens : Kinds} → (bag : List ℕ) → (by : Agg) → Listed SpellsColumn keys tokens
      → SpellsRight number (kind.Reduce keys by) (Keyword word.REDUCE ∷ Name bag ∷ Keyword word.BY ∷ tokens ++ agg_tokens by)
  union_form : (bag other : List ℕ)
      → SpellsRight number kind.Union (Keyword word.UNION ∷ Name bag ∷ Symbol symbol.COMMA ∷ Name other ∷ [])
  distinct_form : (bag : List ℕ) → SpellsRight number kind.Distinct (Keyword word.DISTINCT ∷ Name bag ∷ [])
  only_form : (bag : List ℕ) → SpellsRight number kind.Only (Keyword word.ONLY ∷ Name bag ∷ [])
  count_form : (bag : List ℕ) → SpellsRight number kind.Count (Keyword word.COUNT ∷ Name bag ∷ [])
  sum_form : (bag : List ℕ) → (column : ℕ) → SpellsRight number (kind.Sum column) (Keyword word.SUM ∷ Name bag ∷ Column column ∷ [])
  row_form : {exprs : List Expr} {tokens : Kinds} → Listed (SpellsExpr number 0) exprs tokens
      → SpellsRight number (kind.MakeRow exprs)
      (Keyword word.ROW ∷ Symbol symbol.LEFT_BRACKET ∷ tokens ++ Symbol symbol.RIGHT_BRACKET ∷ [])
  empty_form : {types : List ColType} {tokens : Kinds} → Listed SpellsType types tokens
      → SpellsRight number (kind.Empty types)
      (Keyword word.EMPTY ∷ Symbol symbol.LEFT_PAREN ∷ tokens ++ Symbol symbol.RIGHT_PAREN ∷ [])
  copy_form : {e : Expr} {tokens : Kinds} → is_name e ≡ true → SpellsExpr number 0 e tokens → SpellsRight number kind.Copy tokens
  scalar_form : {e : Expr} {tokens : Kinds} → is_name e ≡ false → SpellsExpr number 0 e tokens
      → SpellsRight number (kind.Scalar e) tokens

pub data SpellsWrite (number : List ℕ → ℕ) : OpSpec → Kinds → Type 0 where
  write_form : {name : Expr} {tokens : Kinds} → (bag : List ℕ) → SpellsExpr number 0 name tokens
      → SpellsWrite number (kind.Write name) (Keyword word.WRITE ∷ Name bag ∷ Keyword word.TO ∷ tokens)

-- a condition is a scalar, also where it is a single name
pub data SpellsCondition (number : List ℕ → ℕ) : OpSpec → Kinds → Type 0 where
  condition_form : {e : Expr} {tokens : Kinds} → SpellsExpr number 0 e tokens → SpellsCondition number (kind.Scalar e) tokens

-- the names that an operator with so many bags captures, each once
abbrev pub captured_in : ℕ → Kinds → List (List ℕ)
captured_in bags tokens = each_once (drop bags (names_in tokens))

-- the numbers of its arguments: the bags, whose names come first, and then the captured names
abbrev pub arguments_in : List (List ℕ) → ℕ → Kinds → List ℕ
arguments_in names bags tokens = map (number_in names) (take bags (names_in tokens) ++ captured_in bags tokens)

-- the tokens spell the operator over these arguments, by the names of variables and the form of an operator
pub record SpellsOver (Form : (List ℕ → ℕ) → OpSpec → Kinds → Type 0) (names : List (List ℕ)) (op : OpSpec) (args : List ℕ) (tokens : Kinds) : Type 0 where
  pub form : Form (number_in (captured_in (bag_inputs_of op) tokens)) op tokens
  pub over : args ≡ arguments_in names (bag_inputs_of op) tokens

-- ---- statements

-- a statement; what stands after the first block of an `if`; and statements one after another
mutual
  pub data SpellsStmt (names : List (List ℕ)) : Stmt → Kinds → Type 0 where
    assign : {op : OpSpec} {args : List ℕ} {tokens : Kinds} → (target : List ℕ) → SpellsOver SpellsRight names op args tokens
        → SpellsStmt names (stmt.Assign (number_in names target) op args)
        (Name target ∷ Symbol symbol.EQUALS ∷ tokens ++ Symbol symbol.SEMICOLON ∷ [])
    write : {op : OpSpec} {args : List ℕ} {tokens : Kinds} → SpellsOver SpellsWrite names op args tokens
        → SpellsStmt names (stmt.Write op args) (tokens ++ Symbol symbol.SEMICOLON ∷ [])
    branch : {op : OpSpec} {args : List ℕ} {yes no : List Stmt} {tokens inside others : Kinds}
        → SpellsOver SpellsCondition names op args tokens → SpellsBody names yes inside → SpellsElse names no others
        → SpellsStmt names (stmt.If op args yes no)
        (Keyword word.IF ∷ tokens ++ Symbol symbol.LEFT_BRACE ∷ inside ++ Symbol symbol.RIGHT_BRACE ∷ others)
    loop : {op : OpSpec} {args : List ℕ} {body : List Stmt} {tokens inside : Kinds}
        → SpellsOver SpellsCondition names op args tokens → SpellsBody names body inside
        → SpellsStmt names (stmt.While op args body)
        (Keyword word.WHILE ∷ tokens ++ Symbol symbol.LEFT_BRACE ∷ inside ++ Symbol symbol.RIGHT_BRACE ∷ [])

  pub data SpellsElse (names : List (List ℕ)) : List Stmt → Kinds → Type 0 where
    without : SpellsElse names [] []
    otherwise : {no : List Stmt} {tokens : Kinds} → SpellsBody names no tokens
        → SpellsElse names no (Keyword word.ELSE ∷ Symbol symbol.LEFT_BRACE ∷ tokens ++ Symbol symbol.RIGHT_BRACE ∷ [])

  pub data SpellsBody (names : List (List ℕ)) : List Stmt → Kinds → Type 0 where
    no_more : SpellsBody names [] []
    followed : {first : Stmt} {body : List Stmt} {tokens others : Kinds} → SpellsStmt names first tokens → SpellsBody names body others
        → SpellsBody names (first ∷ body) (tokens ++ others)

-- ---- scripts

-- the tokens spell the script: variables are numbered in the order in which their names appear first
pub record Spells (script : Script) (tokens : Kinds) : Type 0 where
  pub named : script.names ≡ each_once (names_in tokens)
  pub body : SpellsBody script.names script.body tokens

abbrev pub kinds : List Token → Kinds
kinds tokens = map (λ token. token.kind) tokens

-- the text has tokens, and they spell the script
pub record IsSpelled (text : List ℕ) (script : Script) : Type 0 where
  pub tokens : List Token
  pub read : tokens_of text ≡ Ok tokens
  pub spelled : Spells script (kinds tokens)

-- some spelled list begins with these tokens
abbrev pub CanGoOn : Kinds → Type 0
CanGoOn front = (script : Script) × (more : Kinds) × Spells script (front ++ more)

-- after these tokens the next one is refused: with it no spelled list begins; or there is none, and they spell no script
abbrev pub IsRefused : Kinds → Kinds → Type 0
IsRefused front [] = (script : Script) → ¬ Spells script front
IsRefused front (token ∷ rest) = ¬ CanGoOn (front ++ token ∷ [])

-- tokens that spell no script, cut before the one that is refused: some spelled list begins with those before it
pub record StopsBefore (tokens rest : Kinds) : Type 0 where
  pub front : Kinds
  pub cut : tokens ≡ front ++ rest
  pub goes_on : CanGoOn front
  pub refused : IsRefused front rest
