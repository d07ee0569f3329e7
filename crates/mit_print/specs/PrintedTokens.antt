-- The tokens of operators and expressions, as a script is printed.
use Rattle.std.specs.Prelude.{ℕ, suc, ℤ, pos, negsuc, List, [], ◌∷◌, ◌++◌, drop, Bool, if◌then◌else◌, nat_lt, slice_get, unwrap_or, option_and_then}
use Rattle.std.specs.List.{join_by}
use Rattle.mit_rows.specs.declared.value.Value.{Value}
use Rattle.mit_rows.specs.declared.value.Value.TheVariants as value
use Rattle.mit_rows.specs.declared.value.ColType.{ColType}
use Rattle.mit_expr.specs.declared.expr.Expr.{Expr}
use Rattle.mit_expr.specs.declared.expr.Expr.TheFolds.{fold-Expr}
use Rattle.mit_expr.specs.declared.expr.Expr.TheOpen.{Expr-F}
use Rattle.mit_expr.specs.declared.expr.Expr.TheOpen as expr
use Rattle.mit_ops.specs.Kinds.{bag_inputs_of}
use Rattle.mit_ops.specs.declared.kinds.Agg.{Agg}
use Rattle.mit_ops.specs.declared.kinds.Flat.{Flat}
use Rattle.mit_ops.specs.declared.kinds.Flat.TheVariants as flat
use Rattle.mit_ops.specs.declared.kinds.OpSpec.{OpSpec}
use Rattle.mit_ops.specs.declared.kinds.OpSpec.TheVariants as kind
use Rattle.mit_lex.specs.declared.token.TokenKind.TheVariants.{Name, Number, Column, Text, Symbol, Keyword}
use Rattle.mit_lex.specs.declared.symbol.TheConstants as symbol
use Rattle.mit_lex.specs.declared.keyword.TheConstants as word
use Rattle.mit_script.specs.Grammar.{Kinds, agg_tokens, call_token, left_rank, operator_token, rank_of, right_rank, truth_token, type_token}

-- the name of the variable at a place among these
abbrev pub argument_name : List (List ℕ) → List ℕ → ℕ → List ℕ
argument_name names variables place = unwrap_or (option_and_then (slice_get names) (slice_get variables place)) []

-- below zero, a `-` and its size
abbrev pub int_tokens : ℤ → Kinds
int_tokens (pos size) = Number size ∷ []
int_tokens (negsuc size) = Symbol symbol.MINUS ∷ Number (suc size) ∷ []

abbrev pub literal_tokens : Value → Kinds
literal_tokens (value.Int number) = int_tokens number
literal_tokens (value.Text text) = Text text ∷ []
literal_tokens (value.Bool truth) = truth_token truth ∷ []

-- in parentheses, where they are needed
abbrev pub opening : Bool → Kinds
opening needed = if needed then Symbol symbol.LEFT_PAREN ∷ [] else []

abbrev pub closing : Bool → Kinds
closing needed = if needed then Symbol symbol.RIGHT_PAREN ∷ [] else []

abbrev pub in_parentheses : Bool → Kinds → Kinds
in_parentheses needed tokens = opening needed ++ tokens ++ closing needed

-- one layer of an expression, with the tokens of each operand in its place; tokens are those where this rank is wanted
abbrev pub expr_step : List (List ℕ) → List ℕ → Expr-F (ℕ → Kinds) → ℕ → Kinds
expr_step names captured (expr.Column column) rank = Column column ∷ []
expr_step names captured (expr.Capture capture) rank = Name (argument_name names captured capture) ∷ []
expr_step names captured (expr.Lit value) rank = literal_tokens value
expr_step names captured (expr.Bin operator left right) rank =
    in_parentheses (nat_lt (rank_of operator) rank) (left (left_rank operator) ++ operator_token operator ∷ right (right_rank operator))
expr_step names captured (expr.Not arg) rank = in_parentheses (nat_lt 2 rank) (Keyword word.NOT ∷ arg 2)
expr_step names captured (expr.Call function arg) rank =
    call_token function ∷ Symbol symbol.LEFT_PAREN ∷ arg 0 ++ Symbol symbol.RIGHT_PAREN ∷ []

-- an expression where one of at least this rank is wanted, by the names of variables and the captured ones
abbrev pub ranked_tokens : List (List ℕ) → List ℕ → Expr → ℕ → Kinds
ranked_tokens names captured = fold-Expr (ℕ → Kinds) (expr_step names captured)

abbrev pub expr_tokens : List (List ℕ) → List ℕ → Expr → Kinds
expr_tokens names captured expr = ranked_tokens names captured expr 0

abbrev pub comma : Kinds
comma = Symbol symbol.COMMA ∷ []

-- `[ e , e ]`
abbrev pub exprs_tokens : List (List ℕ) → List ℕ → List Expr → Kinds
exprs_tokens names captured exprs =
    Symbol symbol.LEFT_BRACKET ∷ join_by (expr_tokens names captured) comma exprs ++ Symbol symbol.RIGHT_BRACKET ∷ []

abbrev pub type_tokens : ColType → Kinds
type_tokens is = type_token is ∷ []

-- `( int , text )`
abbrev pub types_tokens : List ColType → Kinds
types_tokens types = Symbol symbol.LEFT_PAREN ∷ join_by type_tokens comma types ++ Symbol symbol.RIGHT_PAREN ∷ []

abbrev pub column_tokens : ℕ → Kinds
column_tokens column = Column column ∷ []

-- `$0 , $1`
abbrev pub columns_tokens : List ℕ → Kinds
columns_tokens = join_by column_tokens comma

abbrev pub flat_tokens : List (List ℕ) → List ℕ → Flat → Kinds
flat_tokens names captured (flat.Words expr separator) =
    Keyword word.WORDS ∷ expr_tokens names captured expr ++ Symbol symbol.COMMA ∷ Text separator ∷ []
flat_tokens names captured (flat.Range from to) =
    Keyword word.RANGE ∷ expr_tokens names captured from ++ Symbol symbol.COMMA ∷ expr_tokens names captured to

abbrev pub join_tokens : List ℕ → List ℕ → List ℕ → List ℕ → Kinds
join_tokens bag left other right =
    Keyword word.JOIN ∷ Name bag ∷ columns_tokens left ++ Keyword word.WITH ∷ Name other ∷ columns_tokens right

abbrev pub reduce_tokens : List ℕ → List ℕ → Agg → Kinds
reduce_tokens bag keys agg = Keyword word.REDUCE ∷ Name bag ∷ Keyword word.BY ∷ columns_tokens keys ++ agg_tokens agg

-- an operator over its bags, by their names, and captured scalars
abbrev pub over_bags : List (List ℕ) → List ℕ → List ℕ → List ℕ → OpSpec → Kinds
over_bags names captured bag other (kind.Scalar expr) = expr_tokens names captured expr
over_bags names captured bag other (kind.Read name types) = Keyword word.READ ∷ expr_tokens names captured name ++ types_tokens types
over_bags names captured bag other (kind.Map exprs) = Keyword word.MAP ∷ Name bag ∷ exprs_tokens names captured exprs
over_bags names captured bag other (kind.Filter expr) =
    Keyword word.FILTER ∷ Name bag ∷ Keyword word.WHERE ∷ expr_tokens names captured expr
over_bags names captured bag other (kind.FlatMap flat) = Keyword word.FLAT ∷ Name bag ∷ flat_tokens names captured flat
over_bags names captured bag other (kind.Join left right) = join_tokens bag left other right
over_bags names captured bag other (kind.Reduce keys agg) = reduce_tokens bag keys agg
over_bags names captured bag other kind.Union = Keyword word.UNION ∷ Name bag ∷ Symbol symbol.COMMA ∷ Name other ∷ []
over_bags names captured bag other kind.Distinct = Keyword word.DISTINCT ∷ Name bag ∷ []
over_bags names captured bag other kind.Only = Keyword word.ONLY ∷ Name bag ∷ []
over_bags names captured bag other kind.Count = Keyword word.COUNT ∷ Name bag ∷ []
over_bags names captured bag other (kind.Sum column) = Keyword word.SUM ∷ Name bag ∷ Column column ∷ []
over_bags names captured bag other (kind.MakeRow exprs) = Keyword word.ROW ∷ exprs_tokens names captured exprs
over_bags names captured bag other (kind.Empty types) = Keyword word.EMPTY ∷ types_tokens types
over_bags names captured bag other (kind.Write name) =
    Keyword word.WRITE ∷ Name bag ∷ Keyword word.TO ∷ expr_tokens names captured name
over_bags names captured bag other kind.Copy = Name bag ∷ []

-- an operator over its arguments: the bags, and then the captured scalars
abbrev pub op_tokens : List (List ℕ) → List ℕ → OpSpec → Kinds
op_tokens names args operator =
    over_bags names (drop (bag_inputs_of operator) args) (argument_name names args 0) (argument_name names args 1) operator
