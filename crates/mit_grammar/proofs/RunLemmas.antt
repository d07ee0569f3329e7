-- What is spelled as an operator stands in one run of tokens.
use Rattle.std.proofs.Common.{◌≡◌, ℕ, List, [], ◌∷◌, ◌++◌, Bool, true, false, not, refl, ap, ◌∙◌, cond}
use Rattle.std.specs.List.{list_all}
use Rattle.std.proofs.lemmas.Bool.{and_parts}
use Rattle.std.proofs.lemmas.List.Folds.{list_all-append}
use Rattle.std.proofs.lemmas.List.Sums.{take_while-cons}
use Rattle.mit_rows.specs.declared.value.ColType.{ColType}
use Rattle.mit_rows.specs.declared.value.ColType.TheVariants as type
use Rattle.mit_expr.specs.declared.expr.BinOp.{BinOp}
use Rattle.mit_expr.specs.declared.expr.BinOp.TheVariants as operator
use Rattle.mit_expr.specs.declared.expr.Call.{Call}
use Rattle.mit_expr.specs.declared.expr.Call.TheVariants as call
use Rattle.mit_expr.specs.declared.expr.Expr.{Expr}
use Rattle.mit_ops.specs.declared.kinds.Agg.{Agg}
use Rattle.mit_ops.specs.declared.kinds.Agg.TheVariants as agg
use Rattle.mit_ops.specs.declared.kinds.OpSpec.{OpSpec}
use Rattle.mit_lex.specs.Limits.{ends_run}
use Rattle.mit_lex.specs.declared.token.TokenKind.{TokenKind}
use Rattle.mit_script.specs.Grammar
use Rattle.mit_script.specs.Grammar.{Kinds, Listed, SpellsColumn, SpellsExpr, SpellsRight, SpellsType, SpellsWrite, SpellsCondition, agg_tokens, call_token, operator_token, truth_token, type_token}
use Rattle.mit_script.specs.Reading.{run_of}

-- none of the tokens ends a run
abbrev pub is_run : Kinds → Bool
is_run tokens = list_all (λ token. not (ends_run token)) tokens

-- the same as a type, which shows the tokens
record Run (tokens : Kinds) : Type 0 where
  holds : is_run tokens ≡ true

-- two runs one after the other are a run
Run-append : {tokens others : Kinds} → Run tokens → Run others → Run (tokens ++ others)
Run-append run run' = record { holds = rw (list_all-append, run.holds) run'.holds }

after : {token : TokenKind} {rest : Kinds} → not (ends_run token) ≡ true → Run rest → Run (token ∷ rest)
after goes_on run = record { holds = rw goes_on run.holds }

-- a single token
lone : {token : TokenKind} → not (ends_run token) ≡ true → Run (token ∷ [])
lone goes_on = record { holds = rw goes_on refl }

call_goes_on : (function : Call) → not (ends_run (call_token function)) ≡ true
call_goes_on call.ToText = refl
call_goes_on call.ToInt = refl
call_goes_on call.Len = refl

operator_goes_on : (op : BinOp) → not (ends_run (operator_token op)) ≡ true
operator_goes_on operator.Add = refl
operator_goes_on operator.Sub = refl
operator_goes_on operator.Mul = refl
operator_goes_on operator.Div = refl
operator_goes_on operator.Rem = refl
operator_goes_on operator.Concat = refl
operator_goes_on operator.Eq = refl
operator_goes_on operator.Ne = refl
operator_goes_on operator.Lt = refl
operator_goes_on operator.Le = refl
operator_goes_on operator.Gt = refl
operator_goes_on operator.Ge = refl
operator_goes_on operator.And = refl
operator_goes_on operator.Or = refl

truth_goes_on : (holds : Bool) → not (ends_run (truth_token holds)) ≡ true
truth_goes_on true = refl
truth_goes_on false = refl

type_goes_on : (type : ColType) → not (ends_run (type_token type)) ≡ true
type_goes_on type.Int = refl
type_goes_on type.Text = refl
type_goes_on type.Bool = refl

agg_in_run : (by : Agg) → Run (agg_tokens by)
agg_in_run agg.Count = lone refl
agg_in_run (agg.Sum column) = after refl (lone refl)
agg_in_run (agg.Min column) = after refl (lone refl)
agg_in_run (agg.Max column) = after refl (lone refl)

type_in_run : (type : ColType) (tokens : Kinds) → SpellsType type tokens → Run tokens
type_in_run type tokens spelled = rw spelled (lone (type_goes_on type))

column_in_run : (column : ℕ) (tokens : Kinds) → SpellsColumn column tokens → Run tokens
column_in_run column tokens spelled = rw spelled (lone refl)

-- a list of what stands in a run stands in a run
listed_in_run : {A : Type 0} {Item : A → Kinds → Type 0} → ((item : A) (tokens : Kinds) → Item item tokens → Run tokens)
    → {items : List A} {tokens : Kinds} → Listed Item items tokens → Run tokens
listed_in_run each (Grammar.single_item first) = each _ _ first
listed_in_run each (Grammar.and_more first more) = Run-append (each _ _ first) (after refl (listed_in_run each more))

expr_in_run : {number : List ℕ → ℕ} {rank : ℕ} {e : Expr} {tokens : Kinds} → SpellsExpr number rank e tokens → Run tokens
expr_in_run (Grammar.stronger spelled) = expr_in_run spelled
expr_in_run (Grammar.binary op left right) = Run-append (expr_in_run left) (after (operator_goes_on op) (expr_in_run right))
expr_in_run (Grammar.negated spelled) = after refl (expr_in_run spelled)
expr_in_run (Grammar.positive size fits) = lone refl
expr_in_run (Grammar.negative size fits) = after refl (lone refl)
expr_in_run (Grammar.text_literal bytes) = lone refl
expr_in_run (Grammar.truth_literal holds) = lone (truth_goes_on holds)
expr_in_run (Grammar.column_place place) = lone refl
expr_in_run (Grammar.captured_name name) = lone refl
expr_in_run (Grammar.function_call function spelled) = after (call_goes_on function) (after refl (Run-append (expr_in_run spelled) (lone refl)))
expr_in_run (Grammar.enclosed spelled) = after refl (Run-append (expr_in_run spelled) (lone refl))

-- expressions, types and columns with commas between
exprs_in_run : {number : List ℕ → ℕ} {exprs : List Expr} {tokens : Kinds} → Listed (SpellsExpr number 0) exprs tokens → Run tokens
exprs_in_run {number} spelled = listed_in_run {Item = SpellsExpr number 0} (λ e tokens one. expr_in_run one) spelled

types_in_run : {types : List ColType} {tokens : Kinds} → Listed SpellsType types tokens → Run tokens
types_in_run spelled = listed_in_run {Item = SpellsType} type_in_run spelled

columns_in_run : {columns : List ℕ} {tokens : Kinds} → Listed SpellsColumn columns tokens → Run tokens
columns_in_run spelled = listed_in_run {Item = SpellsColumn} column_in_run spelled

right_in_run : {number : List ℕ → ℕ} {op : OpSpec} {tokens : Kinds} → SpellsRight number op tokens → Run tokens
right_in_run (Grammar.read_form name types) =
    Run-append (Run-append (after refl (expr_in_run name)) (after refl (types_in_run types))) (lone refl)
right_in_run (Grammar.map_form bag exprs) = after refl (after refl (after refl (Run-append (exprs_in_run exprs) (lone refl))))
right_in_run (Grammar.filter_form bag e) = after refl (after refl (after refl (expr_in_run e)))
right_in_run (Grammar.words_form bag separator e) =
    after refl (after refl (after refl (Run-append (expr_in_run e) (after refl (lone refl)))))
right_in_run (Grammar.range_form bag from to) =
    after refl (after refl (after refl (Run-append (expr_in_run from) (after refl (expr_in_run to)))))
right_in_run (Grammar.join_form bag other left right) =
    after refl (after refl (Run-append (columns_in_run left) (after refl (after refl (columns_in_run right)))))
right_in_run (Grammar.reduce_form bag by keys) = after refl (after refl (after refl (Run-append (columns_in_run keys) (agg_in_run by))))
right_in_run (Grammar.union_form bag other) = after refl (after refl (after refl (lone refl)))
right_in_run (Grammar.distinct_form bag) = after refl (lone refl)
right_in_run (Grammar.only_form bag) = after refl (lone refl)
right_in_run (Grammar.count_form bag) = after refl (lone refl)
right_in_run (Grammar.sum_form bag column) = after refl (after refl (lone refl))
right_in_run (Grammar.row_form exprs) = after refl (after refl (Run-append (exprs_in_run exprs) (lone refl)))
right_in_run (Grammar.empty_form types) = after refl (after refl (Run-append (types_in_run types) (lone refl)))
right_in_run (Grammar.copy_form named e) = expr_in_run e
right_in_run (Grammar.scalar_form unnamed e) = expr_in_run e

write_in_run : {number : List ℕ → ℕ} {op : OpSpec} {tokens : Kinds} → SpellsWrite number op tokens → Run tokens
write_in_run (Grammar.write_form bag name) = after refl (after refl (after refl (expr_in_run name)))

condition_in_run : {number : List ℕ → ℕ} {op : OpSpec} {tokens : Kinds} → SpellsCondition number op tokens → Run tokens
condition_in_run (Grammar.condition_form e) = expr_in_run e

pub expr_run : (number : List ℕ → ℕ) (rank : ℕ) (e : Expr) (tokens : Kinds) → SpellsExpr number rank e tokens → is_run tokens ≡ true
expr_run number rank e tokens spelled = (expr_in_run spelled).holds

pub right_run : (number : List ℕ → ℕ) (op : OpSpec) (tokens : Kinds) → SpellsRight number op tokens → is_run tokens ≡ true
right_run number op tokens spelled = (right_in_run spelled).holds

pub write_run : (number : List ℕ → ℕ) (op : OpSpec) (tokens : Kinds) → SpellsWrite number op tokens → is_run tokens ≡ true
write_run number op tokens spelled = (write_in_run spelled).holds

pub condition_run : (number : List ℕ → ℕ) (op : OpSpec) (tokens : Kinds) → SpellsCondition number op tokens → is_run tokens ≡ true
condition_run number op tokens spelled = (condition_in_run spelled).holds

-- the run ahead is that of the operator, where the token after it ends the run
pub run_of-append : (tokens : Kinds) (last : TokenKind) (rest : Kinds) → is_run tokens ≡ true → ends_run last ≡ true → run_of (tokens ++ last ∷ rest) ≡ tokens
run_of-append [] last rest run ends = rw (take_while-cons, ends) refl
run_of-append (token ∷ tokens) last rest run ends =
    take_while-cons (λ each. not (ends_run each)) token (tokens ++ last ∷ rest)
    ∙ ap (λ b. cond b (token ∷ run_of (tokens ++ last ∷ rest)) []) (and_parts _ _ run).0
    ∙ ap (λ run. token ∷ run) (run_of-append tokens last rest (and_parts _ _ run).1 ends)
