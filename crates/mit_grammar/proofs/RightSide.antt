-- The reader of the right side: the form of the keyword that comes first, or an expression.
use Rattle.std.proofs.Common.{◌≡◌, ℕ, suc, ◌≤◌, [], ◌∷◌, ◌++◌, Bool, true, false, ◌==◌, if◌then◌else◌, ◌⊎◌, inl, inr, refl, ap, sym, subst, ◌∙◌, arith, append_assoc, true≢false}
use Rattle.std.proofs.lemmas.Bool.Decides.{eqb_tells}
use Rattle.mit_expr.specs.declared.expr.Expr.{Expr}
use Rattle.mit_expr.specs.declared.expr.Call.{Call}
use Rattle.mit_expr.specs.declared.expr.Call.TheVariants as call
use Rattle.mit_ops.specs.Kinds.{bag_inputs_of}
use Rattle.mit_ops.specs.declared.kinds.OpSpec.{OpSpec}
use Rattle.mit_ops.specs.declared.kinds.OpSpec.TheVariants as kind
use Rattle.mit_lex.specs.declared.token.TokenKind.TheVariants.{Name, Symbol, Keyword}
use Rattle.mit_lex.specs.declared.symbol.TheConstants as symbol
use Rattle.mit_lex.specs.declared.keyword.TheConstants as word
use Rattle.mit_script.specs.Grammar.{Kinds, SpellsExpr, stronger, binary, negated, positive, negative, text_literal, truth_literal, column_place, captured_name, function_call, enclosed, operator_token, truth_token, call_token, is_name, SpellsRight, read_form, map_form, filter_form, words_form, range_form, join_form, reduce_form, union_form, distinct_form, only_form, count_form, sum_form, row_form, empty_form, copy_form, scalar_form, SpellsWrite, write_form, SpellsCondition, condition_form}
use Rattle.mit_script.specs.Reading.{sees_word, after_next, bags_ahead, read_at, map_at, filter_at, flat_at, join_at, reduce_at, union_at, of_bag_at, sum_at, row_form_at, empty_at, copy_or_scalar, scalar_at, right_at}
use Rattle.mit_grammar.proofs.Renamed.{expr_renamed}
use Rattle.mit_grammar.proofs.StmtReaders.{Spelling, Reader, IsReader, one, both, made, convert, Or, this, other}
use Rattle.mit_grammar.proofs.StmtTokens.{AfterWord, choose_word}
use Rattle.mit_grammar.proofs.RightReaders.{Numbers, EndsRight, ends_so}
use Rattle.mit_grammar.proofs.RightForms.{ReadForm, reads_read, MapForm, reads_map, FilterForm, reads_filter, FlatForm, reads_flat, JoinForm, reads_join, ReduceForm, reads_reduce, UnionForm, reads_union, BagForm, reads_bag, SumForm, reads_sum, RowForm, reads_row, EmptyForm, reads_empty, ScalarForm, reads_scalar}

-- the place of a keyword among those that begin a form
abbrev place_of : ℕ → ℕ
place_of place =
    if place == word.READ then 0 else (if place == word.MAP then 1 else (if place == word.FILTER then 2 else (if place == word.FLAT then 3
    else (if place == word.JOIN then 4 else (if place == word.REDUCE then 5 else (if place == word.UNION then 6 else (if place == word.DISTINCT then 7
    else (if place == word.ONLY then 8 else (if place == word.COUNT then 9 else (if place == word.SUM then 10 else (if place == word.ROW then 11
    else (if place == word.EMPTY then 12 else 13))))))))))))

-- the place of the first token among them, and 13 for any other
turn_of : Kinds → ℕ
turn_of (Keyword place ∷ rest) = place_of place
turn_of _ = 13

-- the words begin with a keyword from this place on, or with none of these
abbrev Late : ℕ → Spelling Numbers OpSpec → Type 0
Late place S = (number : Numbers) (op : OpSpec) (tokens after : Kinds) → S number op tokens → place ≤ turn_of (tokens ++ after)

-- words after a keyword, or others that come later
late_or : (place seen : ℕ) (R S : Spelling Numbers OpSpec) → place_of seen ≡ place → Late (suc place) S → Late place (Or (AfterWord seen R) S)
unfolding turn_of
late_or place seen R S is late number op tokens after (this (both one x)) = rw is (omega arith)
late_or place seen R S is late number op tokens after (other x) = omega (arith, late number op tokens after x)

-- a keyword that is seen has its place
seen_turn : (wanted : ℕ) (tokens : Kinds) → sees_word wanted tokens ≡ true → turn_of tokens ≡ place_of wanted
unfolding sees_word turn_of
seen_turn wanted [] is = absurd (true≢false (sym is))
seen_turn wanted (Keyword place ∷ rest) is = elim (eqb_tells place wanted) [ inl e ↦ ap place_of e.1 | inr e ↦ absurd (true≢false (sym is ∙ e.0)) ]
seen_turn wanted (_ ∷ rest) is = absurd (true≢false (sym is))

bool_tells : (test : Bool) → (test ≡ true) ⊎ (test ≡ false)
bool_tells true = inl refl
bool_tells false = inr refl

-- a keyword is not seen where those from a later place on begin
late_unseen : (place wanted : ℕ) (tokens : Kinds) → place_of wanted ≡ place → suc place ≤ turn_of tokens → sees_word wanted tokens ≡ false
late_unseen place wanted tokens is late = elim (bool_tells (sees_word wanted tokens)) [
  | inl e ↦ let turn = seen_turn wanted tokens e in absurd (omega (arith, turn, is, late))
  | inr e ↦ e
]

-- a reader of words that begin so
record Turn (place : ℕ) (S : Spelling Numbers OpSpec) (s : Reader Numbers OpSpec) : Type 0 where
  reads : (top slack : ℕ) → IsReader top slack S EndsRight s
  late : Late place S

-- what is after a keyword, or words that begin later
turn : (place wanted : ℕ) {R S : Spelling Numbers OpSpec} {r s : Reader Numbers OpSpec} → place_of wanted ≡ place → ((top slack : ℕ) → IsReader top slack R EndsRight r) → Turn (suc place) S s
    → Turn place (Or (AfterWord wanted R) S) (λ p left most tokens. if sees_word wanted tokens then r p left most (after_next tokens) else s p left most tokens)
turn place wanted {R = R} {S = S} is first second = record {
  reads = λ top slack. choose_word slack wanted (omega arith) (first top slack) (second.reads top slack)
      (λ number op tokens after x e. late_unseen place wanted (tokens ++ after) is (second.late number op tokens after x));
  late = late_or place wanted R S is second.late;
}

-- ---- how expressions begin

-- no expression begins with a keyword of a form, nor with one that takes a bag
abbrev BeginsExpr : Kinds → Type 0
BeginsExpr tokens = (turn_of tokens ≡ 13) × (bags_ahead tokens ≡ 0)

-- how truth values and calls begin
begins_truth : (holds : Bool) (after : Kinds) → BeginsExpr (truth_token holds ∷ after)
unfolding turn_of bags_ahead
begins_truth true after = (refl, refl)
begins_truth false after = (refl, refl)

begins_call : (function : Call) (after : Kinds) → BeginsExpr (call_token function ∷ after)
unfolding turn_of bags_ahead
begins_call call.ToText after = (refl, refl)
begins_call call.ToInt after = (refl, refl)
begins_call call.Len after = (refl, refl)

expr_begins : (number : Numbers) (rank : ℕ) (e : Expr) (tokens after : Kinds) → SpellsExpr number rank e tokens → BeginsExpr (tokens ++ after)
unfolding turn_of bags_ahead
expr_begins number rank e tokens after (stronger x) = expr_begins number (suc rank) e tokens after x
expr_begins number rank e tokens after (binary {left = left} {tokens = front} {others = others} op x y) =
    subst BeginsExpr (sym (append_assoc front (operator_token op ∷ others) after)) (expr_begins number _ left front (operator_token op ∷ others ++ after) x)
expr_begins number rank e tokens after (negated x) = (refl, refl)
expr_begins number rank e tokens after (positive size small) = (refl, refl)
expr_begins number rank e tokens after (negative size small) = (refl, refl)
expr_begins number rank e tokens after (text_literal bytes) = (refl, refl)
expr_begins number rank e tokens after (truth_literal holds) = begins_truth holds after
expr_begins number rank e tokens after (column_place place) = (refl, refl)
expr_begins number rank e tokens after (captured_name name) = (refl, refl)
expr_begins number rank e tokens after (function_call function x) = begins_call function _
expr_begins number rank e tokens after (enclosed x) = (refl, refl)

-- ---- the chain of forms

late_scalar : Late 13 ScalarForm
late_scalar number op tokens after (made {a = e} x) = rw (expr_begins number 0 e tokens after x).0 (omega arith)

-- all forms, by their keywords
abbrev RightForms : Spelling Numbers OpSpec
RightForms =
    Or (AfterWord word.READ ReadForm) (Or (AfterWord word.MAP MapForm) (Or (AfterWord word.FILTER FilterForm) (Or (AfterWord word.FLAT FlatForm)
    (Or (AfterWord word.JOIN JoinForm) (Or (AfterWord word.REDUCE ReduceForm) (Or (AfterWord word.UNION UnionForm) (Or (AfterWord word.DISTINCT (BagForm kind.Distinct))
    (Or (AfterWord word.ONLY (BagForm kind.Only)) (Or (AfterWord word.COUNT (BagForm kind.Count)) (Or (AfterWord word.SUM SumForm) (Or (AfterWord word.ROW RowForm)
    (Or (AfterWord word.EMPTY EmptyForm) ScalarForm))))))))))))

-- the reader of all forms, by the keyword that is seen
right_by_words : Reader Numbers OpSpec
right_by_words number left most tokens =
    if sees_word word.READ tokens then read_at number most (after_next tokens) else (if sees_word word.MAP tokens then map_at number most (after_next tokens)
    else (if sees_word word.FILTER tokens then filter_at number most (after_next tokens) else (if sees_word word.FLAT tokens then flat_at number most (after_next tokens)
    else (if sees_word word.JOIN tokens then join_at most (after_next tokens) else (if sees_word word.REDUCE tokens then reduce_at most (after_next tokens)
    else (if sees_word word.UNION tokens then union_at (after_next tokens) else (if sees_word word.DISTINCT tokens then of_bag_at kind.Distinct (after_next tokens)
    else (if sees_word word.ONLY tokens then of_bag_at kind.Only (after_next tokens) else (if sees_word word.COUNT tokens then of_bag_at kind.Count (after_next tokens)
    else (if sees_word word.SUM tokens then sum_at (after_next tokens) else (if sees_word word.ROW tokens then row_form_at number most (after_next tokens)
    else (if sees_word word.EMPTY tokens then empty_at most (after_next tokens) else scalar_at number most tokens))))))))))))

-- it is the reader of the right side
right_same : (number : Numbers) (left most : ℕ) (tokens : Kinds) → right_by_words number left most tokens ≡ right_at number most tokens
unfolding right_by_words right_at sees_word
right_same number left most [] = refl
right_same number left most (Keyword place ∷ rest) = refl
right_same number left most (_ ∷ rest) = refl

-- it reads all forms
right_turns : Turn 0 RightForms right_by_words
unfolding right_by_words
right_turns =
    turn 0 word.READ refl (λ top slack. ends_so reads_read (λ first e. tt))
    (turn 1 word.MAP refl (λ top slack. ends_so reads_map (λ first e. tt))
    (turn 2 word.FILTER refl (λ top slack. ends_so reads_filter (λ first e. e.0))
    (turn 3 word.FLAT refl (λ top slack. ends_so reads_flat (λ first e. e.0))
    (turn 4 word.JOIN refl (λ top slack. ends_so reads_join (λ first e. (tt, e.1)))
    (turn 5 word.REDUCE refl (λ top slack. ends_so reads_reduce (λ first e. tt))
    (turn 6 word.UNION refl (λ top slack. ends_so reads_union (λ first e. tt))
    (turn 7 word.DISTINCT refl (λ top slack. ends_so (reads_bag kind.Distinct) (λ first e. tt))
    (turn 8 word.ONLY refl (λ top slack. ends_so (reads_bag kind.Only) (λ first e. tt))
    (turn 9 word.COUNT refl (λ top slack. ends_so (reads_bag kind.Count) (λ first e. tt))
    (turn 10 word.SUM refl (λ top slack. ends_so reads_sum (λ first e. tt))
    (turn 11 word.ROW refl (λ top slack. ends_so reads_row (λ first e. tt))
    (turn 12 word.EMPTY refl (λ top slack. ends_so reads_empty (λ first e. tt))
    (record { reads = λ top slack. ends_so reads_scalar (λ first e. e.0); late = late_scalar })))))))))))))

-- ---- the forms of the grammar

copy_or_scalar_form : (number : Numbers) (e : Expr) (tokens : Kinds) → SpellsExpr number 0 e tokens → SpellsRight number (copy_or_scalar e) tokens
copy_or_scalar_form number e tokens x = elim (bool_tells (is_name e)) [
  | inl is ↦ rw is (copy_form is x)
  | inr is ↦ rw is (scalar_form is x)
]

-- the words of all forms are those of the grammar
is_right : (number : Numbers) (op : OpSpec) (tokens : Kinds) → RightForms number op tokens → SpellsRight number op tokens
is_right number op tokens (this (both one (both {a = e} {front = front} x (made (both one (both {a = types} {front = others} y (made one))))))) =
    subst (λ t. SpellsRight number (kind.Read e types) t) (append_assoc (Keyword word.READ ∷ front) (Symbol symbol.LEFT_PAREN ∷ others) (Symbol symbol.RIGHT_PAREN ∷ [])) (read_form x y)
is_right number op tokens (other (this (both one (both (one {a = bag}) (made (both one (both x (made one)))))))) = map_form bag x
is_right number op tokens (other (other (this (both one (both (one {a = bag}) (both one (made x))))))) = filter_form bag x
is_right number op tokens (other (other (other (this (both one (both (one {a = bag}) (this (both one (both x (both one (made (one {a = separator})))))))))))) = words_form bag separator x
is_right number op tokens (other (other (other (this (both one (both (one {a = bag}) (other (both one (both x (both one (made y))))))))))) = range_form bag x y
is_right number op tokens (other (other (other (other (this (both one (both (one {a = bag}) (both x (both one (both (one {a = second}) (made y))))))))))) = join_form bag second x y
is_right number op tokens (other (other (other (other (other (this (both one (both (one {a = bag}) (both one (both {a = columns} {front = keys} x (made {a = by} is))))))))))) =
    subst (λ t. SpellsRight number (kind.Reduce columns by) (Keyword word.REDUCE ∷ Name bag ∷ Keyword word.BY ∷ keys ++ t)) (sym is) (reduce_form bag by x)
is_right number op tokens (other (other (other (other (other (other (this (both one (both (one {a = bag}) (both one (made (one {a = second})))))))))))) = union_form bag second
is_right number op tokens (other (other (other (other (other (other (other (this (both one (made (one {a = bag}))))))))))) = distinct_form bag
is_right number op tokens (other (other (other (other (other (other (other (other (this (both one (made (one {a = bag})))))))))))) = only_form bag
is_right number op tokens (other (other (other (other (other (other (other (other (other (this (both one (made (one {a = bag}))))))))))))) = count_form bag
is_right number op tokens (other (other (other (other (other (other (other (other (other (other (this (both one (both (one {a = bag}) (made (one {a = column}))))))))))))))) = sum_form bag column
is_right number op tokens (other (other (other (other (other (other (other (other (other (other (other (this (both one (made (both one (both x (made one))))))))))))))))) = row_form x
is_right number op tokens (other (other (other (other (other (other (other (other (other (other (other (other (this (both one (made (both one (both x (made one)))))))))))))))))) = empty_form x
is_right number op tokens (other (other (other (other (other (other (other (other (other (other (other (other (other (made {a = e} x)))))))))))))) = copy_or_scalar_form number e tokens x

-- an expression is the last of all forms
as_scalar : (number : Numbers) (op : OpSpec) (tokens : Kinds) → ScalarForm number op tokens → RightForms number op tokens
as_scalar number op tokens x = other (other (other (other (other (other (other (other (other (other (other (other (other x))))))))))))

-- the words of the grammar are those of all forms
right_is : (number : Numbers) (op : OpSpec) (tokens : Kinds) → SpellsRight number op tokens → RightForms number op tokens
right_is number op tokens (read_form {name = e} {types = types} {tokens = front} {others = others} x y) =
    subst (λ t. RightForms number (kind.Read e types) t) (sym (append_assoc (Keyword word.READ ∷ front) (Symbol symbol.LEFT_PAREN ∷ others) (Symbol symbol.RIGHT_PAREN ∷ [])))
    (this (both one (both x (made (both one (both y (made one)))))))
right_is number op tokens (map_form bag x) = other (this (both one (both one (made (both one (both x (made one)))))))
right_is number op tokens (filter_form bag x) = other (other (this (both one (both one (both one (made x))))))
right_is number op tokens (words_form bag separator x) = other (other (other (this (both one (both one (this (both one (both x (both one (made one))))))))))
right_is number op tokens (range_form bag x y) = other (other (other (this (both one (both one (other (both one (both x (both one (made y))))))))))
right_is number op tokens (join_form bag second x y) = other (other (other (other (this (both one (both one (both x (both one (both one (made y))))))))))
right_is number op tokens (reduce_form bag by x) = other (other (other (other (other (this (both one (both one (both one (both x (made refl))))))))))
right_is number op tokens (union_form bag second) = other (other (other (other (other (other (this (both one (both one (both one (made one))))))))))
right_is number op tokens (distinct_form bag) = other (other (other (other (other (other (other (this (both one (made one)))))))))
right_is number op tokens (only_form bag) = other (other (other (other (other (other (other (other (this (both one (made one))))))))))
right_is number op tokens (count_form bag) = other (other (other (other (other (other (other (other (other (this (both one (made one)))))))))))
right_is number op tokens (sum_form bag column) = other (other (other (other (other (other (other (other (other (other (this (both one (both one (made one)))))))))))))
right_is number op tokens (row_form x) = other (other (other (other (other (other (other (other (other (other (other (this (both one (made (both one (both x (made one))))))))))))))))
right_is number op tokens (empty_form x) = other (other (other (other (other (other (other (other (other (other (other (other (this (both one (made (both one (both x (made one)))))))))))))))))
right_is number op tokens (copy_form {e = e} is x) =
    let same : copy_or_scalar e ≡ kind.Copy = rw is refl in subst (λ o. RightForms number o tokens) same (as_scalar number (copy_or_scalar e) tokens (made x))
right_is number op tokens (scalar_form {e = e} is x) =
    let same : copy_or_scalar e ≡ kind.Scalar e = rw is refl in subst (λ o. RightForms number o tokens) same (as_scalar number (copy_or_scalar e) tokens (made x))

-- the reader of the right side
pub reads_right_side : {top slack : ℕ} → IsReader top slack SpellsRight EndsRight (λ number left most. right_at number most)
reads_right_side {top = top} {slack = slack} = convert (right_turns.reads top slack) is_right right_is (λ first e. e) right_same

-- how many bags the tokens take; a copy is spelled with any numbers
pub right_bags : (number : Numbers) (op : OpSpec) (tokens after : Kinds) → SpellsRight number op tokens
    → (bags_ahead (tokens ++ after) ≡ bag_inputs_of op) ⊎ ((other : Numbers) → SpellsRight other op tokens)
unfolding bags_ahead
right_bags number op tokens after (read_form x y) = inl refl
right_bags number op tokens after (map_form bag x) = inl refl
right_bags number op tokens after (filter_form bag x) = inl refl
right_bags number op tokens after (words_form bag separator x) = inl refl
right_bags number op tokens after (range_form bag x y) = inl refl
right_bags number op tokens after (join_form bag second x y) = inl refl
right_bags number op tokens after (reduce_form bag by x) = inl refl
right_bags number op tokens after (union_form bag second) = inl refl
right_bags number op tokens after (distinct_form bag) = inl refl
right_bags number op tokens after (only_form bag) = inl refl
right_bags number op tokens after (count_form bag) = inl refl
right_bags number op tokens after (sum_form bag column) = inl refl
right_bags number op tokens after (row_form x) = inl refl
right_bags number op tokens after (empty_form x) = inl refl
right_bags number op tokens after (copy_form {e = e} is x) = inr (λ numbers. let y = expr_renamed number numbers 0 e tokens x in copy_form (y.2 ∙ is) y.1)
right_bags number op tokens after (scalar_form {e = e} is x) = inl (expr_begins number 0 e tokens after x).1

-- so many bags `write` takes, and so many a condition
pub write_bags : (number : Numbers) (op : OpSpec) (tokens after : Kinds) → SpellsWrite number op tokens → bags_ahead (tokens ++ after) ≡ bag_inputs_of op
unfolding bags_ahead
write_bags number op tokens after (write_form bag x) = refl

pub condition_bags : (number : Numbers) (op : OpSpec) (tokens after : Kinds) → SpellsCondition number op tokens → bags_ahead (tokens ++ after) ≡ bag_inputs_of op
condition_bags number op tokens after (condition_form {e = e} x) = (expr_begins number 0 e tokens after x).1

-- `write` comes first
pub write_first : (number : Numbers) (op : OpSpec) (tokens after : Kinds) → SpellsWrite number op tokens → sees_word word.WRITE (tokens ++ after) ≡ true
unfolding sees_word
write_first number op tokens after (write_form bag x) = refl
