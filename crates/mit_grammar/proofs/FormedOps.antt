-- What an operator names is what its tokens name, bags first.
use Rattle.std.proofs.Common.{◌≡◌, ℕ, ◌≤◌, max, List, [], ◌∷◌, ◌++◌, length, map, drop, Bool, true, false, refl, sym, ap, ◌∙◌, arith}
use Rattle.std.specs.Prelude.{fold, flat_map}
use Rattle.std.proofs.lemmas.List.{append-nil, map-append}
use Rattle.mit_rows.specs.declared.value.ColType.{ColType}
use Rattle.mit_rows.specs.declared.value.ColType.TheVariants as type
use Rattle.mit_rows.specs.declared.value.Value.{Value}
use Rattle.mit_expr.specs.declared.expr.BinOp.{BinOp}
use Rattle.mit_expr.specs.declared.expr.Call.{Call}
use Rattle.mit_expr.specs.declared.expr.Expr.{Expr}
use Rattle.mit_expr.specs.declared.expr.Expr.TheFolds.{fold-roll-Expr}
use Rattle.mit_expr.specs.declared.expr.Expr.TheOpen as layer
use Rattle.mit_expr.specs.declared.expr.Expr.TheVariants as expr
use Rattle.mit_ops.specs.Kinds.{bag_inputs_of, capture_step, captures_in, captures_of}
use Rattle.mit_ops.specs.declared.kinds.Agg.{Agg}
use Rattle.mit_ops.specs.declared.kinds.Agg.TheVariants as agg
use Rattle.mit_ops.specs.declared.kinds.OpSpec.{OpSpec}
use Rattle.mit_script.specs.Grammar
use Rattle.std.proofs.lemmas.Bool.{false≢true}
use Rattle.mit_script.specs.Grammar.{Kinds, Listed, SpellsColumn, SpellsCondition, SpellsExpr, SpellsRight, SpellsType, SpellsWrite, agg_tokens, is_name, names_in, operator_token, truth_token}
use Rattle.mit_script.specs.Trees.{use_step, uses_in, uses_of}
use Rattle.mit_grammar.specs.NamesOnce.{names_in-append, names_in-call, names_in-operator}
use Rattle.mit_grammar.proofs.NamesOrder.{bound_of}
use Rattle.mit_grammar.specs.NamesSingle.{is_name-Bin, is_name-Call, is_name-Column, is_name-Lit, is_name-Not}

-- ---- expressions

-- the expression names these captured scalars, and no others
record Counted (e : Expr) (numbers : List ℕ) : Type 0 where
  uses : uses_in e ≡ numbers
  captures : captures_in e ≡ bound_of numbers

bound_of-append : (numbers others : List ℕ) → bound_of (numbers ++ others) ≡ max (bound_of numbers) (bound_of others)
bound_of-append [] others = omega arith
bound_of-append (number ∷ numbers) others = let rest : bound_of (numbers ++ others) ≡ max (bound_of numbers) (bound_of others) = bound_of-append numbers others in omega arith

counted-Lit : (value : Value) → Counted (expr.Lit value) []
counted-Lit value = record {
  uses = ap uses_in (sym (expr.rolls-Lit value)) ∙ fold-roll-Expr (List ℕ) use_step (layer.Lit value);
  captures = ap captures_in (sym (expr.rolls-Lit value)) ∙ fold-roll-Expr ℕ capture_step (layer.Lit value);
}

counted-Column : (column : ℕ) → Counted (expr.Column column) []
counted-Column column = record {
  uses = ap uses_in (sym (expr.rolls-Column column)) ∙ fold-roll-Expr (List ℕ) use_step (layer.Column column);
  captures = ap captures_in (sym (expr.rolls-Column column)) ∙ fold-roll-Expr ℕ capture_step (layer.Column column);
}

counted-Capture : (number : ℕ) → Counted (expr.Capture number) (number ∷ [])
counted-Capture number = record {
  uses = ap uses_in (sym (expr.rolls-Capture number)) ∙ fold-roll-Expr (List ℕ) use_step (layer.Capture number);
  captures = ap captures_in (sym (expr.rolls-Capture number)) ∙ fold-roll-Expr ℕ capture_step (layer.Capture number) ∙ omega arith;
}

counted-Bin : (op : BinOp) {left right : Expr} {numbers others : List ℕ} → Counted left numbers → Counted right others
    → Counted (expr.Bin op left right) (numbers ++ others)
counted-Bin op {left} {right} {numbers} {others} one two = record {
  uses = ap uses_in (sym (expr.rolls-Bin op left right)) ∙ fold-roll-Expr (List ℕ) use_step (layer.Bin op left right) ∙ rw (one.uses, two.uses) refl;
  captures = ap captures_in (sym (expr.rolls-Bin op left right)) ∙ fold-roll-Expr ℕ capture_step (layer.Bin op left right)
      ∙ rw (one.captures, two.captures) (sym (bound_of-append numbers others));
}

counted-Not : {e : Expr} {numbers : List ℕ} → Counted e numbers → Counted (expr.Not e) numbers
counted-Not {e} one = record {
  uses = ap uses_in (sym (expr.rolls-Not e)) ∙ fold-roll-Expr (List ℕ) use_step (layer.Not e) ∙ one.uses;
  captures = ap captures_in (sym (expr.rolls-Not e)) ∙ fold-roll-Expr ℕ capture_step (layer.Not e) ∙ one.captures;
}

counted-Call : (function : Call) {e : Expr} {numbers : List ℕ} → Counted e numbers → Counted (expr.Call function e) numbers
counted-Call function {e} one = record {
  uses = ap uses_in (sym (expr.rolls-Call function e)) ∙ fold-roll-Expr (List ℕ) use_step (layer.Call function e) ∙ one.uses;
  captures = ap captures_in (sym (expr.rolls-Call function e)) ∙ fold-roll-Expr ℕ capture_step (layer.Call function e) ∙ one.captures;
}

truth_unnamed : (holds : Bool) → names_in (truth_token holds ∷ []) ≡ []
unfolding names_in
truth_unnamed true = refl
truth_unnamed false = refl

agg_unnamed : (by : Agg) → names_in (agg_tokens by) ≡ []
unfolding names_in
agg_unnamed agg.Count = refl
agg_unnamed (agg.Sum column) = refl
agg_unnamed (agg.Min column) = refl
agg_unnamed (agg.Max column) = refl

type_unnamed : (type : ColType) (tokens : Kinds) → SpellsType type tokens → names_in tokens ≡ []
unfolding names_in
type_unnamed type.Int tokens spelled = ap names_in spelled
type_unnamed type.Text tokens spelled = ap names_in spelled
type_unnamed type.Bool tokens spelled = ap names_in spelled

column_unnamed : (column : ℕ) (tokens : Kinds) → SpellsColumn column tokens → names_in tokens ≡ []
unfolding names_in
column_unnamed column tokens spelled = ap names_in spelled

listed_unnamed : {A : Type 0} {Item : A → Kinds → Type 0} → ((item : A) (tokens : Kinds) → Item item tokens → names_in tokens ≡ [])
    → {items : List A} {tokens : Kinds} → Listed Item items tokens → names_in tokens ≡ []
unfolding names_in
listed_unnamed each (Grammar.single_item first) = each _ _ first
listed_unnamed each (Grammar.and_more first more) = rw (names_in-append, each _ _ first) (listed_unnamed each more)

-- what stands between brackets or parentheses, or in front of a last token without a name
names_enclosed : (tokens last : Kinds) → names_in last ≡ [] → names_in (tokens ++ last) ≡ names_in tokens
names_enclosed tokens last unnamed = rw (names_in-append, unnamed) (append-nil (names_in tokens))

expr_counted : {number : List ℕ → ℕ} {rank : ℕ} {e : Expr} {tokens : Kinds} → SpellsExpr number rank e tokens
    → Counted e (map number (names_in tokens))
unfolding names_in
expr_counted (Grammar.stronger e) = expr_counted e
expr_counted {number} (Grammar.binary {tokens = tokens} {others = others} op left right) =
    rw (names_in-append tokens (operator_token op ∷ others), names_in-operator op others, map-append) (counted-Bin op (expr_counted left) (expr_counted right))
expr_counted (Grammar.negated e) = counted-Not (expr_counted e)
expr_counted (Grammar.positive size fits) = counted-Lit _
expr_counted (Grammar.negative size fits) = counted-Lit _
expr_counted (Grammar.text_literal bytes) = counted-Lit _
expr_counted (Grammar.truth_literal holds) = rw truth_unnamed (counted-Lit _)
expr_counted (Grammar.column_place place) = counted-Column place
expr_counted (Grammar.captured_name name) = counted-Capture _
expr_counted (Grammar.function_call {tokens = tokens} function e) =
    rw (names_in-call, names_enclosed tokens _ refl) (counted-Call function (expr_counted e))
expr_counted (Grammar.enclosed {tokens = tokens} e) = rw (names_enclosed tokens _ refl) (expr_counted e)

-- a single name names one
single_named : {number : List ℕ → ℕ} {rank : ℕ} {e : Expr} {tokens : Kinds} → SpellsExpr number rank e tokens → is_name e ≡ true
    → length (names_in tokens) ≡ 1
unfolding names_in
single_named (Grammar.stronger e) named = single_named e named
single_named (Grammar.binary op left right) named = absurd (false≢true (sym (is_name-Bin _ _ _) ∙ named))
single_named (Grammar.negated e) named = absurd (false≢true (sym (is_name-Not _) ∙ named))
single_named (Grammar.positive size fits) named = absurd (false≢true (sym (is_name-Lit _) ∙ named))
single_named (Grammar.negative size fits) named = absurd (false≢true (sym (is_name-Lit _) ∙ named))
single_named (Grammar.text_literal bytes) named = absurd (false≢true (sym (is_name-Lit _) ∙ named))
single_named (Grammar.truth_literal holds) named = absurd (false≢true (sym (is_name-Lit _) ∙ named))
single_named (Grammar.column_place place) named = absurd (false≢true (sym (is_name-Column _) ∙ named))
single_named (Grammar.captured_name name) named = refl
single_named (Grammar.function_call function e) named = absurd (false≢true (sym (is_name-Call _ _) ∙ named))
single_named (Grammar.enclosed {tokens = tokens} e) named = rw (names_enclosed tokens _ refl) (single_named e named)

-- ---- operators

-- all expressions of a list name these captured scalars, and no others
record CountedAll (exprs : List Expr) (numbers : List ℕ) : Type 0 where
  uses : flat_map uses_in exprs ≡ numbers
  captures : (most : ℕ) → fold (λ most e. max most (captures_in e)) most exprs ≡ max most (bound_of numbers)

counted_one : {e : Expr} {numbers : List ℕ} → Counted e numbers → CountedAll (e ∷ []) numbers
counted_one one = record { uses = rw append-nil one.uses; captures = λ most. ap (max most) one.captures }

counted_two : {from to : Expr} {numbers others : List ℕ} → Counted from numbers → Counted to others → CountedAll (from ∷ to ∷ []) (numbers ++ others)
counted_two {from} {to} {numbers} {others} one two = record {
  uses = rw (append-nil (uses_in to), one.uses, two.uses) refl;
  captures = λ most. rw (one.captures, two.captures, bound_of-append numbers others) (omega arith);
}

captured_all : {exprs : List Expr} {numbers : List ℕ} → CountedAll exprs numbers → fold (λ most e. max most (captures_in e)) 0 exprs ≡ bound_of numbers
captured_all all = all.captures 0 ∙ omega arith

exprs_counted : {number : List ℕ → ℕ} {exprs : List Expr} {tokens : Kinds} → Listed (SpellsExpr number 0) exprs tokens
    → CountedAll exprs (map number (names_in tokens))
unfolding names_in
exprs_counted (Grammar.single_item e) = counted_one (expr_counted e)
exprs_counted {number} (Grammar.and_more {items = items} {tokens = tokens} {others = others} e more) =
    let one = expr_counted e in
    let rest = exprs_counted more in
    rw (names_in-append tokens _, map-append number (names_in tokens) (names_in others)) (record {
      uses = rw (one.uses, rest.uses) refl;
      captures = λ most. rest.captures _ ∙ rw (one.captures, bound_of-append) (omega arith);
    })

-- the operator takes bags by its first names, and the captured scalars that it names are the others
pub record CountedOp (number : List ℕ → ℕ) (op : OpSpec) (names : List (List ℕ)) : Type 0 where
  pub enough : bag_inputs_of op ≤ length names
  pub uses : uses_of op ≡ map number (drop (bag_inputs_of op) names)
  pub captures : captures_of op ≡ bound_of (map number (drop (bag_inputs_of op) names))

none_left : (names : List (List ℕ)) → length names ≡ 1 → drop 1 names ≡ []
none_left [] one = absurd (omega arith)
none_left (name ∷ []) one = refl
none_left (name ∷ other ∷ names) one = absurd (omega arith)

pub right_counted : {number : List ℕ → ℕ} {op : OpSpec} {tokens : Kinds} → SpellsRight number op tokens → CountedOp number op (names_in tokens)
unfolding names_in
right_counted (Grammar.read_form {tokens = tokens} {others = others} name types) =
    let all = counted_one (expr_counted name) in
    rw (names_enclosed _ _ refl, names_enclosed tokens _ (listed_unnamed {Item = SpellsType} type_unnamed types))
    (record { enough = omega arith; uses = all.uses; captures = captured_all all })
right_counted (Grammar.map_form {tokens = tokens} bag exprs) =
    let all = exprs_counted exprs in
    rw (names_enclosed tokens _ refl) (record { enough = omega arith; uses = all.uses; captures = captured_all all })
right_counted (Grammar.filter_form bag e) =
    let all = counted_one (expr_counted e) in
    record { enough = omega arith; uses = all.uses; captures = captured_all all }
right_counted (Grammar.words_form {tokens = tokens} bag separator e) =
    let all = counted_one (expr_counted e) in
    rw (names_enclosed tokens _ refl) (record { enough = omega arith; uses = all.uses; captures = captured_all all })
right_counted {number} (Grammar.range_form {tokens = tokens} {others = others} bag from to) =
    let all = counted_two (expr_counted from) (expr_counted to) in
    let apart = sym (map-append number (names_in tokens) (names_in others)) in
    rw (names_in-append tokens _) (record { enough = omega arith; uses = all.uses ∙ apart; captures = captured_all all ∙ ap bound_of apart })
right_counted (Grammar.join_form {tokens = tokens} {others = others} bag other left right) =
    rw (names_in-append tokens _, listed_unnamed {Item = SpellsColumn} column_unnamed left, listed_unnamed {Item = SpellsColumn} column_unnamed right)
    (record { enough = omega arith; uses = refl; captures = refl })
right_counted (Grammar.reduce_form {tokens = tokens} bag by keys) =
    rw (names_in-append tokens (agg_tokens by), listed_unnamed {Item = SpellsColumn} column_unnamed keys, agg_unnamed)
    (record { enough = omega arith; uses = refl; captures = refl })
right_counted (Grammar.union_form bag other) = record { enough = omega arith; uses = refl; captures = refl }
right_counted (Grammar.distinct_form bag) = record { enough = omega arith; uses = refl; captures = refl }
right_counted (Grammar.only_form bag) = record { enough = omega arith; uses = refl; captures = refl }
right_counted (Grammar.count_form bag) = record { enough = omega arith; uses = refl; captures = refl }
right_counted (Grammar.sum_form bag column) = record { enough = omega arith; uses = refl; captures = refl }
right_counted (Grammar.row_form {tokens = tokens} exprs) =
    let all = exprs_counted exprs in
    rw (names_enclosed tokens _ refl) (record { enough = omega arith; uses = all.uses; captures = captured_all all })
right_counted (Grammar.empty_form {tokens = tokens} types) =
    rw (names_enclosed tokens _ refl, listed_unnamed {Item = SpellsType} type_unnamed types) (record { enough = omega arith; uses = refl; captures = refl })
right_counted {tokens = tokens} (Grammar.copy_form named e) =
    let one : length (names_in tokens) ≡ 1 = single_named e named in
    record { enough = omega arith; uses = rw none_left refl; captures = rw none_left refl }
right_counted (Grammar.scalar_form unnamed e) =
    let all = counted_one (expr_counted e) in
    record { enough = omega arith; uses = all.uses; captures = captured_all all }

pub write_counted : {number : List ℕ → ℕ} {op : OpSpec} {tokens : Kinds} → SpellsWrite number op tokens → CountedOp number op (names_in tokens)
unfolding names_in
write_counted (Grammar.write_form bag name) =
    let all = counted_one (expr_counted name) in
    record { enough = omega arith; uses = all.uses; captures = captured_all all }

pub condition_counted : {number : List ℕ → ℕ} {op : OpSpec} {tokens : Kinds} → SpellsCondition number op tokens → CountedOp number op (names_in tokens)
condition_counted (Grammar.condition_form e) =
    let all = counted_one (expr_counted e) in
    record { enough = omega arith; uses = all.uses; captures = captured_all all }
