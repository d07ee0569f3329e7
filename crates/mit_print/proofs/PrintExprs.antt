-- The printed tokens of an expression spell it.
use Rattle.std.proofs.Common.{◌≡◌, ◌≤◌, ◌^◌, ◌+◌, ◌-◌, ℕ, zero, suc, pos, neg_ℤ, List, [], ◌∷◌, ◌++◌, ltb, lit<, sym, ap, ◌∙◌, arith, inl, inr}
use Rattle.std.specs.List.{AllByRecursion as Each}
use Rattle.std.proofs.lemmas.Bool.{cases_Bool}
use Rattle.std.proofs.lemmas.Bool.Decides.{nat_tests}
use Rattle.std.proofs.lemmas.List.{append-nil}
use Rattle.mit_rows.specs.declared.value.Value.TheVariants as value
use Rattle.mit_expr.specs.declared.expr.BinOp.{BinOp}
use Rattle.mit_expr.specs.declared.expr.BinOp.TheVariants.{Add}
use Rattle.mit_expr.specs.declared.expr.Expr.{Expr, roll-Expr}
use Rattle.mit_expr.specs.declared.expr.Expr.TheVariants as expr
use Rattle.mit_expr.specs.declared.expr.Expr.TheVariants.{rolls-Bin, rolls-Lit, rolls-Not, rolls-Call, rolls-Column, rolls-Capture}
use Rattle.mit_expr.specs.declared.expr.Expr.TheFolds.{fold-roll-Expr, map-Expr}
use Rattle.mit_expr.specs.declared.expr.Expr.TheOpen.{Expr-F}
use Rattle.mit_expr.specs.declared.expr.Expr.TheOpen as layer
use Rattle.mit_lex.specs.Valid.{IsToken}
use Rattle.mit_lex.specs.declared.token.TokenKind.TheVariants.{Number, Symbol}
use Rattle.mit_lex.specs.declared.symbol.TheConstants as symbol
use Rattle.mit_script.specs.Grammar.{Kinds, SpellsExpr, left_rank, names_in, rank_of, right_rank, stronger, binary, negated, positive, negative, text_literal, truth_literal, column_place, captured_name, function_call, enclosed}
use Rattle.mit_grammar.specs.NamesOnce.{names_in-append, names_in-operator}
use Rattle.mit_print.specs.PrintedTokens as printed
use Rattle.mit_print.specs.PrintedTokens.{argument_name, ranked_tokens, expr_step, literal_tokens}
use Rattle.mit_print.proofs.PrintNames.{each_append, each_back, each_front, names_in-called, names_in-cons, names_in-enclosed, names_in-name, names_in-signed}
use Rattle.mit_print.proofs.PrintSame.{Reprint, Same, reprint, same_append, same_cons, same_refl}

-- ---- ranks

-- an expression of a higher rank is one of a lower rank
weaker : (number : List ℕ → ℕ) (more rank want : ℕ) (e : Expr) (tokens : Kinds) → want + more ≡ rank → SpellsExpr number rank e tokens → SpellsExpr number want e tokens
weaker number zero rank want e tokens same spelled =
    let ranks : rank ≡ want = omega arith in rw ranks at spelled
weaker number (suc more) rank want e tokens same spelled =
    let next : suc want + more ≡ rank = omega arith in
    stronger (weaker number more rank (suc want) e tokens next spelled)

pub weaken : (number : List ℕ → ℕ) (rank want : ℕ) (e : Expr) (tokens : Kinds) → want ≤ rank → SpellsExpr number rank e tokens → SpellsExpr number want e tokens
weaken number rank want e tokens low spelled =
    let same : want + (rank - want) ≡ rank = omega arith in weaker number (rank - want) rank want e tokens same spelled

-- what stands alone fits everywhere
alone : {number : List ℕ → ℕ} {e : Expr} {kinds tokens : Kinds} → (want : ℕ) → want ≤ 7 → Reprint (SpellsExpr number 7 e) kinds tokens
    → Reprint (SpellsExpr number want e) kinds tokens
alone {number = number} {e = e} {kinds = kinds} want low one = reprint (weaken number 7 want e kinds low one.spelled) one.same

-- a token that stands alone is printed as it is
as_it_is : {number : List ℕ → ℕ} {e : Expr} {tokens : Kinds} → (want : ℕ) → want ≤ 7 → SpellsExpr number 7 e tokens
    → Reprint (SpellsExpr number want e) tokens tokens
as_it_is want low spelled = alone want low (reprint spelled same_refl)

-- tokens in parentheses have the same names
in_parentheses : {kinds tokens : Kinds} → Same kinds tokens → Same (Symbol symbol.LEFT_PAREN ∷ kinds ++ Symbol symbol.RIGHT_PAREN ∷ []) tokens
in_parentheses {kinds = kinds} same = record {
  names = names_in-enclosed kinds ∙ same.names;
  valid = λ valid. (lit< tt, each_append IsToken kinds (Symbol symbol.RIGHT_PAREN ∷ []) (same.valid valid) (lit< tt, tt));
}

-- an operator is put in parentheses where a higher rank is wanted
enclosed_if : {number : List ℕ → ℕ} {e : Expr} {kinds tokens : Kinds} → (rank want : ℕ) → want ≤ 7
    → Reprint (SpellsExpr number rank e) kinds tokens → Reprint (SpellsExpr number want e) (printed.in_parentheses (ltb rank want) kinds) tokens
enclosed_if {number = number} {e = e} {kinds = kinds} rank want low one =
    elim (cases_Bool (ltb rank want)) [
      | inl above ↦ rw above (alone want low (reprint (enclosed (weaken number rank 0 e kinds (omega arith) one.spelled)) (in_parentheses one.same)))
      | inr below ↦ rw (below, append-nil kinds) (reprint (weaken number rank want e kinds (grind (arith, nat_tests)) one.spelled) one.same)
    ]

-- ---- the printed forms

-- an expression's tokens, by those of the layer that it is made of
layer_tokens : (names : List (List ℕ)) (captured : List ℕ) (want : ℕ) {e : Expr} → (top : Expr-F Expr) → roll-Expr top ≡ e
    → ranked_tokens names captured e want ≡ expr_step names captured (map-Expr Expr (ℕ → Kinds) (ranked_tokens names captured) top) want
layer_tokens names captured want top is =
    ap (λ e. ranked_tokens names captured e want) (sym is) ∙ ap (λ (f : ℕ → Kinds). f want) (fold-roll-Expr (ℕ → Kinds) (expr_step names captured) top)

-- ---- integers

int_reprint : (number : List ℕ → ℕ) (size : ℕ) → size ≤ 2 ^ 63
    → Reprint (SpellsExpr number 7 (expr.Lit (value.Int (neg_ℤ (pos size))))) (literal_tokens (value.Int (neg_ℤ (pos size)))) (Symbol symbol.MINUS ∷ Number size ∷ [])
int_reprint number zero most =
    reprint (positive 0 (omega arith)) (record { names = names_in-signed 0; valid = λ valid. valid.1 })
int_reprint number (suc size) most = reprint (negative (suc size) most) same_refl

-- ---- expressions

low_left : (op : BinOp) → left_rank op ≤ 7
low_left Add = omega arith
low_left _ = omega arith

low_right : (op : BinOp) → right_rank op ≤ 7
low_right Add = omega arith
low_right _ = omega arith

-- the name is printed for its number among the captured ones
abbrev pub FindsName : List (List ℕ) → List ℕ → (List ℕ → ℕ) → List ℕ → Type 0
FindsName names captured number name = argument_name names captured (number name) ≡ name

pub expr_reprint : (names : List (List ℕ)) (captured : List ℕ) (number : List ℕ → ℕ) {rank : ℕ} {e : Expr} {tokens : Kinds} → SpellsExpr number rank e tokens
    → Each (FindsName names captured number) (names_in tokens) → (want : ℕ) → want ≤ 7
    → Reprint (SpellsExpr number want e) (ranked_tokens names captured e want) tokens
expr_reprint names captured number (stronger spelled) known want low = expr_reprint names captured number spelled known want low
expr_reprint names captured number (binary {left = a} {right = b} {tokens = first} {others = second} op left right) known want low =
    let finds = FindsName names captured number in
    let split = rw (names_in-append, names_in-operator) at known in
    let one = expr_reprint names captured number left (each_front finds (names_in first) (names_in second) split) (left_rank op) (low_left op) in
    let two = expr_reprint names captured number right (each_back finds (names_in first) (names_in second) split) (right_rank op) (low_right op) in
    rw (layer_tokens names captured want (layer.Bin op a b) (rolls-Bin op a b))
    (enclosed_if (rank_of op) want low (reprint (binary op one.spelled two.spelled) (same_append one.same (same_cons two.same))))
expr_reprint names captured number (negated {e = a} spelled) known want low =
    let one = expr_reprint names captured number spelled (rw names_in-cons at known) 2 (omega arith) in
    rw (layer_tokens names captured want (layer.Not a) (rolls-Not a)) (enclosed_if 2 want low (reprint (negated one.spelled) (same_cons one.same)))
expr_reprint names captured number (positive size small) known want low =
    rw (layer_tokens names captured want (layer.Lit (value.Int (pos size))) (rolls-Lit (value.Int (pos size)))) (as_it_is want low (positive size small))
expr_reprint names captured number (negative size most) known want low =
    rw (layer_tokens names captured want (layer.Lit (value.Int (neg_ℤ (pos size)))) (rolls-Lit (value.Int (neg_ℤ (pos size))))) (alone want low (int_reprint number size most))
expr_reprint names captured number (text_literal bytes) known want low =
    rw (layer_tokens names captured want (layer.Lit (value.Text bytes)) (rolls-Lit (value.Text bytes))) (as_it_is want low (text_literal bytes))
expr_reprint names captured number (truth_literal holds) known want low =
    rw (layer_tokens names captured want (layer.Lit (value.Bool holds)) (rolls-Lit (value.Bool holds))) (as_it_is want low (truth_literal holds))
expr_reprint names captured number (column_place place) known want low =
    rw (layer_tokens names captured want (layer.Column place) (rolls-Column place)) (as_it_is want low (column_place place))
expr_reprint names captured number (captured_name name) known want low =
    let once = rw names_in-name at known in
    rw (layer_tokens names captured want (layer.Capture (number name)) (rolls-Capture (number name)), once.0) (as_it_is want low (captured_name name))
expr_reprint names captured number (function_call {e = a} function spelled) known want low =
    let one = expr_reprint names captured number spelled (rw names_in-called at known) 0 (omega arith) in
    rw (layer_tokens names captured want (layer.Call function a) (rolls-Call function a))
    (alone want low (reprint (function_call function one.spelled) (same_cons (same_cons (same_append one.same same_refl)))))
expr_reprint names captured number (enclosed {tokens = inner} spelled) known want low =
    let one = expr_reprint names captured number spelled (rw names_in-enclosed at known) want low in
    reprint one.spelled (record {
      names = one.same.names ∙ sym (names_in-enclosed inner);
      valid = λ valid. one.same.valid (each_front IsToken inner (Symbol symbol.RIGHT_PAREN ∷ []) valid.1);
    })
