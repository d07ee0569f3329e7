-- What is spelled as an expression is read.
use Rattle.std.proofs.Common.{◌≡◌, ℕ, zero, suc, ◌<◌, ◌^◌, List, [], ◌∷◌, ◌++◌, length, true, false, if◌then◌else◌, Ok, Err, pos, neg_ℤ, refl, ap, ◌∙◌, subst, append_assoc, length-append, not-suc-le-zero, arith, lt-ltb, le-leb}
use Rattle.mit_rows.specs.declared.value.Value.TheVariants as value
use Rattle.mit_expr.specs.declared.expr.Call.{Call}
use Rattle.mit_expr.specs.declared.expr.Call.TheVariants as call
use Rattle.mit_expr.specs.declared.expr.Expr.{Expr}
use Rattle.mit_expr.specs.declared.expr.Expr.TheVariants as expr
use Rattle.mit_lex.specs.declared.token.TokenKind.TheVariants.{Number, Symbol}
use Rattle.mit_lex.specs.declared.symbol.TheConstants as symbol
use Rattle.mit_script.specs.Grammar.{Kinds, SpellsExpr, stronger, binary, negated, positive, negative, text_literal, truth_literal, column_place, captured_name, function_call, enclosed, operator_token}
use Rattle.mit_script.specs.Reading.{Reading, ◌>>=◌, alone, after_next, called_at, chain, chain_by, chain_from, compared, comparison, enclosed_at, expect_symbol, expression, negation, negative_at, operator_at, primary, ranked, ranked_operator, sees_word}
use Rattle.mit_grammar.proofs.ExprFacts.{EndsRank, ends_none, ends_operator, ends_weaker, none_ranked, rank_below, rank_not_two, ranked_operator-token}
use Rattle.mit_grammar.proofs.ExprForms.{Chain, Chained, Compared, IsChained, chained, is_chained, is_compared, more, no_more, no_not, one, spelled_long, spelled_rank, two}

-- the reader reads what is spelled at the rank, in fewer tokens than so many
abbrev pub Completes : (Kinds → Reading Expr) → (List ℕ → ℕ) → ℕ → ℕ → Type 0
Completes reader number rank most =
    (e : Expr) (tokens after : Kinds) → SpellsExpr number rank e tokens → EndsRank rank after → length tokens < most → reader (tokens ++ after) ≡ Ok (e, after)

-- ---- chains

chain_ends : (number : List ℕ → ℕ) (rank : ℕ) {left e : Expr} {tokens : Kinds} → Chain number rank left e tokens → (after : Kinds) → EndsRank rank after
    → EndsRank (suc rank) (tokens ++ after)
chain_ends number rank no_more after ends = ends_weaker rank after ends
chain_ends number rank (more {tokens = tokens} {others = others} op is spelled chain) after ends =
    ends_operator (suc rank) op ((tokens ++ others) ++ after) (omega arith)

chain_from_complete : (number : List ℕ → ℕ) (operand : Kinds → Reading Expr) (rank most : ℕ) → Completes operand number (suc rank) most → (turns : ℕ)
    → {left e : Expr} {tokens : Kinds} → Chain number rank left e tokens → (after : Kinds) → EndsRank rank after → length tokens < turns → length tokens < most
    → chain_from operand rank turns left (tokens ++ after) ≡ Ok (e, after)
unfolding chain_from
chain_from_complete number operand rank most complete zero chain after ends short few = absurd (not-suc-le-zero short)
chain_from_complete number operand rank most complete (suc turns) {left} no_more after ends short few =
    ap (λ found. chain_by (chain_from operand rank turns) operand found left after) (none_ranked rank after ends)
chain_from_complete number operand rank most complete (suc turns) {left} (more {right = right} {e = e} {tokens = tokens} {others = others} op is spelled chain) after ends short few =
    let whole = length-append tokens others in
    ap (λ found. chain_by (chain_from operand rank turns) operand found left (operator_token op ∷ ((tokens ++ others) ++ after)))
    (ranked_operator-token rank op ((tokens ++ others) ++ after) is)
    ∙ ap (λ all. operand all >>= λ right. chain_from operand rank turns (expr.Bin op left right.0) right.1) (append_assoc tokens others after)
    ∙ ap (λ read. read >>= λ right. chain_from operand rank turns (expr.Bin op left right.0) right.1)
    (complete right tokens (others ++ after) spelled (chain_ends number rank chain after ends) (omega arith))
    ∙ chain_from_complete number operand rank most complete turns chain after ends (omega arith) (omega arith)

chained_complete : (number : List ℕ → ℕ) (operand : Kinds → Reading Expr) (rank turns : ℕ) → Completes operand number (suc rank) (suc turns)
    → {e : Expr} {tokens : Kinds} → Chained number rank e tokens → (after : Kinds) → EndsRank rank after → length tokens < suc turns
    → chain operand rank turns (tokens ++ after) ≡ Ok (e, after)
unfolding chain
chained_complete number operand rank turns complete (chained {left = left} {tokens = tokens} {others = others} spelled later) after ends few =
    let whole = length-append tokens others in
    let long = spelled_long number spelled in
    ap (λ all. operand all >>= λ left. chain_from operand rank turns left.0 left.1) (append_assoc tokens others after)
    ∙ ap (λ read. read >>= λ left. chain_from operand rank turns left.0 left.1)
    (complete left tokens (others ++ after) spelled (chain_ends number rank later after ends) (omega arith))
    ∙ chain_from_complete number operand rank (suc turns) complete turns later after ends (omega arith) (omega arith)

chain_complete : (number : List ℕ → ℕ) (operand : Kinds → Reading Expr) (rank turns : ℕ) → IsChained rank → Completes operand number (suc rank) (suc turns)
    → Completes (chain operand rank turns) number rank (suc turns)
chain_complete number operand rank turns of_chain complete e tokens after spelled ends few =
    chained_complete number operand rank turns complete (is_chained number rank of_chain spelled refl) after ends few

-- ---- comparisons

compared_complete : (number : List ℕ → ℕ) (operand : Kinds → Reading Expr) (most : ℕ) → Completes operand number 4 most → {e : Expr} {tokens : Kinds} → Compared number e tokens
    → (after : Kinds) → EndsRank 3 after → length tokens < most → comparison operand (tokens ++ after) ≡ Ok (e, after)
unfolding comparison
compared_complete number operand most complete {e} (one {tokens = tokens} spelled) after ends few =
    ap (λ read. read >>= λ left. compared operand (ranked_operator 3 left.1) left.0 left.1) (complete e tokens after spelled (ends_weaker 3 after ends) few)
    ∙ ap (λ found. compared operand found e after) (none_ranked 3 after ends)
compared_complete number operand most complete (two {left = left} {right = right} {tokens = tokens} {others = others} op is spelled spelled') after ends few =
    let whole = length-append tokens (operator_token op ∷ others) in
    ap (λ all. operand all >>= λ left. compared operand (ranked_operator 3 left.1) left.0 left.1) (append_assoc tokens (operator_token op ∷ others) after)
    ∙ ap (λ read. read >>= λ left. compared operand (ranked_operator 3 left.1) left.0 left.1)
    (complete left tokens (operator_token op ∷ (others ++ after)) spelled (ends_operator 4 op (others ++ after) (omega arith)) (omega arith))
    ∙ ap (λ found. compared operand found left (operator_token op ∷ (others ++ after))) (ranked_operator-token 3 op (others ++ after) is)
    ∙ ap (λ read. read >>= λ right. alone (ranked_operator 3 right.1) (expr.Bin op left right.0) right.1)
    (complete right others after spelled' (ends_weaker 3 after ends) (omega arith))
    ∙ ap (λ found. alone found (expr.Bin op left right) after) (none_ranked 3 after ends)

comparison_complete : (number : List ℕ → ℕ) (operand : Kinds → Reading Expr) (most : ℕ) → Completes operand number 4 most → Completes (comparison operand) number 3 most
comparison_complete number operand most complete e tokens after spelled ends few =
    compared_complete number operand most complete (is_compared number spelled refl) after ends few

-- ---- `not`

not_complete : (number : List ℕ → ℕ) (inner operand : Kinds → Reading Expr) (most : ℕ) → Completes inner number 2 most → Completes operand number 3 (suc most)
    → {at : ℕ} {e : Expr} {tokens : Kinds} → SpellsExpr number at e tokens → at ≡ 2 → (after : Kinds) → EndsRank 2 after → length tokens < suc most
    → negation inner operand (tokens ++ after) ≡ Ok (e, after)
unfolding negation sees_word
not_complete number inner operand most inside complete {e = e} {tokens = tokens} (stronger spelled) is after ends few =
    let higher = subst (λ r. SpellsExpr number (suc r) e tokens) is spelled in
    ap (λ seen. if seen then (inner (after_next (tokens ++ after)) >>= λ e. Ok (expr.Not e.0, e.1)) else operand (tokens ++ after)) (no_not number higher (omega arith) after)
    ∙ complete e tokens after higher (ends_weaker 2 after ends) few
not_complete number inner operand most inside complete (binary op left right) is after ends few = absurd (rank_not_two op is)
not_complete number inner operand most inside complete (negated {e = e} {tokens = tokens} spelled) is after ends few =
    ap (λ read. read >>= λ e. Ok (expr.Not e.0, e.1)) (inside e tokens after spelled ends (omega arith))
not_complete number inner operand most inside complete _ is after ends few = absurd (omega arith)

-- ---- what stands alone

enclosed_complete : (number : List ℕ → ℕ) (inner : Kinds → Reading Expr) (most : ℕ) → Completes inner number 0 most → (e : Expr) (tokens after : Kinds) → SpellsExpr number 0 e tokens
    → length tokens < most → enclosed_at inner ((tokens ++ Symbol symbol.RIGHT_PAREN ∷ []) ++ after) ≡ Ok (e, after)
unfolding enclosed_at expect_symbol operator_at
enclosed_complete number inner most complete e tokens after spelled few =
    ap (enclosed_at inner) (append_assoc tokens (Symbol symbol.RIGHT_PAREN ∷ []) after)
    ∙ ap (λ read. read >>= λ e. expect_symbol symbol.RIGHT_PAREN e.1 >>= λ end. Ok (e.0, end.1))
    (complete e tokens (Symbol symbol.RIGHT_PAREN ∷ after) spelled (ends_none 0 (Symbol symbol.RIGHT_PAREN ∷ after) refl) few)

called_complete : (number : List ℕ → ℕ) (inner : Kinds → Reading Expr) (most : ℕ) → Completes inner number 0 most → (function : Call) (e : Expr) (tokens after : Kinds)
    → SpellsExpr number 0 e tokens → length tokens < most
    → called_at inner function (Symbol symbol.LEFT_PAREN ∷ ((tokens ++ Symbol symbol.RIGHT_PAREN ∷ []) ++ after)) ≡ Ok (expr.Call function e, after)
unfolding called_at expect_symbol
called_complete number inner most complete function e tokens after spelled few =
    ap (λ read. read >>= λ e. Ok (expr.Call function e.0, e.1)) (enclosed_complete number inner most complete e tokens after spelled few)

primary_complete : (number : List ℕ → ℕ) (inner : Kinds → Reading Expr) (most : ℕ) → Completes inner number 0 most → {at : ℕ} {e : Expr} {tokens : Kinds} → SpellsExpr number at e tokens
    → at ≡ 7 → (after : Kinds) → length tokens < suc most → primary inner number (tokens ++ after) ≡ Ok (e, after)
unfolding primary negative_at
primary_complete number inner most complete (stronger spelled) is after few = let high = spelled_rank number spelled in absurd (omega arith)
primary_complete number inner most complete (binary op left right) is after few = let below = rank_below op in absurd (omega arith)
primary_complete number inner most complete (negated spelled) is after few = absurd (omega arith)
primary_complete number inner most complete (positive size small) is after few =
    ap (λ fits. if fits then Ok (expr.Lit (value.Int (pos size)), after) else Err (Number size ∷ after)) (lt-ltb size (2 ^ 63) small)
primary_complete number inner most complete (negative size small) is after few =
    ap (λ fits. if fits then Ok (expr.Lit (value.Int (neg_ℤ (pos size))), after) else Err (Number size ∷ after)) (le-leb size (2 ^ 63) small)
primary_complete number inner most complete (text_literal bytes) is after few = refl
primary_complete number inner most complete (truth_literal true) is after few = refl
primary_complete number inner most complete (truth_literal false) is after few = refl
primary_complete number inner most complete (column_place place) is after few = refl
primary_complete number inner most complete (captured_name name) is after few = refl
primary_complete number inner most complete (function_call {e = e} {tokens = tokens} call.ToText spelled) is after few =
    let whole = length-append tokens (Symbol symbol.RIGHT_PAREN ∷ []) in called_complete number inner most complete call.ToText e tokens after spelled (omega arith)
primary_complete number inner most complete (function_call {e = e} {tokens = tokens} call.ToInt spelled) is after few =
    let whole = length-append tokens (Symbol symbol.RIGHT_PAREN ∷ []) in called_complete number inner most complete call.ToInt e tokens after spelled (omega arith)
primary_complete number inner most complete (function_call {e = e} {tokens = tokens} call.Len spelled) is after few =
    let whole = length-append tokens (Symbol symbol.RIGHT_PAREN ∷ []) in called_complete number inner most complete call.Len e tokens after spelled (omega arith)
primary_complete number inner most complete (enclosed {e = e} {tokens = tokens} spelled) is after few =
    let whole = length-append tokens (Symbol symbol.RIGHT_PAREN ∷ []) in enclosed_complete number inner most complete e tokens after spelled (omega arith)

-- ---- every rank

ranks_complete : (number : List ℕ → ℕ) (depth : ℕ) → Completes (expression number depth 7) number 0 depth → Completes (expression number depth 5) number 2 depth
    → Completes (expression number (suc depth) 7) number 0 (suc depth) × Completes (expression number (suc depth) 5) number 2 (suc depth)
unfolding expression ranked
ranks_complete number depth any inside = (or, not)
  where
    within : ℕ → Kinds → Reading Expr
    within below = ranked (expression number depth) number depth below

    alone : Completes (within 0) number 7 (suc depth)
    alone e tokens after spelled ends few = primary_complete number (expression number depth 7) depth any spelled refl after few

    times : Completes (within 1) number 6 (suc depth)
    times = chain_complete number (within 0) 6 depth (record { not_two = refl; not_three = refl; below = omega arith }) alone

    plus : Completes (within 2) number 5 (suc depth)
    plus = chain_complete number (within 1) 5 depth (record { not_two = refl; not_three = refl; below = omega arith }) times

    join : Completes (within 3) number 4 (suc depth)
    join = chain_complete number (within 2) 4 depth (record { not_two = refl; not_three = refl; below = omega arith }) plus

    compare : Completes (within 4) number 3 (suc depth)
    compare = comparison_complete number (within 3) (suc depth) join

    not : Completes (within 5) number 2 (suc depth)
    not e tokens after spelled ends few = not_complete number (expression number depth 5) (within 4) depth inside compare spelled refl after ends few

    and : Completes (within 6) number 1 (suc depth)
    and = chain_complete number (within 5) 1 depth (record { not_two = refl; not_three = refl; below = omega arith }) not

    or : Completes (within 7) number 0 (suc depth)
    or = chain_complete number (within 6) 0 depth (record { not_two = refl; not_three = refl; below = omega arith }) and

pub expressions_complete : (number : List ℕ → ℕ) (most : ℕ) → Completes (expression number most 7) number 0 most × Completes (expression number most 5) number 2 most
expressions_complete number zero = (λ e tokens after spelled ends few. absurd (not-suc-le-zero few), λ e tokens after spelled ends few. absurd (not-suc-le-zero few))
expressions_complete number (suc depth) = let below = expressions_complete number depth in ranks_complete number depth below.0 below.1
