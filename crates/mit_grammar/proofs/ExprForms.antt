-- What is spelled at a rank, as operands with operators of the rank between them.
use Rattle.std.proofs.Common.{◌≡◌, ℕ, suc, ◌+◌, ◌<◌, ◌≤◌, List, [], ◌∷◌, ◌++◌, length, true, false, ◌==◌, if◌then◌else◌, refl, sym, ap, ◌∙◌, subst, append_assoc, append-nil, length-append, add-one, arith, true≢false}
use Rattle.mit_expr.specs.declared.expr.BinOp.{BinOp}
use Rattle.mit_expr.specs.declared.expr.Call.TheVariants as call
use Rattle.mit_expr.specs.declared.expr.Expr.{Expr}
use Rattle.mit_expr.specs.declared.expr.Expr.TheVariants as expr
use Rattle.mit_lex.specs.declared.keyword.TheConstants as word
use Rattle.mit_script.specs.Grammar.{Kinds, SpellsExpr, stronger, binary, negated, truth_literal, function_call, operator_token}
use Rattle.mit_script.specs.Reading.{sees_word}
use Rattle.mit_script.specs.Grammar.{left_rank, rank_of, right_rank}
use Rattle.mit_grammar.proofs.ExprFacts.{rank_below}

-- an operator of this rank and an operand after it, any number of times, from what stands left of them to the whole
pub data Chain (number : List ℕ → ℕ) (rank : ℕ) : Expr → Expr → Kinds → Type 0 where
  no_more : {left : Expr} → Chain number rank left left []
  more : {left right e : Expr} {tokens others : Kinds} → (op : BinOp) → rank_of op ≡ rank → SpellsExpr number (suc rank) right tokens
      → Chain number rank (expr.Bin op left right) e others → Chain number rank left e (operator_token op ∷ tokens ++ others)

-- one more at the end
chain_append : (number : List ℕ → ℕ) (rank : ℕ) {left e right : Expr} {tokens others : Kinds} → Chain number rank left e tokens → (op : BinOp) → rank_of op ≡ rank
    → SpellsExpr number (suc rank) right others → Chain number rank left (expr.Bin op e right) (tokens ++ operator_token op ∷ others)
chain_append number rank {left} {e} {right} {tokens} {others} no_more op is spelled =
    subst (λ all. Chain number rank left (expr.Bin op left right) (operator_token op ∷ all)) (append-nil others) (more op is spelled no_more)
chain_append number rank {left} {e} {right} {tokens} {others} (more {tokens = first} {others = rest} next its operand later) op is spelled =
    subst (λ all. Chain number rank left (expr.Bin op e right) (operator_token next ∷ all)) (sym (append_assoc first rest (operator_token op ∷ others)))
    (more next its operand (chain_append number rank later op is spelled))

-- ---- ranks of operands

right_of : (op : BinOp) (rank : ℕ) → rank_of op ≡ rank → right_rank op ≡ suc rank
right_of op rank is = ap (λ r. r + 1) is ∙ add-one rank

left_of : (op : BinOp) (rank : ℕ) → rank_of op ≡ rank → (rank == 3) ≡ false → left_rank op ≡ rank
left_of op rank is other = ap (λ r. if r == 3 then 4 else r) is ∙ ap (λ at. if at then 4 else rank) other

left_of_comparison : (op : BinOp) → rank_of op ≡ 3 → left_rank op ≡ 4
left_of_comparison op is = ap (λ r. if r == 3 then 4 else r) is

pub binary_at : (number : List ℕ → ℕ) (rank : ℕ) (op : BinOp) (left right : Expr) (tokens others : Kinds) → rank_of op ≡ rank → (rank == 3) ≡ false
    → SpellsExpr number rank left tokens → SpellsExpr number (suc rank) right others → SpellsExpr number rank (expr.Bin op left right) (tokens ++ operator_token op ∷ others)
binary_at number rank op left right tokens others is other spelled spelled' =
    subst (λ r. SpellsExpr number r (expr.Bin op left right) (tokens ++ operator_token op ∷ others)) is
    (binary op (subst (λ r. SpellsExpr number r left tokens) (sym (left_of op rank is other)) spelled)
    (subst (λ r. SpellsExpr number r right others) (sym (right_of op rank is)) spelled'))

pub comparison_spelled : (number : List ℕ → ℕ) (op : BinOp) (left right : Expr) (tokens others : Kinds) → rank_of op ≡ 3
    → SpellsExpr number 4 left tokens → SpellsExpr number 4 right others → SpellsExpr number 3 (expr.Bin op left right) (tokens ++ operator_token op ∷ others)
comparison_spelled number op left right tokens others is spelled spelled' =
    subst (λ r. SpellsExpr number r (expr.Bin op left right) (tokens ++ operator_token op ∷ others)) is
    (binary op (subst (λ r. SpellsExpr number r left tokens) (sym (left_of_comparison op is)) spelled)
    (subst (λ r. SpellsExpr number r right others) (sym (right_of op 3 is)) spelled'))

-- ---- what is spelled

-- it takes a token at least
pub spelled_long : (number : List ℕ → ℕ) {rank : ℕ} {e : Expr} {tokens : Kinds} → SpellsExpr number rank e tokens → 0 < length tokens
spelled_long number (stronger spelled) = spelled_long number spelled
spelled_long number (binary {tokens = tokens} {others = others} op left right) =
    let whole = length-append tokens (operator_token op ∷ others) in omega arith
spelled_long number _ = omega arith

-- no rank is above 7
pub spelled_rank : (number : List ℕ → ℕ) {rank : ℕ} {e : Expr} {tokens : Kinds} → SpellsExpr number rank e tokens → rank ≤ 7
spelled_rank number (stronger spelled) = let above = spelled_rank number spelled in omega arith
spelled_rank number (binary op left right) = let below = rank_below op in omega arith
spelled_rank number _ = omega arith

-- ranks whose operators group to the left
pub record IsChained (rank : ℕ) : Type 0 where
  pub not_two : (rank == 2) ≡ false
  pub not_three : (rank == 3) ≡ false
  pub below : rank < 7

-- the first operand and what follows it
pub data Chained (number : List ℕ → ℕ) (rank : ℕ) : Expr → Kinds → Type 0 where
  chained : {left e : Expr} {tokens others : Kinds} → SpellsExpr number (suc rank) left tokens → Chain number rank left e others → Chained number rank e (tokens ++ others)

chained_append : (number : List ℕ → ℕ) (rank : ℕ) {left right : Expr} {tokens others : Kinds} → Chained number rank left tokens → (op : BinOp) → rank_of op ≡ rank
    → SpellsExpr number (suc rank) right others → Chained number rank (expr.Bin op left right) (tokens ++ operator_token op ∷ others)
chained_append number rank {left} {right} {tokens} {others} (chained {tokens = first} {others = rest} spelled chain) op is spelled' =
    subst (Chained number rank (expr.Bin op left right)) (sym (append_assoc first rest (operator_token op ∷ others))) (chained spelled (chain_append number rank chain op is spelled'))

alone_chained : (number : List ℕ → ℕ) (rank : ℕ) {e : Expr} {tokens : Kinds} → SpellsExpr number (suc rank) e tokens → Chained number rank e tokens
alone_chained number rank {e} {tokens} spelled = subst (Chained number rank e) (append-nil tokens) (chained spelled no_more)

-- what is spelled is such a chain
pub is_chained : (number : List ℕ → ℕ) (rank : ℕ) {at : ℕ} {e : Expr} {tokens : Kinds} → IsChained rank → SpellsExpr number at e tokens → at ≡ rank → Chained number rank e tokens
is_chained number rank {at} {e} {tokens} of_chain (stronger spelled) is = alone_chained number rank (subst (λ r. SpellsExpr number (suc r) e tokens) is spelled)
is_chained number rank of_chain (binary {right = right} {others = others} op left operand) is =
    chained_append number rank (is_chained number rank of_chain left (left_of op rank is of_chain.not_three)) op is
    (subst (λ r. SpellsExpr number r right others) (right_of op rank is) operand)
is_chained number rank of_chain (negated spelled) is = absurd (true≢false (ap (λ r. r == 2) is ∙ of_chain.not_two))
is_chained number rank of_chain _ is = let below = of_chain.below in absurd (omega arith)

-- and such a chain is spelled
pub chain_spelled : (number : List ℕ → ℕ) (rank : ℕ) {left e : Expr} {more : Kinds} → (rank == 3) ≡ false → (used : Kinds) → SpellsExpr number rank left used
    → Chain number rank left e more → SpellsExpr number rank e (used ++ more)
chain_spelled number rank {left} other used spelled no_more = subst (SpellsExpr number rank left) (sym (append-nil used)) spelled
chain_spelled number rank {left} {e} other used spelled (more {right = right} {tokens = tokens} {others = others} op is operand chain) =
    subst (SpellsExpr number rank e) (append_assoc used (operator_token op ∷ tokens) others)
    (chain_spelled number rank other (used ++ operator_token op ∷ tokens) (binary_at number rank op left right used tokens is other spelled operand) chain)

-- a comparison: an operand, or two
pub data Compared (number : List ℕ → ℕ) : Expr → Kinds → Type 0 where
  one : {e : Expr} {tokens : Kinds} → SpellsExpr number 4 e tokens → Compared number e tokens
  two : {left right : Expr} {tokens others : Kinds} → (op : BinOp) → rank_of op ≡ 3 → SpellsExpr number 4 left tokens → SpellsExpr number 4 right others
      → Compared number (expr.Bin op left right) (tokens ++ operator_token op ∷ others)

pub is_compared : (number : List ℕ → ℕ) {at : ℕ} {e : Expr} {tokens : Kinds} → SpellsExpr number at e tokens → at ≡ 3 → Compared number e tokens
is_compared number {at} {e} {tokens} (stronger spelled) is = one (subst (λ r. SpellsExpr number (suc r) e tokens) is spelled)
is_compared number (binary {left = left} {right = right} {tokens = tokens} {others = others} op spelled spelled') is =
    two op is (subst (λ r. SpellsExpr number r left tokens) (left_of_comparison op is) spelled)
    (subst (λ r. SpellsExpr number r right others) (right_of op 3 is) spelled')
is_compared number _ is = absurd (omega arith)

-- where more than the rank of `not` is wanted, no `not` comes first
pub no_not : (number : List ℕ → ℕ) {at : ℕ} {e : Expr} {tokens : Kinds} → SpellsExpr number at e tokens → 3 ≤ at → (after : Kinds) → sees_word word.NOT (tokens ++ after) ≡ false
unfolding sees_word
no_not number (stronger spelled) high after = no_not number spelled (omega arith) after
no_not number (binary {tokens = tokens} {others = others} op left right) high after =
    ap (sees_word word.NOT) (append_assoc tokens (operator_token op ∷ others) after)
    ∙ no_not number left (left_high op high) ((operator_token op ∷ others) ++ after)
  where
    left_high : (op : BinOp) → 3 ≤ rank_of op → 3 ≤ left_rank op
    left_high op high = elim (rank_of op == 3) as (λ at. 3 ≤ (if at then 4 else rank_of op)) [ true ↦ omega arith | false ↦ high ]
no_not number (negated spelled) high after = absurd (omega arith)
no_not number (truth_literal true) high after = refl
no_not number (truth_literal false) high after = refl
no_not number (function_call call.ToText spelled) high after = refl
no_not number (function_call call.ToInt spelled) high after = refl
no_not number (function_call call.Len spelled) high after = refl
no_not number _ high after = refl
