-- What is read as an expression, or as one of a rank, is spelled, and reading depends on no token after the first one that it leaves.
use Rattle.std.proofs.Common.{◌≡◌, ℕ, zero, suc, ◌+◌, ◌<◌, ◌≤◌, ◌^◌, List, [], ◌∷◌, ◌++◌, length, Bool, true, false, nat_lt, nat_le, ◌==◌, if◌then◌else◌, Option, Some, None, Ok, Err, pos, neg_ℤ, refl, sym, ap, ◌∙◌, subst, append-nil, length-append, le_of_suc-le-suc, not-suc-le-zero, arith, eqb-true, ltb-true, leb-true}
use Rattle.mit_rows.specs.declared.value.Value.TheVariants as value
use Rattle.mit_expr.specs.declared.expr.BinOp.{BinOp}
use Rattle.mit_expr.specs.declared.expr.Call.{Call}
use Rattle.mit_expr.specs.declared.expr.Expr.{Expr}
use Rattle.mit_expr.specs.declared.expr.Expr.TheVariants as expr
use Rattle.mit_lex.specs.declared.token.TokenKind.TheVariants.{Name, Number, Column, Text, Symbol, Keyword}
use Rattle.mit_lex.specs.declared.symbol.TheConstants as symbol
use Rattle.mit_lex.specs.declared.keyword.TheConstants as word
use Rattle.mit_script.specs.Grammar.{Kinds, SpellsExpr, stronger, negated, positive, negative, text_literal, truth_literal, column_place, captured_name, function_call, enclosed, operator_token, call_token}
use Rattle.mit_script.specs.Reading.{Reading, ◌>>=◌, alone, any_expression, after_next, call_by, call_of_word, called_at, chain, chain_by, chain_from, compared, comparison, enclosed_at, expect_symbol, expression, negation, negative_at, primary, ranked, ranked_operator, sees_word}
use Rattle.mit_script.specs.Grammar.{rank_of}
use Rattle.mit_grammar.proofs.Readers.{Bounded, IsSymbol, Reads, Anything, left_below, reads_as, reads_behind, reads_if, reads_made, reads_none, reads_symbol, reads_then, reads_token, reads_where, refuses, refuses_end, refuses_token, word_local, word_seen}
use Rattle.mit_grammar.proofs.ExprFacts.{EndsRank, call_found, ends_here, ends_not, rank_below, ranked_ahead, ranked_operator-first, ranked_operator-token}
use Rattle.mit_grammar.proofs.ExprForms.{Chain, chain_spelled, comparison_spelled, more, no_more, spelled_long}

-- what the reader reads in fewer tokens than so many is spelled at the rank
abbrev pub ReadsRank : {X : Type 0} → (List ℕ → ℕ) → ℕ → ℕ → (X → Kinds → Reading Expr) → (Kinds → Reading Expr) → Type 0
ReadsRank number rank most others reader =
    (tokens : Kinds) → length tokens < most → Reads (SpellsExpr number rank) (EndsRank rank) others tokens (reader tokens)

-- ---- an expression that stands for any other

abbrev nought : Expr
nought = expr.Lit (value.Int (pos 0))

nought_alone : (number : List ℕ → ℕ) → SpellsExpr number 7 nought (Number 0 ∷ [])
nought_alone number = positive 0 (omega arith)

nought_spelled : (number : List ℕ → ℕ) → SpellsExpr number 0 nought (Number 0 ∷ [])
nought_spelled number = stronger (stronger (stronger (stronger (stronger (stronger (stronger (nought_alone number)))))))

-- ---- chains

module _ {X : Type 0} (number : List ℕ → ℕ) (rank most : ℕ) (not_three : (rank == 3) ≡ false)
    (operands : X → Kinds → Reading Expr) (operand : Kinds → Reading Expr) (reads_operand : ReadsRank number (suc rank) most operands operand) where
  -- an operator and what stands after it
  reads_operator : (turns : ℕ) (op : BinOp) → rank_of op ≡ rank → (left : Expr) (rest : Kinds) → length rest < turns → length rest < most
      → ((left : Expr) (tokens : Kinds) → length tokens < turns → length tokens < most → EndsRank (suc rank) tokens
      → Reads (Chain number rank left) (EndsRank rank) (λ (y : Bounded X turns × Expr) (later : Kinds). chain_from (operands y.0.0) rank y.0.1 y.1 later) tokens
      (chain_from operand rank turns left tokens))
      → Reads (Chain number rank left) (EndsRank rank)
      (λ (y : Bounded X turns × Expr) (later : Kinds). chain_by (chain_from (operands y.0.0) rank y.0.1) (operands y.0.0) (ranked_operator rank later) y.1 later)
      (operator_token op ∷ rest) (operand rest >>= λ right. chain_from operand rank turns (expr.Bin op left right.0) right.1)
  reads_operator turns op is left rest short few reads_rest =
      reads_behind (operator_token op) (Chain number rank left)
      (λ (y : Bounded X turns × Expr) (later : Kinds). chain_by (chain_from (operands y.0.0) rank y.0.1) (operands y.0.0) (ranked_operator rank later) y.1 later)
      (λ e used chain. chain)
      (λ y later. ap (λ found. chain_by (chain_from (operands y.0.0) rank y.0.1) (operands y.0.0) found y.1 (operator_token op ∷ later)) (ranked_operator-token rank op later is))
      (reads_then (SpellsExpr number (suc rank)) (λ (y : Bounded X turns × Expr) (later : Kinds). operands y.0.0 later)
      (λ right e used. Chain number rank (expr.Bin op left right) e used) (EndsRank rank)
      (λ y right. chain_from (operands y.0.0) rank y.0.1 (expr.Bin op y.1 right.0) right.1)
      (λ e used. Chain number rank left e (operator_token op ∷ used))
      (λ right e used others spelled chain. more op is spelled chain)
      (λ right. chain_from operand rank turns (expr.Bin op left right.0) right.1)
      (λ right. (expr.Bin op left right, [], no_more))
      (λ right used left_over whole spelled ends.
      reads_as (Chain number rank (expr.Bin op left right)) (EndsRank rank)
      (λ (z : (Bounded X turns × Expr) × Expr) (later : Kinds). chain_from (operands z.0.0.0) rank z.0.0.1 (expr.Bin op z.0.1 z.1) later)
      (λ e used chain. chain) (λ rest ends. ends) (λ z. ((z.0.0, expr.Bin op z.0.1 z.1), λ later. refl))
      (reads_rest (expr.Bin op left right) left_over (left_below rest used left_over turns whole short) (left_below rest used left_over most whole few) ends))
      (reads_as (SpellsExpr number (suc rank)) (EndsRank (suc rank)) (λ (y : Bounded X turns × Expr) (later : Kinds). operands y.0.0 later)
      (λ e used spelled. spelled) (λ rest ends. ends) (λ y. (y.0.0, λ later. refl)) (reads_operand rest few)))

  reads_by : (turns : ℕ) (left : Expr) (tokens : Kinds) (found : Option BinOp) → ranked_operator rank tokens ≡ found → length tokens < suc turns → length tokens < most
      → EndsRank (suc rank) tokens
      → ((left : Expr) (tokens : Kinds) → length tokens < turns → length tokens < most → EndsRank (suc rank) tokens
      → Reads (Chain number rank left) (EndsRank rank) (λ (y : Bounded X turns × Expr) (later : Kinds). chain_from (operands y.0.0) rank y.0.1 y.1 later) tokens
      (chain_from operand rank turns left tokens))
      → Reads (Chain number rank left) (EndsRank rank)
      (λ (y : Bounded X turns × Expr) (later : Kinds). chain_by (chain_from (operands y.0.0) rank y.0.1) (operands y.0.0) (ranked_operator rank later) y.1 later)
      tokens (chain_by (chain_from operand rank turns) operand found left tokens)
  reads_by turns left tokens None is short few ends reads_rest =
      reads_none left tokens no_more (ends_here rank tokens ends is)
      (λ y later same. (y.1, ap (λ found. chain_by (chain_from (operands y.0.0) rank y.0.1) (operands y.0.0) found y.1 later) (ranked_operator-first rank later tokens same ∙ is)))
  reads_by turns left tokens (Some op) is short few ends reads_rest =
      let ahead = ranked_ahead rank tokens op is in
      let longer : length tokens ≡ suc (length (after_next tokens)) = ap length ahead.0 in
      subst (λ all. Reads (Chain number rank left) (EndsRank rank)
      (λ (y : Bounded X turns × Expr) (later : Kinds). chain_by (chain_from (operands y.0.0) rank y.0.1) (operands y.0.0) (ranked_operator rank later) y.1 later)
      all (operand (after_next tokens) >>= λ right. chain_from operand rank turns (expr.Bin op left right.0) right.1)) (sym ahead.0)
      (reads_operator turns op ahead.1 left (after_next tokens) (omega arith) (omega arith) reads_rest)

  turn_given : (turns : ℕ) (x : X) (bound : ℕ) (left : Expr) → suc turns ≤ bound → (y : Bounded X turns × Expr)
      × ((later : Kinds) → chain_from (operands x) rank bound left later ≡ chain_by (chain_from (operands y.0.0) rank y.0.1) (operands y.0.0) (ranked_operator rank later) y.1 later)
  unfolding chain_from
  turn_given turns x zero left high = absurd (not-suc-le-zero high)
  turn_given turns x (suc bound) left high = (((x, bound, le_of_suc-le-suc high), left), λ later. refl)

  reads_chain_from : (turns : ℕ) (left : Expr) (tokens : Kinds) → length tokens < turns → length tokens < most → EndsRank (suc rank) tokens
      → Reads (Chain number rank left) (EndsRank rank) (λ (y : Bounded X turns × Expr) (later : Kinds). chain_from (operands y.0.0) rank y.0.1 y.1 later) tokens
      (chain_from operand rank turns left tokens)
  unfolding chain_from
  reads_chain_from zero left tokens short few ends = absurd (not-suc-le-zero short)
  reads_chain_from (suc turns) left tokens short few ends =
      reads_as (Chain number rank left) (EndsRank rank) (λ (y : Bounded X (suc turns) × Expr) (later : Kinds). chain_from (operands y.0.0) rank y.0.1 y.1 later)
      (λ e used chain. chain) (λ rest ends. ends) (λ y. turn_given turns y.0.0 y.0.1 y.1 y.0.2)
      (reads_by turns left tokens (ranked_operator rank tokens) refl short few ends (reads_chain_from turns))

  reads_chain : (turns : ℕ) → most ≤ suc turns → ReadsRank number rank most (λ (x : Bounded X turns) (later : Kinds). chain (operands x.0) rank x.1 later) (chain operand rank turns)
  unfolding chain
  reads_chain turns enough tokens few =
      reads_then (SpellsExpr number (suc rank)) (λ (x : Bounded X turns) (later : Kinds). operands x.0 later) (Chain number rank) (EndsRank rank)
      (λ x left. chain_from (operands x.0) rank x.1 left.0 left.1) (SpellsExpr number rank)
      (λ left e used others spelled chain. chain_spelled number rank not_three used (stronger spelled) chain)
      (λ left. chain_from operand rank turns left.0 left.1)
      (λ left. (left, [], no_more))
      (λ left used rest whole spelled ends.
      let sizes : length tokens ≡ length used + length rest = ap length whole ∙ length-append used rest in
      let long = spelled_long number spelled in
      reads_as (Chain number rank left) (EndsRank rank) (λ (z : Bounded X turns × Expr) (later : Kinds). chain_from (operands z.0.0) rank z.0.1 z.1 later)
      (λ e used chain. chain) (λ rest ends. ends) (λ z. (z, λ later. refl))
      (reads_chain_from turns left rest (omega arith) (omega arith) ends))
      (reads_as (SpellsExpr number (suc rank)) (EndsRank (suc rank)) (λ (x : Bounded X turns) (later : Kinds). operands x.0 later)
      (λ e used spelled. spelled) (λ rest ends. ends) (λ x. (x.0, λ later. refl)) (reads_operand tokens few))

-- ---- comparisons

-- what stands after the first operand of a comparison: nothing, or an operator and another operand
data Rest (number : List ℕ → ℕ) (left : Expr) : Expr → Kinds → Type 0 where
  nothing : Rest number left left []
  compares : {right : Expr} {tokens : Kinds} → (op : BinOp) → rank_of op ≡ 3 → SpellsExpr number 4 right tokens
      → Rest number left (expr.Bin op left right) (operator_token op ∷ tokens)

rest_spelled : (number : List ℕ → ℕ) (left e : Expr) (used others : Kinds) → SpellsExpr number 4 left used → Rest number left e others → SpellsExpr number 3 e (used ++ others)
rest_spelled number left _ used _ spelled nothing = subst (SpellsExpr number 3 left) (sym (append-nil used)) (stronger spelled)
rest_spelled number left _ used _ spelled (compares {right = right} {tokens = tokens} op is spelled') = comparison_spelled number op left right used tokens is spelled spelled'

module _ {X : Type 0} (number : List ℕ → ℕ) (most : ℕ) (operands : X → Kinds → Reading Expr) (operand : Kinds → Reading Expr) (reads_operand : ReadsRank number 4 most operands operand) where
  -- no second operator follows
  reads_alone : (op : BinOp) → rank_of op ≡ 3 → (left right : Expr) (rest : Kinds) (found : Option BinOp) → ranked_operator 3 rest ≡ found → EndsRank 4 rest
      → Reads (λ e used. (e ≡ expr.Bin op left right) × (used ≡ [])) (EndsRank 3)
      (λ (z : (X × Expr) × Expr) (later : Kinds). alone (ranked_operator 3 later) (expr.Bin op z.0.1 z.1) later) rest (alone found (expr.Bin op left right) rest)
  reads_alone op of_rank left right rest None is ends =
      reads_none (expr.Bin op left right) rest (refl, refl) (ends_here 3 rest ends is)
      (λ z later same. (expr.Bin op z.0.1 z.1, ap (λ found. alone found (expr.Bin op z.0.1 z.1) later) (ranked_operator-first 3 later rest same ∙ is)))
  reads_alone op of_rank left right rest (Some other) is ends =
      refuses (expr.Bin op left right) [] rest (refl, refl)
      (λ z later same. ap (λ found. alone found (expr.Bin op z.0.1 z.1) later) (ranked_operator-first 3 later rest same ∙ is))

  reads_second : (op : BinOp) → rank_of op ≡ 3 → (left : Expr) (rest : Kinds) → length rest < most
      → Reads (Rest number left) (EndsRank 3) (λ (y : X × Expr) (later : Kinds). compared (operands y.0) (ranked_operator 3 later) y.1 later)
      (operator_token op ∷ rest) (operand rest >>= λ right. alone (ranked_operator 3 right.1) (expr.Bin op left right.0) right.1)
  reads_second op is left rest few =
      reads_behind (operator_token op) (Rest number left) (λ (y : X × Expr) (later : Kinds). compared (operands y.0) (ranked_operator 3 later) y.1 later)
      (λ e used spelled. spelled)
      (λ y later. ap (λ found. compared (operands y.0) found y.1 (operator_token op ∷ later)) (ranked_operator-token 3 op later is))
      (reads_then (SpellsExpr number 4) (λ (y : X × Expr) (later : Kinds). operands y.0 later) (λ right e used. (e ≡ expr.Bin op left right) × (used ≡ [])) (EndsRank 3)
      (λ y right. alone (ranked_operator 3 right.1) (expr.Bin op y.1 right.0) right.1)
      (λ e used. Rest number left e (operator_token op ∷ used))
      (λ right e used others spelled made.
      subst (λ whole. Rest number left whole (operator_token op ∷ (used ++ others))) (sym made.0)
      (subst (λ all. Rest number left (expr.Bin op left right) (operator_token op ∷ all)) (sym (append-nil used) ∙ ap (λ end. used ++ end) (sym made.1)) (compares op is spelled)))
      (λ right. alone (ranked_operator 3 right.1) (expr.Bin op left right.0) right.1)
      (λ right. (expr.Bin op left right, [], (refl, refl)))
      (λ right used left_over whole spelled ends. reads_alone op is left right left_over (ranked_operator 3 left_over) refl ends)
      (reads_as (SpellsExpr number 4) (EndsRank 4) (λ (y : X × Expr) (later : Kinds). operands y.0 later)
      (λ e used spelled. spelled) (λ rest ends. ends) (λ y. (y.0, λ later. refl)) (reads_operand rest few)))

  reads_compared : (left : Expr) (tokens : Kinds) (found : Option BinOp) → ranked_operator 3 tokens ≡ found → length tokens < most → EndsRank 4 tokens
      → Reads (Rest number left) (EndsRank 3) (λ (y : X × Expr) (later : Kinds). compared (operands y.0) (ranked_operator 3 later) y.1 later)
      tokens (compared operand found left tokens)
  reads_compared left tokens None is few ends =
      reads_none left tokens nothing (ends_here 3 tokens ends is)
      (λ y later same. (y.1, ap (λ found. compared (operands y.0) found y.1 later) (ranked_operator-first 3 later tokens same ∙ is)))
  reads_compared left tokens (Some op) is few ends =
      let ahead = ranked_ahead 3 tokens op is in
      let longer : length tokens ≡ suc (length (after_next tokens)) = ap length ahead.0 in
      subst (λ all. Reads (Rest number left) (EndsRank 3) (λ (y : X × Expr) (later : Kinds). compared (operands y.0) (ranked_operator 3 later) y.1 later)
      all (operand (after_next tokens) >>= λ right. alone (ranked_operator 3 right.1) (expr.Bin op left right.0) right.1)) (sym ahead.0)
      (reads_second op ahead.1 left (after_next tokens) (omega arith))

  reads_comparison : ReadsRank number 3 most (λ x. comparison (operands x)) (comparison operand)
  unfolding comparison
  reads_comparison tokens few =
      reads_then (SpellsExpr number 4) operands (Rest number) (EndsRank 3)
      (λ x left. compared (operands x) (ranked_operator 3 left.1) left.0 left.1) (SpellsExpr number 3)
      (rest_spelled number)
      (λ left. compared operand (ranked_operator 3 left.1) left.0 left.1)
      (λ left. (left, [], nothing))
      (λ left used rest whole spelled ends. reads_compared left rest (ranked_operator 3 rest) refl (left_below tokens used rest most whole few) ends)
      (reads_operand tokens few)

-- ---- `not`

module _ {X : Type 0} (number : List ℕ → ℕ) (most : ℕ) (inners operands : X → Kinds → Reading Expr) (inner operand : Kinds → Reading Expr)
    (reads_inner : ReadsRank number 2 most inners inner) (reads_operand : ReadsRank number 3 (suc most) operands operand) where
  reads_not : (tokens : Kinds) (seen : Bool) → sees_word word.NOT tokens ≡ seen → length tokens < suc most
      → Reads (SpellsExpr number 2) (EndsRank 2) (λ (x : X) (later : Kinds). negation (inners x) (operands x) later) tokens
      (if seen then (inner (after_next tokens) >>= λ e. Ok (expr.Not e.0, e.1)) else operand tokens)
  unfolding negation sees_word
  reads_not tokens true is few =
      let whole = word_seen word.NOT tokens is in
      let longer : length tokens ≡ suc (length (after_next tokens)) = ap length whole in
      subst (λ all. Reads (SpellsExpr number 2) (EndsRank 2) (λ (x : X) (later : Kinds). negation (inners x) (operands x) later) all
      (inner (after_next tokens) >>= λ e. Ok (expr.Not e.0, e.1))) (sym whole)
      (reads_behind (Keyword word.NOT) (SpellsExpr number 2) (λ (x : X) (later : Kinds). negation (inners x) (operands x) later)
      (λ e used spelled. spelled) (λ x later. refl)
      (reads_made (λ e used. SpellsExpr number 2 e (Keyword word.NOT ∷ used)) (λ e. expr.Not e) (λ x e. expr.Not e) (λ e used spelled. negated spelled)
      (reads_inner (after_next tokens) (omega arith))))
  reads_not tokens false is few =
      reads_where (λ (x : X) (later : Kinds). negation (inners x) (operands x) later)
      (λ x. (
        x,
        λ later same. ap (λ seen. if seen then (inners x (after_next later) >>= λ e. Ok (expr.Not e.0, e.1)) else operands x later)
            (word_local word.NOT later tokens same ∙ is),
      ))
      (reads_as (SpellsExpr number 2) (EndsRank 2) operands (λ e used spelled. stronger spelled) (λ rest ends. ends_not rest ends) (λ x. (x, λ later. refl))
      (reads_operand tokens few))

  reads_negation : ReadsRank number 2 (suc most) (λ x. negation (inners x) (operands x)) (negation inner operand)
  unfolding negation
  reads_negation tokens few = reads_not tokens (sees_word word.NOT tokens) refl few

-- ---- what stands alone

negative_reads : {X : Type 0} (number : List ℕ → ℕ) (tokens : Kinds)
    → Reads (λ e used. SpellsExpr number 7 e (Symbol symbol.MINUS ∷ used)) Anything (λ (x : X) (later : Kinds). negative_at later) tokens (negative_at tokens)
unfolding negative_at
negative_reads number [] = refuses_end (expr.Lit (value.Int (neg_ℤ (pos 0)))) (Number 0 ∷ []) (negative 0 (omega arith)) (λ x. refl)
negative_reads number (Number size ∷ rest) =
    reads_if (nat_le size (2 ^ 63)) (expr.Lit (value.Int (neg_ℤ (pos size)))) (expr.Lit (value.Int (neg_ℤ (pos 0)))) (λ x. expr.Lit (value.Int (neg_ℤ (pos size))))
    (Number 0 ∷ []) (Number size) rest (λ is. negative size (leb-true size (2 ^ 63) is)) (negative 0 (omega arith)) (λ x later. refl)
negative_reads number (token ∷ rest) = refuses_token (expr.Lit (value.Int (neg_ℤ (pos 0)))) (Number 0 ∷ []) token rest (negative 0 (omega arith)) (λ x later. refl)

-- an expression that begins with a keyword, by whether this is `true`, and `false`
abbrev keyword_by : (Kinds → Reading Expr) → Bool → Bool → ℕ → Kinds → Reading Expr
keyword_by inner is_true is_false place rest =
    if is_true then Ok (expr.Lit (value.Bool true), rest)
    else (if is_false then Ok (expr.Lit (value.Bool false), rest) else call_by inner (call_of_word place) (Keyword place ∷ rest) rest)

module _ {X : Type 0} (number : List ℕ → ℕ) (most : ℕ) (numbers : X → List ℕ → ℕ) (inners : X → Kinds → Reading Expr) (inner : Kinds → Reading Expr)
    (reads_inner : ReadsRank number 0 most inners inner) where
  -- an expression and the `)` after it
  abbrev Closed : Expr → Kinds → Type 0
  Closed e tokens = (inside : Kinds) × (tokens ≡ inside ++ Symbol symbol.RIGHT_PAREN ∷ []) × SpellsExpr number 0 e inside

  reads_closing : (e : Expr) (tokens : Kinds)
      → Reads (λ item used. (item ≡ e) × (used ≡ Symbol symbol.RIGHT_PAREN ∷ [])) Anything
      (λ (y : X × Expr) (later : Kinds). expect_symbol symbol.RIGHT_PAREN later >>= λ end. Ok (y.1, end.1))
      tokens (expect_symbol symbol.RIGHT_PAREN tokens >>= λ end. Ok (e, end.1))
  reads_closing e tokens =
      reads_made (λ item used. (item ≡ e) × (used ≡ Symbol symbol.RIGHT_PAREN ∷ [])) (λ end. e) (λ (y : X × Expr) end. y.1) (λ end used is. (refl, is))
      (reads_symbol symbol.RIGHT_PAREN tokens)

  reads_enclosed : (tokens : Kinds) → length tokens < most → Reads Closed Anything (λ x. enclosed_at (inners x)) tokens (enclosed_at inner tokens)
  unfolding enclosed_at
  reads_enclosed tokens few =
      reads_then (SpellsExpr number 0) inners (λ e item used. (item ≡ e) × (used ≡ Symbol symbol.RIGHT_PAREN ∷ [])) Anything
      (λ x e. expect_symbol symbol.RIGHT_PAREN e.1 >>= λ end. Ok (e.0, end.1)) Closed
      (λ e item used others spelled closes. (used, ap (λ end. used ++ end) closes.1, subst (λ one. SpellsExpr number 0 one used) (sym closes.0) spelled))
      (λ e. expect_symbol symbol.RIGHT_PAREN e.1 >>= λ end. Ok (e.0, end.1))
      (λ e. (e, Symbol symbol.RIGHT_PAREN ∷ [], (refl, refl)))
      (λ e used rest whole spelled ends. reads_closing e rest)
      (reads_inner tokens few)

  reads_called : (function : Call) (tokens : Kinds) → length tokens < most
      → Reads (λ e used. SpellsExpr number 7 e (call_token function ∷ used)) Anything (λ x. called_at (inners x) function) tokens (called_at inner function tokens)
  unfolding called_at
  reads_called function tokens few =
      reads_then (IsSymbol symbol.LEFT_PAREN) (λ (x : X) (later : Kinds). expect_symbol symbol.LEFT_PAREN later)
      (λ opened e used. SpellsExpr number 7 e (call_token function ∷ Symbol symbol.LEFT_PAREN ∷ used)) Anything
      (λ x opened. enclosed_at (inners x) opened.1 >>= λ e. Ok (expr.Call function e.0, e.1))
      (λ e used. SpellsExpr number 7 e (call_token function ∷ used))
      (λ opened e used others is spelled. subst (λ opens. SpellsExpr number 7 e (call_token function ∷ (opens ++ others))) (sym is) spelled)
      (λ opened. enclosed_at inner opened.1 >>= λ e. Ok (expr.Call function e.0, e.1))
      (λ opened. (expr.Call function nought, Number 0 ∷ Symbol symbol.RIGHT_PAREN ∷ [], function_call function (nought_spelled number)))
      (λ opened used rest whole is ends.
      reads_made (λ e used. SpellsExpr number 7 e (call_token function ∷ Symbol symbol.LEFT_PAREN ∷ used)) (λ e. expr.Call function e) (λ y e. expr.Call function e)
      (λ e used closed. subst (λ all. SpellsExpr number 7 (expr.Call function e) (call_token function ∷ Symbol symbol.LEFT_PAREN ∷ all)) (sym closed.1) (function_call function closed.2))
      (reads_as Closed Anything (λ (y : X × Unit {0}) (later : Kinds). enclosed_at (inners y.0) later) (λ e used closed. closed) (λ rest ends. ends) (λ y. (y.0, λ later. refl))
      (reads_enclosed rest (left_below tokens used rest most whole few))))
      (reads_symbol symbol.LEFT_PAREN tokens)

  -- what begins with a symbol
  reads_at_symbol : (place : ℕ) (rest : Kinds) (minus opens : Bool) → (place == symbol.MINUS) ≡ minus → (place == symbol.LEFT_PAREN) ≡ opens → length rest < most
      → Reads (SpellsExpr number 7) Anything (λ x. primary (inners x) (numbers x)) (Symbol place ∷ rest)
      (if minus then negative_at rest else (if opens then enclosed_at inner rest else Err (Symbol place ∷ rest)))
  unfolding primary
  reads_at_symbol place rest true opens is_minus is_open few =
      reads_behind (Symbol place) (SpellsExpr number 7) (λ x. primary (inners x) (numbers x))
      (λ e used spelled. subst (λ at. SpellsExpr number 7 e (Symbol at ∷ used)) (sym (eqb-true place symbol.MINUS is_minus)) spelled)
      (λ x later. ap (λ minus. if minus then negative_at later else (if place == symbol.LEFT_PAREN then enclosed_at (inners x) later else Err (Symbol place ∷ later))) is_minus)
      (negative_reads number rest)
  reads_at_symbol place rest false true is_minus is_open few =
      reads_behind (Symbol place) (SpellsExpr number 7) (λ x. primary (inners x) (numbers x))
      (λ e used closed. subst (λ at. SpellsExpr number 7 e (Symbol at ∷ used)) (sym (eqb-true place symbol.LEFT_PAREN is_open))
      (subst (λ all. SpellsExpr number 7 e (Symbol symbol.LEFT_PAREN ∷ all)) (sym closed.1) (enclosed closed.2)))
      (λ x later. ap (λ minus. if minus then negative_at later else (if place == symbol.LEFT_PAREN then enclosed_at (inners x) later else Err (Symbol place ∷ later))) is_minus
      ∙ ap (λ opens. if opens then enclosed_at (inners x) later else Err (Symbol place ∷ later)) is_open)
      (reads_enclosed rest few)
  reads_at_symbol place rest false false is_minus is_open few =
      refuses_token nought (Number 0 ∷ []) (Symbol place) rest (nought_alone number)
      (λ x later. ap (λ minus. if minus then negative_at later else (if place == symbol.LEFT_PAREN then enclosed_at (inners x) later else Err (Symbol place ∷ later))) is_minus
      ∙ ap (λ opens. if opens then enclosed_at (inners x) later else Err (Symbol place ∷ later)) is_open)

  -- what begins with a keyword that is no truth
  not_truth : (place : ℕ) → (place == word.TRUE) ≡ false → (place == word.FALSE) ≡ false → (x : X) (later : Kinds)
      → primary (inners x) (numbers x) (Keyword place ∷ later) ≡ call_by (inners x) (call_of_word place) (Keyword place ∷ later) later
  unfolding primary
  not_truth place is_true is_false x later =
      ap (λ at. keyword_by (inners x) at (place == word.FALSE) place later) is_true ∙ ap (λ at. keyword_by (inners x) false at place later) is_false

  reads_call : (place : ℕ) → (place == word.TRUE) ≡ false → (place == word.FALSE) ≡ false → (rest : Kinds) (found : Option Call) → call_of_word place ≡ found → length rest < most
      → Reads (SpellsExpr number 7) Anything (λ x. primary (inners x) (numbers x)) (Keyword place ∷ rest) (call_by inner found (Keyword place ∷ rest) rest)
  reads_call place is_true is_false rest None is few =
      refuses_token nought (Number 0 ∷ []) (Keyword place) rest (nought_alone number)
      (λ x later. not_truth place is_true is_false x later ∙ ap (λ found. call_by (inners x) found (Keyword place ∷ later) later) is)
  reads_call place is_true is_false rest (Some function) is few =
      reads_behind (Keyword place) (SpellsExpr number 7) (λ x. primary (inners x) (numbers x))
      (λ e used spelled. subst (λ token. SpellsExpr number 7 e (token ∷ used)) (sym (call_found place function is)) spelled)
      (λ x later. not_truth place is_true is_false x later ∙ ap (λ found. call_by (inners x) found (Keyword place ∷ later) later) is)
      (reads_called function rest few)

  -- what begins with a keyword
  reads_at_word : (place : ℕ) (rest : Kinds) (is_true is_false : Bool) → (place == word.TRUE) ≡ is_true → (place == word.FALSE) ≡ is_false → length rest < most
      → Reads (SpellsExpr number 7) Anything (λ x. primary (inners x) (numbers x)) (Keyword place ∷ rest) (keyword_by inner is_true is_false place rest)
  unfolding primary
  reads_at_word place rest true other is_true is_false few =
      reads_token (expr.Lit (value.Bool true)) (Keyword place) rest
      (subst (λ at. SpellsExpr number 7 (expr.Lit (value.Bool true)) (Keyword at ∷ [])) (sym (eqb-true place word.TRUE is_true)) (truth_literal true))
      (λ x later. (expr.Lit (value.Bool true), ap (λ at. keyword_by (inners x) at (place == word.FALSE) place later) is_true))
  reads_at_word place rest false true is_true is_false few =
      reads_token (expr.Lit (value.Bool false)) (Keyword place) rest
      (subst (λ at. SpellsExpr number 7 (expr.Lit (value.Bool false)) (Keyword at ∷ [])) (sym (eqb-true place word.FALSE is_false)) (truth_literal false))
      (λ x later. (
        expr.Lit (value.Bool false),
        ap (λ at. keyword_by (inners x) at (place == word.FALSE) place later) is_true
            ∙ ap (λ at. keyword_by (inners x) false at place later) is_false,
      ))
  reads_at_word place rest false false is_true is_false few =
      reads_call place is_true is_false rest (call_of_word place) refl few

  primary_reads : (tokens : Kinds) → length tokens < suc most → Reads (SpellsExpr number 7) Anything (λ x. primary (inners x) (numbers x)) tokens (primary inner number tokens)
  unfolding primary
  primary_reads [] few = refuses_end nought (Number 0 ∷ []) (nought_alone number) (λ x. refl)
  primary_reads (Number size ∷ rest) few =
      reads_if (nat_lt size (2 ^ 63)) (expr.Lit (value.Int (pos size))) nought (λ x. expr.Lit (value.Int (pos size))) (Number 0 ∷ []) (Number size) rest
      (λ is. positive size (ltb-true size (2 ^ 63) is)) (nought_alone number) (λ x later. refl)
  primary_reads (Text bytes ∷ rest) few = reads_token (expr.Lit (value.Text bytes)) (Text bytes) rest (text_literal bytes) (λ x later. (expr.Lit (value.Text bytes), refl))
  primary_reads (Column place ∷ rest) few = reads_token (expr.Column place) (Column place) rest (column_place place) (λ x later. (expr.Column place, refl))
  primary_reads (Name name ∷ rest) few = reads_token (expr.Capture (number name)) (Name name) rest (captured_name name) (λ x later. (expr.Capture (numbers x name), refl))
  primary_reads (Symbol place ∷ rest) few = reads_at_symbol place rest (place == symbol.MINUS) (place == symbol.LEFT_PAREN) refl refl (omega arith)
  primary_reads (Keyword place ∷ rest) few = reads_at_word place rest (place == word.TRUE) (place == word.FALSE) refl refl (omega arith)

  reads_primary : ReadsRank number 7 (suc most) (λ x. primary (inners x) (numbers x)) (primary inner number)
  reads_primary tokens few =
      reads_as (SpellsExpr number 7) (EndsRank 7) (λ x. primary (inners x) (numbers x)) (λ e used spelled. spelled) (λ rest ends op is. rank_below op) (λ x. (x, λ later. refl))
      (primary_reads tokens few)

-- ---- every rank

-- other readers of expressions of a rank, with numbers and bounds of their own
abbrev pub others_at : {most : ℕ} → ℕ → Bounded (List ℕ → ℕ) most → Kinds → Reading Expr
others_at below x = expression x.0 x.1 below

module _ (number : List ℕ → ℕ) (depth : ℕ) (any : ReadsRank number 0 depth (others_at {most = depth} 7) (expression number depth 7))
    (inside : ReadsRank number 2 depth (others_at {most = depth} 5) (expression number depth 5)) where
  abbrev within : ℕ → Kinds → Reading Expr
  within below = ranked (expression number depth) number depth below

  abbrev others_within : ℕ → Bounded (List ℕ → ℕ) depth → Kinds → Reading Expr
  others_within below x = ranked (expression x.0 x.1) x.0 x.1 below

  reads_within : (rank below : ℕ) → (rank == 3) ≡ false
      → ReadsRank number (suc rank) (suc depth) (others_within below) (within below)
      → ReadsRank number rank (suc depth) (λ (x : Bounded (List ℕ → ℕ) depth). chain (others_within below x) rank x.1) (chain (within below) rank depth)
  reads_within rank below not_three reads_operand tokens few =
      reads_as (SpellsExpr number rank) (EndsRank rank) (λ (x : Bounded (List ℕ → ℕ) depth). chain (others_within below x) rank x.1)
      (λ e used spelled. spelled) (λ rest ends. ends) (λ x. ((x, x.1, x.2), λ later. refl))
      (reads_chain number rank (suc depth) not_three (others_within below) (within below) reads_operand depth (omega arith) tokens few)

  alone_within : ReadsRank number 7 (suc depth) (others_within 0) (within 0)
  unfolding ranked
  alone_within tokens few =
      reads_primary number depth (λ (x : Bounded (List ℕ → ℕ) depth). x.0) (others_at {most = depth} 7) (expression number depth 7) any tokens few

  times_within : ReadsRank number 6 (suc depth) (others_within 1) (within 1)
  unfolding ranked
  times_within tokens few = reads_within 6 0 refl alone_within tokens few

  plus_within : ReadsRank number 5 (suc depth) (others_within 2) (within 2)
  unfolding ranked
  plus_within tokens few = reads_within 5 1 refl times_within tokens few

  join_within : ReadsRank number 4 (suc depth) (others_within 3) (within 3)
  unfolding ranked
  join_within tokens few = reads_within 4 2 refl plus_within tokens few

  compare_within : ReadsRank number 3 (suc depth) (others_within 4) (within 4)
  unfolding ranked
  compare_within tokens few = reads_comparison number (suc depth) (others_within 3) (within 3) join_within tokens few

  not_within : ReadsRank number 2 (suc depth) (others_within 5) (within 5)
  unfolding ranked
  not_within tokens few =
      reads_negation number depth (others_at {most = depth} 5) (others_within 4) (expression number depth 5) (within 4) inside compare_within tokens few

  and_within : ReadsRank number 1 (suc depth) (others_within 6) (within 6)
  unfolding ranked
  and_within tokens few = reads_within 1 5 refl not_within tokens few

  or_within : ReadsRank number 0 (suc depth) (others_within 7) (within 7)
  unfolding ranked
  or_within tokens few = reads_within 0 6 refl and_within tokens few

-- one more of the bound
one_deeper : (depth below : ℕ) (number : List ℕ → ℕ) (bound : ℕ) → suc depth ≤ bound
    → (x : Bounded (List ℕ → ℕ) depth) × ((later : Kinds) → expression number bound below later ≡ ranked (expression x.0 x.1) x.0 x.1 below later)
unfolding expression
one_deeper depth below number zero high = absurd (not-suc-le-zero high)
one_deeper depth below number (suc bound) high = ((number, bound, le_of_suc-le-suc high), λ later. refl)

expression_within : (number : List ℕ → ℕ) (depth rank below : ℕ)
    → ReadsRank number rank (suc depth) (λ (x : Bounded (List ℕ → ℕ) depth). ranked (expression x.0 x.1) x.0 x.1 below) (ranked (expression number depth) number depth below)
    → ReadsRank number rank (suc depth) (others_at {most = suc depth} below) (expression number (suc depth) below)
unfolding expression
expression_within number depth rank below reads_ranked tokens few =
    reads_as (SpellsExpr number rank) (EndsRank rank) (others_at {most = suc depth} below) (λ e used spelled. spelled) (λ rest ends. ends)
    (λ x. one_deeper depth below x.0 x.1 x.2) (reads_ranked tokens few)

-- what is read as an expression, and after a `not`
pub reads_expressions : (number : List ℕ → ℕ) (most : ℕ)
    → ReadsRank number 0 most (others_at {most = most} 7) (expression number most 7) × ReadsRank number 2 most (others_at {most = most} 5) (expression number most 5)
reads_expressions number zero = (λ tokens few. absurd (not-suc-le-zero few), λ tokens few. absurd (not-suc-le-zero few))
reads_expressions number (suc depth) =
    let below = reads_expressions number depth in
    (expression_within number depth 0 7 (or_within number depth below.0 below.1), expression_within number depth 2 5 (not_within number depth below.0 below.1))

-- any expression, with fewer tokens than so many
pub reads_expression : (number : List ℕ → ℕ) (most : ℕ) → ReadsRank number 0 most (λ (x : Bounded (List ℕ → ℕ) most). any_expression x.0 x.1) (any_expression number most)
reads_expression number most = (reads_expressions number most).0
