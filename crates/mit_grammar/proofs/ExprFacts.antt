-- Operators and their ranks, and what is spelled at a rank.
use Rattle.std.proofs.Common.{◌≡◌, ◌≢◌, ℕ, suc, ◌<◌, [], ◌∷◌, Bool, true, false, ◌==◌, if◌then◌else◌, Option, Some, None, refl, sym, ap, ◌∙◌, subst, arith, eqb-true}
use Rattle.mit_expr.specs.declared.expr.BinOp.{BinOp}
use Rattle.mit_expr.specs.declared.expr.BinOp.TheVariants as operator
use Rattle.mit_expr.specs.declared.expr.Call.{Call}
use Rattle.mit_expr.specs.declared.expr.Call.TheVariants as call
use Rattle.mit_lex.specs.declared.token.TokenKind.{TokenKind}
use Rattle.mit_lex.specs.declared.token.TokenKind.TheVariants.{Symbol, Keyword}
use Rattle.mit_lex.specs.declared.symbol.TheConstants as symbol
use Rattle.mit_lex.specs.declared.keyword.TheConstants as word
use Rattle.mit_script.specs.Grammar.{Kinds, operator_token, call_token}
use Rattle.mit_script.specs.Reading.{after_next, call_of_word, of_rank, operator_at, operator_of_symbol, operator_of_word, ranked_operator}
use Rattle.mit_script.specs.Grammar.{rank_of}
use Rattle.mit_grammar.proofs.Readers.{first_of, found_at, some_or_none}

-- ---- tables

pub rank_below : (op : BinOp) → rank_of op < 7
rank_below operator.Or = omega arith
rank_below _ = omega arith

pub rank_not_two : (op : BinOp) → rank_of op ≡ 2 → ⊥
rank_not_two operator.Or is = omega arith
rank_not_two _ is = omega arith

pub operator_at-token : (op : BinOp) (rest : Kinds) → operator_at (operator_token op ∷ rest) ≡ Some op
unfolding operator_at
operator_at-token operator.Or rest = refl
operator_at-token _ rest = refl

symbol_found : (place : ℕ) (op : BinOp) → operator_of_symbol place ≡ Some op → Symbol place ≡ operator_token op
symbol_found place op is =
    entry symbol.PLUS operator.Add _ refl (entry symbol.MINUS operator.Sub _ refl (entry symbol.TIMES operator.Mul _ refl
    (entry symbol.DIVIDE operator.Div _ refl (entry symbol.REMAINDER operator.Rem _ refl (entry symbol.JOINED operator.Concat _ refl
    (entry symbol.SAME operator.Eq _ refl (entry symbol.DIFFERENT operator.Ne _ refl (entry symbol.BELOW operator.Lt _ refl
    (entry symbol.AT_MOST operator.Le _ refl (entry symbol.ABOVE operator.Gt _ refl (entry symbol.AT_LEAST operator.Ge _ refl
    (λ none. absurd (some_or_none op (sym none)))))))))))))) is
  where
    entry : (wanted : ℕ) (here : BinOp) (further : Option BinOp) → Symbol wanted ≡ operator_token here → (further ≡ Some op → Symbol place ≡ operator_token op)
        → (if place == wanted then Some here else further) ≡ Some op → Symbol place ≡ operator_token op
    entry wanted here further token later =
        found_at (place == wanted) here op further (λ at. Symbol place ≡ operator_token at) (λ so. ap Symbol (eqb-true place wanted so) ∙ token) later

word_found : (place : ℕ) (op : BinOp) → operator_of_word place ≡ Some op → Keyword place ≡ operator_token op
word_found place op is =
    entry word.AND operator.And _ refl (entry word.OR operator.Or _ refl (λ none. absurd (some_or_none op (sym none)))) is
  where
    entry : (wanted : ℕ) (here : BinOp) (further : Option BinOp) → Keyword wanted ≡ operator_token here → (further ≡ Some op → Keyword place ≡ operator_token op)
        → (if place == wanted then Some here else further) ≡ Some op → Keyword place ≡ operator_token op
    entry wanted here further token later =
        found_at (place == wanted) here op further (λ at. Keyword place ≡ operator_token at) (λ so. ap Keyword (eqb-true place wanted so) ∙ token) later

-- the token of a function
pub call_found : (place : ℕ) (function : Call) → call_of_word place ≡ Some function → Keyword place ≡ call_token function
call_found place function is =
    entry word.TEXT call.ToText _ refl (entry word.INT call.ToInt _ refl (entry word.LEN call.Len _ refl (λ none. absurd (some_or_none function (sym none))))) is
  where
    entry : (wanted : ℕ) (here : Call) (further : Option Call) → Keyword wanted ≡ call_token here → (further ≡ Some function → Keyword place ≡ call_token function)
        → (if place == wanted then Some here else further) ≡ Some function → Keyword place ≡ call_token function
    entry wanted here further token later =
        found_at (place == wanted) here function further (λ at. Keyword place ≡ call_token at) (λ so. ap Keyword (eqb-true place wanted so) ∙ token) later

-- an operator ahead is the first token
pub operator_ahead : (op : BinOp) (tokens : Kinds) → operator_at tokens ≡ Some op → tokens ≡ operator_token op ∷ after_next tokens
unfolding operator_at
operator_ahead op (Symbol place ∷ rest) is = ap (λ token. token ∷ rest) (symbol_found place op is)
operator_ahead op (Keyword place ∷ rest) is = ap (λ token. token ∷ rest) (word_found place op is)
operator_ahead op _ is = absurd (some_or_none op (sym is))

-- the operator that this token is
abbrev pub first_operator : Option TokenKind → Option BinOp
first_operator (Some (Symbol place)) = operator_of_symbol place
first_operator (Some (Keyword place)) = operator_of_word place
first_operator _ = None

-- the operator ahead depends on the first token
pub operator_at-first : (tokens : Kinds) → operator_at tokens ≡ first_operator (first_of tokens)
unfolding operator_at
operator_at-first [] = refl
operator_at-first (Symbol place ∷ rest) = refl
operator_at-first (Keyword place ∷ rest) = refl
operator_at-first (_ ∷ rest) = refl

-- ---- operators of a rank

pub of_rank-some : (rank : ℕ) (op : BinOp) → rank_of op ≡ rank → of_rank rank (Some op) ≡ Some op
of_rank-some rank op is = ap (λ at. if at then Some op else None) (ap (λ r. rank_of op == r) (sym is) ∙ same (rank_of op))
  where
    same : (n : ℕ) → (n == n) ≡ true
    same n = grind arith

pub of_rank_found : (rank : ℕ) (found : Option BinOp) (op : BinOp) → of_rank rank found ≡ Some op → (found ≡ Some op) × (rank_of op ≡ rank)
of_rank_found rank None op is = absurd (some_or_none op (sym is))
of_rank_found rank (Some here) op is = go (rank_of here == rank) refl is
  where
    go : (fits : Bool) → (rank_of here == rank) ≡ fits → (if fits then Some here else None) ≡ Some op → (Some here ≡ Some op) × (rank_of op ≡ rank)
    go true so is = let same : here ≡ op = cc in (is, ap rank_of (sym same) ∙ eqb-true (rank_of here) rank so)
    go false so is = absurd (some_or_none op (sym is))

pub of_rank_none : (rank : ℕ) (op : BinOp) → of_rank rank (Some op) ≡ None → rank_of op ≡ rank → ⊥
of_rank_none rank op none is = some_or_none op (sym (of_rank-some rank op is) ∙ none)

pub ranked_ahead : (rank : ℕ) (tokens : Kinds) (op : BinOp) → ranked_operator rank tokens ≡ Some op → (tokens ≡ operator_token op ∷ after_next tokens) × (rank_of op ≡ rank)
unfolding ranked_operator
ranked_ahead rank tokens op is = let found = of_rank_found rank (operator_at tokens) op is in (operator_ahead op tokens found.0, found.1)

pub ranked_operator-token : (rank : ℕ) (op : BinOp) (rest : Kinds) → rank_of op ≡ rank → ranked_operator rank (operator_token op ∷ rest) ≡ Some op
unfolding ranked_operator
ranked_operator-token rank op rest is = ap (of_rank rank) (operator_at-token op rest) ∙ of_rank-some rank op is

pub ranked_operator-first : (rank : ℕ) (later rest : Kinds) → first_of later ≡ first_of rest → ranked_operator rank later ≡ ranked_operator rank rest
unfolding ranked_operator
ranked_operator-first rank later rest same = ap (of_rank rank) (operator_at-first later ∙ ap first_operator same ∙ sym (operator_at-first rest))

-- what may follow an expression of a rank: no operator that is as strong
abbrev pub EndsRank : ℕ → Kinds → Type 0
EndsRank rank rest = (op : BinOp) → operator_at rest ≡ Some op → rank_of op < rank

pub ends_weaker : (rank : ℕ) (rest : Kinds) → EndsRank rank rest → EndsRank (suc rank) rest
ends_weaker rank rest ends op is = let below = ends op is in omega arith

-- where an operator of the rank does not follow either
pub ends_here : (rank : ℕ) (rest : Kinds) → EndsRank (suc rank) rest → ranked_operator rank rest ≡ None → EndsRank rank rest
unfolding ranked_operator
ends_here rank rest ends none op is =
    let below = ends op is in let other = of_rank_none rank op (sym (ap (of_rank rank) is) ∙ none) in let apart : rank_of op ≢ rank = other in omega arith

-- no operator has the rank of `not`
pub ends_not : (rest : Kinds) → EndsRank 3 rest → EndsRank 2 rest
ends_not rest ends op is = let below = ends op is in let apart : rank_of op ≢ 2 = rank_not_two op in omega arith

-- what may follow shows no operator of the rank
pub none_ranked : (rank : ℕ) (rest : Kinds) → EndsRank rank rest → ranked_operator rank rest ≡ None
unfolding ranked_operator
none_ranked rank rest ends = go (ranked_operator rank rest) refl
  where
    go : (found : Option BinOp) → ranked_operator rank rest ≡ found → found ≡ None
    go None is = refl
    go (Some op) is =
        let at = of_rank_found rank (operator_at rest) op is in let below = ends op at.0 in let same = at.1 in absurd (omega arith)

-- an operator weaker than the rank may follow
pub ends_operator : (rank : ℕ) (op : BinOp) (rest : Kinds) → rank_of op < rank → EndsRank rank (operator_token op ∷ rest)
ends_operator rank op rest below other is = subst (λ at. rank_of at < rank) (same (sym (operator_at-token op rest) ∙ is)) below
  where
    same : Some op ≡ Some other → op ≡ other
    same is = cc

-- where no operator follows, an expression of any rank may end
pub ends_none : (rank : ℕ) (rest : Kinds) → operator_at rest ≡ None → EndsRank rank rest
ends_none rank rest none op is = absurd (some_or_none op (sym is ∙ none))

pub none_ends : (rest : Kinds) → EndsRank 0 rest → operator_at rest ≡ None
none_ends rest ends = go (operator_at rest) refl
  where
    go : (found : Option BinOp) → operator_at rest ≡ found → found ≡ None
    go None is = refl
    go (Some op) is = let below = ends op is in absurd (omega arith)
