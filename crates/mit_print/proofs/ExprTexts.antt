-- The text of an expression with operands, as its pieces are added one after another.
use Rattle.std.proofs.Common.{◌≡◌, ℕ, List, [], ◌∷◌, ◌++◌, nat_lt, ap, sym, ◌∙◌, append_assoc}
use Rattle.std.proofs.lemmas.Grind.{flat_map-append}
use Rattle.mit_expr.specs.declared.expr.BinOp.{BinOp}
use Rattle.mit_expr.specs.declared.expr.Call as function
use Rattle.mit_expr.specs.declared.expr.Expr.{Expr}
use Rattle.mit_expr.specs.declared.expr.Expr.TheFolds.{fold-roll-Expr}
use Rattle.mit_expr.specs.declared.expr.Expr.TheOpen as layer
use Rattle.mit_expr.specs.declared.expr.Expr.TheVariants.{Bin, Not, Call, rolls-Bin, rolls-Not, rolls-Call}
use Rattle.mit_lex.specs.Written.{token_text}
use Rattle.mit_lex.specs.declared.token.TokenKind.TheVariants.{Symbol, Keyword}
use Rattle.mit_lex.specs.declared.symbol.TheConstants as symbol
use Rattle.mit_lex.specs.declared.keyword.TheConstants as word
use Rattle.mit_script.specs.Grammar.{Kinds, call_token, left_rank, operator_token, rank_of, right_rank}
use Rattle.mit_print.proofs.StmtTexts.{added_four}
use Rattle.mit_print.specs.Printed.{spaced}
use Rattle.mit_print.specs.PrintedTokens.{closing, expr_step, opening, ranked_tokens}

-- the texts of two parts, three, four and five
spaced_two : (a b : Kinds) → spaced (a ++ b) ≡ spaced a ++ spaced b
spaced_two a b = flat_map-append (λ token. token_text token ++ 32 ∷ []) a b

spaced_three : (a b c : Kinds) → spaced (a ++ (b ++ c)) ≡ spaced a ++ (spaced b ++ spaced c)
spaced_three a b c = spaced_two a (b ++ c) ∙ ap (λ text. spaced a ++ text) (spaced_two b c)

spaced_four : (a b c d : Kinds) → spaced (a ++ (b ++ (c ++ d))) ≡ spaced a ++ (spaced b ++ (spaced c ++ spaced d))
spaced_four a b c d = spaced_two a (b ++ (c ++ d)) ∙ ap (λ text. spaced a ++ text) (spaced_three b c d)

spaced_five : (a b c d e : Kinds) →
    spaced (a ++ ((b ++ (c ++ d)) ++ e)) ≡ spaced a ++ (spaced b ++ (spaced c ++ (spaced d ++ spaced e)))
spaced_five a b c d e =
    ap (λ kinds. spaced (a ++ kinds)) (append_assoc b (c ++ d) e ∙ ap (λ kinds. b ++ kinds) (append_assoc c d e))
    ∙ spaced_two a (b ++ (c ++ (d ++ e))) ∙ ap (λ text. spaced a ++ text) (spaced_four b c d e)

-- the pieces that were added one after another
added_five : (start first second third fourth last a b c d e : List ℕ) → first ≡ start ++ a → second ≡ first ++ b →
    third ≡ second ++ c → fourth ≡ third ++ d → last ≡ fourth ++ e → last ≡ start ++ (a ++ (b ++ (c ++ (d ++ e))))
added_five start first second third fourth last a b c d e p q r s t = rw (t, s, r, q, p) (simp append_assoc)

pub bin_added : (names : List (List ℕ)) (captured : List ℕ) (expr left right left_arg right_arg : Expr) (op : BinOp)
    (rank before_rank left_least right_least after_rank : ℕ) (start first second third fourth last : List ℕ) →
    expr ≡ Bin op left right → before_rank ≡ rank_of op → left_arg ≡ left → left_least ≡ left_rank op → right_arg ≡ right →
    right_least ≡ right_rank op → after_rank ≡ rank_of op →
    first ≡ start ++ spaced (opening (nat_lt before_rank rank)) →
    second ≡ first ++ spaced (ranked_tokens names captured left_arg left_least) →
    third ≡ second ++ spaced (operator_token op ∷ []) →
    fourth ≡ third ++ spaced (ranked_tokens names captured right_arg right_least) →
    last ≡ fourth ++ spaced (closing (nat_lt after_rank rank)) →
    last ≡ start ++ spaced (ranked_tokens names captured expr rank)
bin_added names captured expr left right left_arg right_arg op rank before_rank left_least right_least after_rank start first second third fourth last is before_is left_is left_least_is right_is right_least_is after_is p q r s t =
    let opened = opening (nat_lt (rank_of op) rank) in
    let one = ranked_tokens names captured left (left_rank op) in
    let other = ranked_tokens names captured right (right_rank op) in
    let closed = closing (nat_lt (rank_of op) rank) in
    let tokens : ranked_tokens names captured expr rank ≡ opened ++ ((one ++ ((operator_token op ∷ []) ++ other)) ++ closed) =
    ap (λ e. ranked_tokens names captured e rank) (is ∙ sym (rolls-Bin op left right))
    ∙ ap (λ (f : ℕ → Kinds). f rank) (fold-roll-Expr (ℕ → Kinds) (expr_step names captured) (layer.Bin op left right))
    ∙ append_assoc opened (one ++ ((operator_token op ∷ []) ++ other)) closed in
    added_five start first second third fourth last (spaced opened) (spaced one) (spaced (operator_token op ∷ [])) (spaced other) (spaced closed)
    (p ∙ ap (λ k. start ++ spaced (opening (nat_lt k rank))) before_is)
    (q ∙ ap (λ e. first ++ spaced (ranked_tokens names captured e left_least)) left_is ∙ ap (λ k. first ++ spaced (ranked_tokens names captured left k)) left_least_is)
    r
    (s ∙ ap (λ e. third ++ spaced (ranked_tokens names captured e right_least)) right_is ∙ ap (λ k. third ++ spaced (ranked_tokens names captured right k)) right_least_is)
    (t ∙ ap (λ k. fourth ++ spaced (closing (nat_lt k rank))) after_is)
    ∙ ap (λ text. start ++ text) (sym (ap spaced tokens ∙ spaced_five opened one (operator_token op ∷ []) other closed))

pub not_added : (names : List (List ℕ)) (captured : List ℕ) (expr operand arg : Expr) (rank : ℕ) (start first second third last : List ℕ) →
    expr ≡ Not operand → arg ≡ operand →
    first ≡ start ++ spaced (opening (nat_lt 2 rank)) →
    second ≡ first ++ spaced (Keyword word.NOT ∷ []) →
    third ≡ second ++ spaced (ranked_tokens names captured arg 2) →
    last ≡ third ++ spaced (closing (nat_lt 2 rank)) →
    last ≡ start ++ spaced (ranked_tokens names captured expr rank)
not_added names captured expr operand arg rank start first second third last is arg_is p q r s =
    let opened = opening (nat_lt 2 rank) in
    let one = ranked_tokens names captured operand 2 in
    let closed = closing (nat_lt 2 rank) in
    let tokens : ranked_tokens names captured expr rank ≡ opened ++ ((Keyword word.NOT ∷ []) ++ (one ++ closed)) =
    ap (λ e. ranked_tokens names captured e rank) (is ∙ sym (rolls-Not operand))
    ∙ ap (λ (f : ℕ → Kinds). f rank) (fold-roll-Expr (ℕ → Kinds) (expr_step names captured) (layer.Not operand))
    ∙ append_assoc opened ((Keyword word.NOT ∷ []) ++ one) closed in
    added_four start first second third last (spaced opened) (spaced (Keyword word.NOT ∷ [])) (spaced one) (spaced closed)
    p q (r ∙ ap (λ e. second ++ spaced (ranked_tokens names captured e 2)) arg_is) s
    ∙ ap (λ text. start ++ text) (sym (ap spaced tokens ∙ spaced_four opened (Keyword word.NOT ∷ []) one closed))

pub call_added : (names : List (List ℕ)) (captured : List ℕ) (expr operand arg : Expr) (call : function.Call) (rank : ℕ)
    (start first second third last : List ℕ) →
    expr ≡ Call call operand → arg ≡ operand →
    first ≡ start ++ spaced (call_token call ∷ []) →
    second ≡ first ++ spaced (Symbol symbol.LEFT_PAREN ∷ []) →
    third ≡ second ++ spaced (ranked_tokens names captured arg 0) →
    last ≡ third ++ spaced (Symbol symbol.RIGHT_PAREN ∷ []) →
    last ≡ start ++ spaced (ranked_tokens names captured expr rank)
call_added names captured expr operand arg call rank start first second third last is arg_is p q r s =
    let named = call_token call ∷ [] in
    let left = Symbol symbol.LEFT_PAREN ∷ [] in
    let one = ranked_tokens names captured operand 0 in
    let right = Symbol symbol.RIGHT_PAREN ∷ [] in
    let tokens : ranked_tokens names captured expr rank ≡ named ++ (left ++ (one ++ right)) =
    ap (λ e. ranked_tokens names captured e rank) (is ∙ sym (rolls-Call call operand))
    ∙ ap (λ (f : ℕ → Kinds). f rank) (fold-roll-Expr (ℕ → Kinds) (expr_step names captured) (layer.Call call operand)) in
    added_four start first second third last (spaced named) (spaced left) (spaced one) (spaced right)
    p q (r ∙ ap (λ e. second ++ spaced (ranked_tokens names captured e 0)) arg_is) s
    ∙ ap (λ text. start ++ text) (sym (ap spaced tokens ∙ spaced_four named left one right))
