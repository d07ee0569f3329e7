-- Reading one item after another, as a loop does.
use Rattle.std.proofs.Common.{◌≡◌, ℕ, suc, ◌-◌, ◌+◌, ◌≤◌, ◌<◌, List, [], ◌∷◌, ◌++◌, true, false, Some, None, Ok, Err, refl, sym, ap, ◌∙◌, append_assoc, arith}
use Rattle.std.proofs.lemmas.List.{append-nil}
use Rattle.mit_expr.specs.declared.expr.BinOp.{BinOp}
use Rattle.mit_expr.specs.declared.expr.Expr.{Expr}
use Rattle.mit_expr.specs.declared.expr.Expr.TheVariants as expr
use Rattle.mit_lex.specs.declared.symbol.TheConstants as symbol
use Rattle.mit_script.specs.Grammar.{Kinds}
use Rattle.mit_script.specs.Reading.{Reading, after_next, begins_statement, chain_from, listed, ranked_operator, sees_symbol, statement, statements, with_front}
use Rattle.mit_script.specs.declared.tree.Stmt.{Stmt}
use Rattle.mit_parse.specs.declared.stop.Stop.{Stop}
use Rattle.mit_parse.specs.declared.stop.Stop.TheVariants as stop
use Rattle.mit_parse.specs.Gives.{StopsReading}

-- one item more at the end of those before
regroup : {A : Type 0} (front : List A) (x : A) (read : Reading (List A)) → with_front front (with_front (x ∷ []) read) ≡ with_front (front ++ x ∷ []) read
regroup {A} front x (Ok read) = ap (λ (items : List A). Ok (items, read.1)) (simp append_assoc)
regroup front x (Err rest) = refl

-- ---- lists with commas

pub listed_goes_on : {A : Type 0} (item : Kinds → Reading A) (front : List A) (turns i : ℕ) (tokens : Kinds) (x : A) (after : Kinds) (total : Reading (List A))
    → i < turns → item tokens ≡ Ok (x, after) → sees_symbol symbol.COMMA after ≡ true
    → with_front front (listed item (turns - i) tokens) ≡ total → with_front (front ++ x ∷ []) (listed item (turns - (i + 1)) (after_next after)) ≡ total
unfolding listed
listed_goes_on item front turns i tokens x after total lt h comma so_far =
    let k : turns - i ≡ suc (turns - (i + 1)) = omega arith in
    let one : with_front front (listed item (turns - i) tokens) ≡ with_front (front ++ x ∷ []) (listed item (turns - (i + 1)) (after_next after)) =
    rw (k, h, comma) (regroup front x (listed item (turns - (i + 1)) (after_next after))) in
    sym one ∙ so_far

pub listed_ends : {A : Type 0} (item : Kinds → Reading A) (front : List A) (turns i : ℕ) (tokens : Kinds) (x : A) (after : Kinds) (total : Reading (List A))
    → i < turns → item tokens ≡ Ok (x, after) → sees_symbol symbol.COMMA after ≡ false
    → with_front front (listed item (turns - i) tokens) ≡ total → total ≡ Ok (front ++ x ∷ [], after)
unfolding listed
listed_ends item front turns i tokens x after total lt h comma so_far =
    let k : turns - i ≡ suc (turns - (i + 1)) = omega arith in
    let one : with_front front (listed item (turns - i) tokens) ≡ Ok (front ++ x ∷ [], after) = rw (k, h, comma) refl in
    sym so_far ∙ one

pub listed_stops : {A : Type 0} (e : Stop) (item : Kinds → Reading A) (front : List A) (turns i : ℕ) (tokens : Kinds) (total : Reading (List A))
    → i < turns → StopsReading e (item tokens) → with_front front (listed item (turns - i) tokens) ≡ total → StopsReading e total
unfolding listed
listed_stops stop.NoMemory item front turns i tokens total lt h so_far = tt
listed_stops (stop.Refused rest) item front turns i tokens total lt h so_far =
    let k : turns - i ≡ suc (turns - (i + 1)) = omega arith in
    let one : with_front front (listed item (turns - i) tokens) ≡ Err rest = rw (k, h) refl in
    sym so_far ∙ one

pub listed_runs_out : {A : Type 0} (item : Kinds → Reading A) (front : List A) (turns i : ℕ) (tokens : Kinds) (total : Reading (List A))
    → turns ≤ i → with_front front (listed item (turns - i) tokens) ≡ total → total ≡ Err tokens
unfolding listed
listed_runs_out item front turns i tokens total le so_far =
    let k : turns - i ≡ 0 = omega arith in
    let one : with_front front (listed item (turns - i) tokens) ≡ Err tokens = rw k refl in
    sym so_far ∙ one

-- ---- chains of operators

pub chain_goes_on : (operand : Kinds → Reading Expr) (rank turns i : ℕ) (left : Expr) (tokens : Kinds) (op : BinOp) (right : Expr) (after : Kinds) (total : Reading Expr)
    → i < turns → ranked_operator rank tokens ≡ Some op → operand (after_next tokens) ≡ Ok (right, after)
    → chain_from operand rank (turns - i) left tokens ≡ total → chain_from operand rank (turns - (i + 1)) (expr.Bin op left right) after ≡ total
unfolding chain_from
chain_goes_on operand rank turns i left tokens op right after total lt found h so_far =
    let k : turns - i ≡ suc (turns - (i + 1)) = omega arith in
    let one : chain_from operand rank (turns - i) left tokens ≡ chain_from operand rank (turns - (i + 1)) (expr.Bin op left right) after = rw (k, found, h) refl in
    sym one ∙ so_far

pub chain_ends : (operand : Kinds → Reading Expr) (rank turns i : ℕ) (left : Expr) (tokens : Kinds) (total : Reading Expr)
    → i < turns → ranked_operator rank tokens ≡ None → chain_from operand rank (turns - i) left tokens ≡ total → total ≡ Ok (left, tokens)
unfolding chain_from
chain_ends operand rank turns i left tokens total lt found so_far =
    let k : turns - i ≡ suc (turns - (i + 1)) = omega arith in
    let one : chain_from operand rank (turns - i) left tokens ≡ Ok (left, tokens) = rw (k, found) refl in
    sym so_far ∙ one

pub chain_stops : (e : Stop) (operand : Kinds → Reading Expr) (rank turns i : ℕ) (left : Expr) (tokens : Kinds) (op : BinOp) (total : Reading Expr)
    → i < turns → ranked_operator rank tokens ≡ Some op → StopsReading e (operand (after_next tokens))
    → chain_from operand rank (turns - i) left tokens ≡ total → StopsReading e total
unfolding chain_from
chain_stops stop.NoMemory operand rank turns i left tokens op total lt found h so_far = tt
chain_stops (stop.Refused rest) operand rank turns i left tokens op total lt found h so_far =
    let k : turns - i ≡ suc (turns - (i + 1)) = omega arith in
    let one : chain_from operand rank (turns - i) left tokens ≡ Err rest = rw (k, found, h) refl in
    sym so_far ∙ one

pub chain_runs_out : (operand : Kinds → Reading Expr) (rank turns i : ℕ) (left : Expr) (tokens : Kinds) (total : Reading Expr)
    → turns ≤ i → chain_from operand rank (turns - i) left tokens ≡ total → total ≡ Err tokens
unfolding chain_from
chain_runs_out operand rank turns i left tokens total le so_far =
    let k : turns - i ≡ 0 = omega arith in
    let one : chain_from operand rank (turns - i) left tokens ≡ Err tokens = rw k refl in
    sym so_far ∙ one

-- ---- statements

pub statements_go_on : (names : List (List ℕ)) (most : ℕ) (front : List Stmt) (left i : ℕ) (tokens : Kinds) (x : Stmt) (after : Kinds) (total : Reading (List Stmt))
    → i < left → begins_statement tokens ≡ true → statement (statements names most (left - i - 1)) names most tokens ≡ Ok (x, after)
    → with_front front (statements names most (left - i) tokens) ≡ total → with_front (front ++ x ∷ []) (statements names most (left - (i + 1)) after) ≡ total
unfolding statements
statements_go_on names most front left i tokens x after total lt begins h so_far =
    let k : left - i ≡ suc (left - (i + 1)) = omega arith in
    let same : left - i - 1 ≡ left - (i + 1) = omega arith in
    let h2 : statement (statements names most (left - (i + 1))) names most tokens ≡ Ok (x, after) = rw (← same) h in
    let one : with_front front (statements names most (left - i) tokens) ≡ with_front (front ++ x ∷ []) (statements names most (left - (i + 1)) after) =
    rw (k, begins, h2) (regroup front x (statements names most (left - (i + 1)) after)) in
    sym one ∙ so_far

pub statements_end : (names : List (List ℕ)) (most : ℕ) (front : List Stmt) (left i : ℕ) (tokens : Kinds) (total : Reading (List Stmt))
    → i < left → begins_statement tokens ≡ false → with_front front (statements names most (left - i) tokens) ≡ total → total ≡ Ok (front, tokens)
unfolding statements
statements_end names most front left i tokens total lt begins so_far =
    let k : left - i ≡ suc (left - (i + 1)) = omega arith in
    let one : with_front front (statements names most (left - i) tokens) ≡ Ok (front, tokens) = rw (k, begins) (ap (λ (items : List Stmt). Ok (items, tokens)) (append-nil front)) in
    sym so_far ∙ one

pub statements_stop : (e : Stop) (names : List (List ℕ)) (most : ℕ) (front : List Stmt) (left i : ℕ) (tokens : Kinds) (total : Reading (List Stmt))
    → i < left → begins_statement tokens ≡ true → StopsReading e (statement (statements names most (left - i - 1)) names most tokens)
    → with_front front (statements names most (left - i) tokens) ≡ total → StopsReading e total
unfolding statements
statements_stop stop.NoMemory names most front left i tokens total lt begins h so_far = tt
statements_stop (stop.Refused rest) names most front left i tokens total lt begins h so_far =
    let k : left - i ≡ suc (left - (i + 1)) = omega arith in
    let same : left - i - 1 ≡ left - (i + 1) = omega arith in
    let h2 : statement (statements names most (left - (i + 1))) names most tokens ≡ Err rest = rw (← same) h in
    let one : with_front front (statements names most (left - i) tokens) ≡ Err rest = rw (k, begins, h2) refl in
    sym so_far ∙ one

pub statements_run_out : (names : List (List ℕ)) (most : ℕ) (front : List Stmt) (left i : ℕ) (tokens : Kinds) (total : Reading (List Stmt))
    → left ≤ i → with_front front (statements names most (left - i) tokens) ≡ total → total ≡ Err tokens
unfolding statements
statements_run_out names most front left i tokens total le so_far =
    let k : left - i ≡ 0 = omega arith in
    let one : with_front front (statements names most (left - i) tokens) ≡ Err tokens = rw k refl in
    sym so_far ∙ one
