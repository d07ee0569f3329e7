use Rattle.std.proofs.Common.{◌≡◌, ◌∙◌, ◌++◌, ◌∷◌, [], IfOk, List, Some, arith, length, slice_get, subst}
use Rattle.std.proofs.lemmas.List.{length-append}
use Rattle.mit_rows.specs.Bags.{RowOf}
use Rattle.mit_rows.specs.declared.value.Value.{Value}
use Rattle.mit_rows.proofs.row.Row.joined.Goals as goal

-- a list of so many values is these values
pair : (xs : List Value) (a b : Value) → 2 ≡ length xs → slice_get xs 0 ≡ Some a → slice_get xs 1 ≡ Some b → a ∷ b ∷ [] ≡ xs
pair [] a b n p q = absurd (omega arith)
pair (x ∷ []) a b n p q = absurd (omega arith)
pair (x ∷ y ∷ []) a b n p q = cc
pair (x ∷ y ∷ z ∷ xs) a b n p q = absurd (omega arith)

three : (xs : List Value) (a b d : Value) → 3 ≡ length xs → slice_get xs 0 ≡ Some a → slice_get xs 1 ≡ Some b → slice_get xs 2 ≡ Some d
    → a ∷ b ∷ d ∷ [] ≡ xs
three [] a b d n p q r = absurd (omega arith)
three (x ∷ xs) a b d n p q r = cc (pair xs b d (omega arith) q r)

four : (xs : List Value) (a b d e : Value) → 4 ≡ length xs → slice_get xs 0 ≡ Some a → slice_get xs 1 ≡ Some b → slice_get xs 2 ≡ Some d
    → slice_get xs 3 ≡ Some e → a ∷ b ∷ d ∷ e ∷ [] ≡ xs
four [] a b d e n p q r s = absurd (omega arith)
four (x ∷ xs) a b d e n p q r s = cc (three xs b d e (omega arith) q r s)

pub returns-in-2 : goal.returns-in-2
returns-in-2 c =
    let left = c.values-left.result.now in
    let right = c.values-right.result.now in
    let same : left ++ right ≡ c.args.left.now ++ c.args.right.now = cc (c.values-left.ensures.value, c.values-right.ensures.value) in
    let row = pair (left ++ right) _ _ (omega (arith, length-append left right, c.in-2.is)) c.value_at.ensures c.value_at-in-2.ensures in
    subst (λ (l : List Value). IfOk c.copied_pair.result (λ (r : RowOf). r ≡ l)) (row ∙ same) c.copied_pair.ensures

pub returns-in-3 : goal.returns-in-3
returns-in-3 c =
    let left = c.values-left.result.now in
    let right = c.values-right.result.now in
    let same : left ++ right ≡ c.args.left.now ++ c.args.right.now = cc (c.values-left.ensures.value, c.values-right.ensures.value) in
    let row = three (left ++ right) _ _ _ (omega (arith, length-append left right, c.in-3.is)) c.value_at-in-3.ensures c.value_at-in-3-2.ensures c.value_at-in-3-3.ensures in
    subst (λ (l : List Value). IfOk c.copied_three.result (λ (r : RowOf). r ≡ l)) (row ∙ same) c.copied_three.ensures

pub returns-in-4 : goal.returns-in-4
returns-in-4 c =
    let left = c.values-left.result.now in
    let right = c.values-right.result.now in
    let same : left ++ right ≡ c.args.left.now ++ c.args.right.now = cc (c.values-left.ensures.value, c.values-right.ensures.value) in
    let row = four (left ++ right) _ _ _ _ (omega (arith, length-append left right, c.in-4.is)) c.value_at-in-4.ensures c.value_at-in-4-2.ensures c.value_at-in-4-3.ensures c.value_at-in-4-4.ensures in
    subst (λ (l : List Value). IfOk c.copied_four.result (λ (r : RowOf). r ≡ l)) (row ∙ same) c.copied_four.ensures
