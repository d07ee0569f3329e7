-- What is kept of rows that fit an operator, and what it gives.
use Rattle.std.proofs.Common.{◌≡◌, ◌==◌, ℕ, List, [], ◌∷◌, if◌then◌else◌, refl, ◌∙◌, Result, Ok, Err, IfOk}
use Rattle.std.specs.FinMap as fin
use Rattle.mit_rows.specs.Bags.{RowOf}
use Rattle.mit_ops.specs.Answers.{BagOrFault}
use Rattle.mit_ops.specs.Forms.{whole_answer}
use Rattle.mit_ops.specs.Operators.{captured, form_of, part_apply, whole}
use Rattle.mit_k_group.specs.Kept.{is_one, operator}
use Rattle.mit_k_group.specs.declared.running.Running.{Running}
use Rattle.mit_k_group.specs.declared.running.Running.TheVariants.{Reduce, Distinct, Only, Count, Sum}

-- an answer is what that is
pub answer_is : {E : Type 0} (result : Result BagOrFault E) (a b : BagOrFault) → a ≡ b → IfOk result (λ answer. answer ≡ a) → IfOk result (λ answer. answer ≡ b)
answer_is (Ok answer) a b e is = is ∙ e
answer_is (Err stop) a b e is = is

-- an operator over its rows, with no captured scalars
pub one_whole : (running : Running) (rows : List RowOf) → whole_answer (form_of (operator running) fin.empty []) (rows ∷ []) ≡ whole (operator running) (rows ∷ []) fin.empty
unfolding captured
one_whole (Reduce keys it totals) rows = refl
one_whole (Distinct kept) rows = refl
one_whole (Only only) rows = refl
one_whole (Count total) rows = refl
one_whole (Sum column total) rows = refl

-- what is one for all rows stands in partition 0 alone
pub part_of_whole : (running : Running) (part parts : ℕ) (rows : List RowOf) →
    part_apply (operator running) part parts (rows ∷ []) fin.empty ≡ (if is_one running then (if part == 0 then whole (operator running) (rows ∷ []) fin.empty else Ok []) else whole (operator running) (rows ∷ []) fin.empty)
unfolding captured
part_of_whole (Reduce keys it totals) part parts rows = refl
part_of_whole (Distinct kept) part parts rows = refl
part_of_whole (Only only) part parts rows = refl
part_of_whole (Count total) part parts rows = refl
part_of_whole (Sum column total) part parts rows = refl
