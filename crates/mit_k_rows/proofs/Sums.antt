-- Lists of rows that are taken one by one.
use Rattle.std.proofs.Common.{◌≡◌, ◌∙◌, ℕ, zero, suc, List, [], ◌∷◌, ◌++◌, take, Ok, ap, refl, sym}
use Rattle.std.proofs.lemmas.List.{append_assoc, append-nil}
use Rattle.mit_rows.specs.Bags.{RowOf, all_rows}
use Rattle.mit_rows.specs.declared.value.Value.{Value}
use Rattle.mit_ops.specs.Answers.{over}
use Rattle.mit_ops.specs.Forms.{rows_at}
use Rattle.mit_ops.specs.declared.kinds.OpSpec.{OpSpec}
use Rattle.mit_k_rows.specs.Gives.{sum_given}

pub sum_none : (spec : OpSpec) (captures : List Value) → Ok [] ≡ sum_given spec captures (all_rows [])
unfolding all_rows over
sum_none spec captures = refl

-- one list more
pub all_rows_more : (lists : List (List RowOf)) (at : ℕ) → all_rows (take (suc at) lists) ≡ all_rows (take at lists) ++ rows_at lists at
unfolding all_rows
all_rows_more [] zero = refl
all_rows_more [] (suc at) = refl
all_rows_more (rows ∷ later) zero = append-nil rows
all_rows_more (rows ∷ later) (suc at) = ap (λ l. rows ++ l) (all_rows_more later at) ∙ sym (append_assoc rows (all_rows (take at later)) (rows_at later at))
