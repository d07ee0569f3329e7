-- What a total gives.
use Rattle.std.proofs.Common.{◌≡◌, [], ◌∷◌, ◌++◌, List, refl, ap, sym, ◌∙◌, Ok, Err}
use Rattle.mit_rows.specs.Bags.{RowOf}
use Rattle.mit_ops.specs.Answers.{BagOrFault, at_row, both, settled}
use Rattle.mit_ops.specs.EachRow.{given}
use Rattle.mit_ops.specs.Totals.{aggregate}
use Rattle.mit_ops.specs.declared.kinds.Agg.{Agg}
use Rattle.mit_ops.specs.declared.kinds.Agg.TheVariants as agg
use Rattle.mit_apply.specs.TotalStored.{total_of}
use Rattle.mit_apply.specs.declared.total.Total.{Total}
use Rattle.mit_keyed.specs.Groups.{made_as, made_at}

pub made_is : (it : Agg) (rows : List RowOf) → made_as (total_of it rows).agg (total_of it rows) ≡ aggregate it rows
made_is agg.Count rows = refl
made_is (agg.Sum column) rows = refl
made_is (agg.Min column) rows = refl
made_is (agg.Max column) rows = refl

-- what is made of the total of some rows is what is due for them
pub made_due : (key : RowOf) (total : Total) (it : Agg) (rows : List RowOf) → total ≡ total_of it rows →
    at_row key (given (aggregate it rows) (λ value. Ok ((key ++ value ∷ []) ∷ []))) ≡ made_at (key, total)
made_due key total it rows is =
    ap (λ m. at_row key (given m (λ value. Ok ((key ++ value ∷ []) ∷ [])))) (sym (made_is it rows))
    ∙ ap (λ t. made_at (key, t)) (sym is)

-- the sum with nothing before
pub first_added : (answer : BagOrFault) → both (Ok []) answer ≡ settled answer
first_added (Ok rows) = refl
first_added (Err fault) = refl
