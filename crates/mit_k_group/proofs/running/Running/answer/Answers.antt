-- What each kind keeps of rows that fit gives its whole answer.
use Rattle.std.proofs.Common.{◌≡◌, ◌≤◌, ◌∙◌, ap, [], ◌∷◌, length, Ok, subst, sym}
use Rattle.std.specs.FinMap as fin
use Rattle.std.proofs.lemmas.List.Elements.{All-same}
use Rattle.mit_rows.specs.Bags.{RowOf}
use Rattle.mit_rows.specs.declared.row.TheConstants.{MAX_COLUMNS}
use Rattle.mit_ops.specs.Answers.{over, settled}
use Rattle.mit_ops.specs.Forms.{once_each}
use Rattle.mit_apply.specs.TotalStored.{HasValue}
use Rattle.mit_keyed.specs.Groups.{GivesRow, grouped, made_at}
use Rattle.mit_k_group.specs.declared.running.Running.TheVariants.{Reduce, Distinct, Only, Count, Sum}
use Rattle.mit_k_group.proofs.Fitting.{answer_is, one_whole}
use Rattle.mit_k_group.proofs.running.Running.answer.Goals as goal

pub answer_groups-requires : goal.answer_groups-requires
answer_groups-requires c =
    let is : c.in-Reduce.totals.entries ≡ grouped c.in-Reduce.keys c.in-Reduce.agg c.requires.0 = rw c.in-Reduce.is at c.requires.1 in
    All-same GivesRow c.in-Reduce.totals.entries (grouped c.in-Reduce.keys c.in-Reduce.agg c.requires.0) is
    (c.groups_law.ensures.give c.in-Reduce.keys c.in-Reduce.agg (c.requires.0 ∷ []) (rw c.in-Reduce.is at c.requires.2))

pub answer_kept-requires : goal.answer_kept-requires
answer_kept-requires c =
    All-same (λ (row : RowOf). length row ≤ MAX_COLUMNS) c.in-Distinct.kept.keys (once_each c.requires.0) (rw c.in-Distinct.is at c.requires.1)
    (c.distinct_law.ensures.narrow (c.requires.0 ∷ []) (rw c.in-Distinct.is at c.requires.2))

pub answer_total-requires : goal.answer_total-requires
answer_total-requires c = subst HasValue (sym (rw c.in-Count.is at c.requires.1)) (c.totals_law.ensures.count c.requires.0)

pub answer_total-requires-in-Sum : goal.answer_total-requires-in-Sum
answer_total-requires-in-Sum c = subst HasValue (sym (rw c.in-Sum.is at c.requires.1)) (c.totals_law.ensures.sum c.in-Sum.column c.requires.0)

pub returns-in-Reduce : goal.returns-in-Reduce
returns-in-Reduce c rows holds =
    rw c.in-Reduce.is (answer_is c.answer_groups.result _ _
    (ap (over made_at) (rw c.in-Reduce.is at holds)
    ∙ c.groups_law.ensures.whole c.in-Reduce.keys c.in-Reduce.agg rows fin.empty []
    ∙ one_whole (Reduce c.in-Reduce.keys c.in-Reduce.agg c.in-Reduce.totals) rows) c.answer_groups.ensures)

pub returns-in-Distinct : goal.returns-in-Distinct
returns-in-Distinct c rows holds =
    rw c.in-Distinct.is (answer_is c.answer_kept.result _ _
    (ap (over (λ (row : RowOf). Ok (row ∷ []))) (rw c.in-Distinct.is at holds)
    ∙ c.distinct_law.ensures.whole rows fin.empty [] ∙ one_whole (Distinct c.in-Distinct.kept) rows) c.answer_kept.ensures)

pub returns-in-Only : goal.returns-in-Only
returns-in-Only c rows holds =
    rw c.in-Only.is (answer_is c.answer_only.result _ _ (one_whole (Only c.in-Only.only) rows) (c.answer_only.ensures rows (rw c.in-Only.is at holds)))

pub returns-in-Count : goal.returns-in-Count
returns-in-Count c rows holds =
    rw c.in-Count.is (answer_is c.answer_total.result _ _
    (ap (λ t. settled (made_at ([], t))) (rw c.in-Count.is at holds)
    ∙ c.totals_law.ensures.count_whole rows fin.empty [] ∙ one_whole (Count c.in-Count.total) rows) c.answer_total.ensures)

pub returns-in-Sum : goal.returns-in-Sum
returns-in-Sum c rows holds =
    rw c.in-Sum.is (answer_is c.answer_total-in-Sum.result _ _
    (ap (λ t. settled (made_at ([], t))) (rw c.in-Sum.is at holds)
    ∙ c.totals_law.ensures.sum_whole c.in-Sum.column rows fin.empty [] ∙ one_whole (Sum c.in-Sum.column c.in-Sum.total) rows) c.answer_total-in-Sum.ensures)
