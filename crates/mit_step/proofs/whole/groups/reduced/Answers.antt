use Rattle.std.proofs.Common.{◌∙◌, [], ap}
use Rattle.std.specs.FinMap as fin
use Rattle.std.proofs.lemmas.List.{take_all}
use Rattle.std.proofs.lemmas.List.Elements.{All-same}
use Rattle.std.proofs.lemmas.Result.{IfOk-weaker}
use Rattle.mit_ops.specs.Answers.{over}
use Rattle.mit_keyed.specs.Groups.{GivesRow, grouped, made_at}
use Rattle.mit_step.proofs.whole.groups.reduced.Goals as goal

pub answer_groups-requires : goal.answer_groups-requires
answer_groups-requires c =
    let all = take_all c.loop-row.row-index c.args.rows.now c.loop-row-test.false in
    All-same GivesRow c.loop-row.totals.entries (grouped c.args.keys.now c.args.agg c.args.rows.now) (c.loop-row.invariant ∙ ap (grouped c.args.keys.now c.args.agg) all) c.requires

pub returns : goal.returns
returns c =
    let all = take_all c.loop-row.row-index c.args.rows.now c.loop-row-test.false in
    let due = ap (over made_at) (c.loop-row.invariant ∙ ap (grouped c.args.keys.now c.args.agg) all) ∙ c.groups_law.ensures.whole c.args.keys.now c.args.agg c.args.rows.now fin.empty [] in
    IfOk-weaker c.answer_groups.result _ _ (λ answer is. is ∙ due) c.answer_groups.ensures
