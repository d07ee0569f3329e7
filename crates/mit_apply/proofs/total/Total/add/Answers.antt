-- One row more at the end.
use Rattle.std.proofs.Common.{◌≡◌, ◌+◌, ◌∙◌, [], ◌∷◌, ◌++◌, rules}
use Rattle.std.proofs.lemmas.Int.{to_z-of_z}
use mir.Val.{SFits}
use mir.Syntax.{w128}
use Rattle.mit_apply.proofs.Totals.{more_made, total_stored}
use Rattle.mit_apply.proofs.total.Total.add.Goals as goal

pub returns-clause-ok : goal.returns-clause-ok
returns-clause-ok c agg rows e =
    let before : SFits w128 c.args.self.now.sum = search rules in
    let after : SFits w128 c.in_ok-sum.sum = search rules in
    let count : c.in_ok-rows.rows ≡ c.args.self.now.rows + 1 = search rules in
    total_stored c.rows_are_ordered.ensures.total c.rows_are_ordered.ensures.same c.args.self.now agg rows c.args.row.now _ _ _ e count
    (to_z-of_z w128 c.in_ok-sum.sum after ∙ rw (to_z-of_z w128 c.args.self.now.sum before) at c.in_ok-sum.ensures) c.in_ok-keep_extreme.ensures.ok

pub returns-clause-has_value : goal.returns-clause-has_value
returns-clause-has_value c agg rows e h =
    (agg, rows ++ c.args.row.now ∷ [], returns-clause-ok c agg rows e, more_made c.rows_are_ordered.ensures.total c.rows_are_ordered.ensures.same agg rows c.args.row.now h)
