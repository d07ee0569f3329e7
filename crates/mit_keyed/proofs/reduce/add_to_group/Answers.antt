-- One row more, at a key that is there or at a new one.
use Rattle.std.proofs.Common.{◌≡◌, ◌∙◌, ap, rules, [], Some, None}
use Rattle.std.specs.Map.{lookup, set_value}
use Rattle.std.proofs.lemmas.Result.{on_err_weaker, on_ok_weaker}
use Rattle.indexmap.specs.IndexMap.{insert_entry}
use Rattle.mit_ops.specs.Forms.{same_row}
use Rattle.mit_ops.specs.Keys.{key_of}
use Rattle.mit_keyed.proofs.Grouping.{found_is, more_there, more_new, set_same}
use Rattle.mit_keyed.proofs.reduce.add_to_group.Goals as goal

pub returns-in-Some-clause-ok : goal.returns-in-Some-clause-ok
returns-in-Some-clause-ok c rows g =
    let at : lookup (same_row (key_of c.args.keys.now c.args.row.now)) c.args.totals.now.entries ≡ Some c.in-Some.total.now = search rules in
    let was = found_is c.args.keys.now c.args.agg rows c.args.row.now c.args.totals.now.entries c.in-Some.total.now g at in
    let writes : (c.get_mut.follows.lender c.add.new.self).entries ≡ set_value (same_row (key_of c.args.keys.now c.args.row.now)) c.args.totals.now.entries c.add.new.self = search rules in
    on_ok_weaker _ (λ e. writes ∙ more_there c.args.keys.now c.args.agg rows c.args.row.now c.args.totals.now.entries c.in-Some.total.now c.add.new.self g at e) (c.add.ensures.ok c.args.agg _ was)

pub returns-in-Some-clause-err : goal.returns-in-Some-clause-err
returns-in-Some-clause-err c =
    let key = key_of c.args.keys.now c.args.row.now in
    let at : lookup (same_row (key_of c.args.keys.now c.args.row.now)) c.args.totals.now.entries ≡ Some c.in-Some.total.now = search rules in
    let writes : (c.get_mut.follows.lender c.add.new.self).entries ≡ set_value (same_row (key_of c.args.keys.now c.args.row.now)) c.args.totals.now.entries c.add.new.self = search rules in
    on_err_weaker _ (λ e. writes ∙ ap (set_value (same_row key) c.args.totals.now.entries) e ∙ set_same key c.in-Some.total.now c.args.totals.now.entries at) c.add.ensures.err

pub returns-in_ok-insert-in-None-clause-ok : goal.returns-in_ok-insert-in-None-clause-ok
returns-in_ok-insert-in-None-clause-ok c rows g =
    let at : lookup (same_row (key_of c.args.keys.now c.args.row.now)) c.args.totals.now.entries ≡ None = search rules in
    let put : c.insert.new.self.entries ≡ insert_entry same_row c.args.totals.now.entries (key_of c.args.keys.now c.args.row.now) c.add-in-None.new.self = search rules in
    let one = c.in_ok-add-in-None.ensures.ok c.args.agg [] c.new-total.ensures.none in
    put ∙ more_new c.args.keys.now c.args.agg rows c.args.row.now c.args.totals.now.entries c.add-in-None.new.self g at one
