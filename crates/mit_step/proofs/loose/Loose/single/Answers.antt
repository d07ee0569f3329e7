use Rattle.std.proofs.Common.{◌∙◌, ap, length, sym}
use Rattle.mit_step.proofs.Orders.{as_many, only_row}
use Rattle.mit_step.proofs.loose.Loose.single.Goals as goal

pub returns-then-len-ne1-clause-none : goal.returns-then-len-ne1-clause-none
returns-then-len-ne1-clause-none c one =
    c.if-len-ne1.true (c.len.ensures ∙ (c.self.inside.rows.ok.0 ∙ (sym (as_many c.bags_are_rows_in_order.ensures.rows c.self.inside.rows.items) ∙ (ap length c.self.view_is ∙ one))))

pub returns-clause-some : goal.returns-clause-some
returns-clause-some c =
    only_row c.self.inside.rows.items c.index.result.now c.args.self.now (sym (c.len.ensures ∙ c.self.inside.rows.ok.0) ∙ c.if-len-ne1.false) c.index.ensures c.self.view_is
