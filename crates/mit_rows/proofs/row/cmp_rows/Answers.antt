use Rattle.std.proofs.Common.{◌∙◌}
use Rattle.mit_rows.proofs.FrontFacts.{fronts_decide}
use Rattle.mit_rows.proofs.row.cmp_rows.Goals as goal

pub returns-in-Front-Front : goal.returns-in-Front-Front
returns-in-Front-Front c =
    c.cmp-in-Front-Front.ensures
    ∙ fronts_decide c.in-Front-Front.x c.in-Front-Front.y c.args.a.now c.args.b.now c.in-Front-Front.ensures c.in-Front-Front.ensures' c.if-x-y-2.true
