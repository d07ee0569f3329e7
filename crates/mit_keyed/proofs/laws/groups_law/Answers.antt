use Rattle.mit_ops.specs.Forms.{rows_at}
use Rattle.mit_keyed.proofs.Fitting.{groups_give, reduce_whole}
use Rattle.mit_keyed.proofs.laws.groups_law.Goals as goal

pub returns-clause-give : goal.returns-clause-give
returns-clause-give c keys agg inputs fits =
    groups_give keys agg (rows_at inputs 0) (λ some among there. c.fitting_groups_law.ensures.reduce keys agg inputs some fits among there)
    (c.fitting_groups_law.ensures.reduce_narrow keys agg inputs fits) (c.fitting_groups_law.ensures.key keys)

pub returns-clause-whole : goal.returns-clause-whole
returns-clause-whole c = reduce_whole
