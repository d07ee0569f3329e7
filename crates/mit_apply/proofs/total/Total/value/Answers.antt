-- What is stored gives what is made of the rows.
use Rattle.std.proofs.Common.{inl, inr, rules}
use Rattle.std.proofs.lemmas.Int.{to_z-of_z}
use mir.Val.{SFits}
use mir.Syntax.{w128}
use Rattle.mit_ops.specs.declared.kinds.Agg.TheVariants as kind
use Rattle.mit_apply.proofs.Totals.{made_as}
use Rattle.mit_apply.proofs.total.Total.value.Goals as goal

pub returns-in-Count : goal.returns-in-Count
returns-in-Count c agg rows e =
    let fits : SFits w128 c.from.result = search rules in
    rw (made_as c.args.self.now agg kind.Count rows e c.in-Count.is) (rw (to_z-of_z w128 c.from.result fits, c.from.ensures) at c.within.ensures)

pub returns-in-Sum : goal.returns-in-Sum
returns-in-Sum c agg rows e =
    let fits : SFits w128 c.args.self.now.sum = search rules in
    rw (made_as c.args.self.now agg (kind.Sum c.in-Sum.field-0) rows e c.in-Sum.is) (rw (to_z-of_z w128 c.args.self.now.sum fits) at c.within-in-Sum.ensures)

pub returns-in-Min : goal.returns-in-Min
returns-in-Min c agg rows e =
    elim c.in-Min.is [
      | inl is ↦ rw (made_as c.args.self.now agg (kind.Min is.0) rows e is.1) c.copy_value.ensures
      | inr is ↦ rw (made_as c.args.self.now agg (kind.Max is.0) rows e is.1) c.copy_value.ensures
    ]
