use Rattle.std.proofs.Common.{◌∙◌, ap, sym}
use Rattle.mit_ssa.specs.Weaving.{looked}
use Rattle.mit_ssa.specs.Woven.{defining_maybe}
use Rattle.mit_ssa.proofs.defined.define_maybe.Goals as goal
use Rattle.mit_ssa.proofs.defined.define_maybe.Goals.{in-Some+in_ok-put, in_default}

pub returns : goal.returns
returns c = elim c.match-variable.branch [
  | in-Some+in_ok-put w ↦ (λ i. looked (w.after-is i).items) ∙ (w.in_ok-put.ensures
      ∙ sym (ap (λ variable. defining_maybe (looked c.args.defined.items) variable c.args.number) w.in-Some.is))
  | in_default w ↦ (λ i. looked (w.after-is i).items)
      ∙ sym (ap (λ variable. defining_maybe (looked c.args.defined.items) variable c.args.number) w.in_default.is)
]
