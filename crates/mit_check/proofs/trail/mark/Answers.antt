use Rattle.std.proofs.Common.{◌∙◌, ap, sym}
use Rattle.mit_script.specs.Accepted.{is_assigned}
use Rattle.mit_check.proofs.Trails.{set_in}
use Rattle.mit_check.proofs.trail.mark.Goals as goal

pub returns-then-is_assigned-clause-assigned : goal.returns-then-is_assigned-clause-assigned
returns-then-is_assigned-clause-assigned c =
    set_in c.args.assigned.now.items c.args.variable
    (ap (λ list. is_assigned list c.args.variable) (sym c.deref.ensures.value) ∙ (sym c.is_assigned.ensures ∙ c.if-is_assigned.true))
