use Rattle.std.proofs.Common.{◌≡◌, Ok, subst}
use Rattle.mit_script.specs.Accepted.{checked}
use Rattle.mit_script.specs.Trees.{IsFormed}
use Rattle.mit_app.proofs.plan.plan_means.Goals as goal

pub returns : goal.returns
returns c = λ files decisions partitions some.
    let formed = subst IsFormed c.script-script.ensures.value c.script-script.ensures.formed in
    let accepted = subst (λ types. checked c.args.typed.now.script ≡ Ok types) c.types-types.ensures.value c.types-types.ensures.accepted in
    c.meaning_law.ensures c.args.typed.now.script c.args.typed.now.types files decisions partitions formed accepted some
