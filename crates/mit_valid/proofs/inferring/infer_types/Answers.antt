-- Nothing is left to try, so all are inferred.
use Rattle.std.proofs.Common.{List, Option, subst, sym}
use Rattle.mit_ops.specs.declared.types.VarType.{VarType}
use Rattle.mit_valid.specs.Inferred.{AreInferred}
use Rattle.mit_valid.proofs.InferredTypes.{all_forced}
use Rattle.mit_valid.proofs.inferring.infer_types.Goals as goal

pub returns-in-Ended : goal.returns-in-Ended
returns-in-Ended c =
    let plan = c.args.plan.now in
    let step = rw c.in-Ended.is at c.in_ok-infer_each.ensures in
    let are : AreInferred plan c.infer_each.new.inferred.items = subst (λ (list : List (Option VarType)). AreInferred plan list) (sym step.0) c.loop-inferred.invariant in
    all_forced (record { input = c.last_place_law.ensures.input; phi = c.last_place_law.ensures.phi }) plan c.infer_each.new.inferred.items c.in_ok-those_inferred-in-Ended.field-0.items
    c.requires.lists c.requires.paths are step.1 c.in_ok-those_inferred-in-Ended.ensures
