-- They stand where all is as asked, and do not where a phi, a branch or a route is not.
use Rattle.std.proofs.Common.{IfOk, List, subst}
use Rattle.mit_ops.specs.declared.types.VarType.{VarType}
use Rattle.mit_valid.specs.Deciding.{Tells}
use Rattle.mit_valid.specs.Inferred.{PhisFit, RoutesGiven, TruthsGiven}
use Rattle.mit_valid.proofs.TypesDecided.{no_phis, no_truths, result_by_routes}
use Rattle.mit_valid.proofs.typing.types_stand.Goals as goal

pub returns-then-not-phis_fit : goal.returns-then-not-phis_fit
returns-then-not-phis_fit c =
    let plan = c.args.plan.now in
    let forced = rw c.in-Some.is at c.in_ok-types.ensures in
    no_phis plan c.in-Some.types.items forced (subst (λ (list : List VarType). ¬ PhisFit plan list) c.deref.ensures.value c.if-not-phis_fit.ensures)

pub returns-then-not-truths_given : goal.returns-then-not-truths_given
returns-then-not-truths_given c =
    let plan = c.args.plan.now in
    let forced = rw c.in-Some.is at c.in_ok-types.ensures in
    no_truths plan c.in-Some.types.items forced (subst (λ (list : List VarType). ¬ TruthsGiven plan list) c.deref-2.ensures.value c.if-not-truths_given.ensures)

pub returns : goal.returns
returns c =
    let plan = c.args.plan.now in
    let forced = rw c.in-Some.is at c.in_ok-types.ensures in
    let phis : PhisFit plan c.in-Some.types.items = subst (λ (list : List VarType). PhisFit plan list) c.deref.ensures.value c.if-not-phis_fit.ensures in
    let truths : TruthsGiven plan c.in-Some.types.items = subst (λ (list : List VarType). TruthsGiven plan list) c.deref-2.ensures.value c.if-not-truths_given.ensures in
    result_by_routes plan c.in-Some.types.items c.routes_fit.result forced phis truths
    (subst (λ (list : List VarType). IfOk c.routes_fit.result (λ fit. Tells fit (RoutesGiven plan list))) c.deref-3.ensures.value c.routes_fit.ensures)
