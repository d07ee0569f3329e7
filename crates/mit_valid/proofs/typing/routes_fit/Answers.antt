-- One edge more.
use Rattle.std.proofs.Common.{◌≡◌, ◌∙◌, ◌<◌, List, below_more, length, subst}
use Rattle.mit_plan.specs.Plans.{edge_at}
use Rattle.mit_plan.specs.Valid.{route_wanted}
use Rattle.mit_plan.specs.declared.plan.Edge.{Edge}
use Rattle.mit_valid.proofs.TypesDecided.{edge_read}
use Rattle.mit_valid.proofs.typing.routes_fit.Goals as goal

pub loop-edge-preserved : goal.loop-edge-preserved
loop-edge-preserved c =
    let plan = c.args.plan.now in
    let types = c.args.types.now in
    let k = c.loop-edge.edge-index in
    let edges = c.edges-edge-items in
    let same = edges.ensures.value in
    let test = c.loop-edge-test.true in
    let below : k < length plan.edges = subst (λ (list : List Edge). k < length list) same test in
    let is = c.edge-item.is ∙ edge_read plan edges.result.now k c.edge-item.result same below in
    let fits = rw c.if-not-branch.false at c.in_ok-route_fits.ensures in
    below_more (λ edge. (edge_at plan edge).route ≡ route_wanted plan types (edge_at plan edge)) k c.loop-edge.invariant
    (subst (λ (edge : Edge). edge.route ≡ route_wanted plan types edge) is fits)
