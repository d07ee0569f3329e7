-- One edge more.
use Rattle.std.proofs.Common.{◌≡◌, ◌∙◌, ◌+◌, ◌<◌, ℕ, List, Bool, true, ap, fold, get_or, length, set, subst, sym, take}
use Rattle.std.proofs.lemmas.List.{get_or_default}
use Rattle.std.proofs.lemmas.List.Sums.{fold_more}
use Rattle.mit_plan.specs.Plans.{PlanOf, edge_at, edges_to, no_op, source_block}
use Rattle.mit_plan.specs.declared.plan.Edge.{Edge}
use Rattle.mit_plan.specs.declared.plan.PlanOp.{PlanOp}
use Rattle.mit_valid.specs.Passed.{sources_marked}
use Rattle.mit_valid.proofs.TypesDecided.{edge_read}
use Rattle.mit_valid.proofs.passing.mark_sources.Goals as goal

mark_more : (plan : PlanOf) (marks now : List Bool) (numbers all : List ℕ) (k block : ℕ) → numbers ≡ all → k < length numbers
    → now ≡ sources_marked plan marks (take k all) → block ≡ source_block plan (edge_at plan (get_or numbers k 0))
    → set now block true ≡ sources_marked plan marks (take (k + 1) all)
mark_more plan marks now numbers all k block same below before is =
    let mark : List Bool → ℕ → List Bool = λ marks edge. set marks (source_block plan (edge_at plan edge)) true in
    let earlier : now ≡ fold mark marks (take k numbers) = rw same before in
    subst (λ (list : List ℕ). set now block true ≡ fold mark marks (take (k + 1) list)) same
    (ap (λ (own : ℕ). set now own true) is ∙ ap (λ (some : List Bool). mark some (get_or numbers k 0)) earlier ∙ sym (fold_more mark marks numbers k 0 below))

pub loop-edge-preserved : goal.loop-edge-preserved
loop-edge-preserved c =
    let plan = c.args.plan.now in
    let at = c.loop-edge.edge-index in
    let numbers = c.edges_to-edge-items in
    let number = get_or numbers.result.now at 0 in
    let below : number < length plan.edges = numbers.ensures.edges at 0 c.loop-edge-test.true in
    let edge = edge_read plan c.edges.result.now number c.index-edges-edge.result c.edges.ensures.value below in
    let from = (edge_at plan number).from in
    let named : from < length plan.ops = (c.requires.lists.inputs.name number below).from in
    let source =
    ap (λ (one : Edge). (get_or c.ops.result.now one.from c.index-ops-from.result).block) edge
    ∙ ap (λ (ops : List PlanOp). (get_or ops from c.index-ops-from.result).block) c.ops.ensures.value
    ∙ ap (λ (op : PlanOp). op.block) (get_or_default plan.ops from c.index-ops-from.result no_op named) in
    mark_more plan c.args.marks.now c.loop-edge.marks numbers.result.now (edges_to plan c.args.op) at _ (numbers.ensures.value c.requires.op) c.loop-edge-test.true c.loop-edge.invariant source
