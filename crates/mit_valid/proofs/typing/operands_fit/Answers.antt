-- An operand has another type, or all have this one.
use Rattle.std.proofs.Common.{◌∙◌, ◌<◌, ap, arith, get_or, length, refl, sym}
use Rattle.mit_plan.specs.Plans.{edge_at}
use Rattle.mit_plan.specs.declared.plan.Edge.{Edge}
use Rattle.mit_valid.proofs.ForcedTypes.{operand_at}
use Rattle.mit_valid.proofs.TypesDecided.{edge_read, operands_all, type_read}
use Rattle.mit_valid.proofs.typing.operands_fit.Goals as goal

pub returns-then-not-is_same_type : goal.returns-then-not-is_same_type
returns-then-not-is_same_type c =
    let plan = c.args.plan.now in
    let types = c.args.types.now in
    let k = c.loop-edge.edge-index in
    let numbers = c.edges_to-edge-items in
    let number = get_or numbers.result.now k 0 in
    let many = c.requires.many in
    let some = c.requires.op in
    let below : number < length plan.edges = numbers.ensures.edges k 0 c.loop-edge-test.true in
    let named = (c.requires.lists.inputs.name number below).from in
    let edge = edge_read plan c.edges.result.now number c.index-edges-edge.result c.edges.ensures.value below in
    let source = type_read types (edge_at plan number).from _ c.index-types-from.result c.index-types-from.is (ap (λ (one : Edge). one.from) edge) (omega (arith, named, many)) in
    let own = type_read types c.args.op c.args.op c.index-types-op.result c.index-types-op.is refl (omega (arith, some, many)) in
    λ operands. c.if-not-is_same_type.ensures (source ∙ operand_at plan types c.args.op k numbers.result.now operands (numbers.ensures.value some) c.loop-edge-test.true ∙ sym own)

pub returns : goal.returns
returns c =
    let numbers = c.edges_to-edge-items in
    operands_all c.args.plan.now c.args.types.now c.args.op c.loop-edge.edge-index numbers.result.now (numbers.ensures.value c.requires.op) c.loop-edge-test.false c.loop-edge.invariant
