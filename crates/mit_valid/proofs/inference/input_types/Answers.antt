-- One of them is not inferred, or all are.
use Rattle.mit_valid.proofs.ForcedTypes.{all_sources, lacks_one}
use Rattle.mit_valid.proofs.inference.input_types.Goals as goal

pub returns-in_default : goal.returns-in_default
returns-in_default c =
    let numbers = c.edges_to-edges in
    lacks_one c.args.plan.now c.args.inferred.now c.args.op c.loop-edge.edge-index numbers.result.now (numbers.ensures.value c.requires) c.loop-edge-test.true c.in_default.ensures

pub returns : goal.returns
returns c =
    let numbers = c.edges_to-edges in
    all_sources c.args.plan.now c.args.inferred.now c.args.op c.loop-edge.edge-index numbers.result.now c.loop-edge.types.items (numbers.ensures.value c.requires) c.loop-edge-test.false c.loop-edge.invariant
