-- The type of one operand is forced, and one operand more is not inferred.
use Rattle.std.proofs.Common.{◌∙◌, Some, ap, sym}
use Rattle.mit_valid.proofs.ForcedTypes.{inferred_by, lacks_all, none_more, phi_forced}
use Rattle.mit_valid.proofs.inference.infer_phi.Goals as goal

pub returns-in-Some : goal.returns-in-Some
returns-in-Some c =
    let numbers = c.edges_to-edge-items in
    phi_forced c.args.plan.now c.args.inferred.now c.args.op c.loop-edge.edge-index numbers.result.now c.in_ok-copy.field-0 c.requires.inferred c.requires.op c.requires.phi
    (numbers.ensures.value c.requires.op) c.loop-edge-test.true (c.in-Some.ensures ∙ ap Some (sym c.in_ok-copy.ensures))

pub loop-edge-preserved : goal.loop-edge-preserved
loop-edge-preserved c =
    none_more (inferred_by c.args.plan.now c.args.inferred.now) c.edges_to-edge-items.result.now c.loop-edge.edge-index c.loop-edge-test.true c.in_default.ensures c.loop-edge.invariant

pub returns : goal.returns
returns c =
    let numbers = c.edges_to-edge-items in
    lacks_all c.args.plan.now c.args.inferred.now c.args.op c.loop-edge.edge-index numbers.result.now c.requires.phi (numbers.ensures.value c.requires.op) c.loop-edge-test.false c.loop-edge.invariant
