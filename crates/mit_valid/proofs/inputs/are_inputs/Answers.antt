-- Which inputs the edges lead to, at an edge that leads to another one, and where all have been seen.
use Rattle.std.proofs.Common.{◌∙◌, ap, arith, get_or}
use Rattle.std.proofs.lemmas.List.{get_or_default}
use Rattle.mit_plan.specs.Plans.{no_edge}
use Rattle.mit_plan.specs.declared.plan.Edge.{Edge}
use Rattle.mit_valid.proofs.Leading.{at_input, counts_up}
use Rattle.mit_valid.proofs.inputs.are_inputs.Goals as goal

pub returns-then-edges-number : goal.returns-then-edges-number
returns-then-edges-number c = λ all.
    let edges = c.args.edges.now in
    let numbers = c.args.numbers.now in
    let input = c.loop-input.input in
    let below = c.loop-input-test.true in
    c.if-edges-number.true
    (ap (λ (edge : Edge). edge.input) (get_or_default edges (get_or numbers input 0) c.index-edges-number.result no_edge (c.requires input 0 below))
    ∙ at_input edges numbers input all below)

pub returns : goal.returns
returns c = counts_up c.args.edges.now c.args.numbers.now (λ at below. c.loop-input.invariant at (omega (arith, below)))
