-- Where the edges are too few or too many, they do not lead to one input each.
use Rattle.std.proofs.Common.{◌∙◌, ◌<◌, List, ap, get_or, length, sym}
use Rattle.std.proofs.lemmas.Bool.{ne_eqb}
use Rattle.std.proofs.lemmas.List.{get_or_read}
use Rattle.mit_plan.specs.Plans.{edges_to, no_op, op_at}
use Rattle.mit_plan.specs.Valid.{inputs_wanted}
use Rattle.mit_plan.specs.declared.plan.PlanOp.{PlanOp}
use Rattle.mit_valid.proofs.Leading.{as_many}
use Rattle.mit_valid.proofs.inputs.has_edges.Goals as goal

pub returns-else-numbers-wanted : goal.returns-else-numbers-wanted
returns-else-numbers-wanted c =
    let plan = c.args.plan.now in
    let op = c.args.op in
    let numbers = c.edges_to-numbers in
    let wanted = c.inputs_wanted-wanted in
    let read = ap (λ (ops : List PlanOp). get_or ops op no_op) c.ops.ensures.value in
    let within = c.requires in
    let below : op < length c.ops.result.now = rw c.ops.ensures.value within in
    let operator = get_or_read c.ops.result.now op c.index-ops-op.result below c.index-ops-op.is no_op ∙ read in
    rw (ne_eqb (length numbers.result.now) wanted.result c.if-numbers-wanted.false)
    (λ all. c.if-numbers-wanted.false
    (ap length (numbers.ensures.value within) ∙ as_many plan.edges (edges_to plan op) (inputs_wanted (op_at plan op)) all
    ∙ sym (wanted.ensures ∙ ap inputs_wanted operator)))
