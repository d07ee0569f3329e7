-- There are enough inputs, whose types are those of bags; what the operator gives for them is forced.
use Rattle.std.proofs.Common.{◌≡◌, ◌∙◌, ◌<◌, ℕ, List, ap, get_or, length, sym, subst}
use Rattle.std.proofs.lemmas.List.{get_or_default}
use Rattle.mit_ops.specs.Results.{AreBags}
use Rattle.mit_plan.specs.Plans.{PlanOf, no_op, op_at}
use Rattle.mit_plan.specs.declared.plan.PlanOp.{PlanOp}
use Rattle.mit_valid.proofs.ForcedTypes.{enough_inputs, no_types, plain_forced, sources_wide}
use Rattle.mit_valid.proofs.inference.infer_plain.Goals as goal

operator_is : (plan : PlanOf) (ops : List PlanOp) (op : ℕ) (read : PlanOp) → ops ≡ plan.ops → op < length plan.ops → get_or ops op read ≡ op_at plan op
operator_is plan ops op read same below = ap (λ (list : List PlanOp). get_or list op read) same ∙ get_or_default plan.ops op read no_op below

pub type_given-requires-clause-enough : goal.type_given-requires-clause-enough
type_given-requires-clause-enough c =
    let are = rw c.in-Some.is at c.in_ok-types.ensures in
    let enough = enough_inputs c.args.plan.now c.args.inferred.now c.args.op c.in-Some.types.items c.requires.lists c.requires.op c.requires.plain are in
    rw (operator_is c.args.plan.now c.ops.result.now c.args.op c.index-ops-op.result c.ops.ensures.value c.requires.op, c.deref.ensures.value) enough

pub type_given-requires-clause-wide : goal.type_given-requires-clause-wide
type_given-requires-clause-wide c =
    let are = rw c.in-Some.is at c.in_ok-types.ensures in
    let wide : AreBags c.in-Some.types.items = sources_wide c.args.plan.now c.args.inferred.now c.args.op c.in-Some.types.items c.requires.inferred are in
    subst AreBags (sym c.deref.ensures.value) wide

pub returns-in-Some-2 : goal.returns-in-Some-2
returns-in-Some-2 c =
    let are = rw c.in-Some.is at c.in_ok-types.ensures in
    let given = rw (c.in-Some-2.is, operator_is c.args.plan.now c.ops.result.now c.args.op c.index-ops-op.result c.ops.ensures.value c.requires.op, c.deref.ensures.value) at c.in_ok-found.ensures.given in
    let wide = rw c.in-Some-2.is at c.in_ok-found.ensures.kept in
    plain_forced c.args.plan.now c.args.inferred.now c.args.op c.in-Some.types.items c.in-Some-2.found c.requires.inferred c.requires.op c.requires.plain are given wide

pub returns : goal.returns
returns c =
    let are = rw c.in-Some.is at c.in_ok-types.ensures in
    let none = rw (c.in-None.is, operator_is c.args.plan.now c.ops.result.now c.args.op c.index-ops-op.result c.ops.ensures.value c.requires.op, c.deref.ensures.value) at c.in_ok-found.ensures.given in
    no_types c.args.plan.now c.args.inferred.now c.args.op c.in-Some.types.items c.requires.inferred c.requires.op c.requires.plain are none
