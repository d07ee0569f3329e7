-- What is refused, but not for want of memory, has no type.
use Rattle.std.proofs.Common.{◌≢◌, rules}
use Rattle.mit_ops.specs.declared.types.OpRefused.TheVariants.{NoMemory}
use Rattle.mit_valid.proofs.ForcedTypes.{refused_by}
use Rattle.mit_valid.proofs.inference.type_given.Goals as goal

pub returns : goal.returns
returns c =
    let other : c.in-Err.field-0 ≢ NoMemory = search rules in
    let scalars = rw (c.in-Some.is, c.split_at.ensures.back, c.from.ensures, c.bag_inputs.ensures) at c.in_ok-captures.ensures in
    let due = rw (c.split_at.ensures.front, c.deref.ensures.value, c.from.ensures, c.bag_inputs.ensures) at c.in-Err.ensures.refused in
    record { given = λ is. refused_by c.args.spec.now c.args.inputs.now c.in-Some.captures.items c.in-Err.field-0 is scalars due other; kept = tt }
