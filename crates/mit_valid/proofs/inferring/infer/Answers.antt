-- One type more is inferred.
use Rattle.std.proofs.Common.{◌≡◌, ◌<◌, None, arith, length, sym}
use Rattle.mit_valid.specs.Inferred.{inferred_at}
use Rattle.mit_valid.proofs.InferredTypes.{fewer_left, none_read, one_type_more}
use Rattle.mit_valid.proofs.inferring.infer.Goals as goal

pub returns-in-Is : goal.returns-in-Is
returns-in-Is c =
    let plan = c.args.plan.now in
    let inferred = c.args.inferred.now.items in
    let many = c.requires.inferred.many in
    let some = c.requires.op in
    let below : c.args.op < length inferred = omega (arith, many, some) in
    let new : inferred_at inferred c.args.op ≡ None = none_read inferred c.args.op c.index.result.now below c.index.ensures (sym c.if-is_some.ensures) in
    let forced = rw (c.in-Is.is, c.deref.ensures.value) at c.in_ok-infer_one.ensures in
    (one_type_more plan inferred c.args.op c.in-Is.found c.requires.inferred some new forced, fewer_left inferred c.args.op c.in-Is.found below new)
