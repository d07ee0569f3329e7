use Rattle.std.proofs.Common.{◌∙◌, sym, arith}
use Rattle.mit_memory.proofs.Failures.{failures-rise, failures-failed}
use Rattle.mit_memory.proofs.memory.count_call.Goals as goal

pub returns-in-Some-clause-count : goal.returns-in-Some-clause-count
returns-in-Some-clause-count c = rw c.in-Some.ensures.1 (failures-rise _ _)

pub returns-in-Some-clause-failed : goal.returns-in-Some-clause-failed
returns-in-Some-clause-failed c is =
    let hit = sym c.contains.ensures.value ∙ is in
    let rose = failures-failed c.args.fails.now c.args.calls.now (rw c.in-Some.ensures.1 at hit) in
    rw c.in-Some.ensures.1 (omega (arith, rose))
