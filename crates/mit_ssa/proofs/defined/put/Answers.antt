use Rattle.std.proofs.Common.{◌∙◌, None, length, ap, arith}
use Rattle.std.proofs.lemmas.List.{length_push}
use Rattle.mit_ssa.specs.Weaving.{looked, putting}
use Rattle.mit_ssa.proofs.Looking.{looked_none, looked_push, looked_set}
use Rattle.mit_ssa.proofs.defined.put.Goals as goal

pub loop-gap-preserved : goal.loop-gap-preserved
loop-gap-preserved c = record {
  same = ap looked c.in_ok-push.ensures.items ∙ (looked_none c.loop-gap.defined.items ∙ c.loop-gap.invariant.same);
  size = let a = ap length c.in_ok-push.ensures.items in let b = length_push c.loop-gap.defined.items None in let d = c.loop-gap.invariant.size in omega (arith, a, b, d);
}

pub returns-then-place-len : goal.returns-then-place-len
returns-then-place-len c =
    looked_set c.loop-gap.defined.items c.args.variable c.args.value (omega arith) ∙ ap (λ d. putting d c.args.variable c.args.value) c.loop-gap.invariant.same

pub returns-in_ok-push-2 : goal.returns-in_ok-push-2
returns-in_ok-push-2 c =
    ap looked c.in_ok-push-2.ensures.items ∙ (looked_push c.loop-gap.defined.items c.args.variable c.args.value (omega arith)
    ∙ ap (λ d. putting d c.args.variable c.args.value) c.loop-gap.invariant.same)
