-- A table of no jump, of half of the jumps twice, and of one jump more than that.
use Rattle.std.proofs.Common.{◌≡◌, ◌∙◌, ◌+◌, ◌/◌, ℕ, List, arith, ap, subst, sym, length}
use Rattle.std.specs.List.{range_with_len}
use Rattle.std.proofs.lemmas.Result.{IfOk-weaker}
use Rattle.mit_plan.specs.declared.plan.PlanBlock.{PlanBlock}
use Rattle.mit_valid.specs.Jumping.{AreLed}
use Rattle.mit_valid.proofs.Jumped.{led_none, led_once_more, led_twice}
use Rattle.mit_valid.proofs.jumps.+led.Goals as goal

pub returns-then-steps-eq0 : goal.returns-then-steps-eq0
returns-then-steps-eq0 t c =
    let plan = c.args.plan.now in
    let none = c.if-steps-eq0.true in
    let blocks = c.blocks-then-steps-eq0.ensures.value in
    IfOk-weaker c.each_itself.result _ _
    (λ table is. subst (λ (steps : ℕ). AreLed plan steps table.items) (sym none)
    (led_none plan table.items (is ∙ ap (λ (list : List PlanBlock). range_with_len 0 (length list)) blocks))) c.each_itself.ensures

pub returns-then-steps-eq0-2 : goal.returns-then-steps-eq0-2
returns-then-steps-eq0-2 t c =
    let half = c.args.steps / 2 in
    let even = c.in_ok-even.even.items in
    let whole : half + half ≡ c.args.steps = omega (arith, c.if-steps-eq0-2.true) in
    subst (λ (steps : ℕ). AreLed c.args.plan.now steps even) whole
    (led_twice c.args.plan.now half c.in_ok-half.half.items c.deref.result.now c.deref-2.result.now even c.in_ok-half.ensures c.deref.ensures.value c.deref-2.ensures.value c.in_ok-even.ensures)

pub stepped-requires : goal.stepped-requires
stepped-requires t c =
    let half = c.args.steps / 2 in
    let even = c.in_ok-even.even.items in
    let led = led_twice c.args.plan.now half c.in_ok-half.half.items c.deref.result.now c.deref-2.result.now even c.in_ok-half.ensures c.deref.ensures.value c.deref-2.ensures.value c.in_ok-even.ensures in
    rw c.deref-else-steps-eq0-2.ensures.value led.within

pub returns : goal.returns
returns t c =
    let plan = c.args.plan.now in
    let half = c.args.steps / 2 in
    let even = c.in_ok-even.even.items in
    let led = led_twice plan half c.in_ok-half.half.items c.deref.result.now c.deref-2.result.now even c.in_ok-half.ensures c.deref.ensures.value c.deref-2.ensures.value c.in_ok-even.ensures in
    let read = c.deref-else-steps-eq0-2 in
    let whole : half + half + 1 ≡ c.args.steps = omega (arith, c.if-steps-eq0-2.false) in
    IfOk-weaker c.stepped.result _ _
    (λ longer is. subst (λ (steps : ℕ). AreLed plan steps longer.items) whole
    (led_once_more plan (half + half) read.result.now longer.items c.requires (subst (AreLed plan (half + half)) (sym read.ensures.value) led) is)) c.stepped.ensures
