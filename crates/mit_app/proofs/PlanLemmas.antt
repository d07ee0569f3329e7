-- The size of a plan: what the test answers, and what is due then.
use Rattle.std.proofs.Common.{◌≡◌, ◌*◌, length, refl, inl, inr}
use Rattle.std.specs.Prelude.{◌⊎◌, ◌↔◌, Bool, true, false, nat_lt, ◌||◌}
use Rattle.std.proofs.lemmas.Bool.{lt-ltb, ltb-true, or_left, or_right}
use Rattle.mit_plan.specs.Plans.{PlanOf}
use Rattle.mit_plan.specs.declared.plan.TheConstants.{MAX_OPS}
use Rattle.mit_ssa.specs.PlanFor.{IsLarge}
use Rattle.mit_app.specs.Due.{is_too_large}

or_either : (x y : Bool) → (x || y) ≡ true → (x ≡ true) ⊎ (y ≡ true)
or_either true y e = inl refl
or_either false y e = inr e

is_large_of : (plan : PlanOf) → IsLarge plan → is_too_large plan ≡ true
is_large_of plan (inl ops) = or_left (nat_lt MAX_OPS (length plan.ops)) (nat_lt 1048576 (256 * length plan.edges)) (lt-ltb MAX_OPS (length plan.ops) ops)
is_large_of plan (inr edges) =
    or_right (nat_lt MAX_OPS (length plan.ops)) (nat_lt 1048576 (256 * length plan.edges)) (lt-ltb 1048576 (256 * length plan.edges) edges)

of_is_large : (plan : PlanOf) → is_too_large plan ≡ true → IsLarge plan
of_is_large plan large = elim (or_either (nat_lt MAX_OPS (length plan.ops)) (nat_lt 1048576 (256 * length plan.edges)) large) [
  | inl ops ↦ inl (ltb-true MAX_OPS (length plan.ops) ops)
  | inr edges ↦ inr (ltb-true 1048576 (256 * length plan.edges) edges)
]

-- the test answers true exactly of plans that are too large
pub sizes_agree : (plan : PlanOf) → (is_too_large plan ≡ true) ↔ IsLarge plan
sizes_agree plan = (of_is_large plan, is_large_of plan)
