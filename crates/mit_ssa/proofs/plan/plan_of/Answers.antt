use Rattle.std.proofs.Common.{◌≡◌, ◌∙◌, ◌<◌, ◌^◌, ℕ, ap, sym, subst, map, length}
use Rattle.std.specs.Prelude.{IfOk, Result, Ok, Err}
use Rattle.std.proofs.lemmas.Result.{IfErr-weaker, IfOk-weaker, err_from_is_err_and}
use Rattle.mit_plan.specs.Valid.{IsValid}
use Rattle.mit_plan.specs.declared.plan.TheConstants.{MAX_OPS}
use Rattle.mit_script.specs.Accepted.{checked}
use Rattle.mit_script.specs.Trees.{IsFormed, statements_of}
use Rattle.mit_script.specs.declared.tree.Script.{Script}
use Rattle.mit_ssa.specs.PlanFor.{IsLarge, TellsLarge, plan_of_blocks}
use Rattle.mit_ssa.specs.Weaving.{StopsWeaving, builder_place}
use Rattle.mit_ssa.specs.Woven.{weave_of, woven_all}
use Rattle.mit_ssa.proofs.Whole.{many_large, whole_few, whole_fresh, whole_is, whole_stops, whole_woven}
use Rattle.mit_ssa.proofs.plan.plan_of.Goals as goal

pub returns-then-statements-gt-MAX_OPS-clause-large : goal.returns-then-statements-gt-MAX_OPS-clause-large
returns-then-statements-gt-MAX_OPS-clause-large c =
    many_large c.args.typed.now.script c.args.typed.now.types
    (subst (λ (n : ℕ). MAX_OPS < n) (c.statements.ensures ∙ ap statements_of c.script-script.ensures.value) c.if-statements-gt-MAX_OPS.true)

pub returns-in_err-last-clause-large : goal.returns-in_err-last-clause-large
returns-in_err-last-clause-large c =
    let body = c.as_slice.ensures ∙ ap (λ (script : Script). script.body) c.script-script.ensures.value in
    let fresh = whole_fresh c.new.result.items c.start-start.result c.new.ensures.items c.start-start.ensures in
    let p = err_from_is_err_and c.from_residual.result c.from_residual.ensures.1 in
    rw (p.1, p.2)
    (whole_stops c.args.typed.now.script c.args.typed.now.types c.start-start.result c.in_err-last.field-0.0 fresh
    (subst (λ (n : ℕ). StopsWeaving n c.in_err-last.field-0.0)
    (λ i. (woven_all (map (weave_of (c.types.ensures.value i)) (body i)) (builder_place c.start-start.result)).operator) c.in_err-last.ensures.large))

pub numbered-requires : goal.numbered-requires
numbered-requires c =
    let body = c.as_slice.ensures ∙ ap (λ (script : Script). script.body) c.script-script.ensures.value in
    let fresh = whole_fresh c.new.result.items c.start-start.result c.new.ensures.items c.start-start.ensures in
    let woven = whole_woven c.types.result.now c.args.typed.now.types c.as_slice.result.now c.args.typed.now.script.body c.start-start.result c.in_ok-last.last
    c.types.ensures.value body c.in_ok-last.ensures.woven in
    let are = c.in_ok-closed.ensures ∙ whole_is c.args.typed.now.script c.args.typed.now.types c.start-start.result c.in_ok-last.last fresh woven in
    subst (λ (n : ℕ). n < 2 ^ 32) (sym (ap length are))
    (whole_few c.args.typed.now.script c.args.typed.now.types c.start-start.result c.in_ok-last.last fresh woven)

pub returns-clause-plan : goal.returns-clause-plan
returns-clause-plan c =
    let body = c.as_slice.ensures ∙ ap (λ (script : Script). script.body) c.script-script.ensures.value in
    let fresh = whole_fresh c.new.result.items c.start-start.result c.new.ensures.items c.start-start.ensures in
    let woven = whole_woven c.types.result.now c.args.typed.now.types c.as_slice.result.now c.args.typed.now.script.body c.start-start.result c.in_ok-last.last
    c.types.ensures.value body c.in_ok-last.ensures.woven in
    let are = c.in_ok-closed.ensures ∙ whole_is c.args.typed.now.script c.args.typed.now.types c.start-start.result c.in_ok-last.last fresh woven in
    IfOk-weaker c.numbered.result (λ plan. plan ≡ plan_of_blocks c.in_ok-closed.field-0.items) _ (λ plan is. is ∙ ap plan_of_blocks are) c.numbered.ensures.plan

pub returns-clause-large : goal.returns-clause-large
returns-clause-large c =
    let body = c.as_slice.ensures ∙ ap (λ (script : Script). script.body) c.script-script.ensures.value in
    let fresh = whole_fresh c.new.result.items c.start-start.result c.new.ensures.items c.start-start.ensures in
    let woven = whole_woven c.types.result.now c.args.typed.now.types c.as_slice.result.now c.args.typed.now.script.body c.start-start.result c.in_ok-last.last
    c.types.ensures.value body c.in_ok-last.ensures.woven in
    let are = c.in_ok-closed.ensures ∙ whole_is c.args.typed.now.script c.args.typed.now.types c.start-start.result c.in_ok-last.last fresh woven in
    IfErr-weaker c.numbered.result (TellsLarge (plan_of_blocks c.in_ok-closed.field-0.items)) _
    (λ stop large. subst (λ blocks. TellsLarge (plan_of_blocks blocks) stop) are large) c.numbered.ensures.large

-- what holds of a value by two facts on it
by_both : {T E : Type 0} {P Q R : T → Type 0} (r : Result T E) → ((x : T) → P x → Q x → R x) → IfOk r P → IfOk r Q → IfOk r R
by_both (Ok x) next p q = next x p q
by_both (Err why) next p q = tt

pub returns-clause-valid : goal.returns-clause-valid
returns-clause-valid c =
    let formed = subst IsFormed c.script-script.ensures.value c.script-script.ensures.formed in
    let accepted = subst (λ types. checked c.args.typed.now.script ≡ Ok types) c.types.ensures.value c.types.ensures.accepted in
    by_both c.numbered.result
    (λ plan is small. subst IsValid (sym is)
    (c.validity_law.ensures c.args.typed.now.script c.args.typed.now.types formed accepted (subst (λ plan. IsLarge plan → ⊥) is small)))
    (returns-clause-plan c) c.numbered.ensures.fits
