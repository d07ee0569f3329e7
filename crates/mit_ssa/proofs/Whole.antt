-- A whole script: its blocks, how many there are, and when its plan is too large.
use Rattle.std.proofs.Common.{◌≡◌, ◌<◌, ◌^◌, ℕ, List, [], length, map, ap, subst, arith, inl, Option}
use Rattle.mit_ops.specs.declared.leave.Leave.TheVariants.{End}
use Rattle.mit_ops.specs.declared.types.VarType.{VarType}
use Rattle.mit_plan.specs.declared.plan.TheConstants.{MAX_OPS}
use Rattle.mit_script.specs.Trees.{count_of_all}
use Rattle.mit_script.specs.declared.tree.Script.{Script}
use Rattle.mit_script.specs.declared.tree.Stmt.{Stmt}
use Rattle.mit_ssa.specs.PlanFor.{TellsLarge, plan_for}
use Rattle.mit_ssa.specs.Weaving.{IsAt, StopsWeaving, Weaves, builder_place, closed_blocks, looked}
use Rattle.mit_ssa.specs.Woven.{Woven, just_left, start_place, weave_adds, weave_counts, weave_of, woven_all, woven_blocks}
use Rattle.mit_ssa.specs.declared.build.Builder.{Builder}
use Rattle.mit_ssa.specs.declared.stop.PlanStop.{PlanStop}
use Rattle.mit_ssa.specs.declared.stop.PlanStop.TheVariants.{TooLarge, NoMemory}
use Rattle.mit_ssa.proofs.Counted.{block_counted, size_none}
use Rattle.mit_ssa.proofs.Laid.{part_is}
use Rattle.mit_ssa.proofs.Numbered.{length-ops_from}

abbrev woven_body : Script → List VarType → Woven
woven_body script types = woven_all (map (weave_of types) script.body) start_place

-- as many operators as there are numbers, and at least one for each statement
operators_are : (script : Script) (types : List VarType) → length (plan_for script types).ops ≡ (woven_body script types).operator
operators_are script types =
    let a = length-ops_from 0 (woven_blocks script types) in
    let b = (block_counted types script.body).size start_place (just_left End) in
    let c = size_none End in
    omega (arith, a, b, c)

pub many_large : (script : Script) (types : List VarType) → MAX_OPS < count_of_all script.body → TellsLarge (plan_for script types) TooLarge
many_large script types many =
    let counted = block_counted types script.body in
    let a = counted.grows start_place in let b = counted.same in let c = operators_are script types in
    inl (omega (arith, many, a, b, c))

pub whole_stops : (script : Script) (types : List VarType) (start : Builder) (stop : PlanStop) → IsAt start_place start
    → StopsWeaving (woven_all (map (weave_of types) script.body) (builder_place start)).operator stop → TellsLarge (plan_for script types) stop
whole_stops script types start TooLarge fresh stops =
    let a = operators_are script types in
    let b = ap (λ at. (woven_all (map (weave_of types) script.body) at).operator) fresh.there in
    inl (omega (arith, stops, a, b))
whole_stops script types start NoMemory fresh stops = stops

pub whole_is : (script : Script) (types : List VarType) (start last : Builder) → IsAt start_place start
    → Weaves (weave_counts (map (weave_of types) script.body)) (weave_adds (map (weave_of types) script.body)) (woven_all (map (weave_of types) script.body) (builder_place start)) start last
    → closed_blocks End last ≡ woven_blocks script types
whole_is script types start last fresh weaves =
    part_is (weave_counts (map (weave_of types) script.body)) (weave_adds (map (weave_of types) script.body)) (woven_body script types) End start_place start last fresh
    (subst (λ at. Weaves (weave_counts (map (weave_of types) script.body)) (weave_adds (map (weave_of types) script.body)) (woven_all (map (weave_of types) script.body) at) start last)
    fresh.there weaves)

pub whole_few : (script : Script) (types : List VarType) (start last : Builder) → IsAt start_place start
    → Weaves (weave_counts (map (weave_of types) script.body)) (weave_adds (map (weave_of types) script.body)) (woven_all (map (weave_of types) script.body) (builder_place start)) start last
    → length (woven_blocks script types) < 2 ^ 32
whole_few script types start last fresh weaves =
    let counted = block_counted types script.body in
    let a = counted.blocks start_place (just_left End) in
    let b = counted.few in
    let c = counted.grows start_place in
    let d = weaves.small.operators in
    let e = weaves.operator in
    let f = ap (λ at. (woven_all (map (weave_of types) script.body) at).operator) fresh.there in
    omega (arith, a, b, c, d, e, f)

-- the same types and statements
pub whole_woven : (types types' : List VarType) (body body' : List Stmt) (start last : Builder) → types ≡ types' → body ≡ body'
    → Weaves (weave_counts (map (weave_of types) body)) (weave_adds (map (weave_of types) body)) (woven_all (map (weave_of types) body) (builder_place start)) start last
    → Weaves (weave_counts (map (weave_of types') body')) (weave_adds (map (weave_of types') body')) (woven_all (map (weave_of types') body') (builder_place start)) start last
whole_woven types types' body body' start last same same' woven =
    subst (λ stmts. Weaves (weave_counts (map (weave_of types') stmts)) (weave_adds (map (weave_of types') stmts)) (woven_all (map (weave_of types') stmts) (builder_place start)) start last) same'
    (subst (λ some. Weaves (weave_counts (map (weave_of some) body)) (weave_adds (map (weave_of some) body)) (woven_all (map (weave_of some) body) (builder_place start)) start last) same woven)

pub whole_fresh : (defined : List (Option ℕ)) (start : Builder) → defined ≡ []
    → IsAt (record { block = 0; operator = 0; statement = 1; defined = looked defined }) start → IsAt start_place start
whole_fresh defined start none fresh = subst (λ list. IsAt (record { block = 0; operator = 0; statement = 1; defined = looked list }) start) none fresh
