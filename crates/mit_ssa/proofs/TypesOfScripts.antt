-- The plan of an accepted script keeps the conditions on types.
use Rattle.std.proofs.Common.{◌≡◌, ◌∙◌, ◌<◌, ◌+◌, ℕ, zero, suc, List, [], ◌∷◌, length, map, ap, sym, refl, arith, Bool, true, false, Option, Some, None, slice_get, slice_index_or, unwrap_or, Ok}
use Rattle.mit_ops.specs.Results.{bag}
use Rattle.mit_ops.specs.declared.leave.Leave.TheVariants.{End}
use Rattle.mit_ops.specs.declared.types.VarType.{VarType}
use Rattle.mit_plan.specs.Types.{type_at}
use Rattle.mit_plan.specs.Valid.{BranchesDecide, HasTypes, RoutesFit}
use Rattle.mit_script.specs.Accepted.{Known, at_start, check_of, checked, first_type, in_order, is_assigned, type_or_unset, unset}
use Rattle.mit_script.specs.declared.tree.Script.{Script}
use Rattle.mit_ssa.specs.PlanFor.{operators_of, plan_for}
use Rattle.mit_ssa.specs.Woven.{just_left, start_place, weave_of, woven_all, woven_blocks}
use Rattle.mit_ssa.specs.declared.block.Block.{Block}
use Rattle.mit_ssa.proofs.DefinitionsOfScripts.{Ends, ends_with, map_length, none_assigned, start_ready}
use Rattle.mit_ssa.proofs.DefinitionsNumbered.{ops_length}
use Rattle.mit_ssa.proofs.TypesReady.{Agrees, Firsts}
use Rattle.mit_ssa.proofs.TypesOps.{Env, Given, Looks, TypedBlocks, TypedOps, no_branch}
use Rattle.mit_ssa.proofs.TypesWoven.{Typed, block_typed}
use Rattle.mit_ssa.proofs.TypesPlan.{branches_decide, decided_in, has_types, routes_fit, typed_end, typed_plan}

-- ---- the start

found_none : (names : List (List ℕ)) (variable : ℕ) → first_type (at_start names) variable ≡ None
found_none [] variable = refl
found_none (name ∷ names) zero = refl
found_none (name ∷ names) (suc variable) = found_none names variable

start_firsts : (names : List (List ℕ)) (variables : ℕ) → length names ≡ variables → Firsts variables (at_start names)
start_firsts names variables many = record {
  many = map_length (λ name. None) names ∙ many;
  sized = map_length (λ name. false) names ∙ many;
  some = λ variable is. absurd (no_both (is_assigned (map (λ _. false) names) variable) (none_assigned names variable) is);
  ones = λ variable type is. absurd (no_type type (sym (found_none names variable) ∙ is));
}
  where
    no_both : (b : Bool) → b ≡ false → b ≡ true → ⊥
    no_both b not is = cc

    no_type : (type : VarType) → ◌≡◌ {A = Option VarType} None (Some type) → ⊥
    no_type type is = cc

-- what is known at the end are the types of the script
end_agrees : (types : List VarType) (last : Known) → map type_or_unset last.types ≡ types → Agrees types last
end_agrees types last are = λ variable type is.
    ap (λ (ts : List VarType). slice_index_or ts variable unset) (sym are) ∙ at_last last.types variable type is
  where
    at_last : (found : List (Option VarType)) (variable : ℕ) (type : VarType) → unwrap_or (slice_get found variable) None ≡ Some type
        → slice_index_or (map type_or_unset found) variable unset ≡ type
    at_last [] variable type is = absurd cc
    at_last (one ∷ more) zero type is = ap type_or_unset is
    at_last (one ∷ more) (suc variable) type is = at_last more variable type is

-- ---- the whole script

-- types of its operators
pub record HasKinds (blocks : List Block) : Type 0 where
  pub kinds : List VarType
  pub typed : TypedBlocks (type_at kinds) 0 blocks (length kinds)

given_from : (kinds : List VarType) → (look : Looks) → (number : ℕ) → ((k : ℕ) → k < length kinds → look (number + k) ≡ slice_index_or kinds k (bag []))
    → Given look number kinds
unfolding Given
given_from [] look number at = tt
given_from (kind ∷ kinds) look number at = (
  (let e : number ≡ number + 0 = omega arith in ap look e ∙ at 0 (omega arith)),
  given_from kinds look (number + 1) (λ k below. let e : number + 1 + k ≡ number + suc k = omega arith in ap look e ∙ at (suc k) (omega arith)),
)

has_kinds : (script : Script) (types : List VarType) → checked script ≡ Ok types → HasKinds (woven_blocks script types)
unfolding TypedBlocks TypedOps
has_kinds script types accepted = record {
  kinds = typed.kinds;
  typed = typed.carries look given none (just_left End) (length typed.kinds)
      (tt, ((λ branch. absurd (no_branch branch)), (let e = typed.many in omega (arith, e))));
}
  where
    ended : Ends script.names (in_order (map check_of script.body) (at_start script.names)) types
    ended = ends_with script.names (in_order (map check_of script.body) (at_start script.names)) types accepted

    many : length script.names ≡ length types
    many =
        let a = (block_typed types script.body).grows (at_start script.names) ended.last ended.is in
        let b = a.many in
        let c = map_length type_or_unset ended.last.types in
        let d = ap (λ (ts : List VarType). length ts) ended.types_are in
        let e = (start_firsts script.names (length script.names) refl).many in
        omega (arith, b, c, d, e)

    typed : Typed types start_place (woven_all (map (weave_of types) script.body) start_place)
    typed = (block_typed types script.body).typed start_place (at_start script.names) ended.last ended.is
        (start_ready script.names (length types) many) (start_firsts script.names (length types) many) (end_agrees types ended.last ended.types_are)

    look : Looks
    look = type_at typed.kinds

    given : Given look 0 typed.kinds
    given = given_from typed.kinds look 0 (λ k below. let e : 0 + k ≡ k = omega arith in ap look e)

    none : Env types look 0 (λ variable. None)
    none variable operator below is = absurd cc

-- ---- its plan

pub types_kept : (script : Script) (types : List VarType) → checked script ≡ Ok types → HasTypes (plan_for script types)
types_kept script types accepted =
    let blocks = woven_blocks script types in
    let has = has_kinds script types accepted in
    has_types has.kinds (plan_for script types) (operators_of blocks) (typed_plan (type_at has.kinds) blocks (length has.kinds) has.typed)
    (let e = typed_end (type_at has.kinds) 0 blocks (length has.kinds) has.typed in let f = ops_length 0 blocks in omega (arith, e, f))

pub routes_kept : (script : Script) (types : List VarType) → checked script ≡ Ok types → RoutesFit (plan_for script types)
routes_kept script types accepted =
    let blocks = woven_blocks script types in
    let has = has_kinds script types accepted in
    routes_fit (type_at has.kinds) (plan_for script types) (operators_of blocks) (typed_plan (type_at has.kinds) blocks (length has.kinds) has.typed)

pub branches_kept : (script : Script) (types : List VarType) → checked script ≡ Ok types → BranchesDecide (plan_for script types)
branches_kept script types accepted =
    let blocks = woven_blocks script types in
    let has = has_kinds script types accepted in
    branches_decide (type_at has.kinds) (plan_for script types) (operators_of blocks) (typed_plan (type_at has.kinds) blocks (length has.kinds) has.typed)
    (λ block below branch. decided_in (type_at has.kinds) 0 blocks (length has.kinds) has.typed block below branch)
