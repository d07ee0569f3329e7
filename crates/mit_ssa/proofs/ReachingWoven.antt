-- The blocks of operators of a script stand beside those of its steps.
use Rattle.std.proofs.Common.{◌≡◌, ◌+◌, ℕ, List, [], ◌∷◌, ◌++◌, map, sym, subst, arith, All, flat_map, length, true, false}
use Rattle.std.proofs.lemmas.List.Elements.{All-head, All-tail}
use Rattle.mit_ops.specs.declared.kinds.OpSpec.{OpSpec}
use Rattle.mit_ops.specs.declared.types.VarType.{VarType}
use Rattle.mit_script.specs.Accepted.{Check, Known, branched, check_of, check_step, decided_by, in_order, looped, with_assigned}
use Rattle.mit_script.specs.Trees.{Head, assigns, head_step, heads_in, is_scalar, is_write, writes}
use Rattle.mit_script.specs.Trees.{decides}
use Rattle.mit_script.specs.declared.tree.Stmt.{Stmt, roll-Stmt}
use Rattle.mit_script.specs.declared.tree.Stmt.TheFolds.{fold-roll-Stmt, ind-Stmt, map-Stmt}
use Rattle.mit_script.specs.declared.tree.Stmt.TheOpen.{Stmt-F}
use Rattle.mit_script.specs.declared.tree.Stmt.TheOpen as layer
use Rattle.mit_cfg.specs.Blocks.{Cut, Stretch, cut_in_turn, cut_of, cut_step}
use Rattle.mit_cfg.specs.Blocks.{cut_adds, cut_counts}
use Rattle.mit_ssa.specs.Woven.{Weave, WeavePlace, weave_adds, weave_counts, weave_of, weave_step, woven_branch, woven_loop}
use Rattle.mit_ssa.proofs.DefinitionsPhis.{phis_stay}
use Rattle.mit_ssa.proofs.DefinitionsReady.{Ready, beside_ready, decides_known, passed_ready, rejoins_known, then_known, turns_known}
use Rattle.mit_ssa.proofs.DefinitionsWoven.{Flows, all_weave, beside_of, block_flows, inside_of, one_flows, phis_at, turn_of}
use Rattle.mit_ssa.proofs.ReachingBranches.{code_branched, if_goes}
use Rattle.mit_ssa.proofs.ReachingLoops.{code_looped, while_goes}
use Rattle.mit_ssa.proofs.ReachingSteps.{AllGo, Goes, GoesBeside, assign_goes, more_go, none_go, write_goes}
use Rattle.mit_ssa.proofs.StructureOperators.{all_back, all_front}

-- ---- an `if`, and a `while`

if_go : (types : List VarType) (operator : OpSpec) (args : List ℕ) (on_true on_false : List Weave) (true_cuts false_cuts : List Cut) (true_checks false_checks : List Check)
    → is_scalar operator ≡ true → Flows (length types) (all_weave on_true) (in_order true_checks) → Flows (length types) (all_weave on_false) (in_order false_checks)
    → AllGo (length types) on_true true_cuts true_checks → AllGo (length types) on_false false_cuts false_checks
    → GoesBeside (length types) (weave_step types (layer.If operator args on_true on_false)) (cut_step (layer.If operator args true_cuts false_cuts))
    (check_step (layer.If operator args true_checks false_checks))
if_go types operator args on_true on_false true_cuts false_cuts true_checks false_checks scalar true_flows false_flows first second = record {
  added = (let a = first.added in let b = second.added in omega (arith, a, b));
  count = (let a = first.count in let b = second.count in omega (arith, a, b));
  goes = λ place knows knows_after is ready.
      let parts = then_known (decided_by operator args) (branched true_checks false_checks) knows knows_after is in
      let decided = decides_known operator args knows parts.middle parts.first in
      let inside_ready = subst (λ (k : Known). Ready (length types) k place.defined) decided.is (passed_ready (length types) knows place.defined ready) in
      let joins = rejoins_known true_checks false_checks parts.middle knows_after parts.second in
      cut_to place (if_goes types operator args on_true on_false place knows (cut_in_turn true_cuts (place.block + 1) (place.statement + 1))
      (cut_in_turn false_cuts (place.block + 2 + weave_adds on_true) (place.statement + 1 + weave_counts on_true)) scalar (true_flows.ends (inside_of place))
      (false_flows.ends (beside_of on_true place)) ready decided.args_known
      (first.goes (inside_of place) parts.middle joins.one joins.first inside_ready)
      (second.goes (beside_of on_true place) (with_assigned parts.middle.assigned joins.one) joins.other joins.second
      (beside_ready (length types) parts.middle joins.one place.defined inside_ready)));
}
  where
    cut_so : WeavePlace → ℕ → ℕ → ℕ → Stretch → Stretch
    cut_so place true_adds false_adds true_counts =
        code_branched place.statement operator args place.block (place.block + 2 + true_adds) (place.block + 2 + true_adds + 1 + false_adds)
        (cut_in_turn true_cuts (place.block + 1) (place.statement + 1)) (cut_in_turn false_cuts (place.block + 2 + true_adds) (place.statement + 1 + true_counts))

    Whole : WeavePlace → (Stretch → Stretch) → Type 0
    Whole place = Goes (length types) place (3 + weave_adds on_true + weave_adds on_false) (woven_branch types operator args on_true on_false place)

    cut_to : (place : WeavePlace) → Whole place (cut_so place (weave_adds on_true) (weave_adds on_false) (weave_counts on_true))
        → Whole place ((cut_step (layer.If operator args true_cuts false_cuts)).onto place.block place.statement)
    cut_to place goes =
        subst (λ (n : ℕ). Whole place (cut_so place n (cut_adds false_cuts) (cut_counts true_cuts))) (sym first.added)
        (subst (λ (n : ℕ). Whole place (cut_so place (weave_adds on_true) n (cut_counts true_cuts))) (sym second.added)
        (subst (λ (n : ℕ). Whole place (cut_so place (weave_adds on_true) (weave_adds on_false) n)) (sym first.count) goes))

while_go : (types : List VarType) (operator : OpSpec) (args : List ℕ) (body : List Weave) (cuts : List Cut) (checks : List Check) → is_scalar operator ≡ true
    → Flows (length types) (all_weave body) (in_order checks) → AllGo (length types) body cuts checks
    → GoesBeside (length types) (weave_step types (layer.While operator args body)) (cut_step (layer.While operator args cuts))
    (check_step (layer.While operator args checks))
while_go types operator args body cuts checks scalar flows inside = record {
  added = (let a = inside.added in omega (arith, a));
  count = (let a = inside.count in omega (arith, a));
  goes = λ place knows knows_after is ready.
      let parts = then_known (decided_by operator args) (looped checks) knows knows_after is in
      let decided = decides_known operator args knows parts.middle parts.first in
      let turns = turns_known checks parts.middle knows_after parts.second in
      let inside_ready = subst (λ (k : Known). Ready (length types) k (turn_of types body place).defined) decided.is
      (passed_ready (length types) knows (turn_of types body place).defined (looped_ready place knows ready)) in
      subst (λ (n : ℕ). Goes (length types) place (3 + weave_adds body) (woven_loop types operator args body place)
      (code_looped place.statement operator args place.block (place.block + 3 + n) (cut_in_turn cuts (place.block + 2) (place.statement + 1)))) (sym inside.added)
      (while_goes types operator args body place knows (cut_in_turn cuts (place.block + 2) (place.statement + 1)) scalar (flows.ends (turn_of types body place))
      (looped_ready place knows ready) decided.args_known
      (inside.goes (turn_of types body place) parts.middle turns.last turns.first inside_ready));
}
  where
    looped_ready : (place : WeavePlace) (knows : Known) → Ready (length types) knows place.defined → Ready (length types) knows (turn_of types body place).defined
    looped_ready place knows ready = record {
      many = ready.many;
      each = λ variable is. phis_stay place.defined place.operator (phis_at types body place) variable (ready.each variable is);
    }

-- ---- each statement

-- what is assigned is not written, and a condition is a scalar
abbrev pub IsProperHead : Head → Type 0
IsProperHead (assigns target operator args) = is_write operator ≡ false
IsProperHead (writes operator args) = Unit {0}
IsProperHead (decides operator args) = is_scalar operator ≡ true

abbrev StandsBeside : List VarType → Stmt → Type 0
StandsBeside types stmt = All IsProperHead (heads_in stmt) → GoesBeside (length types) (weave_of types stmt) (cut_of stmt) (check_of stmt)

abbrev Proved : List VarType → Type 0
Proved types = (stmt : Stmt) × StandsBeside types stmt

abbrev only : (types : List VarType) → Proved types → Stmt
only types proved = proved.0

inner_stand : (types : List VarType) (block : List (Proved types)) → All IsProperHead (flat_map (λ heads. heads) (map heads_in (map (only types) block)))
    → AllGo (length types) (map (weave_of types) (map (only types) block)) (map cut_of (map (only types) block)) (map check_of (map (only types) block))
inner_stand types [] plain = none_go (length types)
inner_stand types (first ∷ later) plain =
    let heads = flat_map (λ heads. heads) (map heads_in (map (only types) later)) in
    more_go (length types) (weave_of types first.0) (map (weave_of types) (map (only types) later)) (cut_of first.0) (map cut_of (map (only types) later))
    (check_of first.0) (map check_of (map (only types) later)) (one_flows types first.0) (first.1 (all_front IsProperHead (heads_in first.0) heads plain))
    (inner_stand types later (all_back IsProperHead (heads_in first.0) heads plain))

-- the equations of the folds
rolled : (types : List VarType) (one : Stmt-F Stmt)
    → (All IsProperHead (head_step (map-Stmt Stmt (List Head) heads_in one))
    → GoesBeside (length types) (weave_step types (map-Stmt Stmt Weave (weave_of types) one)) (cut_step (map-Stmt Stmt Cut cut_of one)) (check_step (map-Stmt Stmt Check check_of one)))
    → StandsBeside types (roll-Stmt one)
rolled types one goes plain =
    rw (fold-roll-Stmt Weave (weave_step types) one, fold-roll-Stmt Cut cut_step one, fold-roll-Stmt Check check_step one)
    (goes (subst (All IsProperHead) (fold-roll-Stmt (List Head) head_step one) plain))

layer_stands : (types : List VarType) (one : Stmt-F (Proved types)) → StandsBeside types (roll-Stmt (map-Stmt (Proved types) Stmt (only types) one))
layer_stands types (layer.Assign target operator args) =
    rolled types (layer.Assign target operator args) (λ plain. assign_goes types target operator args (All-head IsProperHead (assigns target operator args) [] plain))
layer_stands types (layer.Write operator args) = rolled types (layer.Write operator args) (λ plain. write_goes types operator args)
layer_stands types (layer.If operator args on_true on_false) =
    rolled types (layer.If operator args (map (only types) on_true) (map (only types) on_false))
    (λ plain.
    let true_heads = flat_map (λ heads. heads) (map heads_in (map (only types) on_true)) in
    let false_heads = flat_map (λ heads. heads) (map heads_in (map (only types) on_false)) in
    let inside = All-tail IsProperHead (decides operator args) (true_heads ++ false_heads) plain in
    if_go types operator args (map (weave_of types) (map (only types) on_true)) (map (weave_of types) (map (only types) on_false))
    (map cut_of (map (only types) on_true)) (map cut_of (map (only types) on_false)) (map check_of (map (only types) on_true)) (map check_of (map (only types) on_false))
    (All-head IsProperHead (decides operator args) (true_heads ++ false_heads) plain)
    (block_flows types (map (only types) on_true)) (block_flows types (map (only types) on_false))
    (inner_stand types on_true (all_front IsProperHead true_heads false_heads inside)) (inner_stand types on_false (all_back IsProperHead true_heads false_heads inside)))
layer_stands types (layer.While operator args body) =
    rolled types (layer.While operator args (map (only types) body))
    (λ plain.
    let inside = flat_map (λ heads. heads) (map heads_in (map (only types) body)) in
    while_go types operator args (map (weave_of types) (map (only types) body)) (map cut_of (map (only types) body)) (map check_of (map (only types) body))
    (All-head IsProperHead (decides operator args) inside plain) (block_flows types (map (only types) body))
    (inner_stand types body (All-tail IsProperHead (decides operator args) inside plain)))

one_stands : (types : List VarType) (stmt : Stmt) → StandsBeside types stmt
one_stands types = ind-Stmt (StandsBeside types) (λ one inner same. subst (λ some. StandsBeside types (roll-Stmt some)) same (layer_stands types inner))

pub block_stands : (types : List VarType) (block : List Stmt) → All IsProperHead (flat_map heads_in block)
    → AllGo (length types) (map (weave_of types) block) (map cut_of block) (map check_of block)
block_stands types [] plain = none_go (length types)
block_stands types (first ∷ later) plain =
    more_go (length types) (weave_of types first) (map (weave_of types) later) (cut_of first) (map cut_of later) (check_of first) (map check_of later)
    (one_flows types first) (one_stands types first (all_front IsProperHead (heads_in first) (flat_map heads_in later) plain))
    (block_stands types later (all_back IsProperHead (heads_in first) (flat_map heads_in later) plain))
