-- What statements don't assign stays as it is.
use Rattle.std.proofs.Common.{◌≡◌, ◌∙◌, ℕ, List, [], ◌∷◌, length, map, subst, refl, false, ◌&&◌, ◌||◌, Option, is_some}
use Rattle.std.specs.List.{range_with_len}
use Rattle.std.proofs.lemmas.Bool.{or_parts}
use Rattle.mit_ops.specs.declared.kinds.OpSpec.{OpSpec}
use Rattle.mit_ops.specs.declared.types.VarType.{VarType}
use Rattle.mit_script.specs.declared.tree.Stmt.{Stmt, roll-Stmt}
use Rattle.mit_script.specs.declared.tree.Stmt.TheFolds.{fold-roll-Stmt, ind-Stmt, map-Stmt}
use Rattle.mit_script.specs.declared.tree.Stmt.TheOpen.{Stmt-F}
use Rattle.mit_script.specs.declared.tree.Stmt.TheOpen as layer
use Rattle.mit_ssa.specs.Woven.{Defined, Weave, WeavePlace, assigned_in, join_phis, loop_phis, on_both, place_after, weave_of, weave_step, with_phis, woven_all}
use Rattle.mit_ssa.proofs.DefinitionsEnds.{both_same}
use Rattle.mit_ssa.proofs.DefinitionsPhis.{filter_among, phis_keep}
use Rattle.mit_ssa.proofs.DefinitionsWoven.{beside_of, inside_of}

abbrev Keeps : Weave → Type 0
Keeps weave = (place : WeavePlace) (variable : ℕ) → weave.assigns variable ≡ false → (weave.weave place).defined variable ≡ place.defined variable

abbrev KeepAll : List Weave → Type 0
KeepAll weaves = (place : WeavePlace) (variable : ℕ) → assigned_in weaves variable ≡ false → (woven_all weaves place).defined variable ≡ place.defined variable

none_keep : KeepAll []
unfolding woven_all
none_keep place variable never = refl

more_keep : (weave : Weave) (weaves : List Weave) → Keeps weave → KeepAll weaves → KeepAll (weave ∷ weaves)
unfolding woven_all
more_keep weave weaves first later place variable never =
    let parts = or_parts (weave.assigns variable) (assigned_in weaves variable) never in
    later (place_after place weave (weave.weave place)) variable parts.1 ∙ first place variable parts.0

-- what has no phi after an `if`
if_keeps : (variables number : ℕ) (on_true on_false : List Weave) (one two : Defined) (variable : ℕ) (was : Option ℕ)
    → (assigned_in on_true variable || assigned_in on_false variable) ≡ false → one variable ≡ was → two variable ≡ was
    → with_phis (on_both one two) number (join_phis variables on_true on_false one two) variable ≡ was
if_keeps variables number on_true on_false one two variable was never first second =
    phis_keep (on_both one two) number (join_phis variables on_true on_false one two) variable
    (filter_among (λ v. (assigned_in on_true v || assigned_in on_false v) && is_some (one v) && is_some (two v)) (range_with_len 0 variables) variable
    (rw never refl))
    ∙ both_same (one variable) (two variable) was first second

-- what has no phi in a loop
pub loop_keeps : (variables number : ℕ) (body : List Weave) (defined : Defined) (variable : ℕ) → assigned_in body variable ≡ false
    → with_phis defined number (loop_phis variables body defined) variable ≡ defined variable
loop_keeps variables number body defined variable never =
    phis_keep defined number (loop_phis variables body defined) variable
    (filter_among (λ v. assigned_in body v && is_some (defined v)) (range_with_len 0 variables) variable (rw never refl))

assign_keeps : (types : List VarType) (target : ℕ) (operator : OpSpec) (args : List ℕ) → Keeps (weave_step types (layer.Assign target operator args))
assign_keeps types target operator args place variable never = rw never refl

branched_keeps : (types : List VarType) (operator : OpSpec) (args : List ℕ) (on_true on_false : List Weave) → KeepAll on_true → KeepAll on_false
    → Keeps (weave_step types (layer.If operator args on_true on_false))
branched_keeps types operator args on_true on_false first second place variable never =
    let parts = or_parts (assigned_in on_true variable) (assigned_in on_false variable) never in
    let inside = inside_of place in
    let beside = beside_of on_true place in
    if_keeps (length types) (woven_all on_false beside).operator on_true on_false (woven_all on_true inside).defined (woven_all on_false beside).defined variable
    (place.defined variable) never (first inside variable parts.0) (second beside variable parts.1)

looped_keeps : (types : List VarType) (operator : OpSpec) (args : List ℕ) (body : List Weave) → Keeps (weave_step types (layer.While operator args body))
looped_keeps types operator args body place variable never = loop_keeps (length types) place.operator body place.defined variable never

-- ---- each statement

abbrev DoesKeep : List VarType → Stmt → Type 0
DoesKeep types stmt = Keeps (weave_of types stmt)

abbrev Proved : List VarType → Type 0
Proved types = (stmt : Stmt) × DoesKeep types stmt

abbrev only : (types : List VarType) → Proved types → Stmt
only types proved = proved.0

inner_keep : (types : List VarType) (block : List (Proved types)) → KeepAll (map (weave_of types) (map (only types) block))
inner_keep types [] = none_keep
inner_keep types (first ∷ later) = more_keep (weave_of types first.0) (map (weave_of types) (map (only types) later)) first.1 (inner_keep types later)

rolled : (types : List VarType) (one : Stmt-F Stmt) → Keeps (weave_step types (map-Stmt Stmt Weave (weave_of types) one)) → DoesKeep types (roll-Stmt one)
rolled types one keeps = rw (fold-roll-Stmt Weave (weave_step types) one) keeps

layer_keeps : (types : List VarType) (one : Stmt-F (Proved types)) → DoesKeep types (roll-Stmt (map-Stmt (Proved types) Stmt (only types) one))
layer_keeps types (layer.Assign target operator args) = rolled types (layer.Assign target operator args) (assign_keeps types target operator args)
layer_keeps types (layer.Write operator args) = rolled types (layer.Write operator args) (λ place variable never. refl)
layer_keeps types (layer.If operator args on_true on_false) =
    rolled types (layer.If operator args (map (only types) on_true) (map (only types) on_false))
    (branched_keeps types operator args (map (weave_of types) (map (only types) on_true)) (map (weave_of types) (map (only types) on_false))
    (inner_keep types on_true) (inner_keep types on_false))
layer_keeps types (layer.While operator args body) =
    rolled types (layer.While operator args (map (only types) body)) (looped_keeps types operator args (map (weave_of types) (map (only types) body)))

one_keeps : (types : List VarType) (stmt : Stmt) → DoesKeep types stmt
one_keeps types = ind-Stmt (DoesKeep types) (λ one inner same. subst (λ some. DoesKeep types (roll-Stmt some)) same (layer_keeps types inner))

pub block_keeps : (types : List VarType) (block : List Stmt) (place : WeavePlace) (variable : ℕ) → assigned_in (map (weave_of types) block) variable ≡ false
    → (woven_all (map (weave_of types) block) place).defined variable ≡ place.defined variable
block_keeps types [] = none_keep
block_keeps types (first ∷ later) = more_keep (weave_of types first) (map (weave_of types) later) (one_keeps types first) (block_keeps types later)
