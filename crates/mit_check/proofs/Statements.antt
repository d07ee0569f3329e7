-- What is said of a statement, by its kind.
use Rattle.std.proofs.Common.{◌≡◌, ◌∙◌, ◌+◌, ℕ, List, [], ◌∷◌, ◌++◌, ap, map, refl, sym}
use Rattle.std.specs.Prelude.{flat_map}
use Rattle.std.proofs.lemmas.List.Folds.{flat_map-map}
use Rattle.mit_ops.specs.declared.kinds.OpSpec.{OpSpec}
use Rattle.mit_script.specs.Accepted.{Check, Known, and_then, branched, check_of, check_step, decided_by}
use Rattle.mit_script.specs.Trees.{Head, assigns, count_of, count_of_all, count_step, decides, head_step, heads_in, writes}
use Rattle.mit_script.specs.declared.tree.Stmt.{Stmt}
use Rattle.mit_script.specs.declared.tree.Stmt.TheFolds.{fold-roll-Stmt}
use Rattle.mit_script.specs.declared.tree.Stmt.TheOpen as layer
use Rattle.mit_script.specs.declared.tree.Stmt.TheVariants as stmt

-- the check of an `if`
pub check_of-If : (op : OpSpec) (args : List ℕ) (on_true on_false : List Stmt) (known : Known)
    → check_of (stmt.If op args on_true on_false) known ≡ and_then (decided_by op args known) (branched (map check_of on_true) (map check_of on_false))
check_of-If op args on_true on_false known =
    ap (λ one. check_of one known) (sym (stmt.rolls-If op args on_true on_false))
    ∙ ap (λ (check : Check). check known) (fold-roll-Stmt Check check_step (layer.If op args on_true on_false))

-- the heads of a statement and of those inside it
pub heads_in-Assign : (target : ℕ) (op : OpSpec) (args : List ℕ) → heads_in (stmt.Assign target op args) ≡ assigns target op args ∷ []
heads_in-Assign target op args = ap heads_in (sym (stmt.rolls-Assign target op args)) ∙ fold-roll-Stmt (List Head) head_step (layer.Assign target op args)

pub heads_in-Write : (op : OpSpec) (args : List ℕ) → heads_in (stmt.Write op args) ≡ writes op args ∷ []
heads_in-Write op args = ap heads_in (sym (stmt.rolls-Write op args)) ∙ fold-roll-Stmt (List Head) head_step (layer.Write op args)

pub heads_in-If : (op : OpSpec) (args : List ℕ) (on_true on_false : List Stmt)
    → heads_in (stmt.If op args on_true on_false) ≡ decides op args ∷ flat_map heads_in on_true ++ flat_map heads_in on_false
heads_in-If op args on_true on_false =
    ap heads_in (sym (stmt.rolls-If op args on_true on_false)) ∙ fold-roll-Stmt (List Head) head_step (layer.If op args on_true on_false)
    ∙ rw (flat_map-map (λ heads. heads) heads_in on_true, flat_map-map (λ heads. heads) heads_in on_false) refl

pub heads_in-While : (op : OpSpec) (args : List ℕ) (body : List Stmt) → heads_in (stmt.While op args body) ≡ decides op args ∷ flat_map heads_in body
heads_in-While op args body =
    ap heads_in (sym (stmt.rolls-While op args body)) ∙ fold-roll-Stmt (List Head) head_step (layer.While op args body)
    ∙ rw (flat_map-map (λ heads. heads) heads_in body) refl

-- how many statements stand in an `if` and in a `while`, itself included
pub count_of-If : (op : OpSpec) (args : List ℕ) (on_true on_false : List Stmt)
    → count_of (stmt.If op args on_true on_false) ≡ 1 + count_of_all on_true + count_of_all on_false
count_of-If op args on_true on_false =
    ap count_of (sym (stmt.rolls-If op args on_true on_false)) ∙ fold-roll-Stmt ℕ count_step (layer.If op args on_true on_false)

pub count_of-While : (op : OpSpec) (args : List ℕ) (body : List Stmt) → count_of (stmt.While op args body) ≡ 1 + count_of_all body
count_of-While op args body = ap count_of (sym (stmt.rolls-While op args body)) ∙ fold-roll-Stmt ℕ count_step (layer.While op args body)
