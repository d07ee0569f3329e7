-- The heads of a statement and of those inside it, and how many these are, by its kind.
use Rattle.std.proofs.Common.{◌≡◌, ℕ, ◌+◌, List, [], ◌∷◌, ◌++◌, refl, sym, ap, ◌∙◌}
use Rattle.std.specs.Prelude.{flat_map}
use Rattle.std.proofs.lemmas.List.Folds.{flat_map-map}
use Rattle.mit_ops.specs.declared.kinds.OpSpec.{OpSpec}
use Rattle.mit_script.specs.Trees.{Head, assigns, count_of, count_of_all, count_step, decides, head_step, heads_in, writes}
use Rattle.mit_script.specs.declared.tree.Stmt.{Stmt}
use Rattle.mit_script.specs.declared.tree.Stmt.TheFolds.{fold-roll-Stmt}
use Rattle.mit_script.specs.declared.tree.Stmt.TheOpen as layer
use Rattle.mit_script.specs.declared.tree.Stmt.TheVariants as stmt

pub heads_in-Assign : (target : ℕ) (op : OpSpec) (args : List ℕ) → heads_in (stmt.Assign target op args) ≡ assigns target op args ∷ []
heads_in-Assign target op args = ap heads_in (sym (stmt.rolls-Assign target op args)) ∙ fold-roll-Stmt (List Head) head_step (layer.Assign target op args)

pub heads_in-Write : (op : OpSpec) (args : List ℕ) → heads_in (stmt.Write op args) ≡ writes op args ∷ []
heads_in-Write op args = ap heads_in (sym (stmt.rolls-Write op args)) ∙ fold-roll-Stmt (List Head) head_step (layer.Write op args)

pub heads_in-If : (op : OpSpec) (args : List ℕ) (on_true on_false : List Stmt)
    → heads_in (stmt.If op args on_true on_false) ≡ decides op args ∷ flat_map heads_in on_true ++ flat_map heads_in on_false
heads_in-If op args on_true on_false =
    ap heads_in (sym (stmt.rolls-If op args on_true on_false)) ∙ fold-roll-Stmt (List Head) head_step (layer.If op args on_true on_false)
    ∙ rw (flat_map-map (λ heads. heads) heads_in on_true, flat_map-map (λ heads. heads) heads_in on_false) refl

pub heads_in-While : (op : OpSpec) (args : List ℕ) (body : List Stmt) → heads_in (stmt.While op args body) ≡ decides op args ∷ flat_map heads_in body
heads_in-While op args body =
    ap heads_in (sym (stmt.rolls-While op args body)) ∙ fold-roll-Stmt (List Head) head_step (layer.While op args body)
    ∙ rw (flat_map-map (λ heads. heads) heads_in body) refl

pub count_of-Assign : (target : ℕ) (op : OpSpec) (args : List ℕ) → count_of (stmt.Assign target op args) ≡ 1
count_of-Assign target op args = ap count_of (sym (stmt.rolls-Assign target op args)) ∙ fold-roll-Stmt ℕ count_step (layer.Assign target op args)

pub count_of-Write : (op : OpSpec) (args : List ℕ) → count_of (stmt.Write op args) ≡ 1
count_of-Write op args = ap count_of (sym (stmt.rolls-Write op args)) ∙ fold-roll-Stmt ℕ count_step (layer.Write op args)

pub count_of-If : (op : OpSpec) (args : List ℕ) (on_true on_false : List Stmt)
    → count_of (stmt.If op args on_true on_false) ≡ 1 + count_of_all on_true + count_of_all on_false
count_of-If op args on_true on_false =
    ap count_of (sym (stmt.rolls-If op args on_true on_false)) ∙ fold-roll-Stmt ℕ count_step (layer.If op args on_true on_false)

pub count_of-While : (op : OpSpec) (args : List ℕ) (body : List Stmt) → count_of (stmt.While op args body) ≡ 1 + count_of_all body
count_of-While op args body = ap count_of (sym (stmt.rolls-While op args body)) ∙ fold-roll-Stmt ℕ count_step (layer.While op args body)
