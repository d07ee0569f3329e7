-- What statements do, by their kind, and how many they are.
use Rattle.std.proofs.Common.{◌≡◌, ◌∙◌, ◌+◌, ℕ, List, [], ◌∷◌, ap, arith, map, refl, subst, sum, sym}
use Rattle.std.proofs.lemmas.Grind.{common_steps}
use Rattle.mit_files.specs.Files.{FileMap}
use Rattle.mit_ops.specs.declared.kinds.OpSpec.{OpSpec}
use Rattle.mit_script.specs.Execution.{Doing, counts, exec_of, exec_step}
use Rattle.mit_script.specs.Trees.{count_of, count_of_all, count_step}
use Rattle.mit_script.specs.declared.tree.Stmt.{Stmt}
use Rattle.mit_script.specs.declared.tree.Stmt.TheFolds.{fold-roll-Stmt, ind-Stmt, map-Stmt}
use Rattle.mit_script.specs.declared.tree.Stmt.TheOpen.{Stmt-F}
use Rattle.mit_script.specs.declared.tree.Stmt.TheOpen as layer
use Rattle.mit_script.specs.declared.tree.Stmt.TheVariants as stmt
use Rattle.mit_script.specs.declared.tree.Stmt.TheViews.{roll-Stmt}

pub exec_of-Assign : (files : FileMap) (target : ℕ) (op : OpSpec) (args : List ℕ) → exec_of files (stmt.Assign target op args) ≡ exec_step files (layer.Assign target op args)
exec_of-Assign files target op args = ap (exec_of files) (sym (stmt.rolls-Assign target op args)) ∙ fold-roll-Stmt Doing (exec_step files) (layer.Assign target op args)

pub exec_of-Write : (files : FileMap) (op : OpSpec) (args : List ℕ) → exec_of files (stmt.Write op args) ≡ exec_step files (layer.Write op args)
exec_of-Write files op args = ap (exec_of files) (sym (stmt.rolls-Write op args)) ∙ fold-roll-Stmt Doing (exec_step files) (layer.Write op args)

pub exec_of-If : (files : FileMap) (op : OpSpec) (args : List ℕ) (on_true on_false : List Stmt)
    → exec_of files (stmt.If op args on_true on_false) ≡ exec_step files (layer.If op args (map (exec_of files) on_true) (map (exec_of files) on_false))
exec_of-If files op args on_true on_false =
    ap (exec_of files) (sym (stmt.rolls-If op args on_true on_false)) ∙ fold-roll-Stmt Doing (exec_step files) (layer.If op args on_true on_false)

pub exec_of-While : (files : FileMap) (op : OpSpec) (args : List ℕ) (body : List Stmt)
    → exec_of files (stmt.While op args body) ≡ exec_step files (layer.While op args (map (exec_of files) body))
exec_of-While files op args body =
    ap (exec_of files) (sym (stmt.rolls-While op args body)) ∙ fold-roll-Stmt Doing (exec_step files) (layer.While op args body)

-- ---- how many

abbrev Counted : FileMap → Stmt → Type 0
Counted files s = (exec_of files s).count ≡ count_of s

abbrev Inner : FileMap → Type 0
Inner files = (s : Stmt) × Counted files s

abbrev statements : (files : FileMap) → List (Inner files) → List Stmt
statements files inner = map (λ one. one.0) inner

all_inner : (files : FileMap) (inner : List (Inner files)) → counts (map (exec_of files) (statements files inner)) ≡ sum (map count_of (statements files inner))
all_inner files [] = refl
all_inner files (one ∷ inner) = grind (arith, common_steps, one.1, all_inner files inner)

rolled : (files : FileMap) (it : Stmt-F Stmt) → (exec_step files (map-Stmt Stmt Doing (exec_of files) it)).count ≡ count_step (map-Stmt Stmt ℕ count_of it) → Counted files (roll-Stmt it)
rolled files it same = ap (λ (doing : Doing). doing.count) (fold-roll-Stmt Doing (exec_step files) it) ∙ (same ∙ sym (fold-roll-Stmt ℕ count_step it))

layer_counted : (files : FileMap) (it : Stmt-F (Inner files)) → Counted files (roll-Stmt (map-Stmt (Inner files) Stmt (λ one. one.0) it))
layer_counted files (layer.Assign target op args) = rolled files (layer.Assign target op args) refl
layer_counted files (layer.Write op args) = rolled files (layer.Write op args) refl
layer_counted files (layer.If op args on_true on_false) =
    rolled files (map-Stmt (Inner files) Stmt (λ one. one.0) (layer.If op args on_true on_false)) (rw (all_inner files on_true, all_inner files on_false) refl)
layer_counted files (layer.While op args body) = rolled files (map-Stmt (Inner files) Stmt (λ one. one.0) (layer.While op args body)) (rw (all_inner files body) refl)

pub counted : (files : FileMap) (s : Stmt) → Counted files s
counted files = ind-Stmt (Counted files) (λ x it same. subst (λ z. Counted files (roll-Stmt z)) same (layer_counted files it))

pub all_counted : (files : FileMap) (block : List Stmt) → counts (map (exec_of files) block) ≡ count_of_all block
all_counted files [] = refl
all_counted files (s ∷ block) = grind (arith, common_steps, counted files s, all_counted files block)

pub count_of-If : (op : OpSpec) (args : List ℕ) (on_true on_false : List Stmt)
    → count_of (stmt.If op args on_true on_false) ≡ 1 + count_of_all on_true + count_of_all on_false
count_of-If op args on_true on_false =
    ap count_of (sym (stmt.rolls-If op args on_true on_false)) ∙ fold-roll-Stmt ℕ count_step (layer.If op args on_true on_false)

pub count_of-While : (op : OpSpec) (args : List ℕ) (body : List Stmt) → count_of (stmt.While op args body) ≡ 1 + count_of_all body
count_of-While op args body = ap count_of (sym (stmt.rolls-While op args body)) ∙ fold-roll-Stmt ℕ count_step (layer.While op args body)
