-- Where a statement and those inside it have their bags, each of them has.
use Rattle.std.proofs.Common.{◌≡◌, ◌≤◌, ℕ, List, [], ◌∷◌, ◌++◌, length, All, refl, subst, arith}
use Rattle.std.specs.Prelude.{flat_map}
use Rattle.std.proofs.lemmas.List.{drop_at, take_at}
use Rattle.std.proofs.lemmas.List.Elements.{All-cons, All-drop, All-head, All-nil, All-tail, All-take, All-weaker}
use Rattle.mit_ops.specs.Kinds.{bag_inputs_of}
use Rattle.mit_ops.specs.declared.kinds.OpSpec.{OpSpec}
use Rattle.mit_script.specs.Trees.{Head, IsFormed, IsFormedHead, assigns, decides, heads_in, writes}
use Rattle.mit_script.specs.declared.tree.Script.{Script}
use Rattle.mit_script.specs.declared.tree.Stmt.{Stmt}
use Rattle.mit_script.specs.declared.tree.Stmt.TheVariants as stmt
use Rattle.mit_check.proofs.Statements.{heads_in-Assign, heads_in-If, heads_in-While, heads_in-Write}
use Rattle.mit_check.specs.Bags.{HasBags, HaveBags}

-- what holds of joined lists holds of the first and of the second
all_front : {A : Type 0} (P : A → Type 0) (xs ys : List A) → All P (xs ++ ys) → All P xs
all_front P xs ys all = subst (All P) (take_at xs ys (length xs) refl) (All-take P (length xs) (xs ++ ys) all)

all_behind : {A : Type 0} (P : A → Type 0) (xs ys : List A) → All P (xs ++ ys) → All P ys
all_behind P xs ys all = subst (All P) (drop_at xs ys (length xs) refl) (All-drop P (length xs) (xs ++ ys) all)

-- where all heads of a block have their bags, its statements have
block_bags : (block : List Stmt) → All HasBags (flat_map heads_in block) → All HaveBags block
block_bags [] all = All-nil HaveBags
block_bags (first ∷ more) all =
    All-cons HaveBags first more (all_front HasBags (heads_in first) (flat_map heads_in more) all)
    (block_bags more (all_behind HasBags (heads_in first) (flat_map heads_in more) all))

-- the operators of a formed script have their bags
formed_bags : (variables : ℕ) (head : Head) → IsFormedHead variables head → HasBags head
formed_bags variables (assigns target operator args) formed = let complete = formed.2.complete in omega arith
formed_bags variables (writes operator args) formed = let complete = formed.1.complete in omega arith
formed_bags variables (decides operator args) formed = let complete = formed.1.complete in omega arith

pub script_bags : (script : Script) → IsFormed script → All HaveBags script.body
script_bags script formed =
    block_bags script.body
    (All-weaker (IsFormedHead (length script.names)) HasBags (formed_bags (length script.names)) (flat_map heads_in script.body) formed.formed)

-- ---- one statement, by its kind

pub assign_bags : {s : Stmt} {target : ℕ} {op : OpSpec} {args : List ℕ} → s ≡ stmt.Assign target op args → HaveBags s → bag_inputs_of op ≤ length args
assign_bags {target = target} {op = op} {args = args} is have =
    All-head HasBags (assigns target op args) [] (subst (All HasBags) (heads_in-Assign target op args) (subst HaveBags is have))

pub write_bags : {s : Stmt} {op : OpSpec} {args : List ℕ} → s ≡ stmt.Write op args → HaveBags s → bag_inputs_of op ≤ length args
write_bags {op = op} {args = args} is have =
    All-head HasBags (writes op args) [] (subst (All HasBags) (heads_in-Write op args) (subst HaveBags is have))

pub if_bags : {s : Stmt} {op : OpSpec} {args : List ℕ} (on_true on_false : List Stmt) → s ≡ stmt.If op args on_true on_false → HaveBags s
    → (bag_inputs_of op ≤ length args) × All HaveBags on_true × All HaveBags on_false
if_bags {op = op} {args = args} on_true on_false is have =
    let all = subst (All HasBags) (heads_in-If op args on_true on_false) (subst HaveBags is have) in
    let inside = All-tail HasBags (decides op args) (flat_map heads_in on_true ++ flat_map heads_in on_false) all in (
      All-head HasBags (decides op args) (flat_map heads_in on_true ++ flat_map heads_in on_false) all,
      block_bags on_true (all_front HasBags (flat_map heads_in on_true) (flat_map heads_in on_false) inside),
      block_bags on_false (all_behind HasBags (flat_map heads_in on_true) (flat_map heads_in on_false) inside),
    )

pub while_bags : {s : Stmt} {op : OpSpec} {args : List ℕ} (body : List Stmt) → s ≡ stmt.While op args body → HaveBags s
    → (bag_inputs_of op ≤ length args) × All HaveBags body
while_bags {op = op} {args = args} body is have =
    let all = subst (All HasBags) (heads_in-While op args body) (subst HaveBags is have) in (
      All-head HasBags (decides op args) (flat_map heads_in body) all,
      block_bags body (All-tail HasBags (decides op args) (flat_map heads_in body) all),
    )
