-- How many blocks statements add, and how many statements they are.
use Rattle.std.proofs.Common.{◌≡◌, ◌∙◌, ◌≤◌, ◌<◌, ◌+◌, ◌*◌, ℕ, List, [], ◌∷◌, length, get_or, drop, map, ap, sym, subst, refl, arith}
use Rattle.std.specs.Prelude.{sum}
use Rattle.std.proofs.lemmas.List.{drop_all, drop_more}
use Rattle.std.proofs.lemmas.List.Sums.{sum_by-cons}
use Rattle.mit_ops.specs.declared.kinds.OpSpec.{OpSpec}
use Rattle.mit_script.specs.Trees.{count_of, count_of_all, count_step}
use Rattle.mit_script.specs.declared.tree.Stmt.{Stmt, roll-Stmt}
use Rattle.mit_script.specs.declared.tree.Stmt.TheFolds.{fold-roll-Stmt, ind-Stmt, map-Stmt}
use Rattle.mit_script.specs.declared.tree.Stmt.TheOpen.{Stmt-F}
use Rattle.mit_script.specs.declared.tree.Stmt.TheOpen as layer
use Rattle.mit_script.specs.declared.tree.Stmt.TheVariants as stmt
use Rattle.mit_cfg.specs.Blocks.{Cut, Stretch, cut_adds, cut_counts, cut_in_turn, cut_of, cut_step}
use Rattle.mit_cut.specs.Laying.{Lays, built}
use Rattle.mit_cut.specs.declared.build.Builder.{Builder}

pub sum-map-cons : {A : Type 0} (f : A → ℕ) (x : A) (xs : List A) → sum (map f (x ∷ xs)) ≡ f x + sum (map f xs)
sum-map-cons f x xs = sum_by-cons (λ (n : ℕ). n) (f x) (map f xs)

-- at most three blocks for each statement
pub record Few (cut : Cut) (count : ℕ) : Type 0 where
  pub few : cut.added ≤ 3 * cut.count
  pub same : cut.count ≡ count

pub record AreFew (cuts : List Cut) (count : ℕ) : Type 0 where
  pub few : cut_adds cuts ≤ 3 * cut_counts cuts
  pub same : cut_counts cuts ≡ count

more_few : (cut : Cut) (cuts : List Cut) (count : ℕ) (others : List ℕ) → Few cut count → AreFew cuts (sum others) → AreFew (cut ∷ cuts) (sum (count ∷ others))
more_few cut cuts count others first later =
    let a = sum-map-cons (λ (one : Cut). one.added) cut cuts in
    let b = sum-map-cons (λ (one : Cut). one.count) cut cuts in
    let c = sum_by-cons (λ (n : ℕ). n) count others in
    let d = first.few in let e = first.same in let f = later.few in let g = later.same in
    record { few = omega (arith, a, b, d, f); same = omega (arith, b, c, e, g) }

abbrev IsFew : Stmt → Type 0
IsFew stmt = Few (cut_of stmt) (count_of stmt)

abbrev Proved : Type 0
Proved = (stmt : Stmt) × IsFew stmt

abbrev only : Proved → Stmt
only proved = proved.0

inner_few : (block : List Proved) → AreFew (map cut_of (map only block)) (sum (map count_of (map only block)))
inner_few [] = record { few = omega arith; same = refl }
inner_few (first ∷ later) = more_few (cut_of first.0) (map cut_of (map only later)) (count_of first.0) (map count_of (map only later)) first.1 (inner_few later)

rolled : (one : Stmt-F Stmt) → Few (cut_step (map-Stmt Stmt Cut cut_of one)) (count_step (map-Stmt Stmt ℕ count_of one)) → IsFew (roll-Stmt one)
rolled one few = rw (fold-roll-Stmt Cut cut_step one, fold-roll-Stmt ℕ count_step one) few

layer_few : (one : Stmt-F Proved) → IsFew (roll-Stmt (map-Stmt Proved Stmt only one))
layer_few (layer.Assign target operator args) = rolled (layer.Assign target operator args) (record { few = omega arith; same = refl })
layer_few (layer.Write operator args) = rolled (layer.Write operator args) (record { few = omega arith; same = refl })
layer_few (layer.If operator args on_true on_false) =
    rolled (layer.If operator args (map only on_true) (map only on_false))
    (let a = inner_few on_true in let b = inner_few on_false in
    let c = a.few in let d = a.same in let e = b.few in let f = b.same in
    record { few = omega (arith, c, e); same = omega (arith, d, f) })
layer_few (layer.While operator args body) =
    rolled (layer.While operator args (map only body))
    (let a = inner_few body in let c = a.few in let d = a.same in
    record { few = omega (arith, c); same = omega (arith, d) })

is_few : (stmt : Stmt) → IsFew stmt
is_few = ind-Stmt IsFew (λ one inner same. subst (λ some. IsFew (roll-Stmt some)) same (layer_few inner))

pub block_few : (block : List Stmt) → AreFew (map cut_of block) (count_of_all block)
block_few [] = record { few = omega arith; same = refl }
block_few (first ∷ later) = more_few (cut_of first) (map cut_of later) (count_of first) (map count_of later) (is_few first) (block_few later)

pub one_few : (stmt : Stmt) → (cut_of stmt).added ≤ 3 * (cut_of stmt).count
one_few stmt = (is_few stmt).few

-- ---- the loop over the statements of a block

-- what is built so far and what is left give the whole
pub record Half (block : List Stmt) (index : ℕ) (old now : Builder) : Type 0 where
  pub number : now.number + cut_counts (map cut_of (drop index block)) ≡ old.number + cut_counts (map cut_of block)
  pub size : length now.blocks.items + cut_adds (map cut_of (drop index block)) ≡ length old.blocks.items + cut_adds (map cut_of block)
  pub blocks : length now.blocks.items ≤ 3 * now.number
  pub laid : (after : Stretch) → built now (cut_in_turn (map cut_of (drop index block)) (length now.blocks.items) now.number after)
      ≡ built old (cut_in_turn (map cut_of block) (length old.blocks.items) old.number after)

-- the next statement, and those after it
pub next_counts : (block : List Stmt) (index : ℕ) (stmt : Stmt) → index < length block → stmt ≡ get_or block index stmt
    → cut_counts (map cut_of (drop index block)) ≡ (cut_of stmt).count + cut_counts (map cut_of (drop (index + 1) block))
next_counts block index stmt within is =
    ap (λ list. cut_counts (map cut_of list)) (drop_more block index stmt within)
    ∙ ap (λ some. cut_counts (map cut_of (some ∷ drop (index + 1) block))) (sym is)
    ∙ sum-map-cons (λ (one : Cut). one.count) (cut_of stmt) (map cut_of (drop (index + 1) block))

next_adds : (block : List Stmt) (index : ℕ) (stmt : Stmt) → index < length block → stmt ≡ get_or block index stmt
    → cut_adds (map cut_of (drop index block)) ≡ (cut_of stmt).added + cut_adds (map cut_of (drop (index + 1) block))
next_adds block index stmt within is =
    ap (λ list. cut_adds (map cut_of list)) (drop_more block index stmt within)
    ∙ ap (λ some. cut_adds (map cut_of (some ∷ drop (index + 1) block))) (sym is)
    ∙ sum-map-cons (λ (one : Cut). one.added) (cut_of stmt) (map cut_of (drop (index + 1) block))

pub half_more : (block : List Stmt) (index : ℕ) (stmt : Stmt) (old now new : Builder) → index < length block → stmt ≡ get_or block index stmt
    → Half block index old now → Lays (cut_of stmt).count (cut_of stmt).added (cut_of stmt).onto now new → Half block (index + 1) old new
unfolding cut_in_turn
half_more block index stmt old now new within is half lays =
    let a = lays.number in let b = lays.size in let c = half.number in let d = half.size in
    let e = next_counts block index stmt within is in let f = next_adds block index stmt within is in
    let g = one_few stmt in let h = half.blocks in
    record {
      number = omega (arith, a, c, e);
      size = omega (arith, b, d, f);
      blocks = omega (arith, a, b, g, h);
      laid = λ after.
          let rest = cut_in_turn (map cut_of (drop (index + 1) block)) (length now.blocks.items + (cut_of stmt).added) (now.number + (cut_of stmt).count) after in
          ap (λ (at : ℕ). built new (cut_in_turn (map cut_of (drop (index + 1) block)) at new.number after)) b
          ∙ ap (λ (number : ℕ). built new (cut_in_turn (map cut_of (drop (index + 1) block)) (length now.blocks.items + (cut_of stmt).added) number after)) a
          ∙ lays.laid rest
          ∙ ap (λ some. built now (cut_in_turn (map cut_of (some ∷ drop (index + 1) block)) (length now.blocks.items) now.number after)) is
          ∙ ap (λ list. built now (cut_in_turn (map cut_of list) (length now.blocks.items) now.number after)) (sym (drop_more block index stmt within))
          ∙ half.laid after;
    }

pub half_whole : (block : List Stmt) (index : ℕ) (old now : Builder) → length block ≤ index → Half block index old now
    → Lays (cut_counts (map cut_of block)) (cut_adds (map cut_of block)) (cut_in_turn (map cut_of block)) old now
unfolding cut_in_turn
half_whole block index old now past half =
    let none = drop_all index block past in
    let a = ap (λ list. cut_counts (map cut_of list)) none in let b = ap (λ list. cut_adds (map cut_of list)) none in
    let c = half.number in let d = half.size in
    record {
      number = omega (arith, a, c);
      size = omega (arith, b, d);
      laid = λ after. ap (λ list. built now (cut_in_turn (map cut_of list) (length now.blocks.items) now.number after)) (sym none) ∙ half.laid after;
    }

-- an `if` is cut so
pub cut_of-If : (operator : OpSpec) (args : List ℕ) (on_true on_false : List Stmt)
    → cut_of (stmt.If operator args on_true on_false) ≡ cut_step (layer.If operator args (map cut_of on_true) (map cut_of on_false))
cut_of-If operator args on_true on_false =
    ap cut_of (sym (stmt.rolls-If operator args on_true on_false)) ∙ fold-roll-Stmt Cut cut_step (layer.If operator args on_true on_false)

pub cut_of-Assign : (target : ℕ) (operator : OpSpec) (args : List ℕ) → cut_of (stmt.Assign target operator args) ≡ cut_step (layer.Assign target operator args)
cut_of-Assign target operator args = ap cut_of (sym (stmt.rolls-Assign target operator args)) ∙ fold-roll-Stmt Cut cut_step (layer.Assign target operator args)

pub cut_of-Write : (operator : OpSpec) (args : List ℕ) → cut_of (stmt.Write operator args) ≡ cut_step (layer.Write operator args)
cut_of-Write operator args = ap cut_of (sym (stmt.rolls-Write operator args)) ∙ fold-roll-Stmt Cut cut_step (layer.Write operator args)
