-- How many operators and blocks statements add.
use Rattle.std.proofs.Common.{◌≡◌, ◌∙◌, ◌≤◌, ◌+◌, ◌*◌, ℕ, List, [], ◌∷◌, ◌++◌, length, map, ap, sym, subst, refl, arith, length-append, Bool, Option, Some, None}
use Rattle.std.specs.Prelude.{sum}
use Rattle.std.proofs.lemmas.List.{length-map}
use Rattle.std.proofs.lemmas.List.Concat.{flat_map-append}
use Rattle.std.proofs.lemmas.List.Sums.{sum_by-cons}
use Rattle.mit_ops.specs.declared.kinds.OpSpec.{OpSpec}
use Rattle.mit_ops.specs.declared.leave.Leave.{Leave}
use Rattle.mit_ops.specs.declared.leave.Leave.TheVariants.{Branch, Jump}
use Rattle.mit_ops.specs.declared.types.VarType.{VarType}
use Rattle.mit_script.specs.Trees.{count_of, count_of_all, count_step}
use Rattle.mit_script.specs.declared.tree.Stmt.{Stmt, roll-Stmt}
use Rattle.mit_script.specs.declared.tree.Stmt.TheFolds.{fold-roll-Stmt, ind-Stmt, map-Stmt}
use Rattle.mit_script.specs.declared.tree.Stmt.TheOpen.{Stmt-F}
use Rattle.mit_script.specs.declared.tree.Stmt.TheOpen as layer
use Rattle.mit_script.specs.declared.tree.Stmt.TheVariants as stmt
use Rattle.mit_ssa.specs.PlanFor.{operators_of}
use Rattle.mit_ssa.specs.Woven.{Defined, Weave, WeavePlace, WovenStretch, done, join_phis, just_left, loop_phis, operator_of, operators_first, phi_of, phis_of, place_after, stretch_blocks, weave_adds, weave_counts, weave_of, weave_step, with_phis, woven_all, woven_branch, woven_loop}
use Rattle.mit_ssa.specs.declared.block.Block.{Block}
use Rattle.mit_ssa.specs.declared.block.Operator.{Operator}

-- ---- how many operators blocks have

pub size : List Block → ℕ
size blocks = length (operators_of blocks)

pub size_is : (blocks : List Block) → size blocks ≡ length (operators_of blocks)
unfolding size
size_is blocks = refl

pub size_more : (block : Block) (blocks : List Block) → size (block ∷ blocks) ≡ length block.operators + size blocks
unfolding size
size_more block blocks = length-append block.operators (operators_of blocks)

pub size_append : (xs ys : List Block) → size (xs ++ ys) ≡ size xs + size ys
unfolding size
size_append xs ys = ap length (flat_map-append (λ (block : Block). block.operators) xs ys) ∙ length-append (operators_of xs) (operators_of ys)

pub size_none : (leave : Leave) → size (stretch_blocks (just_left leave)) ≡ 0
unfolding size
size_none leave = refl

size_preceded : (operators : List Operator) (stretch : WovenStretch) → size (stretch_blocks (operators_first operators stretch)) ≡ length operators + size (stretch_blocks stretch)
size_preceded operators stretch =
    let a = size_more (operators_first operators stretch).first stretch.later in
    let b = size_more stretch.first stretch.later in
    let c = length-append operators stretch.first.operators in
    omega (arith, a, b, c)

-- ---- one statement, and some

pub record Counted (weave : Weave) (count : ℕ) : Type 0 where
  -- at most three blocks for each statement
  pub few : weave.added ≤ 3 * weave.count
  pub same : weave.count ≡ count
  -- at least one operator for each statement
  pub grows : (place : WeavePlace) → place.operator + weave.count ≤ (weave.weave place).operator
  pub size : (place : WeavePlace) (stretch : WovenStretch)
      → place.operator + size (stretch_blocks ((weave.weave place).onto stretch)) ≡ (weave.weave place).operator + size (stretch_blocks stretch)
  pub blocks : (place : WeavePlace) (stretch : WovenStretch) → length (((weave.weave place).onto stretch).later) ≡ weave.added + length stretch.later

pub record AreCounted (weaves : List Weave) (count : ℕ) : Type 0 where
  pub few : weave_adds weaves ≤ 3 * weave_counts weaves
  pub same : weave_counts weaves ≡ count
  pub grows : (place : WeavePlace) → place.operator + weave_counts weaves ≤ (woven_all weaves place).operator
  pub size : (place : WeavePlace) (stretch : WovenStretch)
      → place.operator + size (stretch_blocks ((woven_all weaves place).onto stretch)) ≡ (woven_all weaves place).operator + size (stretch_blocks stretch)
  pub blocks : (place : WeavePlace) (stretch : WovenStretch) → length (((woven_all weaves place).onto stretch).later) ≡ weave_adds weaves + length stretch.later

pub sum-map-cons : {A : Type 0} (f : A → ℕ) (x : A) (xs : List A) → sum (map f (x ∷ xs)) ≡ f x + sum (map f xs)
sum-map-cons f x xs = sum_by-cons (λ (n : ℕ). n) (f x) (map f xs)

none_counted : AreCounted [] 0
unfolding woven_all
none_counted = record {
  few = omega arith;
  same = refl;
  grows = λ place. omega arith;
  size = λ place stretch. refl;
  blocks = λ place stretch. omega arith;
}

more_counted : (weave : Weave) (weaves : List Weave) (count : ℕ) (others : List ℕ) → Counted weave count → AreCounted weaves (sum others)
    → AreCounted (weave ∷ weaves) (sum (count ∷ others))
unfolding woven_all
more_counted weave weaves count others first later =
    let a = sum-map-cons (λ (one : Weave). one.added) weave weaves in
    let b = sum-map-cons (λ (one : Weave). one.count) weave weaves in
    let c = sum_by-cons (λ (n : ℕ). n) count others in
    let d = first.few in let e = first.same in let f = later.few in let g = later.same in
    record {
      few = omega (arith, a, b, d, f);
      same = omega (arith, b, c, e, g);
      grows = λ place.
          let h = first.grows place in let i = later.grows (place_after place weave (weave.weave place)) in
          omega (arith, b, h, i);
      size = λ place stretch.
          let next = place_after place weave (weave.weave place) in
          let h = first.size place ((woven_all weaves next).onto stretch) in let i = later.size next stretch in
          omega (arith, h, i);
      blocks = λ place stretch.
          let next = place_after place weave (weave.weave place) in
          let h = first.blocks place ((woven_all weaves next).onto stretch) in let i = later.blocks next stretch in
          omega (arith, a, h, i);
    }

-- ---- the kinds of statements

done_counted : (types : List VarType) (target : Option ℕ) (operator : OpSpec) (args : List ℕ) (assigns : ℕ → Bool)
    → Counted (record { count = 1; added = 0; assigns = assigns; weave = done types target operator args }) 1
done_counted types target operator args assigns = record {
  few = omega arith;
  same = refl;
  grows = λ place. omega arith;
  size = λ place stretch. let a = size_preceded (operator_of types place.defined place.statement operator args ∷ []) stretch in omega (arith, a);
  blocks = λ place stretch. omega arith;
}

length-phis : (one other : Defined) (phis : List ℕ) → length (phis_of one other phis) ≡ length phis
length-phis one other phis = length-map phis (phi_of one other)

-- a part of blocks that is left by a jump
part_size : (weaves : List Weave) (count : ℕ) (place : WeavePlace) (to : ℕ) → AreCounted weaves count
    → place.operator + size (stretch_blocks ((woven_all weaves place).onto (just_left (Jump to)))) ≡ (woven_all weaves place).operator
part_size weaves count place to counted =
    let a = counted.size place (just_left (Jump to)) in let b = size_none (Jump to) in omega (arith, a, b)

part_blocks : (weaves : List Weave) (count : ℕ) (place : WeavePlace) (to : ℕ) → AreCounted weaves count
    → length (stretch_blocks ((woven_all weaves place).onto (just_left (Jump to)))) ≡ weave_adds weaves + 1
part_blocks weaves count place to counted = let a = counted.blocks place (just_left (Jump to)) in omega (arith, a)

-- what stands after a condition
abbrev after_condition : List VarType → OpSpec → List ℕ → WeavePlace → Leave → Block
after_condition types operator args place leave =
    record { operators = operator_of types place.defined place.statement operator args ∷ []; leave = leave }

-- three parts after a block
three_size : (block : Block) (xs ys zs : List Block) → size (block ∷ (xs ++ ys ++ zs)) ≡ length block.operators + size xs + size ys + size zs
three_size block xs ys zs =
    let a = size_more block (xs ++ ys ++ zs) in let b = size_append (xs ++ ys) zs in let c = size_append xs ys in omega (arith, a, b, c)

if_counted : (types : List VarType) (operator : OpSpec) (args : List ℕ) (on_true on_false : List Weave) (count_yes count_no : ℕ) (assigns : ℕ → Bool)
    → AreCounted on_true count_yes → AreCounted on_false count_no
    → Counted (record {
      count = 1 + weave_counts on_true + weave_counts on_false;
      added = 3 + weave_adds on_true + weave_adds on_false;
      assigns = assigns;
      weave = woven_branch types operator args on_true on_false;
    }) (1 + count_yes + count_no)
if_counted types operator args on_true on_false count_yes count_no assigns first second =
    let a = first.few in let b = first.same in let c = second.few in let d = second.same in
    record {
      few = omega (arith, a, c);
      same = omega (arith, b, d);
      grows = λ place.
          let inside = inside_of place in let beside = beside_of place in
          let e = first.grows inside in let f = second.grows beside in omega (arith, e, f);
      size = λ place stretch.
          let inside = inside_of place in let beside = beside_of place in
          let one = woven_all on_true inside in let two = woven_all on_false beside in
          let phis = join_phis (length types) on_true on_false one.defined two.defined in
          let join = join_of place in
          let e = part_size on_true count_yes inside join first in
          let f = part_size on_false count_no beside join second in
          let g = length-phis one.defined two.defined phis in
          let h = size_preceded (phis_of one.defined two.defined phis) stretch in
          let i = three_size (after_condition types operator args place (Branch (place.block + 1) (place.block + 2 + weave_adds on_true)))
          (stretch_blocks (one.onto (just_left (Jump join)))) (stretch_blocks (two.onto (just_left (Jump join)))) (stretch_blocks (operators_first (phis_of one.defined two.defined phis) stretch)) in
          omega (arith, e, f, g, h, i);
      blocks = λ place stretch.
          let inside = inside_of place in let beside = beside_of place in
          let one = woven_all on_true inside in let two = woven_all on_false beside in
          let phis = join_phis (length types) on_true on_false one.defined two.defined in
          let join = join_of place in
          let e = part_blocks on_true count_yes inside join first in
          let f = part_blocks on_false count_no beside join second in
          let xs = stretch_blocks (one.onto (just_left (Jump join))) in let ys = stretch_blocks (two.onto (just_left (Jump join))) in
          let g = length-append (xs ++ ys) (stretch_blocks (operators_first (phis_of one.defined two.defined phis) stretch)) in
          let h = length-append xs ys in
          omega (arith, e, f, g, h);
    }
  where
    inside_of : WeavePlace → WeavePlace
    inside_of place = record { block = place.block + 1; operator = place.operator + 1; statement = place.statement + 1; defined = place.defined }

    beside_of : WeavePlace → WeavePlace
    beside_of place = record {
      block = place.block + 2 + weave_adds on_true;
      operator = (woven_all on_true (inside_of place)).operator;
      statement = place.statement + 1 + weave_counts on_true;
      defined = place.defined;
    }

    join_of : WeavePlace → ℕ
    join_of place = place.block + 2 + weave_adds on_true + 1 + weave_adds on_false

while_counted : (types : List VarType) (operator : OpSpec) (args : List ℕ) (body : List Weave) (inner : ℕ) (assigns : ℕ → Bool) → AreCounted body inner
    → Counted (record { count = 1 + weave_counts body; added = 3 + weave_adds body; assigns = assigns; weave = woven_loop types operator args body }) (1 + inner)
while_counted types operator args body inner assigns counted =
    let a = counted.few in let b = counted.same in
    record {
      few = omega (arith, a);
      same = omega (arith, b);
      grows = λ place. let e = counted.grows (turn_of place) in omega (arith, e);
      size = λ place stretch.
          let e = part_size body inner (turn_of place) (place.block + 1) counted in
          let part = stretch_blocks ((woven_all body (turn_of place)).onto (just_left (Jump (place.block + 1)))) in
          let one = (woven_all body (turn_of place)).defined in
          let phis = phis_at place in
          let header = header_of place in
          let f = size_more (record { operators = []; leave = Jump (place.block + 1) }) (header ∷ (part ++ stretch_blocks stretch)) in
          let g = size_more header (part ++ stretch_blocks stretch) in
          let h = size_append part (stretch_blocks stretch) in
          let i = length-phis place.defined one phis in
          let j = length-append (phis_of place.defined one phis) (operator_of types (inside_of place) place.statement operator args ∷ []) in
          omega (arith, e, f, g, h, i, j);
      blocks = λ place stretch.
          let e = part_blocks body inner (turn_of place) (place.block + 1) counted in
          let f = length-append (stretch_blocks ((woven_all body (turn_of place)).onto (just_left (Jump (place.block + 1))))) (stretch_blocks stretch) in
          omega (arith, e, f);
    }
  where
    phis_at : WeavePlace → List ℕ
    phis_at place = loop_phis (length types) body place.defined

    inside_of : WeavePlace → Defined
    inside_of place = with_phis place.defined place.operator (phis_at place)

    turn_of : WeavePlace → WeavePlace
    turn_of place = record {
      block = place.block + 2;
      operator = place.operator + length (phis_at place) + 1;
      statement = place.statement + 1;
      defined = inside_of place;
    }

    header_of : WeavePlace → Block
    header_of place = record {
      operators = phis_of place.defined (woven_all body (turn_of place)).defined (phis_at place)
          ++ operator_of types (inside_of place) place.statement operator args ∷ [];
      leave = Branch (place.block + 2) (place.block + 3 + weave_adds body);
    }

-- ---- each statement

abbrev IsCounted : List VarType → Stmt → Type 0
IsCounted types stmt = Counted (weave_of types stmt) (count_of stmt)

abbrev Proved : List VarType → Type 0
Proved types = (stmt : Stmt) × IsCounted types stmt

abbrev only : (types : List VarType) → Proved types → Stmt
only types proved = proved.0

inner_counted : (types : List VarType) (block : List (Proved types))
    → AreCounted (map (weave_of types) (map (only types) block)) (sum (map count_of (map (only types) block)))
inner_counted types [] = none_counted
inner_counted types (first ∷ later) =
    more_counted (weave_of types first.0) (map (weave_of types) (map (only types) later)) (count_of first.0) (map count_of (map (only types) later))
    first.1 (inner_counted types later)

rolled : (types : List VarType) (one : Stmt-F Stmt)
    → Counted (weave_step types (map-Stmt Stmt Weave (weave_of types) one)) (count_step (map-Stmt Stmt ℕ count_of one)) → IsCounted types (roll-Stmt one)
rolled types one counted = rw (fold-roll-Stmt Weave (weave_step types) one, fold-roll-Stmt ℕ count_step one) counted

layer_counted : (types : List VarType) (one : Stmt-F (Proved types)) → IsCounted types (roll-Stmt (map-Stmt (Proved types) Stmt (only types) one))
layer_counted types (layer.Assign target operator args) =
    rolled types (layer.Assign target operator args) (done_counted types (Some target) operator args _)
layer_counted types (layer.Write operator args) =
    rolled types (layer.Write operator args) (done_counted types None operator args _)
layer_counted types (layer.If operator args on_true on_false) =
    rolled types (layer.If operator args (map (only types) on_true) (map (only types) on_false))
    (if_counted types operator args _ _ _ _ _ (inner_counted types on_true) (inner_counted types on_false))
layer_counted types (layer.While operator args body) =
    rolled types (layer.While operator args (map (only types) body))
    (while_counted types operator args _ _ _ (inner_counted types body))

pub one_counted : (types : List VarType) (stmt : Stmt) → IsCounted types stmt
one_counted types = ind-Stmt (IsCounted types) (λ one inner same. subst (λ some. IsCounted types (roll-Stmt some)) same (layer_counted types inner))

pub block_counted : (types : List VarType) (block : List Stmt) → AreCounted (map (weave_of types) block) (count_of_all block)
block_counted types [] = none_counted
block_counted types (first ∷ later) =
    more_counted (weave_of types first) (map (weave_of types) later) (count_of first) (map count_of later) (one_counted types first) (block_counted types later)

-- ---- what a statement is woven like

pub weave_of-Assign : (types : List VarType) (target : ℕ) (operator : OpSpec) (args : List ℕ)
    → weave_of types (stmt.Assign target operator args) ≡ weave_step types (layer.Assign target operator args)
weave_of-Assign types target operator args =
    ap (weave_of types) (sym (stmt.rolls-Assign target operator args)) ∙ fold-roll-Stmt Weave (weave_step types) (layer.Assign target operator args)

pub weave_of-Write : (types : List VarType) (operator : OpSpec) (args : List ℕ)
    → weave_of types (stmt.Write operator args) ≡ weave_step types (layer.Write operator args)
weave_of-Write types operator args =
    ap (weave_of types) (sym (stmt.rolls-Write operator args)) ∙ fold-roll-Stmt Weave (weave_step types) (layer.Write operator args)

pub weave_of-If : (types : List VarType) (operator : OpSpec) (args : List ℕ) (on_true on_false : List Stmt)
    → weave_of types (stmt.If operator args on_true on_false)
    ≡ weave_step types (layer.If operator args (map (weave_of types) on_true) (map (weave_of types) on_false))
weave_of-If types operator args on_true on_false =
    ap (weave_of types) (sym (stmt.rolls-If operator args on_true on_false)) ∙ fold-roll-Stmt Weave (weave_step types) (layer.If operator args on_true on_false)

pub weave_of-While : (types : List VarType) (operator : OpSpec) (args : List ℕ) (body : List Stmt)
    → weave_of types (stmt.While operator args body) ≡ weave_step types (layer.While operator args (map (weave_of types) body))
weave_of-While types operator args body =
    ap (weave_of types) (sym (stmt.rolls-While operator args body)) ∙ fold-roll-Stmt Weave (weave_step types) (layer.While operator args body)
