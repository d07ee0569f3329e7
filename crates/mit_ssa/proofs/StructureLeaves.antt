-- How the blocks of a woven script are left: each names blocks, jumps alone come to an end, and all blocks are reached.
use Rattle.std.proofs.Common.{◌≡◌, ◌∙◌, ◌<◌, ◌+◌, ℕ, suc, List, [], ◌∷◌, ◌++◌, length, map, ap, ap₂, sym, subst, refl, arith, append_assoc, length-append, Bool, true, cond, Option, Some, None, inl, inr}
use Rattle.std.specs.Prelude.{◌⊎◌, All, Contains, count_by}
use Rattle.std.proofs.lemmas.List.{map-append}
use Rattle.std.proofs.lemmas.List.Elements.{All-cons, All-nil}
use Rattle.std.proofs.lemmas.List.Sums.{sum_by-append, sum_by-cons}
use Rattle.mit_ops.specs.declared.kinds.OpSpec.{OpSpec}
use Rattle.mit_ops.specs.declared.leave.Leave.{Leave}
use Rattle.mit_ops.specs.declared.leave.Leave.TheVariants.{Branch, End, Jump}
use Rattle.mit_ops.specs.declared.types.VarType.{VarType}
use Rattle.mit_plan.specs.Paths.{next_of}
use Rattle.mit_plan.specs.Valid.{is_branch, is_end}
use Rattle.mit_script.specs.declared.tree.Stmt.{Stmt, roll-Stmt}
use Rattle.mit_script.specs.declared.tree.Stmt.TheFolds.{fold-roll-Stmt, ind-Stmt, map-Stmt}
use Rattle.mit_script.specs.declared.tree.Stmt.TheOpen.{Stmt-F}
use Rattle.mit_script.specs.declared.tree.Stmt.TheOpen as layer
use Rattle.mit_ssa.specs.Woven.{Weave, WeavePlace, WovenStretch, done, join_phis, just_left, operators_first, phis_of, place_after, stretch_blocks, weave_adds, weave_of, weave_step, woven_all, woven_branch, woven_loop}
use Rattle.mit_ssa.specs.declared.block.Block.{Block}
use Rattle.mit_ssa.proofs.StructureEach.{Each, each_back, each_from, each_front, each_join}
use Rattle.mit_ssa.proofs.StructurePlaces.{in_body, in_false, in_true, join_after}

abbrev pub leaves_of : List Block → List Leave
leaves_of blocks = map (λ block. block.leave) blocks

-- a jump goes on to a later block, or back to one that is left by a branch
abbrev pub JumpsOn : (ℕ → Leave) → ℕ → ℕ → Leave → Type 0
JumpsOn at most number (Jump next) = (number < next) ⊎ ((is_branch (at next) ≡ true) × (suc number < most))
JumpsOn at most number (Branch on_true on_false) = Unit {0}
JumpsOn at most number End = Unit {0}

-- what is shown of each block, by how the blocks of the plan are left
pub record Good (at : ℕ → Leave) (most : ℕ) (reached : ℕ → Type 0) (number : ℕ) (leave : Leave) : Type 0 where
  pub below : All (λ next. next < most) (next_of leave)
  pub jumps : JumpsOn at most number leave
  pub comes : reached number

-- the blocks that a statement, or some, add after the current one; and how the current one and these are left but for the last
pub record Laid (at : ℕ → Leave) (most : ℕ) (reached : ℕ → Type 0) (weave : Weave) : Type 0 where
  pub leaves : ℕ → List Leave
  pub many : (block : ℕ) → length (leaves block) ≡ weave.added
  pub is : (place : WeavePlace) (stretch : WovenStretch)
      → leaves_of (stretch_blocks ((weave.weave place).onto stretch)) ≡ leaves place.block ++ leaves_of (stretch_blocks stretch)
  pub go_on : (block : ℕ) → count_by is_end (leaves block) ≡ 0
  pub holds : (block : ℕ) → block + weave.added < most → Each (λ number leave. at number ≡ leave) block (leaves block) → reached block
      → Each (Good at most reached) block (leaves block) × reached (block + weave.added)

pub record AreLaid (at : ℕ → Leave) (most : ℕ) (reached : ℕ → Type 0) (weaves : List Weave) : Type 0 where
  pub leaves : ℕ → List Leave
  pub many : (block : ℕ) → length (leaves block) ≡ weave_adds weaves
  pub is : (place : WeavePlace) (stretch : WovenStretch)
      → leaves_of (stretch_blocks ((woven_all weaves place).onto stretch)) ≡ leaves place.block ++ leaves_of (stretch_blocks stretch)
  pub go_on : (block : ℕ) → count_by is_end (leaves block) ≡ 0
  pub holds : (block : ℕ) → block + weave_adds weaves < most → Each (λ number leave. at number ≡ leave) block (leaves block) → reached block
      → Each (Good at most reached) block (leaves block) × reached (block + weave_adds weaves)

added-cons : (weave : Weave) (weaves : List Weave) → weave_adds (weave ∷ weaves) ≡ weave.added + weave_adds weaves
added-cons weave weaves = sum_by-cons (λ (n : ℕ). n) weave.added (map (λ (one : Weave). one.added) weaves)

last-append : (xs ys : List Leave) → count_by is_end (xs ++ ys) ≡ count_by is_end xs + count_by is_end ys
last-append xs ys = sum_by-append (λ (leave : Leave). cond (is_end leave) 1 0) xs ys

last-cons : (leave : Leave) (xs : List Leave) → count_by is_end (leave ∷ xs) ≡ cond (is_end leave) 1 0 + count_by is_end xs
last-cons leave xs = sum_by-cons (λ (one : Leave). cond (is_end one) 1 0) leave xs

module _ (at : ℕ → Leave) (most : ℕ) (reached : ℕ → Type 0) (closed : (number next : ℕ) → reached number → Contains (next_of (at number)) next → reached next) where
  abbrev Stands : ℕ → Leave → Type 0
  Stands number leave = at number ≡ leave

  steps : (number next : ℕ) (leave : Leave) → at number ≡ leave → reached number → Contains (next_of leave) next → reached next
  steps number next leave is comes next_in = closed number next comes (subst (λ one. Contains (next_of one) next) (sym is) next_in)

  none_laid : AreLaid at most reached []
  unfolding woven_all
  none_laid = record {
    leaves = λ block. [];
    many = λ block. refl;
    is = λ place stretch. refl;
    go_on = λ block. refl;
    holds = λ block less stands comes. (tt, let e : block ≡ block + weave_adds [] = omega arith in subst reached e comes);
  }

  more_laid : (weave : Weave) (weaves : List Weave) → Laid at most reached weave → AreLaid at most reached weaves → AreLaid at most reached (weave ∷ weaves)
  unfolding woven_all
  more_laid weave weaves first later =
      let a = added-cons weave weaves in
      record {
        leaves = λ block. first.leaves block ++ later.leaves (block + weave.added);
        many = λ block.
            let b = length-append (first.leaves block) (later.leaves (block + weave.added)) in
            let c = first.many block in let d = later.many (block + weave.added) in omega (arith, a, b, c, d);
        is = λ place stretch.
            let next = place_after place weave (weave.weave place) in
            first.is place ((woven_all weaves next).onto stretch)
            ∙ ap (λ list. first.leaves place.block ++ list) (later.is next stretch)
            ∙ sym (append_assoc (first.leaves place.block) (later.leaves (place.block + weave.added)) (leaves_of (stretch_blocks stretch)));
        go_on = λ block.
            let b = last-append (first.leaves block) (later.leaves (block + weave.added)) in
            let c = first.go_on block in let d = later.go_on (block + weave.added) in omega (arith, b, c, d);
        holds = λ block less stands comes.
            let one = first.leaves block in let two = later.leaves (block + weave.added) in let b = first.many block in
            let near : block + weave.added < most = omega (arith, a, less) in
            let far : block + weave.added + weave_adds weaves < most = omega (arith, a, less) in
            let same : block + length one ≡ block + weave.added = omega (arith, b) in
            let end : block + weave.added + weave_adds weaves ≡ block + weave_adds (weave ∷ weaves) = omega (arith, a) in
            let front = first.holds block near (each_front Stands one two block stands) comes in
            let back = later.holds (block + weave.added) far
            (each_from Stands two (block + length one) (block + weave.added) same (each_back Stands one two block stands)) front.1 in (
              each_join (Good at most reached) one two block front.0 (each_from (Good at most reached) two (block + weave.added) (block + length one) (sym same) back.0),
              subst reached end back.1,
            );
      }

  done_laid : (types : List VarType) (target : Option ℕ) (operator : OpSpec) (args : List ℕ) (assigns : ℕ → Bool)
      → Laid at most reached (record { count = 1; added = 0; assigns = assigns; weave = done types target operator args })
  done_laid types target operator args assigns = record {
    leaves = λ block. [];
    many = λ block. refl;
    is = λ place stretch. refl;
    go_on = λ block. refl;
    holds = λ block less stands comes. (tt, let e : block ≡ block + 0 = omega arith in subst reached e comes);
  }

  -- ---- statements inside, which end with a jump

  abbrev part : (weaves : List Weave) → AreLaid at most reached weaves → ℕ → ℕ → List Leave
  part weaves laid block to = laid.leaves block ++ Jump to ∷ []

  length-part : (weaves : List Weave) (laid : AreLaid at most reached weaves) (block to : ℕ) → length (part weaves laid block to) ≡ weave_adds weaves + 1
  length-part weaves laid block to =
      let a = length-append (laid.leaves block) (Jump to ∷ []) in let b = laid.many block in omega (arith, a, b)

  part_goes_on : (weaves : List Weave) (laid : AreLaid at most reached weaves) (block to : ℕ) → count_by is_end (part weaves laid block to) ≡ 0
  part_goes_on weaves laid block to =
      let a = last-append (laid.leaves block) (Jump to ∷ []) in let b = laid.go_on block in let c = last-cons (Jump to) [] in omega (arith, a, b, c)

  part_laid : (weaves : List Weave) (laid : AreLaid at most reached weaves) (block to : ℕ) → block + weave_adds weaves < most → to < most
      → JumpsOn at most (block + weave_adds weaves) (Jump to) → Each Stands block (part weaves laid block to) → reached block
      → Each (Good at most reached) block (part weaves laid block to) × reached to
  part_laid weaves laid block to less within jumps stands comes =
      let list = laid.leaves block in let a = laid.many block in
      let same : block + length list ≡ block + weave_adds weaves = omega (arith, a) in
      let inside = laid.holds block less (each_front Stands list (Jump to ∷ []) block stands) comes in
      let last = each_from Stands (Jump to ∷ []) (block + length list) (block + weave_adds weaves) same (each_back Stands list (Jump to ∷ []) block stands) in
      let good : Good at most reached (block + weave_adds weaves) (Jump to) = record {
        below = All-cons (λ next. next < most) to [] within (All-nil (λ next. next < most));
        jumps = jumps;
        comes = inside.1;
      } in (
        each_join (Good at most reached) list (Jump to ∷ []) block inside.0
            (each_from (Good at most reached) (Jump to ∷ []) (block + weave_adds weaves) (block + length list) (sym same) (good, tt)),
        steps (block + weave_adds weaves) to (Jump to) last.0 inside.1 (0, omega arith, refl),
      )

  -- ---- an `if`

  if_laid : (types : List VarType) (operator : OpSpec) (args : List ℕ) (on_true on_false : List Weave) (count : ℕ) (assigns : ℕ → Bool)
      → AreLaid at most reached on_true → AreLaid at most reached on_false
      → Laid at most reached (record {
        count = count;
        added = 3 + weave_adds on_true + weave_adds on_false;
        assigns = assigns;
        weave = woven_branch types operator args on_true on_false;
      })
  if_laid types operator args on_true on_false count assigns first second = record {
    leaves = λ block. branch block ∷ (one block ++ two block);
    many = λ block.
        let a = length-append (one block) (two block) in
        let b = length-part on_true first (block + 1) (join block) in let c = length-part on_false second (other block) (join block) in
        omega (arith, a, b, c);
    is = λ place stretch.
        let inside = in_true place in let beside = in_false on_true place in
        let xs = stretch_blocks ((woven_all on_true inside).onto (just_left (Jump (join place.block)))) in
        let ys = stretch_blocks ((woven_all on_false beside).onto (just_left (Jump (join place.block)))) in
        let phis = phis_of (woven_all on_true inside).defined (woven_all on_false beside).defined
        (join_phis (length types) on_true on_false (woven_all on_true inside).defined (woven_all on_false beside).defined) in
        ap (λ list. branch place.block ∷ list)
        (map-append (λ (block : Block). block.leave) (xs ++ ys) (stretch_blocks (operators_first phis stretch))
        ∙ ap (λ list. list ++ leaves_of (stretch_blocks stretch))
        (map-append (λ (block : Block). block.leave) xs ys
        ∙ ap₂ (λ (list more : List Leave). list ++ more) (first.is inside (just_left (Jump (join place.block)))) (second.is beside (just_left (Jump (join place.block))))));
    go_on = λ block.
        let a = last-cons (branch block) (one block ++ two block) in let b = last-append (one block) (two block) in
        let c = part_goes_on on_true first (block + 1) (join block) in let d = part_goes_on on_false second (other block) (join block) in
        omega (arith, a, b, c, d);
    holds = λ block less stands comes.
        let a = length-part on_true first (block + 1) (join block) in
        let near : suc block ≡ block + 1 = omega arith in
        let far : suc block + length (one block) ≡ other block = omega (arith, a) in
        let stands_one = each_from Stands (one block) (suc block) (block + 1) near (each_front Stands (one block) (two block) (suc block) stands.1) in
        let stands_two = each_from Stands (two block) (suc block + length (one block)) (other block) far (each_back Stands (one block) (two block) (suc block) stands.1) in
        let comes_one = steps block (block + 1) (branch block) stands.0 comes (0, omega arith, refl) in
        let comes_two = steps block (other block) (branch block) stands.0 comes (1, omega arith, refl) in
        let passed = part_laid on_true first (block + 1) (join block) (omega (arith, less)) (omega (arith, less)) (inl (omega arith)) stands_one comes_one in
        let failed = part_laid on_false second (other block) (join block) (omega (arith, less)) (omega (arith, less)) (inl (omega arith)) stands_two comes_two in
        let good : Good at most reached block (branch block) = record {
          below = All-cons (λ next. next < most) (block + 1) (other block ∷ []) (omega (arith, less))
              (All-cons (λ next. next < most) (other block) [] (omega (arith, less)) (All-nil (λ next. next < most)));
          jumps = tt;
          comes = comes;
        } in
        let end : join block ≡ block + (3 + weave_adds on_true + weave_adds on_false) = omega arith in (
          (
            good,
            each_join (Good at most reached) (one block) (two block) (suc block)
                (each_from (Good at most reached) (one block) (block + 1) (suc block) (sym near) passed.0)
                (each_from (Good at most reached) (two block) (other block) (suc block + length (one block)) (sym far) failed.0),
          ),
          subst reached end passed.1,
        );
  }
    where
      other : ℕ → ℕ
      other block = block + 2 + weave_adds on_true

      join : ℕ → ℕ
      join block = join_after on_true on_false block

      branch : ℕ → Leave
      branch block = Branch (block + 1) (other block)

      one : ℕ → List Leave
      one block = part on_true first (block + 1) (join block)

      two : ℕ → List Leave
      two block = part on_false second (other block) (join block)

  -- ---- a `while`

  while_laid : (types : List VarType) (operator : OpSpec) (args : List ℕ) (body : List Weave) (count : ℕ) (assigns : ℕ → Bool)
      → AreLaid at most reached body
      → Laid at most reached (record { count = count; added = 3 + weave_adds body; assigns = assigns; weave = woven_loop types operator args body })
  while_laid types operator args body count assigns laid = record {
    leaves = λ block. Jump (block + 1) ∷ branch block ∷ inner block;
    many = λ block. let a = length-part body laid (block + 2) (block + 1) in omega (arith, a);
    is = λ place stretch.
        let xs = stretch_blocks ((woven_all body (in_body types body place)).onto (just_left (Jump (place.block + 1)))) in
        ap (λ list. Jump (place.block + 1) ∷ branch place.block ∷ list)
        (map-append (λ (block : Block). block.leave) xs (stretch_blocks stretch)
        ∙ ap (λ list. list ++ leaves_of (stretch_blocks stretch)) (laid.is (in_body types body place) (just_left (Jump (place.block + 1)))));
    go_on = λ block.
        let a = last-cons (Jump (block + 1)) (branch block ∷ inner block) in let b = last-cons (branch block) (inner block) in
        let c = part_goes_on body laid (block + 2) (block + 1) in omega (arith, a, b, c);
    holds = λ block less stands comes.
        let near : suc block ≡ block + 1 = omega arith in
        let far : suc (suc block) ≡ block + 2 = omega arith in
        let header : at (block + 1) ≡ branch block = subst (λ number. at number ≡ branch block) near stands.1.0 in
        let comes_header = steps block (block + 1) (Jump (block + 1)) stands.0 comes (0, omega arith, refl) in
        let comes_body = steps (block + 1) (block + 2) (branch block) header comes_header (0, omega arith, refl) in
        let comes_exit = steps (block + 1) (exit block) (branch block) header comes_header (1, omega arith, refl) in
        let turn = part_laid body laid (block + 2) (block + 1) (omega (arith, less)) (omega (arith, less))
        (inr (ap (λ leave. is_branch leave) header, omega (arith, less)))
        (each_from Stands (inner block) (suc (suc block)) (block + 2) far stands.1.1) comes_body in
        let entered : Good at most reached block (Jump (block + 1)) = record {
          below = All-cons (λ next. next < most) (block + 1) [] (omega (arith, less)) (All-nil (λ next. next < most));
          jumps = inl (omega arith);
          comes = comes;
        } in
        let decided : Good at most reached (suc block) (branch block) = record {
          below = All-cons (λ next. next < most) (block + 2) (exit block ∷ []) (omega (arith, less))
              (All-cons (λ next. next < most) (exit block) [] (omega (arith, less)) (All-nil (λ next. next < most)));
          jumps = tt;
          comes = subst reached (sym near) comes_header;
        } in
        let end : exit block ≡ block + (3 + weave_adds body) = omega arith in
        ((entered, (decided, each_from (Good at most reached) (inner block) (block + 2) (suc (suc block)) (sym far) turn.0)), subst reached end comes_exit);
  }
    where
      exit : ℕ → ℕ
      exit block = block + 3 + weave_adds body

      branch : ℕ → Leave
      branch block = Branch (block + 2) (exit block)

      inner : ℕ → List Leave
      inner block = part body laid (block + 2) (block + 1)

  -- ---- each statement

  abbrev IsLaid : List VarType → Stmt → Type 0
  IsLaid types stmt = Laid at most reached (weave_of types stmt)

  abbrev Proved : List VarType → Type 0
  Proved types = (stmt : Stmt) × IsLaid types stmt

  abbrev only : (types : List VarType) → Proved types → Stmt
  only types proved = proved.0

  inner_laid : (types : List VarType) (block : List (Proved types)) → AreLaid at most reached (map (weave_of types) (map (only types) block))
  inner_laid types [] = none_laid
  inner_laid types (first ∷ later) = more_laid (weave_of types first.0) (map (weave_of types) (map (only types) later)) first.1 (inner_laid types later)

  rolled : (types : List VarType) (one : Stmt-F Stmt)
      → Laid at most reached (weave_step types (map-Stmt Stmt Weave (weave_of types) one)) → IsLaid types (roll-Stmt one)
  rolled types one laid = rw (fold-roll-Stmt Weave (weave_step types) one) laid

  layer_laid : (types : List VarType) (one : Stmt-F (Proved types)) → IsLaid types (roll-Stmt (map-Stmt (Proved types) Stmt (only types) one))
  layer_laid types (layer.Assign target operator args) =
      rolled types (layer.Assign target operator args) (done_laid types (Some target) operator args _)
  layer_laid types (layer.Write operator args) =
      rolled types (layer.Write operator args) (done_laid types None operator args _)
  layer_laid types (layer.If operator args on_true on_false) =
      rolled types (layer.If operator args (map (only types) on_true) (map (only types) on_false))
      (if_laid types operator args _ _ _ _ (inner_laid types on_true) (inner_laid types on_false))
  layer_laid types (layer.While operator args body) =
      rolled types (layer.While operator args (map (only types) body))
      (while_laid types operator args _ _ _ (inner_laid types body))

  pub one_laid : (types : List VarType) (stmt : Stmt) → IsLaid types stmt
  one_laid types = ind-Stmt (IsLaid types) (λ one inner same. subst (λ some. IsLaid types (roll-Stmt some)) same (layer_laid types inner))

  pub block_laid : (types : List VarType) (block : List Stmt) → AreLaid at most reached (map (weave_of types) block)
  block_laid types [] = none_laid
  block_laid types (first ∷ later) = more_laid (weave_of types first) (map (weave_of types) later) (one_laid types first) (block_laid types later)
