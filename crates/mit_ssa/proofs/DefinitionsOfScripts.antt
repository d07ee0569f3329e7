-- The plan of an accepted script keeps the conditions on definitions.
use Rattle.std.proofs.Common.{◌≡◌, ◌∙◌, ◌<◌, ◌≤◌, ◌+◌, ℕ, zero, suc, List, [], ◌∷◌, length, map, get_or, ap, sym, subst, refl, arith, Bool, true, false, None, Result, Ok, Err, ◌⊎◌, inl, inr}
use Rattle.std.proofs.lemmas.Bool.{cases_lt}
use Rattle.mit_ops.specs.declared.leave.Leave.TheVariants.{End}
use Rattle.mit_ops.specs.declared.types.VarType.{VarType}
use Rattle.mit_plan.specs.Plans.{no_block, no_op}
use Rattle.mit_plan.specs.declared.plan.PlanBlock.{PlanBlock}
use Rattle.mit_plan.specs.declared.plan.PlanOp.{PlanOp}
use Rattle.mit_plan.specs.Valid.{EdgesGoUp, OperandsApart, PlacesToChoose}
use Rattle.mit_script.specs.Accepted.{Fault, Known, and_then, at_start, check_of, checked, in_order, is_assigned, type_or_unset}
use Rattle.mit_script.specs.declared.tree.Script.{Script}
use Rattle.mit_ssa.specs.PlanFor.{blocks_from, operators_of, ops_from, plan_for, plan_of_blocks}
use Rattle.mit_ssa.specs.Woven.{Weave, just_left, start_place, stretch_blocks, weave_adds, weave_of, woven_all, woven_blocks}
use Rattle.mit_ssa.specs.declared.block.Block.{Block}
use Rattle.mit_ssa.specs.declared.block.Operator.{Operator}
use Rattle.mit_ssa.proofs.DefinitionsPhis.{Each}
use Rattle.mit_ssa.proofs.DefinitionsReady.{Ready}
use Rattle.mit_ssa.proofs.DefinitionsGood.{GoodBlocks, GoodOps, Mark, Marks, begins}
use Rattle.mit_ssa.proofs.DefinitionsWoven.{Good, Placed, block_flows}
use Rattle.mit_ssa.proofs.DefinitionsNumbered.{blocks_end, blocks_last, blocks_length, leaves, ops_length, stands, starts_to, Leaves, Stands, no_operator}
use Rattle.mit_ssa.proofs.DefinitionsPassed.{IsGoodPlan, edges_go_up, operands_apart, places_to_choose}

-- ---- the start

pub record Ends (names : List (List ℕ)) (found : Result Known Fault) (types : List VarType) : Type 0 where
  pub last : Known
  pub is : found ≡ Ok last
  pub types_are : map type_or_unset last.types ≡ types

pub ends_with : (names : List (List ℕ)) (found : Result Known Fault) (types : List VarType) → and_then found (λ last. Ok (map type_or_unset last.types)) ≡ Ok types
    → Ends names found types
ends_with names (Ok last) types is = record { last = last; is = refl; types_are = one_ok (map type_or_unset last.types) types is }
  where
    one_ok : (a b : List VarType) → ◌≡◌ {A = Result (List VarType) Fault} (Ok a) (Ok b) → a ≡ b
    one_ok a b same = cc
ends_with names (Err fault) types is = absurd cc

pub map_length : {A B : Type 0} (f : A → B) (xs : List A) → length (map f xs) ≡ length xs
map_length f [] = refl
map_length f (x ∷ xs) = ap suc (map_length f xs)

pub none_assigned : (names : List (List ℕ)) (variable : ℕ) → is_assigned (map (λ _. false) names) variable ≡ false
none_assigned [] variable = refl
none_assigned (name ∷ names) zero = refl
none_assigned (name ∷ names) (suc variable) = none_assigned names variable

pub start_ready : (names : List (List ℕ)) (variables : ℕ) → length names ≡ variables → Ready variables (at_start names) (λ variable. None)
start_ready names variables many = record {
  many = map_length (λ name. false) names ∙ many;
  each = λ variable is. absurd (no_both (is_assigned (map (λ _. false) names) variable) (none_assigned names variable) is);
}
  where
    no_both : (b : Bool) → b ≡ false → b ≡ true → ⊥
    no_both b not is = cc

-- ---- the marks of all blocks

abbrev pub first_mark : Mark
first_mark = record { entry = λ variable. []; start = 0 }

abbrev pub look_of : List Mark → Marks
look_of marks block = get_or (first_mark ∷ marks) block first_mark

placed_all : (look : Marks) (block : ℕ) (marks : List Mark) → ((k : ℕ) → k < length marks → look (block + k) ≡ get_or marks k first_mark) → Placed look block marks
unfolding Placed
placed_all look block [] at = tt
placed_all look block (mark ∷ marks) at = (
  (let e : block ≡ block + 0 = omega arith in ap look e ∙ at 0 (omega arith)),
  placed_all look (block + 1) marks (λ k below. let e : block + 1 + k ≡ block + suc k = omega arith in ap look e ∙ at (suc k) (omega arith)),
)

look_at : (marks : List Mark) (k : ℕ) → look_of marks (1 + k) ≡ get_or marks k first_mark
look_at marks k = let e : 1 + k ≡ suc k = omega arith in ap (look_of marks) e

past : {A : Type 0} (xs : List A) (k : ℕ) (d : A) → length xs ≤ k → get_or xs k d ≡ d
past [] k d le = refl
past (x ∷ xs) zero d le = absurd (omega arith)
past (x ∷ xs) (suc k) d le = past xs k d (omega arith)

-- ---- the whole script

pub record HasMarks (variables : ℕ) (blocks : List Block) : Type 0 where
  pub marks : List Mark
  pub last : ℕ
  pub end : ℕ
  pub many : length (first_mark ∷ marks) ≡ last
  pub good : GoodBlocks variables (look_of marks) 0 0 blocks last end

woven_marks : (variables : ℕ) (weaves : List Weave) → Good variables start_place (weave_adds weaves) (woven_all weaves start_place)
    → HasMarks variables (stretch_blocks ((woven_all weaves start_place).onto (just_left End)))
unfolding GoodBlocks GoodOps Each
woven_marks variables weaves good = record {
  marks = good.marks;
  last = 0 + weave_adds weaves + 1;
  end = (woven_all weaves start_place).operator;
  many = (let e = good.many in omega (arith, e));
  good = begins variables look 0 0 ((woven_all weaves start_place).onto (just_left End)) (0 + weave_adds weaves + 1) (woven_all weaves start_place).operator refl
      (good.carries look (placed_all look 1 good.marks (λ k below. look_at good.marks k)) (just_left End) (0 + weave_adds weaves + 1) (woven_all weaves start_place).operator
      (λ at. record { next = (woven_all weaves start_place).operator; good = record { ops = refl; leads = tt }; rest = (refl, refl) })
      (record { start = omega arith; has = λ variable operator below none. absurd cc }));
}
  where
    look : Marks
    look = look_of good.marks

marks_of : (script : Script) (types : List VarType) → checked script ≡ Ok types → HasMarks (length types) (woven_blocks script types)
marks_of script types accepted =
    let ended = ends_with script.names (in_order (map check_of script.body) (at_start script.names)) types accepted in
    let flows = block_flows types script.body in
    let a = flows.sizes (at_start script.names) ended.last ended.is in
    let b = map_length type_or_unset ended.last.types in
    let c = ap (λ (ts : List VarType). length ts) ended.types_are in
    let d = start_size script.names in
    woven_marks (length types) (map (weave_of types) script.body)
    (flows.good start_place (at_start script.names) ended.last ended.is (start_ready script.names (length types) (omega (arith, a, b, c, d))))
  where
    start_size : (names : List (List ℕ)) → length (at_start names).types ≡ length names
    start_size names = map_length (λ name. None) names

-- ---- its plan

good_plan : (variables : ℕ) (blocks : List Block) (has : HasMarks variables blocks) → IsGoodPlan variables (look_of has.marks) (plan_of_blocks blocks) (operators_of blocks)
good_plan variables blocks has = record {
  edges = refl;
  many = ops_length 0 blocks;
  begin = λ variable. refl;
  outside = λ block le. ap (λ (m : Mark). m.start) (past (first_mark ∷ has.marks) block first_mark (let e = has.many in omega (arith, e, size, le)));
  starts = λ block. by_order block (cases_lt block has.last);
  stands = λ op below.
      let e : 0 + op ≡ op = omega arith in
      subst (λ (n : ℕ). Stands variables look 0 n (length (plan_of_blocks blocks).blocks) (op_of op) (operator_at op)) e
      (subst (λ (l : ℕ). Stands variables look 0 (0 + op) l (op_of op) (operator_at op)) (sym size) (stands variables look 0 0 blocks has.last has.end has.good op below));
  leaves = λ block below.
      let e : 0 + block ≡ block = omega arith in
      let f = blocks_length 0 blocks in
      subst (λ (n : ℕ). Leaves variables look n (length (plan_of_blocks blocks).blocks) (length (plan_of_blocks blocks).ops) (block_of block)) e
      (subst (λ (l : ℕ). Leaves variables look (0 + block) l (length (plan_of_blocks blocks).ops) (block_of block)) (sym size)
      (subst (λ (n : ℕ). Leaves variables look (0 + block) has.last n (block_of block)) (sym ops_size)
      (leaves variables look 0 0 blocks has.last has.end has.good block (omega (arith, f, below)))));
}
  where
    look : Marks
    look = look_of has.marks

    op_of : ℕ → PlanOp
    op_of op = get_or (ops_from 0 blocks) op no_op

    operator_at : ℕ → Operator
    operator_at op = get_or (operators_of blocks) op no_operator

    block_of : ℕ → PlanBlock
    block_of block = get_or (blocks_from 0 blocks) block no_block

    size : length (plan_of_blocks blocks).blocks ≡ has.last
    size = let e = blocks_last variables look 0 0 blocks has.last has.end has.good in let f = blocks_length 0 blocks in omega (arith, e, f)

    ops_size : length (plan_of_blocks blocks).ops ≡ has.end
    ops_size = let e = blocks_end variables look 0 0 0 blocks has.last has.end has.good in omega (arith, e)

    by_order : (block : ℕ) → (block < has.last) ⊎ (has.last ≤ block) → (look block).start ≤ length (plan_of_blocks blocks).ops
    by_order block (inl lt) = let e = starts_to variables look 0 0 blocks has.last has.end has.good block (omega arith) lt in omega (arith, e, ops_size)
    by_order block (inr ge) =
        let e = ap (λ (m : Mark). m.start) (past (first_mark ∷ has.marks) block first_mark (let f = has.many in omega (arith, f, ge))) in
        starts_low (look block).start e
      where
        starts_low : (n : ℕ) → n ≡ first_mark.start → n ≤ length (plan_of_blocks blocks).ops
        starts_low n is = omega (arith, is)

pub has_good_plan : (script : Script) (types : List VarType) → checked script ≡ Ok types → (look : Marks) × IsGoodPlan (length types) look (plan_for script types) (operators_of (woven_blocks script types))
has_good_plan script types accepted =
    let has = marks_of script types accepted in (look_of has.marks, good_plan (length types) (woven_blocks script types) has)

pub operands_kept : (script : Script) (types : List VarType) → checked script ≡ Ok types → OperandsApart (plan_for script types)
operands_kept script types accepted =
    let found = has_good_plan script types accepted in
    operands_apart (length types) found.0 (plan_for script types) (operators_of (woven_blocks script types)) found.1

pub upward_kept : (script : Script) (types : List VarType) → checked script ≡ Ok types → EdgesGoUp (plan_for script types)
upward_kept script types accepted =
    let found = has_good_plan script types accepted in
    edges_go_up (length types) found.0 (plan_for script types) (operators_of (woven_blocks script types)) found.1

pub places_kept : (script : Script) (types : List VarType) → checked script ≡ Ok types → PlacesToChoose (plan_for script types)
places_kept script types accepted =
    let found = has_good_plan script types accepted in
    places_to_choose (length types) found.0 (plan_for script types) (operators_of (woven_blocks script types)) found.1
