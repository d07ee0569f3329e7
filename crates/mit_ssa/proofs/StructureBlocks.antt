-- Blocks of a script's plan: each names blocks that come next, jumps alone come to an end, and each block is reached.
use Rattle.std.proofs.Common.{◌≡◌, ◌∙◌, ◌≤◌, ◌<◌, ◌+◌, ◌-◌, ℕ, zero, suc, List, [], ◌∷◌, ◌++◌, length, get_or, map, ap, sym, subst, refl, arith, length-append, true, cond, inl, inr, ⊎_elim}
use Rattle.std.specs.Prelude.{All, Contains, count_by, slice_index}
use Rattle.std.proofs.lemmas.Bool.{cases_lt}
use Rattle.std.proofs.lemmas.List.{get_or-map, get_or_append_left, get_or_at, length-map}
use Rattle.std.proofs.lemmas.List.Elements.{All-head, All-nil, All-tail}
use Rattle.std.proofs.lemmas.List.Sums.{sum_by-append, sum_by-cons}
use Rattle.mit_ops.specs.declared.leave.Leave.{Leave}
use Rattle.mit_ops.specs.declared.leave.Leave.TheVariants.{Branch, End, Jump}
use Rattle.mit_ops.specs.declared.types.VarType.{VarType}
use Rattle.mit_plan.specs.Paths.{next_of}
use Rattle.mit_plan.specs.Plans.{PlanOf, block_at, no_block}
use Rattle.mit_plan.specs.Valid.{BlocksReached, IsReached, JumpsEnd, LeavesNameBlocks, NamesBlocks, by_leave, is_branch, is_end, settles}
use Rattle.mit_plan.specs.declared.plan.PlanBlock.{PlanBlock}
use Rattle.mit_script.specs.declared.tree.Script.{Script}
use Rattle.mit_script.specs.declared.tree.Stmt.{Stmt}
use Rattle.mit_ssa.specs.PlanFor.{blocks_from, plan_for, plan_of_blocks}
use Rattle.mit_ssa.specs.Woven.{just_left, start_place, weave_adds, weave_of, woven_blocks}
use Rattle.mit_ssa.specs.declared.block.Block.{Block}
use Rattle.mit_ssa.proofs.StructureEach.{Each, each_at, each_front, each_join, each_made}
use Rattle.mit_ssa.proofs.StructureLeaves.{AreLaid, Good, JumpsOn, block_laid, leaves_of}
use Rattle.mit_ssa.proofs.StructureLists.{length-blocks_from}

-- ---- how the blocks of a plan are left

abbrev leave_at : PlanOf → ℕ → Leave
leave_at plan block = (block_at plan block).leave

abbrev plan_leaves : List PlanBlock → List Leave
plan_leaves blocks = map (λ block. block.leave) blocks

leaves_same : (blocks : List Block) (first : ℕ) → plan_leaves (blocks_from first blocks) ≡ leaves_of blocks
unfolding blocks_from
leaves_same [] first = refl
leaves_same (block ∷ blocks) first = ap (λ list. block.leave ∷ list) (leaves_same blocks (first + length block.operators))

leave_is : (blocks : List Block) (number : ℕ) → number < length blocks → leave_at (plan_of_blocks blocks) number ≡ get_or (leaves_of blocks) number End
leave_is blocks number less =
    let a = length-blocks_from blocks 0 in
    let short : number < length (blocks_from 0 blocks) = omega (arith, a, less) in
    sym (get_or-map (λ (block : PlanBlock). block.leave) (blocks_from 0 blocks) number no_block End short)
    ∙ ap (λ list. get_or list number End) (leaves_same blocks 0)

leaves_stand : (blocks : List Block) → Each (λ number leave. leave_at (plan_of_blocks blocks) number ≡ leave) 0 (leaves_of blocks)
leaves_stand blocks = each_made (λ number leave. leave_at (plan_of_blocks blocks) number ≡ leave) (leaves_of blocks) 0 End (λ i less.
    let a = length-map blocks (λ (block : Block). block.leave) in
    let e : 0 + i ≡ i = omega arith in let short : i < length blocks = omega (arith, a, less) in
    ap (λ k. leave_at (plan_of_blocks blocks) k) e ∙ leave_is blocks i short)

-- ---- paths

starts_at_0 : (plan : PlanOf) → IsReached plan 0
starts_at_0 plan = record {
  path = 0 ∷ [];
  is_path = record { starts = omega arith; first = refl; leads = λ place less. absurd (omega (arith, less)) };
  ends = refl;
}

-- a path goes on to a block that may come next
path_on : (plan : PlanOf) (number next : ℕ) → IsReached plan number → Contains (next_of (leave_at plan number)) next → IsReached plan next
path_on plan number next reached next_in = record {
  path = path ++ next ∷ [];
  is_path = record {
    starts = omega (arith, size);
    first = get_or_append_left path (next ∷ []) 0 0 some ∙ reached.is_path.first;
    leads = λ place less. ⊎_elim (inside place less) (at_end place less) (cases_lt (suc place) (length path));
  };
  ends = get_or_at path next [] 0 (length (path ++ next ∷ []) - 1) (omega (arith, size));
}
  where
    path : List ℕ
    path = reached.path

    some : 0 < length path
    some = reached.is_path.starts

    size : length (path ++ next ∷ []) ≡ length path + 1
    size = length-append path (next ∷ [])

    Leads : ℕ → ℕ → Type 0
    Leads one other = Contains (next_of (leave_at plan one)) other

    inside : (place : ℕ) → suc place < length (path ++ next ∷ []) → suc place < length path
        → Leads (slice_index (path ++ next ∷ []) place) (slice_index (path ++ next ∷ []) (suc place))
    inside place less short =
        let before : place < length path = omega (arith, short) in
        subst (λ one. Leads one (slice_index (path ++ next ∷ []) (suc place))) (sym (get_or_append_left path (next ∷ []) 0 place before))
        (subst (λ other. Leads (slice_index path place) other) (sym (get_or_append_left path (next ∷ []) 0 (suc place) short)) (reached.is_path.leads place short))

    at_end : (place : ℕ) → suc place < length (path ++ next ∷ []) → length path ≤ suc place
        → Leads (slice_index (path ++ next ∷ []) place) (slice_index (path ++ next ∷ []) (suc place))
    at_end place less long =
        let before : place < length path = omega (arith, size, less) in
        let last : place ≡ length path - 1 = omega (arith, before, long) in
        let whole : length path ≡ suc place = omega (arith, before, long) in
        subst (λ one. Leads one (slice_index (path ++ next ∷ []) (suc place)))
        (sym (get_or_append_left path (next ∷ []) 0 place before ∙ ap (λ k. slice_index path k) last ∙ reached.ends))
        (subst (λ other. Leads number other) (sym (get_or_at path next [] 0 (suc place) whole)) next_in)

-- ---- all blocks of a script

abbrev GoodIn : PlanOf → ℕ → Leave → Type 0
GoodIn plan = Good (leave_at plan) (length plan.blocks) (IsReached plan)

laid_in : (plan : PlanOf) (types : List VarType) (body : List Stmt) → AreLaid (leave_at plan) (length plan.blocks) (IsReached plan) (map (weave_of types) body)
laid_in plan types body = block_laid (leave_at plan) (length plan.blocks) (IsReached plan) (path_on plan) types body

leaves_whole : (script : Script) (types : List VarType)
    → leaves_of (woven_blocks script types) ≡ (laid_in (plan_for script types) types script.body).leaves 0 ++ End ∷ []
leaves_whole script types = (laid_in (plan_for script types) types script.body).is start_place (just_left End)

all_good : (script : Script) (types : List VarType) → Each (GoodIn (plan_for script types)) 0 (leaves_of (woven_blocks script types))
all_good script types =
    subst (λ list. Each (GoodIn plan) 0 list) (sym whole)
    (each_join (GoodIn plan) front (End ∷ []) 0 inside.0 (
      record {
        below = All-nil (λ next. next < length plan.blocks);
        jumps = tt;
        comes = subst (IsReached plan) at_last inside.1;
      },
      tt,
    ))
  where
    plan : PlanOf
    plan = plan_for script types

    laid : AreLaid (leave_at plan) (length plan.blocks) (IsReached plan) (map (weave_of types) script.body)
    laid = laid_in plan types script.body

    front : List Leave
    front = laid.leaves 0

    whole : leaves_of (woven_blocks script types) ≡ front ++ End ∷ []
    whole = leaves_whole script types

    size : length plan.blocks ≡ weave_adds (map (weave_of types) script.body) + 1
    size =
        let a = length-blocks_from (woven_blocks script types) 0 in let b = length-map (woven_blocks script types) (λ (block : Block). block.leave) in
        let c = ap length whole in let d = length-append front (End ∷ []) in let e = laid.many 0 in
        omega (arith, a, b, c, d, e)

    at_last : 0 + weave_adds (map (weave_of types) script.body) ≡ 0 + length front
    at_last = let e = laid.many 0 in omega (arith, e)

    inside : Each (GoodIn plan) 0 front × IsReached plan (0 + weave_adds (map (weave_of types) script.body))
    inside = laid.holds 0 (omega (arith, size))
        (each_front (λ number leave. leave_at plan number ≡ leave) front (End ∷ []) 0
        (subst (λ list. Each (λ number leave. leave_at plan number ≡ leave) 0 list) whole (leaves_stand (woven_blocks script types))))
        (starts_at_0 plan)

good_at : (script : Script) (types : List VarType) (number : ℕ) → number < length (plan_for script types).blocks
    → GoodIn (plan_for script types) number (leave_at (plan_for script types) number)
good_at script types number less =
    let blocks = woven_blocks script types in
    let a = length-blocks_from blocks 0 in let b = length-map blocks (λ (block : Block). block.leave) in
    let within : number < length blocks = omega (arith, a, less) in
    let short : number < length (leaves_of blocks) = omega (arith, a, b, less) in
    let e : 0 + number ≡ number = omega arith in
    subst (λ leave. GoodIn (plan_for script types) number leave) (sym (leave_is blocks number within))
    (subst (λ k. GoodIn (plan_for script types) k (get_or (leaves_of blocks) number End)) e
    (each_at (GoodIn (plan_for script types)) (leaves_of blocks) 0 number End (all_good script types) short))

names_blocks : (most : ℕ) (leave : Leave) → All (λ next. next < most) (next_of leave) → NamesBlocks most leave
names_blocks most (Jump next) below = All-head (λ one. one < most) next [] below
names_blocks most (Branch on_true on_false) below = (
  All-head (λ one. one < most) on_true (on_false ∷ []) below,
  All-head (λ one. one < most) on_false [] (All-tail (λ one. one < most) on_true (on_false ∷ []) below),
)
names_blocks most End below = tt

pub leaves_name_blocks : (script : Script) (types : List VarType) → LeavesNameBlocks (plan_for script types)
leaves_name_blocks script types block less =
    let plan = plan_for script types in names_blocks (length plan.blocks) (leave_at plan block) (good_at script types block less).below

-- ---- jumps

branch_settles : (plan : PlanOf) (steps block : ℕ) → 0 < steps → is_branch (leave_at plan block) ≡ true → settles plan steps block ≡ true
unfolding settles
branch_settles plan zero block some branch = absurd (omega (arith, some))
branch_settles plan (suc steps) block some branch = by (leave_at plan block) branch
  where
    by : (leave : Leave) → is_branch leave ≡ true → by_leave (settles plan steps) leave ≡ true
    by (Jump next) is = absurd (cc is)
    by (Branch on_true on_false) is = refl
    by End is = refl

abbrev Settle : PlanOf → ℕ → Type 0
Settle plan steps = (block : ℕ) → block < length plan.blocks → length plan.blocks ≤ block + steps → settles plan steps block ≡ true

settle_by : (plan : PlanOf) (steps block : ℕ) → Settle plan steps → length plan.blocks ≤ block + suc steps → (leave : Leave)
    → JumpsOn (leave_at plan) (length plan.blocks) block leave → All (λ next. next < length plan.blocks) (next_of leave) → by_leave (settles plan steps) leave ≡ true
settle_by plan steps block settle room (Jump next) (inl above) below =
    settle next (All-head (λ one. one < length plan.blocks) next [] below) (omega (arith, above, room))
settle_by plan steps block settle room (Jump next) (inr back) below =
    let before = back.1 in branch_settles plan steps next (omega (arith, before, room)) back.0
settle_by plan steps block settle room (Branch on_true on_false) jumps below = refl
settle_by plan steps block settle room End jumps below = refl

settle_in : (plan : PlanOf) → ((block : ℕ) → block < length plan.blocks → GoodIn plan block (leave_at plan block)) → (steps : ℕ) → Settle plan steps
unfolding settles
settle_in plan good zero block less room = absurd (omega (arith, less, room))
settle_in plan good (suc steps) block less room =
    let one = good block less in settle_by plan steps block (settle_in plan good steps) room (leave_at plan block) one.jumps one.below

pub jumps_end : (script : Script) (types : List VarType) → JumpsEnd (plan_for script types)
jumps_end script types block less =
    let plan = plan_for script types in settle_in plan (good_at script types) (length plan.blocks) block less (omega arith)

-- ---- one end

ends_counted : (blocks : List PlanBlock) → count_by (λ block. is_end block.leave) blocks ≡ count_by is_end (plan_leaves blocks)
ends_counted [] = refl
ends_counted (block ∷ blocks) =
    let a = sum_by-cons (λ (one : PlanBlock). cond (is_end one.leave) 1 0) block blocks in
    let b = sum_by-cons (λ (leave : Leave). cond (is_end leave) 1 0) block.leave (plan_leaves blocks) in
    let c = ends_counted blocks in
    omega (arith, a, b, c)

one_end : (script : Script) (types : List VarType) → count_by (λ block. is_end block.leave) (plan_for script types).blocks ≡ 1
one_end script types =
    let blocks = woven_blocks script types in let laid = laid_in (plan_for script types) types script.body in
    let a = ends_counted (blocks_from 0 blocks) in let b = ap (λ list. count_by is_end list) (leaves_same blocks 0 ∙ leaves_whole script types) in
    let c = sum_by-append (λ (leave : Leave). cond (is_end leave) 1 0) (laid.leaves 0) (End ∷ []) in
    let d = laid.go_on 0 in let e = sum_by-cons (λ (leave : Leave). cond (is_end leave) 1 0) End [] in
    omega (arith, a, b, c, d, e)

pub blocks_reached : (script : Script) (types : List VarType) → BlocksReached (plan_for script types)
blocks_reached script types = record {
  each = λ block less. (good_at script types block less).comes;
  one_end = one_end script types;
}
