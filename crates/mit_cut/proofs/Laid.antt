-- What an `if` and a `while` add to the blocks that are being built.
use Rattle.std.proofs.Common.{◌≡◌, ◌∙◌, ◌≤◌, ◌+◌, ◌*◌, ℕ, List, [], ◌∷◌, ◌++◌, length, map, set, ap, sym, subst, refl, arith, append_assoc, length-append, Option, None}
use Rattle.std.proofs.lemmas.List.{length-set}
use Rattle.std.specs.Prelude.{slice_set}
use Rattle.std.proofs.lemmas.List.{append-nil}
use Rattle.std.proofs.Math.Seq.{get_or-append_seam}
use Rattle.mit_ops.specs.declared.kinds.OpSpec.{OpSpec}
use Rattle.mit_ops.specs.declared.leave.Leave.{Leave}
use Rattle.mit_ops.specs.declared.leave.Leave.TheVariants.{Branch, End, Jump}
use Rattle.mit_script.specs.declared.tree.Stmt.{Stmt}
use Rattle.mit_cfg.specs.Blocks.{Cut, Stretch, all_of, branched_blocks, condition_alone, cut_adds, cut_counts, cut_in_turn, cut_of, left, looped_blocks, preceded, step_of}
use Rattle.mit_cfg.specs.declared.block.Block.{Block}
use Rattle.mit_cut.specs.Laying.{AddsStep, Joins, Lays, built, with_leave}
use Rattle.mit_cut.specs.declared.build.Builder.{Builder}
use Rattle.mit_cut.proofs.Counted.{block_few}

-- what the calls of the builder do
pub record Closed (leave : Leave) (old new : Builder) : Type 0 where
  pub blocks : new.blocks.items ≡ old.blocks.items ++ record { steps = old.steps.items; leave = leave } ∷ []
  pub steps : new.steps.items ≡ []
  pub number : new.number ≡ old.number

pub record LeftBy (number : ℕ) (leave : Leave) (old new : Builder) : Type 0 where
  pub blocks : new.blocks.items ≡ with_leave old.blocks.items number leave
  pub steps : new.steps.items ≡ old.steps.items
  pub same : new.number ≡ old.number

-- ---- one step

pub step_laid : (target : Option ℕ) (operator : OpSpec) (args : List ℕ) (old new : Builder) → AddsStep target operator args old new
    → Lays 1 0 (λ at number after. preceded (step_of number target operator args) after) old new
step_laid target operator args old new added = record {
  number = added.number;
  size = ap length added.blocks ∙ omega arith;
  laid = λ after. rw (added.blocks, added.steps, append_assoc old.steps.items (step_of old.number target operator args ∷ []) after.first.steps) refl;
}

-- ---- lists

-- what stands after so many blocks is left in another way
releaved : (front : List Block) (some : Block) (back : List Block) (leave : Leave) (number : ℕ) → length front ≡ number
    → with_leave (front ++ some ∷ back) number leave ≡ front ++ record { steps = some.steps; leave = leave } ∷ back
releaved front some back leave number is =
    subst (λ (n : ℕ). with_leave (front ++ some ∷ back) n leave ≡ front ++ record { steps = some.steps; leave = leave } ∷ back) is
    (ap (λ (block : Block). slice_set (front ++ some ∷ back) (length front) (record { steps = block.steps; leave = leave })) (get_or-append_seam front some back _)
    ∙ set_seam front some back (record { steps = some.steps; leave = leave }))
  where
    set_seam : (front : List Block) (some : Block) (back : List Block) (other : Block) → set (front ++ some ∷ back) (length front) other ≡ front ++ other ∷ back
    set_seam [] some back other = refl
    set_seam (first ∷ front) some back other = ap (λ list. first ∷ list) (set_seam front some back other)

-- where no steps stand yet, what is built goes on with a stretch
fresh_is : (builder : Builder) (after : Stretch) → builder.steps.items ≡ [] → built builder after ≡ builder.blocks.items ++ all_of after
fresh_is builder after none = ap (λ steps. builder.blocks.items ++ record { steps = steps ++ after.first.steps; leave = after.first.leave } ∷ after.later) none

-- a body between two closed blocks
body_is : (cuts : List Cut) (leave : Leave) (inside last : Builder) → inside.steps.items ≡ [] → Lays (cut_counts cuts) (cut_adds cuts) (cut_in_turn cuts) inside last
    → last.blocks.items ++ record { steps = last.steps.items; leave = leave } ∷ [] ≡ inside.blocks.items ++ all_of (left cuts (length inside.blocks.items) inside.number leave)
body_is cuts leave inside last none lays =
    ap (λ steps. last.blocks.items ++ record { steps = steps; leave = leave } ∷ []) (sym (append-nil last.steps.items))
    ∙ lays.laid (record { first = record { steps = []; leave = leave }; later = [] })
    ∙ fresh_is inside (left cuts (length inside.blocks.items) inside.number leave) none

body_laid : (cuts : List Cut) (leave : Leave) (inside last all : Builder) → inside.steps.items ≡ [] → Lays (cut_counts cuts) (cut_adds cuts) (cut_in_turn cuts) inside last
    → Closed leave last all → all.blocks.items ≡ inside.blocks.items ++ all_of (left cuts (length inside.blocks.items) inside.number leave)
body_laid cuts leave inside last all none lays closed = closed.blocks ∙ body_is cuts leave inside last none lays

pub closed_size : (leave : Leave) (old new : Builder) → Closed leave old new → length new.blocks.items ≡ length old.blocks.items + 1
closed_size leave old new closed = ap length closed.blocks ∙ length-append old.blocks.items (record { steps = old.steps.items; leave = leave } ∷ [])

length-with_leave : (blocks : List Block) (number : ℕ) (leave : Leave) → length (with_leave blocks number leave) ≡ length blocks
length-with_leave blocks number leave = length-set blocks number _

-- ---- a `while`

pub while_laid : (operator : OpSpec) (args : List ℕ) (body : List Cut) (header exit : ℕ) (old entered condition inside last all new : Builder)
    → header ≡ length old.blocks.items + 1 → exit ≡ length all.blocks.items
    → Closed (Jump header) old entered → AddsStep None operator args entered condition → Closed End condition inside
    → Lays (cut_counts body) (cut_adds body) (cut_in_turn body) inside last → Closed (Jump header) last all
    → LeftBy header (Branch (header + 1) exit) all new
    → Lays (1 + cut_counts body) (3 + cut_adds body) (λ at number after. looped_blocks number operator args body at after) old new
while_laid operator args body header exit old entered condition inside last all new is_header is_exit closed added ended lays back relabelled = record {
  number =
      let a = relabelled.same in let b = back.number in let c = lays.number in let d = ended.number in let e = added.number in let f = closed.number in
      omega (arith, a, b, c, d, e, f);
  size = total;
  laid = λ after. fresh_is new after (relabelled.steps ∙ back.steps) ∙ ap (λ list. list ++ all_of after) whole ∙ assembled after;
}
  where
    at : ℕ
    at = length old.blocks.items

    front : List Block
    front = entered.blocks.items

    front_size : length front ≡ header
    front_size = closed_size (Jump header) old entered closed ∙ sym is_header

    inside_size : length inside.blocks.items ≡ at + 2
    inside_size = let a = closed_size End condition inside ended in let b = ap length added.blocks in omega (arith, a, b, front_size, is_header)

    all_size : length all.blocks.items ≡ at + 3 + cut_adds body
    all_size = let a = closed_size (Jump header) last all back in let b = lays.size in omega (arith, a, b, inside_size)

    total : length new.blocks.items ≡ at + (3 + cut_adds body)
    total = ap length relabelled.blocks ∙ length-with_leave all.blocks.items header (Branch (header + 1) exit) ∙ omega (arith, all_size)

    steps : condition.steps.items ≡ step_of (old.number) None operator args ∷ []
    steps = added.steps ∙ rw (closed.steps, closed.number) refl

    number : inside.number ≡ old.number + 1
    number = ended.number ∙ added.number ∙ ap (λ (n : ℕ). n + 1) closed.number

    inside_is : inside.blocks.items ≡ front ++ record { steps = step_of old.number None operator args ∷ []; leave = End } ∷ []
    inside_is = ended.blocks ∙ rw (added.blocks, steps) refl

    part : Stretch
    part = left body (at + 2) (old.number + 1) (Jump (at + 1))

    all_is : all.blocks.items ≡ front ++ record { steps = step_of old.number None operator args ∷ []; leave = End } ∷ all_of part
    all_is =
        body_laid body (Jump header) inside last all ended.steps lays back
        ∙ rw (inside_size, number, inside_is, is_header) (append_assoc front (record { steps = step_of old.number None operator args ∷ []; leave = End } ∷ []) (all_of part))

    whole : new.blocks.items ≡ front ++ condition_alone old.number operator args (at + 2) (at + 3 + cut_adds body) ∷ all_of part
    whole =
        relabelled.blocks
        ∙ ap (λ list. with_leave list header (Branch (header + 1) exit)) all_is
        ∙ releaved front (record { steps = step_of old.number None operator args ∷ []; leave = End }) (all_of part) (Branch (header + 1) exit) header front_size
        ∙ ap (λ (to : ℕ × ℕ). front ++ condition_alone old.number operator args to.0 to.1 ∷ all_of part)
        (let a : header + 1 ≡ at + 2 = omega (arith, is_header) in let b : exit ≡ at + 3 + cut_adds body = omega (arith, is_exit, all_size) in rw (a, b) refl)

    assembled : (after : Stretch) → (front ++ condition_alone old.number operator args (at + 2) (at + 3 + cut_adds body) ∷ all_of part) ++ all_of after
        ≡ built old (looped_blocks old.number operator args body at after)
    assembled after =
        append_assoc front (condition_alone old.number operator args (at + 2) (at + 3 + cut_adds body) ∷ all_of part) (all_of after)
        ∙ ap (λ list. list ++ (condition_alone old.number operator args (at + 2) (at + 3 + cut_adds body) ∷ all_of part ++ all_of after)) (closed.blocks)
        ∙ append_assoc old.blocks.items (record { steps = old.steps.items; leave = Jump header } ∷ []) (condition_alone old.number operator args (at + 2) (at + 3 + cut_adds body) ∷ all_of part ++ all_of after)
        ∙ rw (is_header, append-nil old.steps.items) refl

-- ---- an `if`

pub if_laid : (operator : OpSpec) (args : List ℕ) (on_true on_false : List Cut) (here last : ℕ) (old condition inside first between second new : Builder)
    → here ≡ length old.blocks.items → last ≡ length first.blocks.items
    → AddsStep None operator args old condition → Closed End condition inside
    → Lays (cut_counts on_true) (cut_adds on_true) (cut_in_turn on_true) inside first → Closed End first between
    → Lays (cut_counts on_false) (cut_adds on_false) (cut_in_turn on_false) between second → Joins here last second new
    → Lays (1 + cut_counts on_true + cut_counts on_false) (3 + cut_adds on_true + cut_adds on_false)
    (λ at number after. branched_blocks number operator args on_true on_false at after) old new
if_laid operator args on_true on_false here last old condition inside first between second new is_here is_last added ended lays parted lays' joins = record {
  number =
      let c = joins.number in let d = lays'.number in let e = parted.number in
      let f = lays.number in let g = ended.number in let h = added.number in
      omega (arith, c, d, e, f, g, h);
  size = total;
  laid = λ after. fresh_is new after joins.steps ∙ ap (λ list. list ++ all_of after) whole
      ∙ append_assoc old.blocks.items (record { steps = old.steps.items ++ step_of old.number None operator args ∷ []; leave = Branch (at + 1) (at + 2 + cut_adds on_true) } ∷ all_of one ++ all_of other) (all_of after);
}
  where
    at : ℕ
    at = length old.blocks.items

    join_at : ℕ
    join_at = at + 2 + cut_adds on_true + 1 + cut_adds on_false

    one : Stretch
    one = left on_true (at + 1) (old.number + 1) (Jump join_at)

    other : Stretch
    other = left on_false (at + 2 + cut_adds on_true) (old.number + 1 + cut_counts on_true) (Jump join_at)

    opened : Leave → Block
    opened leave = record { steps = old.steps.items ++ step_of old.number None operator args ∷ []; leave = leave }

    inside_size : length inside.blocks.items ≡ at + 1
    inside_size = let a = closed_size End condition inside ended in let b = ap length added.blocks in omega (arith, a, b)

    last_is : last ≡ at + 1 + cut_adds on_true
    last_is = let a = lays.size in omega (arith, is_last, a, inside_size)

    between_size : length between.blocks.items ≡ at + 2 + cut_adds on_true
    between_size = let a = closed_size End first between parted in omega (arith, a, is_last, last_is)

    join : ℕ
    join = length second.blocks.items + 1

    join_is : join ≡ join_at
    join_is = let a = lays'.size in omega (arith, a, between_size)

    all : List Block
    all = second.blocks.items ++ record { steps = second.steps.items; leave = Jump join } ∷ []

    inside_number : inside.number ≡ old.number + 1
    inside_number = ended.number ∙ added.number

    between_number : between.number ≡ old.number + 1 + cut_counts on_true
    between_number = let a = parted.number in let b = lays.number in omega (arith, a, b, inside_number)

    all_size : length all ≡ at + (3 + cut_adds on_true + cut_adds on_false)
    all_size =
        let a = length-append second.blocks.items (record { steps = second.steps.items; leave = Jump join } ∷ []) in
        let b = lays'.size in omega (arith, a, b, between_size)

    total : length new.blocks.items ≡ at + (3 + cut_adds on_true + cut_adds on_false)
    total =
        ap length joins.blocks ∙ length-with_leave (with_leave all last (Jump join)) here (Branch (here + 1) (last + 1))
        ∙ length-with_leave all last (Jump join) ∙ all_size

    inside_is : inside.blocks.items ≡ old.blocks.items ++ opened End ∷ []
    inside_is = ended.blocks ∙ rw (added.blocks, added.steps) refl

    true_is : first.blocks.items ++ record { steps = first.steps.items; leave = Jump join } ∷ [] ≡ old.blocks.items ++ opened End ∷ [] ++ all_of one
    true_is = body_is on_true (Jump join) inside first ended.steps lays ∙ rw (inside_size, inside_number, inside_is, join_is) refl

    all_is : all ≡ first.blocks.items ++ record { steps = first.steps.items; leave = End } ∷ all_of other
    all_is =
        body_is on_false (Jump join) between second parted.steps lays'
        ∙ rw (between_size, between_number, parted.blocks, join_is) (append_assoc first.blocks.items (record { steps = first.steps.items; leave = End } ∷ []) (all_of other))

    joined_is : with_leave all last (Jump join) ≡ old.blocks.items ++ opened End ∷ (all_of one ++ all_of other)
    joined_is =
        ap (λ list. with_leave list last (Jump join)) all_is
        ∙ releaved first.blocks.items (record { steps = first.steps.items; leave = End }) (all_of other) (Jump join) last (sym is_last)
        ∙ sym (append_assoc first.blocks.items (record { steps = first.steps.items; leave = Jump join } ∷ []) (all_of other))
        ∙ ap (λ list. list ++ all_of other) true_is
        ∙ append_assoc (old.blocks.items ++ opened End ∷ []) (all_of one) (all_of other)
        ∙ append_assoc old.blocks.items (opened End ∷ []) (all_of one ++ all_of other)

    whole : new.blocks.items ≡ old.blocks.items ++ opened (Branch (at + 1) (at + 2 + cut_adds on_true)) ∷ (all_of one ++ all_of other)
    whole =
        joins.blocks ∙ ap (λ list. with_leave list here (Branch (here + 1) (last + 1))) joined_is
        ∙ releaved old.blocks.items (opened End) (all_of one ++ all_of other) (Branch (here + 1) (last + 1)) here (sym is_here)
        ∙ ap (λ (to : ℕ × ℕ). old.blocks.items ++ opened (Branch to.0 to.1) ∷ (all_of one ++ all_of other))
        (let a : here + 1 ≡ at + 1 = omega (arith, is_here) in let b : last + 1 ≡ at + 2 + cut_adds on_true = omega (arith, last_is) in rw (a, b) refl)

-- ---- how many blocks there are

-- after the first part of an `if`
pub first_few : (operator : OpSpec) (args : List ℕ) (block : List Stmt) (old condition inside first : Builder) → AddsStep None operator args old condition → Closed End condition inside
    → Lays (cut_counts (map cut_of block)) (cut_adds (map cut_of block)) (cut_in_turn (map cut_of block)) inside first → length old.blocks.items ≤ 3 * old.number
    → (length first.blocks.items + 2 ≤ 3 * first.number) × (first.number ≡ old.number + 1 + cut_counts (map cut_of block))
first_few operator args block old condition inside first added ended lays blocks =
    let a = closed_size End condition inside ended in let b = ap length added.blocks in
    let c = added.number in let d = ended.number in let e = lays.number in let f = lays.size in let g = (block_few block).few in
    (omega (arith, a, b, c, d, e, f, g, blocks), omega (arith, c, d, e))

-- after the second one
pub second_few : (block : List Stmt) (first between second : Builder) → Closed End first between
    → Lays (cut_counts (map cut_of block)) (cut_adds (map cut_of block)) (cut_in_turn (map cut_of block)) between second → length first.blocks.items + 2 ≤ 3 * first.number
    → (length between.blocks.items ≤ 3 * between.number) × (length second.blocks.items + 1 ≤ 3 * second.number) × (second.number ≡ first.number + cut_counts (map cut_of block))
second_few block first between second parted lays blocks =
    let a = closed_size End first between parted in
    let b = parted.number in let c = lays.number in let d = lays.size in let e = (block_few block).few in
    (omega (arith, a, b, blocks), omega (arith, a, b, c, d, e, blocks), omega (arith, b, c))

-- after the body of a `while`
pub body_few : (operator : OpSpec) (args : List ℕ) (block : List Stmt) (header : ℕ) (old entered condition inside last all : Builder)
    → Closed (Jump header) old entered → AddsStep None operator args entered condition → Closed End condition inside
    → Lays (cut_counts (map cut_of block)) (cut_adds (map cut_of block)) (cut_in_turn (map cut_of block)) inside last → Closed (Jump header) last all → length old.blocks.items ≤ 3 * old.number
    → length all.blocks.items ≤ 3 * (old.number + 1 + cut_counts (map cut_of block))
body_few operator args block header old entered condition inside last all closed added ended lays back blocks =
    let a = closed_size (Jump header) old entered closed in let b = ap length added.blocks in let c = closed_size End condition inside ended in
    let d = lays.size in let e = closed_size (Jump header) last all back in let f = (block_few block).few in
    omega (arith, a, b, c, d, e, f, blocks)
