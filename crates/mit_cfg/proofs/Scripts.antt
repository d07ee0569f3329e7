-- Walking the blocks of a script is executing it.
use Rattle.std.proofs.Common.{◌≡◌, ◌+◌, ◌*◌, ◌-◌, ℕ, List, [], ◌∷◌, ◌++◌, length, map, ap, sym, subst, refl, arith, All, flat_map, true}
use Rattle.std.specs.Prelude.{if◌then◌else◌, sum}
use Rattle.std.proofs.lemmas.List.{drop_at, take_at, append-nil}
use Rattle.std.proofs.lemmas.List.Elements.{All-drop, All-head, All-tail, All-take, All-weaker}
use Rattle.std.proofs.lemmas.List.Sums.{sum_by-cons}
use Rattle.mit_files.specs.Files.{FileMap}
use Rattle.mit_ops.specs.Endings.{finished}
use Rattle.mit_ops.specs.declared.kinds.OpSpec.{OpSpec}
use Rattle.mit_ops.specs.declared.leave.Leave.TheVariants.{End}
use Rattle.mit_script.specs.Execution.{Doing, Ended, ScriptState, at_fault, by_condition, ending_of, exec, exec_of, exec_step, goes_on, if_goes_on, start}
use Rattle.mit_script.specs.Execution.{counts, in_turn}
use Rattle.mit_script.specs.Trees.{Head, IsFormed, IsFormedHead, assigns, head_step, heads_in, is_scalar, writes}
use Rattle.mit_script.specs.Trees.{decides}
use Rattle.mit_script.specs.declared.tree.Script.{Script}
use Rattle.mit_script.specs.declared.tree.Stmt.{Stmt, roll-Stmt}
use Rattle.mit_script.specs.declared.tree.Stmt.TheFolds.{fold-roll-Stmt, ind-Stmt, map-Stmt}
use Rattle.mit_script.specs.declared.tree.Stmt.TheOpen.{Stmt-F}
use Rattle.mit_script.specs.declared.tree.Stmt.TheOpen as layer
use Rattle.mit_cfg.specs.Blocks.{Cut, Stretch, blocks_of, cut_adds, cut_counts, cut_in_turn, cut_of, cut_step, left}
use Rattle.mit_cfg.specs.Walk.{at_ending, before, does, entered, through, walk}
use Rattle.mit_cfg.proofs.Branches.{if_stands, left_size, while_stands}
use Rattle.mit_cfg.proofs.Ends.{Ends, Holds, ends_next, ends_over, stays_over}
use Rattle.mit_cfg.proofs.Stands.{Stands, assign_stands, both_stand, ending_after, none_stand, write_stands}

-- a condition is a scalar
abbrev IsPlain : Head → Type 0
IsPlain (assigns target operator args) = Unit {0}
IsPlain (writes operator args) = Unit {0}
IsPlain (decides operator args) = is_scalar operator ≡ true

-- a statement that is cut so and does so
record Walks (files : FileMap) (cut : Cut) (doing : Doing) : Type 0 where
  count : cut.count ≡ doing.count
  stands : Stands files cut.added cut.onto doing.does

record AllWalk (files : FileMap) (cuts : List Cut) (doings : List Doing) : Type 0 where
  count : cut_counts cuts ≡ counts doings
  stands : Stands files (cut_adds cuts) (cut_in_turn cuts) (in_turn doings)

-- ---- statements one after another

nothing_walks : (files : FileMap) → AllWalk files [] []
unfolding cut_in_turn in_turn
nothing_walks files = record { count = refl; stands = none_stand files }

sum-map-cons : {A : Type 0} (f : A → ℕ) (x : A) (xs : List A) → sum (map f (x ∷ xs)) ≡ f x + sum (map f xs)
sum-map-cons f x xs = sum_by-cons (λ (n : ℕ). n) (f x) (map f xs)

one_more_walks : (files : FileMap) (cut : Cut) (doing : Doing) (cuts : List Cut) (doings : List Doing)
    → Walks files cut doing → AllWalk files cuts doings → AllWalk files (cut ∷ cuts) (doing ∷ doings)
unfolding cut_in_turn in_turn
one_more_walks files cut doing cuts doings first later = record {
  count =
      let a = sum-map-cons (λ (one : Cut). one.count) cut cuts in
      let b = sum-map-cons (λ (one : Doing). one.count) doing doings in
      let c = first.count in
      let d = later.count in
      omega (arith, a, b, c, d);
  stands =
      subst (λ (n : ℕ). Stands files n (cut_in_turn (cut ∷ cuts)) (in_turn (doing ∷ doings))) (sym (sum-map-cons (λ (one : Cut). one.added) cut cuts))
      (subst (λ (n : ℕ). Stands files (cut.added + cut_adds cuts) (cut_in_turn (cut ∷ cuts)) (λ number state. followed doing doings number state n)) first.count
      (both_stand files cut.count cut.added (cut_adds cuts) cut.onto (cut_in_turn cuts) doing.does (in_turn doings) first.stands later.stands));
}
  where
    followed : Doing → List Doing → ℕ → ScriptState → ℕ → Ended
    followed doing doings number state count = if_goes_on (doing.does number state) (in_turn doings (number + count))

-- ---- by the kind of a statement

abbrev Sound : FileMap → Stmt → Type 0
Sound files stmt = All IsPlain (heads_in stmt) → Walks files (cut_of stmt) (exec_of files stmt)

abbrev Proved : FileMap → Type 0
Proved files = (stmt : Stmt) × Sound files stmt

abbrev only : (files : FileMap) → Proved files → Stmt
only files proved = proved.0

all_front : {A : Type 0} (P : A → Type 0) (xs ys : List A) → All P (xs ++ ys) → All P xs
all_front P xs ys all = subst (All P) (take_at xs ys (length xs) refl) (All-take P (length xs) (xs ++ ys) all)

all_back : {A : Type 0} (P : A → Type 0) (xs ys : List A) → All P (xs ++ ys) → All P ys
all_back P xs ys all = subst (All P) (drop_at xs ys (length xs) refl) (All-drop P (length xs) (xs ++ ys) all)

block_walks : (files : FileMap) (block : List (Proved files)) → All IsPlain (flat_map (λ heads. heads) (map heads_in (map (only files) block)))
    → AllWalk files (map cut_of (map (only files) block)) (map (exec_of files) (map (only files) block))
block_walks files [] plain = nothing_walks files
block_walks files (first ∷ later) plain =
    let heads = flat_map (λ heads. heads) (map heads_in (map (only files) later)) in
    one_more_walks files (cut_of first.0) (exec_of files first.0) (map cut_of (map (only files) later)) (map (exec_of files) (map (only files) later))
    (first.1 (all_front IsPlain (heads_in first.0) heads plain)) (block_walks files later (all_back IsPlain (heads_in first.0) heads plain))

-- the equations of the folds
rolled : (files : FileMap) (one : Stmt-F Stmt)
    → (All IsPlain (head_step (map-Stmt Stmt (List Head) heads_in one)) → Walks files (cut_step (map-Stmt Stmt Cut cut_of one)) (exec_step files (map-Stmt Stmt Doing (exec_of files) one)))
    → Sound files (roll-Stmt one)
rolled files one walks plain =
    rw (fold-roll-Stmt Cut cut_step one, fold-roll-Stmt Doing (exec_step files) one)
    (walks (subst (All IsPlain) (fold-roll-Stmt (List Head) head_step one) plain))

if_walks : (files : FileMap) (operator : OpSpec) (args : List ℕ) (on_true on_false : List Cut) (doings doings' : List Doing) → is_scalar operator ≡ true
    → AllWalk files on_true doings → AllWalk files on_false doings'
    → Walks files (cut_step (layer.If operator args on_true on_false)) (exec_step files (layer.If operator args doings doings'))
if_walks files operator args on_true on_false doings doings' scalar one other = record {
  count = let a = one.count in let b = other.count in omega (arith, a, b);
  stands =
      subst (λ (n : ℕ). Stands files (3 + cut_adds on_true + cut_adds on_false) (cut_step (layer.If operator args on_true on_false)).onto
      (λ number state. by_condition files number operator args state (λ truth later. if truth then in_turn doings (number + 1) later else in_turn doings' (number + 1 + n) later)))
      one.count (if_stands files operator args on_true on_false (in_turn doings) (in_turn doings') scalar one.stands other.stands);
}

while_walks : (files : FileMap) (operator : OpSpec) (args : List ℕ) (body : List Cut) (doings : List Doing) → is_scalar operator ≡ true → AllWalk files body doings
    → Walks files (cut_step (layer.While operator args body)) (exec_step files (layer.While operator args doings))
while_walks files operator args body doings scalar inside = record {
  count = let a = inside.count in omega (arith, a);
  stands = while_stands files operator args body (in_turn doings) scalar inside.stands;
}

layer_sound : (files : FileMap) (one : Stmt-F (Proved files)) → Sound files (roll-Stmt (map-Stmt (Proved files) Stmt (only files) one))
layer_sound files (layer.Assign target operator args) =
    rolled files (layer.Assign target operator args) (λ plain. record { count = refl; stands = assign_stands files target operator args })
layer_sound files (layer.Write operator args) =
    rolled files (layer.Write operator args) (λ plain. record { count = refl; stands = write_stands files operator args })
layer_sound files (layer.If operator args on_true on_false) =
    rolled files (layer.If operator args (map (only files) on_true) (map (only files) on_false))
    (λ plain.
    let yes = flat_map (λ heads. heads) (map heads_in (map (only files) on_true)) in
    let no = flat_map (λ heads. heads) (map heads_in (map (only files) on_false)) in
    let inside = All-tail IsPlain (decides operator args) (yes ++ no) plain in
    if_walks files operator args (map cut_of (map (only files) on_true)) (map cut_of (map (only files) on_false)) (map (exec_of files) (map (only files) on_true)) (map (exec_of files) (map (only files) on_false))
    (All-head IsPlain (decides operator args) (yes ++ no) plain)
    (block_walks files on_true (all_front IsPlain yes no inside)) (block_walks files on_false (all_back IsPlain yes no inside)))
layer_sound files (layer.While operator args body) =
    rolled files (layer.While operator args (map (only files) body))
    (λ plain.
    let inside = flat_map (λ heads. heads) (map heads_in (map (only files) body)) in
    while_walks files operator args (map cut_of (map (only files) body)) (map (exec_of files) (map (only files) body))
    (All-head IsPlain (decides operator args) inside plain)
    (block_walks files body (All-tail IsPlain (decides operator args) inside plain)))

sound : (files : FileMap) (stmt : Stmt) → Sound files stmt
sound files = ind-Stmt (Sound files) (λ one inner same. subst (λ some. Sound files (roll-Stmt some)) same (layer_sound files inner))

body_walks : (files : FileMap) (body : List Stmt) → All IsPlain (flat_map heads_in body) → AllWalk files (map cut_of body) (map (exec_of files) body)
body_walks files [] plain = nothing_walks files
body_walks files (first ∷ later) plain =
    one_more_walks files (cut_of first) (exec_of files first) (map cut_of later) (map (exec_of files) later)
    (sound files first (all_front IsPlain (heads_in first) (flat_map heads_in later) plain)) (body_walks files later (all_back IsPlain (heads_in first) (flat_map heads_in later) plain))

-- ---- a script

formed_plain : (variables : ℕ) (head : Head) → IsFormedHead variables head → IsPlain head
formed_plain variables (assigns target operator args) formed = tt
formed_plain variables (writes operator args) formed = tt
formed_plain variables (decides operator args) formed = formed.0

ends_script : (ended : Ended) → ending_after ended (λ state. finished state.writes state.used) ≡ ending_of ended
ends_script (goes_on state) = refl
ends_script (at_fault fault) = refl

script_ends : (script : Script) (files : FileMap) (decisions : ℕ) → IsFormed script
    → Ends (blocks_of script) files 0 decisions (before 0 (start decisions)) (exec script files decisions)
unfolding does
script_ends script files decisions formed =
    let cuts = map cut_of script.body in
    let doings = map (exec_of files) script.body in
    let all = body_walks files script.body (All-weaker (IsFormedHead (length script.names)) IsPlain (formed_plain (length script.names)) (flat_map heads_in script.body) formed.formed) in
    let size = left_size files cuts (in_turn doings) all.stands 0 1 End in
    let after : Stretch = record { first = record { steps = []; leave = End }; later = [] } in
    let whole = left cuts 0 1 End in
    let holds : Holds (blocks_of script) 1 whole.later = record { front = whole.first ∷ []; back = []; size = refl; is = ap (λ list. whole.first ∷ list) (sym (append-nil whole.later)) } in
    ends_next (blocks_of script) files 0 decisions (before 0 (start decisions)) (exec script files decisions)
    (subst (λ ending. Ends (blocks_of script) files 1 decisions (through files whole.first (entered (start decisions))) ending)
    (ends_script (in_turn doings 1 (start decisions)))
    (all.stands.passes (blocks_of script) 0 1 after (start decisions) (λ state. finished state.writes state.used) holds
    (λ later statement bag less. ends_over (blocks_of script) files (0 + cut_adds cuts + 1) later.left _ (omega (arith, size))) 0 []))

pub walk_is_exec : (script : Script) (files : FileMap) (decisions : ℕ) → IsFormed script
    → walk (blocks_of script) files decisions ((decisions + 1) * length (blocks_of script)) ≡ at_ending (exec script files decisions)
walk_is_exec script files decisions formed =
    let ends = script_ends script files decisions formed in
    let within = ends.within in
    let total = (decisions + 1) * length (blocks_of script) in
    let sum : (total - ends.count) + ends.count ≡ total = omega (arith, within) in
    subst (λ (n : ℕ). walk (blocks_of script) files decisions n ≡ at_ending (exec script files decisions)) sum
    (stays_over (blocks_of script) files (before 0 (start decisions)) (exec script files decisions) ends.count (total - ends.count) ends.comes)
