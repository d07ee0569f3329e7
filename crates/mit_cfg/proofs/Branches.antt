-- What walking an `if` and a `while` does.
use Rattle.std.proofs.Common.{◌≡◌, ◌∙◌, ◌≤◌, ◌+◌, ℕ, zero, suc, List, [], ◌∷◌, ◌++◌, length, map, ap, sym, subst, refl, arith, append_assoc, length-append, Bool, true, false, Ok, Err, None}
use Rattle.std.specs.Prelude.{if◌then◌else◌}
use Rattle.mit_rows.specs.Bags.{BagOf, RowOf}
use Rattle.mit_files.specs.Files.{FileMap}
use Rattle.mit_ops.specs.Answers.{BagOrFault}
use Rattle.mit_ops.specs.Endings.{Ending, truth_in}
use Rattle.mit_ops.specs.Operators.{name_written, whole}
use Rattle.mit_ops.specs.declared.kinds.OpSpec.{OpSpec}
use Rattle.mit_ops.specs.declared.kinds.OpSpec.TheVariants as op
use Rattle.mit_ops.specs.declared.leave.Leave.{Leave}
use Rattle.mit_ops.specs.declared.leave.Leave.TheVariants.{Jump, Branch}
use Rattle.mit_script.specs.Execution.{Ended, ScriptState, by_condition, goes_on, if_goes_on, taken, turns}
use Rattle.mit_script.specs.Execution.{with_bag}
use Rattle.mit_script.specs.Trees.{is_scalar}
use Rattle.mit_cfg.specs.Blocks.{Cut, Stretch, all_of, branched_blocks, condition_alone, cut_adds, cut_counts, cut_in_turn, left, looped_blocks, step_of}
use Rattle.mit_cfg.specs.Walk.{after_step, before, decided, does, entered, leaves, numbered_block, state_with_bag, through, with_step_bag}
use Rattle.mit_cfg.specs.declared.block.Block.{Block}
use Rattle.mit_cfg.proofs.Ends.{Ends, Holds, ends_decided, ends_next, ends_over, ends_sooner, holds_back, holds_first, holds_front, holds_within}
use Rattle.mit_cfg.proofs.Stands.{Passes, PassesFrom, Stands, after_both, ending_after}

-- ---- one place further

-- a block that goes on to another one at once
jump_passes : (blocks : List Block) (files : FileMap) (gone gone' to : ℕ) (block : Block) (state : ScriptState) (ending : Ending)
    → numbered_block blocks to ≡ block → suc gone ≤ gone' → Passes blocks files gone' block state 0 [] ending
    → (statement : ℕ) (bag : BagOf) → Passes blocks files gone (record { steps = []; leave = Jump to }) state statement bag ending
unfolding does
jump_passes blocks files gone gone' to block state ending at less passes statement bag =
    ends_next blocks files gone state.left (before to state) ending
    (subst (λ some. Ends blocks files (suc gone) state.left (through files some (entered state)) ending) (sym at)
    (ends_sooner blocks files (suc gone) gone' state.left state.left _ ending less (omega arith) passes))

scalar_writes_none : (operator : OpSpec) (inputs : List (List RowOf)) → is_scalar operator ≡ true → name_written operator inputs ≡ None
scalar_writes_none (op.Write name) inputs scalar = absurd cc
scalar_writes_none other inputs scalar = refl

-- the state after a decision
abbrev pub one_taken : ScriptState → ℕ → ScriptState
one_taken state fewer = record state { used = state.used + 1; left = fewer }

-- a condition alone in its block, by what comes of each way after it
condition_passes : (blocks : List Block) (files : FileMap) (gone number : ℕ) (operator : OpSpec) (args : List ℕ) (on_true on_false : ℕ) (state : ScriptState)
    (follow : Bool → ScriptState → Ended) (next : ScriptState → Ending) → is_scalar operator ≡ true → gone ≤ length blocks
    → ((truth : Bool) (fewer : ℕ) → suc fewer ≡ state.left → Ends blocks files gone state.left (before (if truth then on_true else on_false) (one_taken state fewer)) (ending_after (follow truth (one_taken state fewer)) next))
    → (statement : ℕ) (bag : BagOf) → Passes blocks files gone (condition_alone number operator args on_true on_false) state statement bag (ending_after (by_condition files number operator args state follow) next)
unfolding does
condition_passes blocks files gone number operator args on_true on_false state follow next scalar room ways statement bag =
    by_answer (whole operator (map state.store args) files)
  where
    by_left : (made : BagOf) (left : ℕ) → state.left ≡ left
        → Ends blocks files gone state.left (decided (record { state = state; statement = number; bag = made }) left on_true on_false)
        (ending_after (taken number state left (follow (truth_in made))) next)
    by_left made zero is = ends_over blocks files gone state.left _ room
    by_left made (suc fewer) is = ways (truth_in made) fewer (sym is)

    by_answer : (answer : BagOrFault)
        → Ends blocks files gone state.left
        (leaves (with_step_bag (step_of number None operator args) state answer (λ made. does files [] (after_step (step_of number None operator args) state made))) (Branch on_true on_false))
        (ending_after (with_bag number state answer (λ made. taken number state state.left (follow (truth_in made)))) next)
    by_answer (Ok made) =
        subst (λ name. Ends blocks files gone state.left (decided (record { state = state_with_bag None name state made; statement = number; bag = made }) (state_with_bag None name state made).left on_true on_false)
        (ending_after (taken number state state.left (follow (truth_in made))) next))
        (sym (scalar_writes_none operator (map state.store args) scalar)) (by_left made state.left refl)
    by_answer (Err fault) = ends_over blocks files gone state.left _ room

-- ---- statements in a block of their own

-- how many blocks stand after the first one
pub left_size : (files : FileMap) (cuts : List Cut) (acts : ℕ → ScriptState → Ended) → Stands files (cut_adds cuts) (cut_in_turn cuts) acts
    → (at number : ℕ) (leave : Leave) → length (left cuts at number leave).later ≡ cut_adds cuts
left_size files cuts acts stands at number leave =
    let after : Stretch = record { first = record { steps = []; leave = leave }; later = [] } in
    ap length (stands.later at number after) ∙ length-append (stands.inside at number after) []
    ∙ (let size = stands.size at number after in omega (arith, size))

-- they are entered by a decision, and go on to another block
body_passes : (blocks : List Block) (files : FileMap) (cuts : List Cut) (acts : ℕ → ScriptState → Ended) → Stands files (cut_adds cuts) (cut_in_turn cuts) acts
    → (gone at number to : ℕ) (state : ScriptState) (fewer : ℕ) (next : ScriptState → Ending) → gone ≤ length blocks → suc fewer ≡ state.left
    → Holds blocks at (all_of (left cuts at number (Jump to)))
    → ((later : ScriptState) → later.left ≤ fewer → Ends blocks files (at + cut_adds cuts + 1) later.left (before to later) (next later))
    → Ends blocks files gone state.left (before at (one_taken state fewer)) (ending_after (acts number (one_taken state fewer)) next)
unfolding does
body_passes blocks files cuts acts stands gone at number to state fewer next room one holds onward =
    let after : Stretch = record { first = record { steps = []; leave = Jump to }; later = [] } in
    let body = left cuts at number (Jump to) in
    let ending = ending_after (acts number (one_taken state fewer)) next in
    ends_next blocks files gone state.left (before at (one_taken state fewer)) ending
    (subst (λ some. Ends blocks files (suc gone) state.left (through files some (entered (one_taken state fewer))) ending)
    (sym (holds_first blocks at body.first body.later holds))
    (ends_decided blocks files (suc gone) (at + 1) state.left fewer (through files body.first (entered (one_taken state fewer))) ending (omega (arith, room)) one
    (stands.passes blocks at number after (one_taken state fewer) next (holds_back blocks at (at + 1) (body.first ∷ []) body.later (omega arith) holds)
    (λ later statement bag less. onward later less) 0 [])))

-- ---- an `if`

abbrev join_of : ℕ → List Cut → List Cut → ℕ
join_of at on_true on_false = at + 2 + cut_adds on_true + 1 + cut_adds on_false

abbrev true_part : ℕ → ℕ → List Cut → List Cut → Stretch
true_part at number on_true on_false = left on_true (at + 1) (number + 1) (Jump (join_of at on_true on_false))

abbrev false_part : ℕ → ℕ → List Cut → List Cut → Stretch
false_part at number on_true on_false = left on_false (at + 2 + cut_adds on_true) (number + 1 + cut_counts on_true) (Jump (join_of at on_true on_false))

abbrev pub chosen : List Cut → (ℕ → ScriptState → Ended) → (ℕ → ScriptState → Ended) → ℕ → Bool → ScriptState → Ended
chosen on_true acts acts' number truth later = if truth then acts (number + 1) later else acts' (number + 1 + cut_counts on_true) later

if_passes : (files : FileMap) (operator : OpSpec) (args : List ℕ) (on_true on_false : List Cut) (acts acts' : ℕ → ScriptState → Ended)
    → is_scalar operator ≡ true → Stands files (cut_adds on_true) (cut_in_turn on_true) acts → Stands files (cut_adds on_false) (cut_in_turn on_false) acts'
    → (blocks : List Block) (at number : ℕ) (after : Stretch) (state : ScriptState) (next : ScriptState → Ending)
    → Holds blocks (at + 1) (all_of (true_part at number on_true on_false) ++ all_of (false_part at number on_true on_false) ++ all_of after)
    → PassesFrom blocks files (at + (3 + cut_adds on_true + cut_adds on_false) + 1) after.first state next
    → (statement : ℕ) (bag : BagOf)
    → Passes blocks files (at + 1) (condition_alone number operator args (at + 1) (at + 2 + cut_adds on_true)) state statement bag
    (ending_after (by_condition files number operator args state (chosen on_true acts acts' number)) next)
if_passes files operator args on_true on_false acts acts' scalar first second blocks at number after state next holds onward =
    condition_passes blocks files (at + 1) number operator args (at + 1) (at + 2 + cut_adds on_true) state (chosen on_true acts acts' number) next scalar
    room ways
  where
    one : Stretch
    one = true_part at number on_true on_false

    other : Stretch
    other = false_part at number on_true on_false

    one_size : length one.later ≡ cut_adds on_true
    one_size = left_size files on_true acts first (at + 1) (number + 1) (Jump (join_of at on_true on_false))

    other_size : length other.later ≡ cut_adds on_false
    other_size = left_size files on_false acts' second (at + 2 + cut_adds on_true) (number + 1 + cut_counts on_true) (Jump (join_of at on_true on_false))

    room : at + 1 ≤ length blocks
    room = let w = holds_within blocks (at + 1) (all_of one ++ all_of other ++ all_of after) holds in omega (arith, w)

    both : Holds blocks (at + 1) (all_of one ++ all_of other)
    both = holds_front blocks (at + 1) (all_of one ++ all_of other) (all_of after) holds

    join : Holds blocks (join_of at on_true on_false) (all_of after)
    join = holds_back blocks (at + 1) (join_of at on_true on_false) (all_of one ++ all_of other) (all_of after)
        (let sum = length-append (all_of one) (all_of other) in omega (arith, sum, one_size, other_size)) holds

    -- from the end of either part
    to_join : (gone fewer : ℕ) → gone ≤ join_of at on_true on_false → suc fewer ≡ state.left
        → (later : ScriptState) → later.left ≤ fewer → Ends blocks files gone later.left (before (join_of at on_true on_false) later) (next later)
    to_join gone fewer less one later fits =
        ends_next blocks files gone later.left (before (join_of at on_true on_false) later) (next later)
        (subst (λ some. Ends blocks files (suc gone) later.left (through files some (entered later)) (next later))
        (sym (holds_first blocks (join_of at on_true on_false) after.first after.later join))
        (ends_sooner blocks files (suc gone) (at + (3 + cut_adds on_true + cut_adds on_false) + 1) later.left later.left _ (next later)
        (omega (arith, less)) (omega arith) (onward later 0 [] (omega (arith, fits, one)))))

    ways : (truth : Bool) (fewer : ℕ) → suc fewer ≡ state.left
        → Ends blocks files (at + 1) state.left (before (if truth then at + 1 else at + 2 + cut_adds on_true) (one_taken state fewer))
        (ending_after (chosen on_true acts acts' number truth (one_taken state fewer)) next)
    ways true fewer is =
        body_passes blocks files on_true acts first (at + 1) (at + 1) (number + 1) (join_of at on_true on_false) state fewer next room is
        (holds_front blocks (at + 1) (all_of one) (all_of other) both)
        (to_join (at + 1 + cut_adds on_true + 1) fewer (omega arith) is)
    ways false fewer is =
        body_passes blocks files on_false acts' second (at + 1) (at + 2 + cut_adds on_true) (number + 1 + cut_counts on_true) (join_of at on_true on_false) state fewer next room is
        (holds_back blocks (at + 1) (at + 2 + cut_adds on_true) (all_of one) (all_of other) (omega (arith, one_size)) both)
        (to_join (at + 2 + cut_adds on_true + cut_adds on_false + 1) fewer (omega arith) is)

pub if_stands : (files : FileMap) (operator : OpSpec) (args : List ℕ) (on_true on_false : List Cut) (acts acts' : ℕ → ScriptState → Ended)
    → is_scalar operator ≡ true → Stands files (cut_adds on_true) (cut_in_turn on_true) acts → Stands files (cut_adds on_false) (cut_in_turn on_false) acts'
    → Stands files (3 + cut_adds on_true + cut_adds on_false) (λ at number after. branched_blocks number operator args on_true on_false at after)
    (λ number state. by_condition files number operator args state (chosen on_true acts acts' number))
if_stands files operator args on_true on_false acts acts' scalar first second = record {
  inside = λ at number after. all_of (true_part at number on_true on_false) ++ all_of (false_part at number on_true on_false) ++ after.first ∷ [];
  size = λ at number after. sizes at number after;
  later = λ at number after. sym (append_assoc (all_of (true_part at number on_true on_false) ++ all_of (false_part at number on_true on_false)) (after.first ∷ []) after.later);
  passes = λ blocks at number after state next holds onward.
      if_passes files operator args on_true on_false acts acts' scalar first second blocks at number after state next holds onward;
}
  where
    sizes : (at number : ℕ) (after : Stretch) → length (all_of (true_part at number on_true on_false) ++ all_of (false_part at number on_true on_false) ++ after.first ∷ []) ≡ 3 + cut_adds on_true + cut_adds on_false
    sizes at number after =
        let one = true_part at number on_true on_false in
        let other = false_part at number on_true on_false in
        let a = left_size files on_true acts first (at + 1) (number + 1) (Jump (join_of at on_true on_false)) in
        let b = left_size files on_false acts' second (at + 2 + cut_adds on_true) (number + 1 + cut_counts on_true) (Jump (join_of at on_true on_false)) in
        let c = length-append (all_of one) (all_of other) in
        let d = length-append (all_of one ++ all_of other) (after.first ∷ []) in
        omega (arith, a, b, c, d)

-- ---- a `while`

abbrev body_part : ℕ → ℕ → List Cut → Stretch
body_part at number body = left body (at + 2) (number + 1) (Jump (at + 1))

abbrev header_of : ℕ → ℕ → OpSpec → List ℕ → List Cut → Block
header_of at number operator args body = condition_alone number operator args (at + 2) (at + 3 + cut_adds body)

while_passes : (files : FileMap) (operator : OpSpec) (args : List ℕ) (body : List Cut) (acts : ℕ → ScriptState → Ended)
    → is_scalar operator ≡ true → Stands files (cut_adds body) (cut_in_turn body) acts
    → (blocks : List Block) (at number : ℕ) (after : Stretch) (state : ScriptState) (next : ScriptState → Ending)
    → Holds blocks (at + 1) (header_of at number operator args body ∷ all_of (body_part at number body) ++ all_of after)
    → PassesFrom blocks files (at + (3 + cut_adds body) + 1) after.first state next
    → (statement : ℕ) (bag : BagOf)
    → Passes blocks files (at + 1) (record { steps = []; leave = Jump (at + 1) }) state statement bag
    (ending_after (turns state.left (by_condition files number operator args) (acts (number + 1)) state) next)
unfolding turns
while_passes files operator args body acts scalar stands blocks at number after state next holds onward =
    jump_passes blocks files (at + 1) (length blocks) (at + 1) header state _ here (omega (arith, room)) (from_header state.left state (omega arith) (omega arith) 0 [])
  where
    header : Block
    header = header_of at number operator args body

    inner : Stretch
    inner = body_part at number body

    size : length inner.later ≡ cut_adds body
    size = left_size files body acts stands (at + 2) (number + 1) (Jump (at + 1))

    room : at + 4 + cut_adds body ≤ length blocks
    room =
        let w = holds_within blocks (at + 1) (header ∷ all_of inner ++ all_of after) holds in
        let sum = length-append (header ∷ all_of inner) (all_of after) in
        omega (arith, w, sum, size)

    here : numbered_block blocks (at + 1) ≡ header
    here = holds_first blocks (at + 1) header (all_of inner ++ all_of after) holds

    inside : Holds blocks (at + 2) (all_of inner)
    inside = holds_back blocks (at + 1) (at + 2) (header ∷ []) (all_of inner) (omega arith) (holds_front blocks (at + 1) (header ∷ all_of inner) (all_of after) holds)

    exit : Holds blocks (at + 3 + cut_adds body) (all_of after)
    exit = holds_back blocks (at + 1) (at + 3 + cut_adds body) (header ∷ all_of inner) (all_of after) (omega (arith, size)) holds

    Headed : ℕ → Type 0
    Headed most = (later : ScriptState) → later.left ≤ most → later.left ≤ state.left → (statement : ℕ) (bag : BagOf)
        → Passes blocks files (length blocks) header later statement bag (ending_after (turns most (by_condition files number operator args) (acts (number + 1)) later) next)

    back : (most : ℕ) → Headed most → (gone : ℕ) → suc gone ≤ length blocks → (later : ScriptState) → later.left ≤ most → later.left ≤ state.left
        → Ends blocks files gone later.left (before (at + 1) later) (ending_after (turns most (by_condition files number operator args) (acts (number + 1)) later) next)
    back most headed gone less later fits fits' =
        ends_next blocks files gone later.left (before (at + 1) later) _
        (subst (λ some. Ends blocks files (suc gone) later.left (through files some (entered later)) (ending_after (turns most (by_condition files number operator args) (acts (number + 1)) later) next))
        (sym here)
        (ends_sooner blocks files (suc gone) (length blocks) later.left later.left _ _ less (omega arith) (headed later fits fits' 0 [])))

    out : (later : ScriptState) (fewer : ℕ) → suc fewer ≡ later.left → later.left ≤ state.left
        → Ends blocks files (length blocks) later.left (before (at + 3 + cut_adds body) (one_taken later fewer)) (next (one_taken later fewer))
    out later fewer one fits =
        ends_next blocks files (length blocks) later.left (before (at + 3 + cut_adds body) (one_taken later fewer)) (next (one_taken later fewer))
        (subst (λ some. Ends blocks files (suc (length blocks)) later.left (through files some (entered (one_taken later fewer))) (next (one_taken later fewer)))
        (sym (holds_first blocks (at + 3 + cut_adds body) after.first after.later exit))
        (ends_decided blocks files (suc (length blocks)) (at + (3 + cut_adds body) + 1) later.left fewer _ (next (one_taken later fewer)) (omega arith) one
        (onward (one_taken later fewer) 0 [] (omega (arith, one, fits)))))

    ways : (most : ℕ) → Headed most → (later : ScriptState) → later.left ≤ suc most → later.left ≤ state.left → (truth : Bool) (fewer : ℕ) → suc fewer ≡ later.left
        → Ends blocks files (length blocks) later.left (before (if truth then at + 2 else at + 3 + cut_adds body) (one_taken later fewer))
        (ending_after (if truth then if_goes_on (acts (number + 1) (one_taken later fewer)) (turns most (by_condition files number operator args) (acts (number + 1))) else goes_on (one_taken later fewer)) next)
    ways most headed later fits fits' true fewer one =
        subst (λ ending. Ends blocks files (length blocks) later.left (before (at + 2) (one_taken later fewer)) ending)
        (sym (after_both (acts (number + 1) (one_taken later fewer)) (turns most (by_condition files number operator args) (acts (number + 1))) next))
        (body_passes blocks files body acts stands (length blocks) (at + 2) (number + 1) (at + 1) later fewer
        (λ last. ending_after (turns most (by_condition files number operator args) (acts (number + 1)) last) next) (omega arith) one inside
        (λ last less. back most headed (at + 2 + cut_adds body + 1) (omega (arith, room)) last (omega (arith, less, one, fits)) (omega (arith, less, one, fits'))))
    ways most headed later fits fits' false fewer one = out later fewer one fits'

    from_header : (most : ℕ) → Headed most
    from_header zero later fits fits' =
        condition_passes blocks files (length blocks) number operator args (at + 2) (at + 3 + cut_adds body) later (λ truth last. goes_on last) next scalar (omega arith)
        (λ truth fewer one. absurd (omega (arith, fits, one)))
    from_header (suc most) later fits fits' =
        condition_passes blocks files (length blocks) number operator args (at + 2) (at + 3 + cut_adds body) later
        (λ truth last. if truth then if_goes_on (acts (number + 1) last) (turns most (by_condition files number operator args) (acts (number + 1))) else goes_on last)
        next scalar (omega arith) (ways most (from_header most) later fits fits')

pub while_stands : (files : FileMap) (operator : OpSpec) (args : List ℕ) (body : List Cut) (acts : ℕ → ScriptState → Ended)
    → is_scalar operator ≡ true → Stands files (cut_adds body) (cut_in_turn body) acts
    → Stands files (3 + cut_adds body) (λ at number after. looped_blocks number operator args body at after)
    (λ number state. turns state.left (by_condition files number operator args) (acts (number + 1)) state)
while_stands files operator args body acts scalar stands = record {
  inside = λ at number after. header_of at number operator args body ∷ all_of (body_part at number body) ++ after.first ∷ [];
  size = λ at number after.
      (let a = left_size files body acts stands (at + 2) (number + 1) (Jump (at + 1)) in
      let b = length-append (header_of at number operator args body ∷ all_of (body_part at number body)) (after.first ∷ []) in
      omega (arith, a, b));
  later = λ at number after. sym (append_assoc (header_of at number operator args body ∷ all_of (body_part at number body)) (after.first ∷ []) after.later);
  passes = λ blocks at number after state next holds onward.
      while_passes files operator args body acts scalar stands blocks at number after state next holds onward;
}
