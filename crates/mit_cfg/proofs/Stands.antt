-- Statements that are cut into blocks, and what walking these does.
use Rattle.std.proofs.Common.{◌≡◌, ◌∙◌, ◌≤◌, ◌+◌, ℕ, List, [], ◌++◌, length, map, ap, sym, subst, refl, arith, append_assoc, length-append, Ok, Err, Option, Some, None}
use Rattle.mit_rows.specs.Bags.{BagOf}
use Rattle.mit_files.specs.Files.{FileMap}
use Rattle.mit_ops.specs.Answers.{BagOrFault}
use Rattle.mit_ops.specs.Endings.{Ending, stopped}
use Rattle.mit_ops.specs.Operators.{name_written, whole}
use Rattle.mit_ops.specs.declared.kinds.OpSpec.{OpSpec}
use Rattle.mit_script.specs.Execution.{Ended, ScriptState, after_write, assigned, at_fault, evaluated, goes_on, if_goes_on}
use Rattle.mit_script.specs.Execution.{with_bag}
use Rattle.mit_cfg.specs.Blocks.{Stretch, preceded, step_of}
use Rattle.mit_cfg.specs.Walk.{after_step, does, leaves, state_with_bag, through, with_step_bag}
use Rattle.mit_cfg.specs.declared.block.Block.{Block}
use Rattle.mit_cfg.proofs.Ends.{Ends, Holds, ends_over, ends_sooner, holds_back, holds_within}

-- what an ending is, by what comes of the statements after it
abbrev pub ending_after : Ended → (ScriptState → Ending) → Ending
ending_after (goes_on state) next = next state
ending_after (at_fault fault) next = stopped fault

pub after_both : (ended : Ended) (later : ScriptState → Ended) (next : ScriptState → Ending)
    → ending_after (if_goes_on ended later) next ≡ ending_after ended (λ state. ending_after (later state) next)
after_both (goes_on state) later next = refl
after_both (at_fault fault) later next = refl

-- a place inside a block
abbrev pub Passes : List Block → FileMap → ℕ → Block → ScriptState → ℕ → BagOf → Ending → Type 0
Passes blocks files gone block state statement bag ending =
    Ends blocks files gone state.left (through files block (record { state = state; statement = statement; bag = bag })) ending

-- whatever step was the last one, and however little is left
abbrev pub PassesFrom : List Block → FileMap → ℕ → Block → ScriptState → (ScriptState → Ending) → Type 0
PassesFrom blocks files gone block state next =
    (later : ScriptState) (statement : ℕ) (bag : BagOf) → later.left ≤ state.left → Passes blocks files gone block later statement bag (next later)

-- statements that add so many blocks, are cut so and do so
pub record Stands (files : FileMap) (added : ℕ) (onto : ℕ → ℕ → Stretch → Stretch) (acts : ℕ → ScriptState → Ended) : Type 0 where
  -- the blocks that they add, with the one that is current after them
  pub inside : ℕ → ℕ → Stretch → List Block
  pub size : (at number : ℕ) (after : Stretch) → length (inside at number after) ≡ added
  pub later : (at number : ℕ) (after : Stretch) → (onto at number after).later ≡ inside at number after ++ after.later
  -- walking them comes to what comes of what follows
  pub passes : (blocks : List Block) (at number : ℕ) (after : Stretch) (state : ScriptState) (next : ScriptState → Ending)
      → Holds blocks (at + 1) (onto at number after).later
      → PassesFrom blocks files (at + added + 1) after.first state next
      → (statement : ℕ) (bag : BagOf) → Passes blocks files (at + 1) (onto at number after).first state statement bag (ending_after (acts number state) next)

-- ---- steps

-- a step that does not decide, where what comes of its bag is what comes of the statement's
step_stands : (files : FileMap) (target : Option ℕ) (operator : OpSpec) (args : List ℕ) (settled : ScriptState → BagOf → Ended)
    → ((state : ScriptState) (bag : BagOf) → settled state bag ≡ goes_on (state_with_bag target (name_written operator (map state.store args)) state bag))
    → ((state : ScriptState) (bag : BagOf) → (state_with_bag target (name_written operator (map state.store args)) state bag).left ≡ state.left)
    → Stands files 0 (λ at number after. preceded (step_of number target operator args) after)
    (λ number state. evaluated files number operator args state (settled state))
unfolding does
step_stands files target operator args settled same keeps = record {
  inside = λ at number after. [];
  size = λ at number after. refl;
  later = λ at number after. refl;
  passes = λ blocks at number after state next holds onward statement bag.
      by_answer blocks at number after state next (let w = holds_within blocks (at + 1) after.later holds in omega (arith, w)) onward (whole operator (map state.store args) files);
}
  where
    by_answer : (blocks : List Block) (at number : ℕ) (after : Stretch) (state : ScriptState) (next : ScriptState → Ending) → at + 1 ≤ length blocks
        → PassesFrom blocks files (at + 0 + 1) after.first state next
        → (answer : BagOrFault)
        → Ends blocks files (at + 1) state.left
        (leaves (with_step_bag (step_of number target operator args) state answer (λ bag. does files after.first.steps (after_step (step_of number target operator args) state bag))) after.first.leave)
        (ending_after (with_bag number state answer (settled state)) next)
    by_answer blocks at number after state next room onward (Ok bag) =
        let to = state_with_bag target (name_written operator (map state.store args)) state bag in
        let less : to.left ≤ state.left = let k = keeps state bag in omega (arith, k) in
        rw (same state bag) (ends_sooner blocks files (at + 1) (at + 0 + 1) state.left to.left _ (next to) (omega arith) less (onward to number bag less))
    by_answer blocks at number after state next room onward (Err fault) = ends_over blocks files (at + 1) state.left _ room

pub assign_stands : (files : FileMap) (target : ℕ) (operator : OpSpec) (args : List ℕ)
    → Stands files 0 (λ at number after. preceded (step_of number (Some target) operator args) after)
    (λ number state. evaluated files number operator args state (assigned target state))
assign_stands files target operator args =
    step_stands files (Some target) operator args (λ state. assigned target state) (λ state bag. refl) (λ state bag. refl)

written_kept : (name : Option (List ℕ)) (state : ScriptState) (bag : BagOf) → after_write state name bag ≡ goes_on (state_with_bag None name state bag)
written_kept None state bag = refl
written_kept (Some name) state bag = refl

written_left : (name : Option (List ℕ)) (state : ScriptState) (bag : BagOf) → (state_with_bag None name state bag).left ≡ state.left
written_left None state bag = refl
written_left (Some name) state bag = refl

pub write_stands : (files : FileMap) (operator : OpSpec) (args : List ℕ)
    → Stands files 0 (λ at number after. preceded (step_of number None operator args) after)
    (λ number state. evaluated files number operator args state (after_write state (name_written operator (map state.store args))))
write_stands files operator args =
    step_stands files None operator args (λ state. after_write state (name_written operator (map state.store args)))
    (λ state bag. written_kept (name_written operator (map state.store args)) state bag)
    (λ state bag. written_left (name_written operator (map state.store args)) state bag)

-- ---- statements one after another

pub none_stand : (files : FileMap) → Stands files 0 (λ at number after. after) (λ number state. goes_on state)
none_stand files = record {
  inside = λ at number after. [];
  size = λ at number after. refl;
  later = λ at number after. refl;
  passes = λ blocks at number after state next holds onward statement bag.
      ends_sooner blocks files (at + 1) (at + 0 + 1) state.left state.left _ (next state) (omega arith) (omega arith) (onward state statement bag (omega arith));
}

pub both_stand : (files : FileMap) (count one other : ℕ) (onto onto' : ℕ → ℕ → Stretch → Stretch) (acts acts' : ℕ → ScriptState → Ended)
    → Stands files one onto acts → Stands files other onto' acts'
    → Stands files (one + other) (λ at number after. onto at number (onto' (at + one) (number + count) after))
    (λ number state. if_goes_on (acts number state) (acts' (number + count)))
both_stand files count one other onto onto' acts acts' first second = record {
  inside = λ at number after. first.inside at number (onto' (at + one) (number + count) after) ++ second.inside (at + one) (number + count) after;
  size = λ at number after.
      length-append (first.inside at number (onto' (at + one) (number + count) after)) (second.inside (at + one) (number + count) after)
      ∙ (let a = first.size at number (onto' (at + one) (number + count) after) in
      let b = second.size (at + one) (number + count) after in omega (arith, a, b));
  later = λ at number after.
      first.later at number (onto' (at + one) (number + count) after)
      ∙ ap (λ list. first.inside at number (onto' (at + one) (number + count) after) ++ list) (second.later (at + one) (number + count) after)
      ∙ sym (append_assoc (first.inside at number (onto' (at + one) (number + count) after)) (second.inside (at + one) (number + count) after) after.later);
  passes = λ blocks at number after state next holds onward statement bag.
      let middle = onto' (at + one) (number + count) after in
      let inner : Holds blocks (at + one + 1) middle.later =
      holds_back blocks (at + 1) (at + one + 1) (first.inside at number middle) middle.later (let a = first.size at number middle in omega (arith, a))
      (subst (λ list. Holds blocks (at + 1) list) (first.later at number middle) holds) in
      subst (λ ending. Passes blocks files (at + 1) (onto at number middle).first state statement bag ending)
      (sym (after_both (acts number state) (acts' (number + count)) next))
      (first.passes blocks at number middle state (λ later. ending_after (acts' (number + count) later) next) holds
      (λ later statement' bag' less. second.passes blocks (at + one) (number + count) after later next inner
      (λ last statement'' bag'' less'. let e : at + one + other + 1 ≡ at + (one + other) + 1 = omega arith in
      subst (λ (n : ℕ). Passes blocks files n after.first last statement'' bag'' (next last)) (sym e)
      (onward last statement'' bag'' (omega (arith, less, less')))) statement' bag') statement bag);
}
