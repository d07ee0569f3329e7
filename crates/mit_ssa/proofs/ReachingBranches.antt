-- An `if` of steps beside one of operators.
use Rattle.std.proofs.Common.{◌≡◌, ◌∙◌, ◌+◌, ℕ, suc, List, [], ◌∷◌, ◌++◌, length, ap, subst, refl, arith, true, None, inl, inr, length-append}
use Rattle.std.specs.List.{list_all}
use Rattle.std.proofs.lemmas.List.{length-map}
use Rattle.mit_ops.specs.declared.kinds.OpSpec.{OpSpec}
use Rattle.mit_ops.specs.declared.leave.Leave.{Leave}
use Rattle.mit_ops.specs.declared.leave.Leave.TheVariants.{Jump, Branch}
use Rattle.mit_ops.specs.declared.types.VarType.{VarType}
use Rattle.mit_script.specs.Accepted.{Known, is_assigned}
use Rattle.mit_script.specs.Trees.{is_scalar}
use Rattle.mit_cfg.specs.Blocks.{Stretch, all_of, condition_alone, step_of}
use Rattle.mit_cfg.specs.declared.block.Block.{Block as Code}
use Rattle.mit_cfg.specs.declared.block.Step.{Step}
use Rattle.mit_ssa.specs.Reaching.{Reaching}
use Rattle.mit_ssa.specs.Woven.{Defined, Weave, WeavePlace, Woven, WovenStretch, assigned_in, join_phis, just_left, on_both, operator_of, operators_first, phi_of, phis_of, stretch_blocks, weave_adds, with_phis, woven_all, woven_branch}
use Rattle.mit_ssa.specs.declared.block.Block.{Block}
use Rattle.mit_ssa.specs.declared.block.Operator.{Operator}
use Rattle.mit_ssa.proofs.DefinitionsEnds.{Ends, both_parts}
use Rattle.mit_ssa.proofs.DefinitionsGood.{only_of}
use Rattle.mit_ssa.proofs.DefinitionsJoin.{either_of, join_some, join_test, same_before}
use Rattle.mit_ssa.proofs.DefinitionsPhis.{Each}
use Rattle.mit_ssa.proofs.DefinitionsReady.{Ready}
use Rattle.mit_ssa.proofs.DefinitionsWoven.{beside_of, inside_of}
use Rattle.mit_ssa.proofs.ReachingGood.{GoodStep}
use Rattle.mit_ssa.proofs.ReachingMeets.{IsMeet, brings_either, brings_only, enter_reached, meet_named, meet_phis, meet_reached, named_only}
use Rattle.mit_ssa.proofs.ReachingParts.{AreTargets, Brings, CodeBlocks, CodeFrom, Entry, GoodSteps, IsEntry, IsNamed, IsReachOf, IsTarget, code_append, code_begins, code_leaves, each_next, each_onward, for_phis, for_phis_many}
use Rattle.mit_ssa.proofs.ReachingPhis.{chosen_below, chosen_distinct, phis_named, reach_passing}
use Rattle.mit_ssa.proofs.ReachingSteps.{GoesOn, Goes, continues_at, step_good}
use Rattle.mit_ssa.proofs.StructureEach.{each_front}

-- ---- parts of an `if` and of a loop

-- nothing more in the current block of steps, which is left so
abbrev pub code_left : Leave → Stretch
code_left leave = record { first = record { steps = []; leave = leave }; later = [] }

-- a condition ends a block
pub condition_ends : (variables : ℕ) (known : Reaching) (block first index on_true on_false : ℕ) (operator : Operator) (step : Step) (more : List Block) (codes : List Code)
    (last most : ℕ) → GoodStep known block first index operator step → step.target ≡ None → is_scalar step.op ≡ true
    → Brings variables known block first (suc index) on_true → Brings variables known block first (suc index) on_false
    → CodeBlocks variables known (block + 1) (first + suc index) more codes last most
    → CodeFrom variables known block first index (record { first = record { operators = operator ∷ []; leave = Branch on_true on_false }; later = more })
    (record { first = record { steps = step ∷ []; leave = Branch on_true on_false }; later = codes }) last most
unfolding GoodSteps Each
condition_ends variables known block first index on_true on_false operator step more codes last most good target scalar to_true to_false later = record {
  end = suc index;
  good = record {
    leave_is = refl;
    decided = λ branch. record { before = []; last = step; are = refl; target = target; scalar = scalar };
    steps = (good, refl);
    brings = (to_true, (to_false, tt));
  };
  later = later;
}

-- a branch, or a body, from its first block on: it ends with a jump
pub branch_holds : (variables : ℕ) (known : Reaching) (block at_end last number most target : ℕ) (env end : Defined) (stretch : WovenStretch) (code : Stretch)
    → at_end + 1 ≡ last → IsEntry variables known block (only_of env) → IsNamed variables known env
    → (GoesOn variables known at_end most end (just_left (Jump target)) (code_left (Jump target)) last most
    → GoesOn variables known block number env stretch code last most)
    → ((first index : ℕ) → IsReachOf variables known at_end first index end → Brings variables known at_end first index target)
    → CodeBlocks variables known block number (stretch_blocks stretch) (all_of code) last most
branch_holds variables known block at_end last number most target env end stretch code next entry named through brings =
    code_begins variables known block number 0 [] stretch code last most refl (named_only variables known block env entry named) tt
    (through (λ first index same reached. code_leaves variables known at_end first index target last most next same (brings first index reached))
    number 0 (omega arith) (enter_reached variables known block number env entry))

-- ---- the join

-- the numbers of its blocks, how they are entered, and what is known of their operators
pub record IfAt (variables : ℕ) (known : Reaching) (block other join number middle most : ℕ) (on_true on_false : List Weave) (env one two : Defined) : Type 0 where
  pub true_entry : IsEntry variables known (block + 1) (only_of env)
  pub false_entry : IsEntry variables known other (only_of env)
  pub join_entry : IsEntry variables known join (either_of (join_phis variables on_true on_false one two) one two (on_both one two))
  pub join_targets : AreTargets known most (for_phis (join_phis variables on_true on_false one two))
  pub ends_one : Ends variables (number + 1) middle env one (assigned_in on_true)
  pub ends_two : Ends variables middle most env two (assigned_in on_false)
  pub named : IsNamed variables known env
  pub one_named : IsNamed variables known one
  pub two_named : IsNamed variables known two

both_named : (variables : ℕ) (known : Reaching) (one two : Defined) → IsNamed variables known one → IsNamed variables known (on_both one two)
both_named variables known one two named =
    λ variable operator below is. named variable operator below (both_parts (one variable) (two variable) operator is).first

join_meets : (variables : ℕ) (known : Reaching) (block other join number middle most : ℕ) (on_true on_false : List Weave) (env one two : Defined)
    → IfAt variables known block other join number middle most on_true on_false env one two
    → IsMeet variables known join most (join_phis variables on_true on_false one two) one two (on_both one two)
join_meets variables known block other join number middle most on_true on_false env one two at = record {
  entry = at.join_entry;
  targets = at.join_targets;
  distinct = chosen_distinct (join_test on_true on_false one two) 0 variables;
  below = λ variable phi. chosen_below (join_test on_true on_false one two) variables variable phi;
  one_defined = λ variable phi. (join_some variables on_true on_false one two variable phi).two;
  other_defined = λ variable phi. (join_some variables on_true on_false one two variable phi).three;
}

brings_one : (variables : ℕ) (known : Reaching) (block other join number middle most : ℕ) (on_true on_false : List Weave) (env one two : Defined)
    → IfAt variables known block other join number middle most on_true on_false env one two
    → (last first index : ℕ) → IsReachOf variables known last first index one → Brings variables known last first index join
brings_one variables known block other join number middle most on_true on_false env one two at last first index reached =
    brings_either variables known last first index join (join_phis variables on_true on_false one two) one two (on_both one two) one at.join_entry reached
    (λ variable below phi. ((join_some variables on_true on_false one two variable phi).two, inl refl))
    (λ variable operator below none is. (both_parts (one variable) (two variable) operator is).first)

brings_two : (variables : ℕ) (known : Reaching) (block other join number middle most : ℕ) (on_true on_false : List Weave) (env one two : Defined)
    → IfAt variables known block other join number middle most on_true on_false env one two
    → (last first index : ℕ) → IsReachOf variables known last first index two → Brings variables known last first index join
brings_two variables known block other join number middle most on_true on_false env one two at last first index reached =
    brings_either variables known last first index join (join_phis variables on_true on_false one two) one two (on_both one two) two at.join_entry reached
    (λ variable below phi. ((join_some variables on_true on_false one two variable phi).three, inr refl))
    (λ variable operator below none is.
    same_before variables (number + 1) middle most on_true on_false env one two variable operator at.ends_one at.ends_two below none is)

-- the join, with its phis, and what comes after it
join_holds : (variables : ℕ) (known : Reaching) (block other join number middle most : ℕ) (on_true on_false : List Weave) (env one two : Defined)
    (stretch : WovenStretch) (code : Stretch) (last top : ℕ) → IfAt variables known block other join number middle most on_true on_false env one two
    → GoesOn variables known join (most + length (join_phis variables on_true on_false one two))
    (with_phis (on_both one two) most (join_phis variables on_true on_false one two)) stretch code last top
    → CodeBlocks variables known join most (stretch_blocks (operators_first (phis_of one two (join_phis variables on_true on_false one two)) stretch)) (all_of code) last top
join_holds variables known block other join number middle most on_true on_false env one two stretch code last top at later =
    code_begins variables known join most (length phis) (phis_of one two phis) stretch code last top (length-map phis (phi_of one two))
    (meet_named variables known join most phis one two (on_both one two) meet at.one_named at.two_named (both_named variables known one two at.one_named))
    (meet_phis variables known join most phis one two (on_both one two) meet)
    (later most (length phis) refl (meet_reached variables known join most phis one two (on_both one two) meet))
  where
    phis : List ℕ
    phis = join_phis variables on_true on_false one two

    meet : IsMeet variables known join most phis one two (on_both one two)
    meet = join_meets variables known block other join number middle most on_true on_false env one two at

-- ---- the whole

if_holds : (variables : ℕ) (known : Reaching) (block other join true_last false_last number middle most : ℕ) (on_true on_false : List Weave) (env one two : Defined)
    (operator : Operator) (step : Step) (first_stretch second_stretch stretch : WovenStretch) (first_code second_code code : Stretch) (last top first index : ℕ)
    → IfAt variables known block other join number middle most on_true on_false env one two
    → step.target ≡ None → is_scalar step.op ≡ true → known.defines number ≡ None → first + index ≡ number
    → GoodStep known block first index operator step → IsReachOf variables known block first index env
    → true_last + 1 ≡ other → false_last + 1 ≡ join
    → (GoesOn variables known true_last middle one (just_left (Jump join)) (code_left (Jump join)) other middle
    → GoesOn variables known (block + 1) (number + 1) env first_stretch first_code other middle)
    → (GoesOn variables known false_last most two (just_left (Jump join)) (code_left (Jump join)) join most
    → GoesOn variables known other middle env second_stretch second_code join most)
    → GoesOn variables known join (most + length (join_phis variables on_true on_false one two))
    (with_phis (on_both one two) most (join_phis variables on_true on_false one two)) stretch code last top
    → CodeFrom variables known block first index (record {
      first = record { operators = operator ∷ []; leave = Branch (block + 1) other };
      later = (stretch_blocks first_stretch ++ stretch_blocks second_stretch) ++ stretch_blocks (operators_first (phis_of one two (join_phis variables on_true on_false one two)) stretch);
    }) (record {
      first = record { steps = step ∷ []; leave = Branch (block + 1) other };
      later = (all_of first_code ++ all_of second_code) ++ all_of code;
    }) last top
if_holds variables known block other join true_last false_last number middle most on_true on_false env one two operator step first_stretch second_stretch stretch
    first_code second_code code last top first index at target scalar defines same good reached true_ends false_ends through_one through_two later =
    let e : number + 1 ≡ first + suc index = omega (arith, same) in
    condition_ends variables known block first index (block + 1) other operator step _ _ last top good target scalar
    (brings_only variables known block first (suc index) (block + 1) env at.true_entry passed)
    (brings_only variables known block first (suc index) other env at.false_entry passed)
    (subst (λ (n : ℕ). CodeBlocks variables known (block + 1) n ((stretch_blocks first_stretch ++ stretch_blocks second_stretch) ++ stretch_blocks (operators_first (phis_of one two (join_phis variables on_true on_false one two)) stretch))
    ((all_of first_code ++ all_of second_code) ++ all_of code) last top) e
    (code_append variables known (block + 1) (number + 1) (stretch_blocks first_stretch ++ stretch_blocks second_stretch)
    (stretch_blocks (operators_first (phis_of one two (join_phis variables on_true on_false one two)) stretch))
    (all_of first_code ++ all_of second_code) (all_of code) join most last top
    (code_append variables known (block + 1) (number + 1) (stretch_blocks first_stretch) (stretch_blocks second_stretch) (all_of first_code) (all_of second_code) other middle join most
    (branch_holds variables known (block + 1) true_last other (number + 1) middle join env one first_stretch first_code true_ends at.true_entry at.named through_one
    (brings_one variables known block other join number middle most on_true on_false env one two at true_last))
    (branch_holds variables known other false_last join middle most join env two second_stretch second_code false_ends at.false_entry at.named through_two
    (brings_two variables known block other join number middle most on_true on_false env one two at false_last)))
    (join_holds variables known block other join number middle most on_true on_false env one two stretch code last top at later)))
  where
    passed : IsReachOf variables known block first (suc index) env
    passed variable below = reach_passing known block first index variable (ap known.defines same ∙ defines) ∙ reached variable below

-- an `if` of steps, whose branches are cut so
abbrev pub code_branched : ℕ → OpSpec → List ℕ → ℕ → ℕ → ℕ → (Stretch → Stretch) → (Stretch → Stretch) → Stretch → Stretch
code_branched statement operator args block other join on_true on_false code = record {
  first = condition_alone statement operator args (block + 1) other;
  later = all_of (on_true (code_left (Jump join))) ++ all_of (on_false (code_left (Jump join))) ++ all_of code;
}

pub if_goes : (types : List VarType) (operator : OpSpec) (args : List ℕ) (on_true on_false : List Weave) (place : WeavePlace) (knows : Known) (true_code false_code : Stretch → Stretch)
    → is_scalar operator ≡ true
    → Ends (length types) (place.operator + 1) (woven_all on_true (inside_of place)).operator place.defined (woven_all on_true (inside_of place)).defined (assigned_in on_true)
    → Ends (length types) (woven_all on_true (inside_of place)).operator (woven_all on_false (beside_of on_true place)).operator place.defined
    (woven_all on_false (beside_of on_true place)).defined (assigned_in on_false)
    → Ready (length types) knows place.defined → list_all (is_assigned knows.assigned) args ≡ true
    → Goes (length types) (inside_of place) (weave_adds on_true) (woven_all on_true (inside_of place)) true_code
    → Goes (length types) (beside_of on_true place) (weave_adds on_false) (woven_all on_false (beside_of on_true place)) false_code
    → Goes (length types) place (3 + weave_adds on_true + weave_adds on_false) (woven_branch types operator args on_true on_false place)
    (code_branched place.statement operator args place.block (place.block + 2 + weave_adds on_true) (place.block + 2 + weave_adds on_true + 1 + weave_adds on_false) true_code false_code)
if_goes types operator args on_true on_false place knows true_code false_code scalar ends_one ends_two ready all first_goes second_goes = record {
  entries = only_of place.defined ∷ (first_goes.entries ++ only_of place.defined ∷ (second_goes.entries ++ join_entry ∷ []));
  many = (let e = length-append first_goes.entries (only_of place.defined ∷ (second_goes.entries ++ join_entry ∷ [])) in let f = length-append second_goes.entries (join_entry ∷ []) in
      let g = first_goes.many in let h = second_goes.many in omega (arith, e, f, g, h));
  targets = None ∷ (first_goes.targets ++ (second_goes.targets ++ for_phis phis));
  grows = (let e = length-append first_goes.targets (second_goes.targets ++ for_phis phis) in
      let f = length-append second_goes.targets (for_phis phis) in
      let g = first_goes.grows in let h = second_goes.grows in let i = for_phis_many phis in omega (arith, e, f, g, h, i));
  named = λ known targets named. phis_named (length types) known (on_both one.defined two.defined) two.operator phis (phi_targets known targets)
      (both_named (length types) known one.defined two.defined (first_goes.named known (true_targets known targets) named));
  carries = λ known entries targets named stretch code last top later first index same reached.
      let true_entries = each_next (IsEntry (length types) known) (place.block + 1) (place.block + 1 + 1) _ _ (omega arith) entries in
      let one_entries = each_front (IsEntry (length types) known) first_goes.entries _ (place.block + 1 + 1) true_entries.1 in
      let false_entries = each_next (IsEntry (length types) known) other (other + 1) _ _ (omega arith)
      (each_onward (IsEntry (length types) known) (place.block + 1 + 1) other first_goes.entries _ to_other true_entries.1) in
      let two_entries = each_front (IsEntry (length types) known) second_goes.entries _ (other + 1) false_entries.1 in
      let join_entries = each_onward (IsEntry (length types) known) (other + 1) join second_goes.entries _ to_join false_entries.1 in
      let at : IfAt (length types) known place.block other join place.operator one.operator two.operator on_true on_false place.defined one.defined two.defined =
      record {
        true_entry = true_entries.0;
        false_entry = false_entries.0;
        join_entry = join_entries.0;
        join_targets = phi_targets known targets;
        ends_one = ends_one;
        ends_two = ends_two;
        named = named;
        one_named = first_goes.named known (true_targets known targets) named;
        two_named = second_goes.named known (false_targets known targets) named;
      } in
      if_holds (length types) known place.block other join (place.block + 1 + weave_adds on_true) (other + weave_adds on_false) place.operator one.operator two.operator
      on_true on_false place.defined one.defined two.defined (operator_of types place.defined place.statement operator args) (step_of place.statement None operator args)
      (one.onto (just_left (Jump join))) (two.onto (just_left (Jump join))) stretch (true_code (code_left (Jump join))) (false_code (code_left (Jump join))) code last top first index
      at refl scalar targets.0 same
      (step_good (length types) known place.block first index types knows place.defined place.statement None operator args reached ready all
      (ap known.defines same ∙ targets.0) (λ variable is_target. absurd cc))
      reached (omega arith) (omega arith)
      (first_goes.carries known one_entries (true_targets known targets) named (just_left (Jump join)) (code_left (Jump join)) other one.operator)
      (second_goes.carries known two_entries (false_targets known targets) named (just_left (Jump join)) (code_left (Jump join)) join two.operator)
      (continues_at (length types) known (place.block + (3 + weave_adds on_true + weave_adds on_false)) join (two.operator + length phis)
      (with_phis (on_both one.defined two.defined) two.operator phis) stretch code last top (omega arith) later);
}
  where
    one : Woven
    one = woven_all on_true (inside_of place)

    two : Woven
    two = woven_all on_false (beside_of on_true place)

    other : ℕ
    other = place.block + 2 + weave_adds on_true

    join : ℕ
    join = place.block + 2 + weave_adds on_true + 1 + weave_adds on_false

    phis : List ℕ
    phis = join_phis (length types) on_true on_false one.defined two.defined

    join_entry : Entry
    join_entry = either_of phis one.defined two.defined (on_both one.defined two.defined)

    to_other : place.block + 1 + 1 + length first_goes.entries ≡ place.block + 2 + weave_adds on_true
    to_other = let e = first_goes.many in omega (arith, e)

    to_join : place.block + 2 + weave_adds on_true + 1 + length second_goes.entries ≡ place.block + 2 + weave_adds on_true + 1 + weave_adds on_false
    to_join = let e = second_goes.many in omega (arith, e)

    All : Reaching → Type 0
    All known = AreTargets known place.operator (None ∷ (first_goes.targets ++ (second_goes.targets ++ for_phis phis)))

    inside_targets : (known : Reaching) → All known → AreTargets known (place.operator + 1) (first_goes.targets ++ (second_goes.targets ++ for_phis phis))
    inside_targets known targets = (each_next (IsTarget known) place.operator (place.operator + 1) _ _ (omega arith) targets).1

    true_targets : (known : Reaching) → All known → AreTargets known (place.operator + 1) first_goes.targets
    true_targets known targets = each_front (IsTarget known) first_goes.targets _ (place.operator + 1) (inside_targets known targets)

    beside_targets : (known : Reaching) → All known → AreTargets known one.operator (second_goes.targets ++ for_phis phis)
    beside_targets known targets = each_onward (IsTarget known) (place.operator + 1) one.operator first_goes.targets _ first_goes.grows (inside_targets known targets)

    false_targets : (known : Reaching) → All known → AreTargets known one.operator second_goes.targets
    false_targets known targets = each_front (IsTarget known) second_goes.targets _ one.operator (beside_targets known targets)

    phi_targets : (known : Reaching) → All known → AreTargets known two.operator (for_phis phis)
    phi_targets known targets = each_onward (IsTarget known) one.operator two.operator second_goes.targets _ second_goes.grows (beside_targets known targets)
