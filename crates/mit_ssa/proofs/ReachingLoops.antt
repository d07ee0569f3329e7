-- A `while` of steps beside one of operators.
use Rattle.std.proofs.Common.{◌≡◌, ◌∙◌, ◌+◌, ℕ, suc, List, [], ◌∷◌, ◌++◌, length, sym, subst, refl, arith, true, None, is_some, inl, inr, length-append}
use Rattle.std.specs.List.{list_all}
use Rattle.std.proofs.lemmas.List.{length-map}
use Rattle.mit_ops.specs.declared.kinds.OpSpec.{OpSpec}
use Rattle.mit_ops.specs.declared.leave.Leave.TheVariants.{Jump, Branch}
use Rattle.mit_ops.specs.declared.types.VarType.{VarType}
use Rattle.mit_script.specs.Accepted.{Known, is_assigned}
use Rattle.mit_script.specs.Trees.{is_scalar}
use Rattle.mit_cfg.specs.Blocks.{Stretch, all_of, condition_alone, step_of}
use Rattle.mit_cfg.specs.declared.block.Block.{Block as Code}
use Rattle.mit_cfg.specs.declared.block.Step.{Step}
use Rattle.mit_ssa.specs.Reaching.{Reaching}
use Rattle.mit_ssa.specs.Woven.{Defined, Weave, WeavePlace, Woven, WovenStretch, assigned_in, just_left, loop_phis, operator_of, phi_of, phis_of, stretch_blocks, weave_adds, with_phis, woven_all, woven_loop}
use Rattle.mit_ssa.specs.declared.block.Block.{Block}
use Rattle.mit_ssa.specs.declared.block.Operator.{Operator}
use Rattle.mit_ssa.proofs.DefinitionsEnds.{Ends}
use Rattle.mit_ssa.proofs.DefinitionsGood.{only_of}
use Rattle.mit_ssa.proofs.DefinitionsJoin.{both_are, either_of, loop_test, same_around}
use Rattle.mit_ssa.proofs.DefinitionsPhis.{Each, among, passes, phis_stay}
use Rattle.mit_ssa.proofs.DefinitionsReady.{Ready}
use Rattle.mit_ssa.proofs.DefinitionsWoven.{phis_at, turn_of}
use Rattle.mit_ssa.proofs.ReachingBranches.{branch_holds, code_left, condition_ends}
use Rattle.mit_ssa.proofs.ReachingGood.{GoodStep}
use Rattle.mit_ssa.proofs.ReachingMeets.{IsMeet, brings_either, brings_only, enter_reached, meet_named, meet_phis, meet_reached, named_only}
use Rattle.mit_ssa.proofs.ReachingParts.{AreTargets, Brings, CodeBlocks, CodeFrom, Entry, GoodSteps, IsEntry, IsNamed, IsReachOf, IsTarget, code_append, code_begins, each_next, each_onward, for_phis, for_phis_many}
use Rattle.mit_ssa.proofs.ReachingPhis.{chosen_below, chosen_distinct, phis_named, reach_passing}
use Rattle.mit_ssa.proofs.ReachingSteps.{GoesOn, Goes, continues_at, step_good}
use Rattle.mit_ssa.proofs.StructureEach.{each_front}

-- ---- the header

-- the numbers of its blocks, how they are entered, and what is known of their operators
pub record WhileAt (variables : ℕ) (known : Reaching) (header inner exit number most : ℕ) (body : List Weave) (env turn : Defined) : Type 0 where
  pub header_entry : IsEntry variables known header (either_of (loop_phis variables body env) env turn env)
  pub inner_entry : IsEntry variables known inner (only_of (with_phis env number (loop_phis variables body env)))
  pub exit_entry : IsEntry variables known exit (only_of (with_phis env number (loop_phis variables body env)))
  pub targets : AreTargets known number (for_phis (loop_phis variables body env))
  pub condition : known.defines (number + length (loop_phis variables body env)) ≡ None
  pub ends : Ends variables (number + length (loop_phis variables body env) + 1) most (with_phis env number (loop_phis variables body env)) turn (assigned_in body)
  pub named : IsNamed variables known env
  pub turn_named : IsNamed variables known turn

header_some : (variables number most : ℕ) (body : List Weave) (env turn : Defined) (variable : ℕ)
    → Ends variables (number + length (loop_phis variables body env) + 1) most (with_phis env number (loop_phis variables body env)) turn (assigned_in body)
    → among (loop_phis variables body env) variable ≡ true → (is_some (env variable) ≡ true) × (is_some (turn variable) ≡ true)
header_some variables number most body env turn variable ends phi =
    let some = (both_are (assigned_in body variable) (is_some (env variable)) (passes (loop_test body env) _ variable phi)).1 in
    (some, ends.stays variable (phis_stay env number (loop_phis variables body env) variable some))

header_meets : (variables : ℕ) (known : Reaching) (header inner exit number most : ℕ) (body : List Weave) (env turn : Defined)
    → WhileAt variables known header inner exit number most body env turn
    → IsMeet variables known header number (loop_phis variables body env) env turn env
header_meets variables known header inner exit number most body env turn at = record {
  entry = at.header_entry;
  targets = at.targets;
  distinct = chosen_distinct (loop_test body env) 0 variables;
  below = λ variable phi. chosen_below (loop_test body env) variables variable phi;
  one_defined = λ variable phi. (header_some variables number most body env turn variable at.ends phi).0;
  other_defined = λ variable phi. (header_some variables number most body env turn variable at.ends phi).1;
}

brings_before : (variables : ℕ) (known : Reaching) (header inner exit number most : ℕ) (body : List Weave) (env turn : Defined)
    → WhileAt variables known header inner exit number most body env turn
    → (block first index : ℕ) → IsReachOf variables known block first index env → Brings variables known block first index header
brings_before variables known header inner exit number most body env turn at block first index reached =
    brings_either variables known block first index header (loop_phis variables body env) env turn env env at.header_entry reached
    (λ variable below phi. ((header_some variables number most body env turn variable at.ends phi).0, inl refl))
    (λ variable operator below none is. is)

brings_back : (variables : ℕ) (known : Reaching) (header inner exit number most : ℕ) (body : List Weave) (env turn : Defined)
    → WhileAt variables known header inner exit number most body env turn
    → (block first index : ℕ) → IsReachOf variables known block first index turn → Brings variables known block first index header
brings_back variables known header inner exit number most body env turn at block first index reached =
    brings_either variables known block first index header (loop_phis variables body env) env turn env turn at.header_entry reached
    (λ variable below phi. ((header_some variables number most body env turn variable at.ends phi).1, inr refl))
    (λ variable operator below none is.
    same_around variables number (number + length (loop_phis variables body env) + 1) most body env turn variable operator at.ends below none is)

-- ---- the whole

-- the header, with its phis and the condition
header_holds : (variables : ℕ) (known : Reaching) (header inner exit number most : ℕ) (body : List Weave) (env turn : Defined) (operator : Operator) (step : Step)
    (around stretch : WovenStretch) (around_code code : Stretch) (last top : ℕ) → WhileAt variables known header inner exit number most body env turn
    → step.target ≡ None → is_scalar step.op ≡ true
    → GoodStep known header number (length (loop_phis variables body env)) operator step → header + 1 ≡ inner
    → CodeBlocks variables known inner (number + length (loop_phis variables body env) + 1) (stretch_blocks around ++ stretch_blocks stretch) (all_of around_code ++ all_of code) last top
    → CodeBlocks variables known header number
    (record { operators = phis_of env turn (loop_phis variables body env) ++ operator ∷ []; leave = Branch inner exit } ∷ (stretch_blocks around ++ stretch_blocks stretch))
    (record { steps = step ∷ []; leave = Branch inner exit } ∷ (all_of around_code ++ all_of code)) last top
header_holds variables known header inner exit number most body env turn operator step around stretch around_code code last top at target scalar good next later =
    code_begins variables known header number (length phis) (phis_of env turn phis)
    (record { first = record { operators = operator ∷ []; leave = Branch inner exit }; later = stretch_blocks around ++ stretch_blocks stretch })
    (record { first = record { steps = step ∷ []; leave = Branch inner exit }; later = all_of around_code ++ all_of code }) last top (length-map phis (phi_of env turn))
    (meet_named variables known header number phis env turn env meet at.named at.turn_named at.named)
    (meet_phis variables known header number phis env turn env meet)
    (condition_ends variables known header number (length phis) inner exit operator step (stretch_blocks around ++ stretch_blocks stretch) (all_of around_code ++ all_of code) last top
    good target scalar
    (brings_only variables known header number (suc (length phis)) inner inside at.inner_entry passed)
    (brings_only variables known header number (suc (length phis)) exit inside at.exit_entry passed)
    (subst (λ (b : ℕ). CodeBlocks variables known b (number + suc (length phis)) (stretch_blocks around ++ stretch_blocks stretch) (all_of around_code ++ all_of code) last top) (sym next)
    (subst (λ (n : ℕ). CodeBlocks variables known inner n (stretch_blocks around ++ stretch_blocks stretch) (all_of around_code ++ all_of code) last top) further later)))
  where
    phis : List ℕ
    phis = loop_phis variables body env

    inside : Defined
    inside = with_phis env number phis

    meet : IsMeet variables known header number phis env turn env
    meet = header_meets variables known header inner exit number most body env turn at

    passed : IsReachOf variables known header number (suc (length phis)) inside
    passed variable below =
        reach_passing known header number (length phis) variable at.condition ∙ meet_reached variables known header number phis env turn env meet variable below

    further : number + length (loop_phis variables body env) + 1 ≡ number + suc (length (loop_phis variables body env))
    further = omega arith

while_holds : (variables : ℕ) (known : Reaching) (block header inner exit inner_last number most : ℕ) (body : List Weave) (env turn : Defined) (operator : Operator) (step : Step)
    (around stretch : WovenStretch) (around_code code : Stretch) (last top first index : ℕ) → WhileAt variables known header inner exit number most body env turn
    → step.target ≡ None → is_scalar step.op ≡ true → first + index ≡ number → IsReachOf variables known block first index env
    → GoodStep known header number (length (loop_phis variables body env)) operator step → block + 1 ≡ header → header + 1 ≡ inner → inner_last + 1 ≡ exit
    → (GoesOn variables known inner_last most turn (just_left (Jump header)) (code_left (Jump header)) exit most
    → GoesOn variables known inner (number + length (loop_phis variables body env) + 1) (with_phis env number (loop_phis variables body env)) around around_code exit most)
    → GoesOn variables known exit most (with_phis env number (loop_phis variables body env)) stretch code last top
    → CodeFrom variables known block first index (record {
      first = record { operators = []; leave = Jump header };
      later = record { operators = phis_of env turn (loop_phis variables body env) ++ operator ∷ []; leave = Branch inner exit } ∷ (stretch_blocks around ++ stretch_blocks stretch);
    }) (record {
      first = record { steps = []; leave = Jump header };
      later = record { steps = step ∷ []; leave = Branch inner exit } ∷ (all_of around_code ++ all_of code);
    }) last top
unfolding GoodSteps Each
while_holds variables known block header inner exit inner_last number most body env turn operator step around stretch around_code code last top first index at target scalar
    same reached good to_header to_inner to_exit through later = record {
      end = index;
      good = record {
        leave_is = refl;
        decided = λ branch. absurd cc;
        steps = refl;
        brings = (brings_before variables known header inner exit number most body env turn at block first index reached, tt);
      };
      later = subst (λ (b : ℕ). CodeBlocks variables known b (first + index) blocks codes last top) (sym to_header)
          (subst (λ (n : ℕ). CodeBlocks variables known header n blocks codes last top) (sym same)
          (header_holds variables known header inner exit number most body env turn operator step around stretch around_code code last top at target scalar good to_inner
          (code_append variables known inner (number + length (loop_phis variables body env) + 1) (stretch_blocks around) (stretch_blocks stretch) (all_of around_code) (all_of code)
          exit most last top
          (branch_holds variables known inner inner_last exit (number + length (loop_phis variables body env) + 1) most header inside turn around around_code to_exit
          at.inner_entry inside_named through (brings_back variables known header inner exit number most body env turn at inner_last))
          (code_begins variables known exit most 0 [] stretch code last top refl (named_only variables known exit inside at.exit_entry inside_named) tt
          (later most 0 (omega arith) (enter_reached variables known exit most inside at.exit_entry))))));
    }
  where
    inside : Defined
    inside = with_phis env number (loop_phis variables body env)

    inside_named : IsNamed variables known inside
    inside_named = phis_named variables known env number (loop_phis variables body env) at.targets at.named

    blocks : List Block
    blocks = record { operators = phis_of env turn (loop_phis variables body env) ++ operator ∷ []; leave = Branch inner exit } ∷ (stretch_blocks around ++ stretch_blocks stretch)

    codes : List Code
    codes = record { steps = step ∷ []; leave = Branch inner exit } ∷ (all_of around_code ++ all_of code)

-- a `while` of steps, whose body is cut so
abbrev pub code_looped : ℕ → OpSpec → List ℕ → ℕ → ℕ → (Stretch → Stretch) → Stretch → Stretch
code_looped statement operator args block exit body code = record {
  first = record { steps = []; leave = Jump (block + 1) };
  later = condition_alone statement operator args (block + 2) exit ∷ (all_of (body (code_left (Jump (block + 1)))) ++ all_of code);
}

pub while_goes : (types : List VarType) (operator : OpSpec) (args : List ℕ) (body : List Weave) (place : WeavePlace) (knows : Known) (body_code : Stretch → Stretch)
    → is_scalar operator ≡ true
    → Ends (length types) (place.operator + length (phis_at types body place) + 1) (woven_all body (turn_of types body place)).operator
    (with_phis place.defined place.operator (phis_at types body place)) (woven_all body (turn_of types body place)).defined (assigned_in body)
    → Ready (length types) knows (with_phis place.defined place.operator (phis_at types body place)) → list_all (is_assigned knows.assigned) args ≡ true
    → Goes (length types) (turn_of types body place) (weave_adds body) (woven_all body (turn_of types body place)) body_code
    → Goes (length types) place (3 + weave_adds body) (woven_loop types operator args body place)
    (code_looped place.statement operator args place.block (place.block + 3 + weave_adds body) body_code)
while_goes types operator args body place knows body_code scalar ends ready all goes = record {
  entries = header_entry ∷ (only_of inside ∷ (goes.entries ++ only_of inside ∷ []));
  many = (let e = length-append goes.entries (only_of inside ∷ []) in let f = goes.many in omega (arith, e, f));
  targets = for_phis phis ++ None ∷ goes.targets;
  grows = (let e = length-append (for_phis phis) (None ∷ goes.targets) in let f = goes.grows in let g = for_phis_many phis in omega (arith, e, f, g));
  named = λ known targets named. inside_named known targets named;
  carries = λ known entries targets named stretch code last top later first index same reached.
      let header_entries = each_next (IsEntry (length types) known) (place.block + 1) (place.block + 2) header_entry
      (only_of inside ∷ (goes.entries ++ only_of inside ∷ [])) (omega arith) entries in
      let inner_entries = each_next (IsEntry (length types) known) (place.block + 2) (place.block + 2 + 1) (only_of inside)
      (goes.entries ++ only_of inside ∷ []) (omega arith) header_entries.1 in
      let body_entries = each_front (IsEntry (length types) known) goes.entries (only_of inside ∷ []) (place.block + 2 + 1) inner_entries.1 in
      let exit_entries = each_onward (IsEntry (length types) known) (place.block + 2 + 1) exit goes.entries (only_of inside ∷ []) to_exit inner_entries.1 in
      let at : WhileAt (length types) known (place.block + 1) (place.block + 2) exit place.operator turn.operator body place.defined turn.defined =
      record {
        header_entry = header_entries.0;
        inner_entry = inner_entries.0;
        exit_entry = exit_entries.0;
        targets = phi_targets known targets;
        condition = (condition_target known targets).0;
        ends = ends;
        named = named;
        turn_named = goes.named known (turn_targets known targets) (inside_named known targets named);
      } in
      while_holds (length types) known place.block (place.block + 1) (place.block + 2) exit (place.block + 2 + weave_adds body) place.operator turn.operator body place.defined
      turn.defined (operator_of types inside place.statement operator args) (step_of place.statement None operator args) (turn.onto (just_left (Jump (place.block + 1)))) stretch
      (body_code (code_left (Jump (place.block + 1)))) code last top first index at refl scalar same reached
      (step_good (length types) known (place.block + 1) place.operator (length phis) types knows inside place.statement None operator args
      (meet_reached (length types) known (place.block + 1) place.operator phis place.defined turn.defined place.defined
      (header_meets (length types) known (place.block + 1) (place.block + 2) exit place.operator turn.operator body place.defined turn.defined at))
      ready all at.condition (λ variable is_target. absurd cc))
      refl (omega arith) (omega arith)
      (goes.carries known body_entries (turn_targets known targets) (inside_named known targets named) (just_left (Jump (place.block + 1))) (code_left (Jump (place.block + 1)))
      exit turn.operator)
      (continues_at (length types) known (place.block + (3 + weave_adds body)) exit turn.operator inside stretch code last top (omega arith) later);
}
  where
    phis : List ℕ
    phis = phis_at types body place

    inside : Defined
    inside = with_phis place.defined place.operator phis

    turn : Woven
    turn = woven_all body (turn_of types body place)

    exit : ℕ
    exit = place.block + 3 + weave_adds body

    header_entry : Entry
    header_entry = either_of phis place.defined turn.defined place.defined

    to_exit : place.block + 2 + 1 + length goes.entries ≡ place.block + 3 + weave_adds body
    to_exit = let e = goes.many in omega (arith, e)

    All : Reaching → Type 0
    All known = AreTargets known place.operator (for_phis phis ++ None ∷ goes.targets)

    phi_targets : (known : Reaching) → All known → AreTargets known place.operator (for_phis phis)
    phi_targets known targets = each_front (IsTarget known) (for_phis phis) _ place.operator targets

    condition_target : (known : Reaching) → All known
        → (known.defines (place.operator + length phis) ≡ None) × AreTargets known (place.operator + length phis + 1) goes.targets
    condition_target known targets =
        let e : place.operator + length (for_phis phis) ≡ place.operator + length phis = (let g = for_phis_many phis in omega (arith, g)) in
        each_next (IsTarget known) (place.operator + length phis) (place.operator + length phis + 1) None goes.targets (omega arith)
        (each_onward (IsTarget known) place.operator (place.operator + length phis) (for_phis phis) _ e targets)

    turn_targets : (known : Reaching) → All known → AreTargets known (place.operator + length phis + 1) goes.targets
    turn_targets known targets = (condition_target known targets).1

    inside_named : (known : Reaching) → All known → IsNamed (length types) known place.defined → IsNamed (length types) known inside
    inside_named known targets named = phis_named (length types) known place.defined place.operator phis (phi_targets known targets) named
