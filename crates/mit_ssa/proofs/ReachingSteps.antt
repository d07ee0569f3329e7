-- Statements of steps beside operators: one after another, an assignment, and a write.
use Rattle.std.proofs.Common.{◌≡◌, ◌∙◌, ◌<◌, ◌+◌, ℕ, suc, List, [], ◌∷◌, ◌++◌, length, map, ap, sym, subst, refl, arith, true, false, Option, Some, None, Ok, length-append}
use Rattle.std.specs.List.{list_all}
use Rattle.std.proofs.lemmas.Bool.{and_parts}
use Rattle.mit_ops.specs.declared.kinds.OpSpec.{OpSpec}
use Rattle.mit_ops.specs.declared.types.VarType.{VarType}
use Rattle.mit_script.specs.Accepted.{Check, Known, check_step, in_order, is_assigned}
use Rattle.mit_script.specs.Trees.{is_write}
use Rattle.mit_script.specs.declared.tree.Stmt.TheOpen as layer
use Rattle.mit_cfg.specs.Blocks.{Cut, Stretch, cut_in_turn, cut_step, step_of}
use Rattle.mit_cfg.specs.Blocks.{preceded, cut_adds, cut_counts}
use Rattle.mit_cfg.specs.declared.block.Step.{Step}
use Rattle.mit_ssa.specs.Reaching.{Reaching, reach}
use Rattle.mit_ssa.specs.Woven.{Defined, Weave, WeavePlace, Woven, WovenStretch, defining, definition_of, inputs_from, operator_of, operators_first, place_after, weave_adds, weave_counts, weave_step, woven_all}
use Rattle.mit_ssa.specs.declared.block.Operator.{Operator}
use Rattle.mit_ssa.proofs.Counted.{sum-map-cons}
use Rattle.mit_ssa.proofs.DefinitionsGood.{definition_is, listed_only, only_of}
use Rattle.mit_ssa.proofs.DefinitionsReady.{Ready, assigns_known, marked_below, then_known, writes_known}
use Rattle.mit_ssa.proofs.DefinitionsWoven.{Flows}
use Rattle.mit_ssa.proofs.ReachingGood.{GoodStep}
use Rattle.mit_ssa.proofs.ReachingParts.{AreEntries, AreTargets, CodeFrom, Entry, GoodSteps, IsEntry, IsNamed, IsReachOf, IsTarget, each_onward}
use Rattle.mit_ssa.proofs.ReachingPhis.{named_defining, reach_defining, reach_passing}
use Rattle.mit_ssa.proofs.StructureEach.{each_front}

-- ---- a part of a script that begins at a place

-- wherever this number stands in the block, the blocks from there on are good
abbrev pub GoesOn : ℕ → Reaching → ℕ → ℕ → Defined → WovenStretch → Stretch → ℕ → ℕ → Type 0
GoesOn variables known block number defined stretch code last most =
    (first index : ℕ) → first + index ≡ number → IsReachOf variables known block first index defined
    → CodeFrom variables known block first index stretch code last most

-- the entries of the blocks that it adds, and what its operators define
pub record Goes (variables : ℕ) (place : WeavePlace) (added : ℕ) (woven : Woven) (onto : Stretch → Stretch) : Type 0 where
  pub entries : List Entry
  pub many : length entries ≡ added
  pub targets : List (Option ℕ)
  pub grows : place.operator + length targets ≡ woven.operator
  pub named : (known : Reaching) → AreTargets known place.operator targets → IsNamed variables known place.defined → IsNamed variables known woven.defined
  pub carries : (known : Reaching) → AreEntries variables known (place.block + 1) entries → AreTargets known place.operator targets
      → IsNamed variables known place.defined → (stretch : WovenStretch) (code : Stretch) (last most : ℕ)
      → GoesOn variables known (place.block + added) woven.operator woven.defined stretch code last most
      → GoesOn variables known place.block place.operator place.defined (woven.onto stretch) (onto code) last most

pub record GoesBeside (variables : ℕ) (weave : Weave) (cut : Cut) (check : Check) : Type 0 where
  pub added : cut.added ≡ weave.added
  pub count : cut.count ≡ weave.count
  pub goes : (place : WeavePlace) (knows knows_after : Known) → check knows ≡ Ok knows_after → Ready variables knows place.defined
      → Goes variables place weave.added (weave.weave place) (cut.onto place.block place.statement)

pub record AllGo (variables : ℕ) (weaves : List Weave) (cuts : List Cut) (checks : List Check) : Type 0 where
  pub added : cut_adds cuts ≡ weave_adds weaves
  pub count : cut_counts cuts ≡ weave_counts weaves
  pub goes : (place : WeavePlace) (knows knows_after : Known) → in_order checks knows ≡ Ok knows_after → Ready variables knows place.defined
      → Goes variables place (weave_adds weaves) (woven_all weaves place) (cut_in_turn cuts place.block place.statement)

pub continues_at : (variables : ℕ) (known : Reaching) (block other number : ℕ) (defined : Defined) (stretch : WovenStretch) (code : Stretch) (last most : ℕ)
    → block ≡ other → GoesOn variables known block number defined stretch code last most → GoesOn variables known other number defined stretch code last most
continues_at variables known block other number defined stretch code last most same =
    subst (λ (b : ℕ). GoesOn variables known b number defined stretch code last most) same

-- ---- one after another

pub none_go : (variables : ℕ) → AllGo variables [] [] []
unfolding woven_all cut_in_turn
none_go variables = record {
  added = refl;
  count = refl;
  goes = λ place knows knows_after is ready. record {
    entries = [];
    many = refl;
    targets = [];
    grows = omega arith;
    named = λ known targets named. named;
    carries = λ known entries targets named stretch code last most later.
        let e : place.block + weave_adds [] ≡ place.block = omega arith in
        continues_at variables known (place.block + weave_adds []) place.block place.operator place.defined stretch code last most e later;
  };
}

both_go : (variables : ℕ) (weave : Weave) (weaves : List Weave) (place : WeavePlace) (one other : Stretch → Stretch)
    → Goes variables place weave.added (weave.weave place) one
    → Goes variables (place_after place weave (weave.weave place)) (weave_adds weaves) (woven_all weaves (place_after place weave (weave.weave place))) other
    → Goes variables place (weave_adds (weave ∷ weaves)) (woven_all (weave ∷ weaves) place) (λ code. one (other code))
unfolding woven_all
both_go variables weave weaves place one other first rest = record {
  entries = first.entries ++ rest.entries;
  many = (let e = length-append first.entries rest.entries in let f = sum-map-cons (λ (w : Weave). w.added) weave weaves in let g = first.many in let h = rest.many in omega (arith, e, f, g, h));
  targets = first.targets ++ rest.targets;
  grows = (let e = length-append first.targets rest.targets in let f = first.grows in let g = rest.grows in omega (arith, e, f, g));
  named = λ known targets named. rest.named known (later known targets) (first.named known (early known targets) named);
  carries = λ known entries targets named stretch code last most done.
      let g = first.many in
      let e : place.block + 1 + length first.entries ≡ place.block + weave.added + 1 = omega (arith, g) in
      let f : place.block + weave_adds (weave ∷ weaves) ≡ place.block + weave.added + weave_adds weaves = (let h = sum-map-cons (λ (w : Weave). w.added) weave weaves in omega (arith, h)) in
      first.carries known (each_front (IsEntry variables known) first.entries rest.entries (place.block + 1) entries) (early known targets) named ((woven_all weaves next).onto stretch) (other code) last most
      (rest.carries known (each_onward (IsEntry variables known) (place.block + 1) (place.block + weave.added + 1) first.entries rest.entries e entries) (later known targets)
      (first.named known (early known targets) named) stretch code last most
      (continues_at variables known (place.block + weave_adds (weave ∷ weaves)) (place.block + weave.added + weave_adds weaves) (woven_all weaves next).operator
      (woven_all weaves next).defined stretch code last most f done));
}
  where
    next : WeavePlace
    next = place_after place weave (weave.weave place)

    early : (known : Reaching) → AreTargets known place.operator (first.targets ++ rest.targets) → AreTargets known place.operator first.targets
    early known targets = each_front (IsTarget known) first.targets rest.targets place.operator targets

    later : (known : Reaching) → AreTargets known place.operator (first.targets ++ rest.targets) → AreTargets known (weave.weave place).operator rest.targets
    later known targets = each_onward (IsTarget known) place.operator (weave.weave place).operator first.targets rest.targets first.grows targets

pub more_go : (variables : ℕ) (weave : Weave) (weaves : List Weave) (cut : Cut) (cuts : List Cut) (check : Check) (checks : List Check)
    → Flows variables weave check → GoesBeside variables weave cut check → AllGo variables weaves cuts checks
    → AllGo variables (weave ∷ weaves) (cut ∷ cuts) (check ∷ checks)
unfolding cut_in_turn
more_go variables weave weaves cut cuts check checks flows one rest = record {
  added = (let a = sum-map-cons (λ (w : Weave). w.added) weave weaves in let b = sum-map-cons (λ (c : Cut). c.added) cut cuts in let c = one.added in let d = rest.added in omega (arith, a, b, c, d));
  count = (let a = sum-map-cons (λ (w : Weave). w.count) weave weaves in let b = sum-map-cons (λ (c : Cut). c.count) cut cuts in let c = one.count in let d = rest.count in omega (arith, a, b, c, d));
  goes = λ place knows knows_after is ready.
      let parts = then_known check (in_order checks) knows knows_after is in
      subst (λ (a : ℕ). Goes variables place (weave_adds (weave ∷ weaves)) (woven_all (weave ∷ weaves) place) (cut_so place a cut.count)) (sym one.added)
      (subst (λ (n : ℕ). Goes variables place (weave_adds (weave ∷ weaves)) (woven_all (weave ∷ weaves) place) (cut_so place weave.added n)) (sym one.count)
      (both_go variables weave weaves place (cut.onto place.block place.statement) (cut_in_turn cuts (place.block + weave.added) (place.statement + weave.count))
      (one.goes place knows parts.middle parts.first ready)
      (rest.goes (place_after place weave (weave.weave place)) parts.middle knows_after parts.second (flows.passes place knows parts.middle parts.first ready))));
}
  where
    cut_so : WeavePlace → ℕ → ℕ → Stretch → Stretch
    cut_so place added count code = cut.onto place.block place.statement (cut_in_turn cuts (place.block + added) (place.statement + count) code)

-- ---- the operator of a step

args_take : (variables : ℕ) (known : Reaching) (block first index : ℕ) (types : List VarType) (knows : Known) (defined : Defined) (operator : OpSpec) (input : ℕ) (args : List ℕ)
    → IsReachOf variables known block first index defined → Ready variables knows defined → list_all (is_assigned knows.assigned) args ≡ true
    → map (reach known block first index) args ≡ map (λ source. source.from ∷ []) (inputs_from types defined operator input args)
unfolding inputs_from
args_take variables known block first index types knows defined operator input [] reached ready all = refl
args_take variables known block first index types knows defined operator input (arg ∷ args) reached ready all =
    let parts = and_parts (is_assigned knows.assigned arg) (list_all (is_assigned knows.assigned) args) all in
    let within : arg < variables = (let e = marked_below knows.assigned arg parts.0 in let f = ready.many in omega (arith, e, f)) in
    let here : reach known block first index arg ≡ definition_of defined arg ∷ [] =
    reached arg within ∙ listed_only (defined arg) (definition_of defined arg) (definition_is defined arg (ready.each arg parts.0)) in
    rw (here, args_take variables known block first index types knows defined operator (suc input) args reached ready parts.1) refl

pub step_good : (variables : ℕ) (known : Reaching) (block first index : ℕ) (types : List VarType) (knows : Known) (defined : Defined) (statement : ℕ) (target : Option ℕ)
    (operator : OpSpec) (args : List ℕ) → IsReachOf variables known block first index defined → Ready variables knows defined
    → list_all (is_assigned knows.assigned) args ≡ true → known.defines (first + index) ≡ target
    → ((variable : ℕ) → target ≡ Some variable → is_write operator ≡ false)
    → GoodStep known block first index (operator_of types defined statement operator args) (step_of statement target operator args)
step_good variables known block first index types knows defined statement target operator args reached ready all defines assigns = record {
  plain = refl;
  spec = refl;
  statement = refl;
  defines = defines;
  takes = args_take variables known block first index types knows defined operator 0 args reached ready all;
  assigns = assigns;
}

-- a step stands before the rest of a block
pub step_precedes : (variables : ℕ) (known : Reaching) (block first index : ℕ) (operator : Operator) (step : Step) (stretch : WovenStretch) (code : Stretch) (last most : ℕ)
    → GoodStep known block first index operator step → CodeFrom variables known block first (suc index) stretch code last most
    → CodeFrom variables known block first index (operators_first (operator ∷ []) stretch) (preceded step code) last most
unfolding GoodSteps
step_precedes variables known block first index operator step stretch code last most good later = record {
  end = later.end;
  good = record {
    leave_is = later.good.leave_is;
    decided = λ branch. let d = later.good.decided branch in
        record { before = step ∷ d.before; last = d.last; are = ap (λ (steps : List Step). step ∷ steps) d.are; target = d.target; scalar = d.scalar };
    steps = (good, later.good.steps);
    brings = later.good.brings;
  };
  later = later.later;
}

-- ---- an assignment, and a write

pub assign_goes : (types : List VarType) (target : ℕ) (operator : OpSpec) (args : List ℕ) → is_write operator ≡ false
    → GoesBeside (length types) (weave_step types (layer.Assign target operator args)) (cut_step (layer.Assign target operator args))
    (check_step (layer.Assign target operator args))
assign_goes types target operator args plain = record {
  added = refl;
  count = refl;
  goes = λ place knows knows_after is ready.
      let found = assigns_known target operator args knows knows_after is in
      record {
        entries = [];
        many = refl;
        targets = Some target ∷ [];
        grows = omega arith;
        named = λ known targets named. named_defining (length types) known place.defined target place.operator targets.0 named;
        carries = λ known entries targets named stretch code last most later first index same reached.
            let e : place.block + 0 ≡ place.block = omega arith in
            let defines : known.defines (first + index) ≡ Some target = ap known.defines same ∙ targets.0 in
            step_precedes (length types) known place.block first index (operator_of types place.defined place.statement operator args)
            (step_of place.statement (Some target) operator args) stretch code last most
            (step_good (length types) known place.block first index types knows place.defined place.statement (Some target) operator args reached ready
            found.args_known defines (λ variable is_target. plain))
            (continues_at (length types) known (place.block + 0) place.block (place.operator + 1) (defining place.defined target place.operator) stretch code last most e later
            first (suc index) (omega (arith, same))
            (λ variable below. subst (λ (n : ℕ). reach known place.block first (suc index) variable ≡ only_of (defining place.defined target n) variable) same
            (reach_defining known place.block first index target variable place.defined defines (λ not. reached variable below))));
      };
}

pub write_goes : (types : List VarType) (operator : OpSpec) (args : List ℕ)
    → GoesBeside (length types) (weave_step types (layer.Write operator args)) (cut_step (layer.Write operator args)) (check_step (layer.Write operator args))
write_goes types operator args = record {
  added = refl;
  count = refl;
  goes = λ place knows knows_after is ready.
      let found = writes_known operator args knows knows_after is in
      record {
        entries = [];
        many = refl;
        targets = None ∷ [];
        grows = omega arith;
        named = λ known targets named. named;
        carries = λ known entries targets named stretch code last most later first index same reached.
            let e : place.block + 0 ≡ place.block = omega arith in
            let defines : known.defines (first + index) ≡ None = ap known.defines same ∙ targets.0 in
            step_precedes (length types) known place.block first index (operator_of types place.defined place.statement operator args)
            (step_of place.statement None operator args) stretch code last most
            (step_good (length types) known place.block first index types knows place.defined place.statement None operator args reached ready
            found.args_known defines (λ variable is_target. absurd cc))
            (continues_at (length types) known (place.block + 0) place.block (place.operator + 1) place.defined stretch code last most e later
            first (suc index) (omega (arith, same))
            (λ variable below. reach_passing known place.block first index variable defines ∙ reached variable below));
      };
}
