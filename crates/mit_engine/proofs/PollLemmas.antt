-- A poll keeps what the job stands for, and takes one from the actions that are left; and an operator that can be polled has what it needs.
use Rattle.std.proofs.Common.{◌≡◌, ◌∙◌, ◌+◌, ◌++◌, ℕ, zero, suc, List, [], ◌∷◌, Option, Some, None, Result, Ok, Err, Bool, true, false, length, ap, sym, subst, refl, inl, inr, arith}
use Rattle.std.specs.Prelude.{map, slice_get, slice_set, ◌==◌, if◌then◌else◌, not}
use Rattle.std.specs.List.{list_all}
use Rattle.std.proofs.lemmas.Bool.{and_parts, cond_both, eq-eqb, ne_eqb, cases_eq, not-true}
use Rattle.std.proofs.lemmas.List.{length-map, length-set, set-set}
use Rattle.std.proofs.lemmas.List.Elements.{All-nil}
use Rattle.std.proofs.lemmas.List.Folds.{map_fixed}
use Rattle.std.proofs.lemmas.Simd.{map-map}
use Rattle.mit_rows.specs.Bags.{BagOf}
use Rattle.mit_files.specs.Files.{FileMap}
use Rattle.mit_shelf.specs.Shelf.{Agrees, Kept}
use Rattle.mit_ops.specs.declared.faults.FaultKind.{FaultKind}
use Rattle.mit_engine.specs.Thin.{FormedFrom, IsFormedThin, edges_of}
use Rattle.mit_engine.specs.Operators.{IsPollReady, JobState, actions_left, after_poll, assigned_after, bag_received, bags_here, due_bag, edge_left, fed_of, feeds_bag, is_here, is_pollable, is_received, left_of, operator_left, passed_on, polls, sends, sends_all, sources, with_operators}
use Rattle.mit_engine.specs.Running.{AtFault, EdgeHolds, Goes, JobHolds, JobStands, Made, MadeOf, MadePart, Means, OperatorCan, OperatorHolds, PathHolds, ReportsPart, StagesPart, Unmade, bags_made, with_made_bag}
use Rattle.mit_engine.specs.declared.edges.Edge.{Edge}
use Rattle.mit_engine.specs.declared.edges.Received.{Received}
use Rattle.mit_engine.specs.declared.edges.Received.TheVariants.{Awaited, Here, Fed}
use Rattle.mit_engine.specs.declared.operators.Operator.{Operator}
use Rattle.mit_engine.specs.declared.operators.Outcome.{Outcome}
use Rattle.mit_engine.specs.declared.operators.Outcome.TheVariants as outcome
use Rattle.mit_engine.specs.declared.thin.ThinStep.{ThinStep}
use Rattle.mit_engine.specs.declared.thin.ThinStep.TheVariants as step
use Rattle.mit_engine.proofs.FormedLemmas.{FormedAfter, formed_first, formed_next}
use Rattle.mit_engine.proofs.HeldLemmas.{After, After-set, Holds_after, edge_source, held_at, left-set, sources_in}
use Rattle.mit_engine.proofs.Places.{All-from_got, got_map, got_set, list_all_got, map-map_kept, sum_by-map_kept}
use Rattle.mit_engine.proofs.SourceLemmas.{Assigns, length-sources_at, sources_all, sources_at}

-- ---- the operator before it

-- these edges have each received the bag that its source has made
record AreHere (parts : ℕ → MadePart) (inputs : List Edge) : Type 0 where
  each : (input : ℕ) (edge : Edge) → slice_get inputs input ≡ Some edge
      → (bag : BagOf) × (parts edge.from ≡ Made bag) × (edge.parts ≡ []) × (edge.received ≡ Here bag)

-- an operator that can be polled
record IsWaiting (parts : ℕ → MadePart) (at : ℕ) (operator : Operator) : Type 0 where
  unmade : parts at ≡ Unmade
  unpolled : operator.polled ≡ false
  silent : operator.reports ≡ []
  unheard : operator.heard ≡ None
  inputs : AreHere parts operator.inputs

ReportsPart_unpolled : (part : MadePart) (polled : Bool) (reports : List Outcome) (heard : Option Outcome) → polled ≡ false → ReportsPart part polled reports heard
    → (part ≡ Unmade) × (reports ≡ []) × (heard ≡ None)
ReportsPart_unpolled Unmade polled reports heard not_yet is = (refl, is.1, is.2)
ReportsPart_unpolled (Made bag) polled reports heard not_yet is = absurd cc
ReportsPart_unpolled (AtFault kind) polled reports heard not_yet is = absurd cc

EdgeHolds_here : (part : MadePart) (polled : Bool) (parts : List BagOf) (received : Received) → is_received received ≡ true → EdgeHolds part polled parts received
    → (bag : BagOf) × (part ≡ Made bag) × (parts ≡ []) × (received ≡ Here bag)
EdgeHolds_here Unmade polled parts received here is = absurd (cc (ap is_received is.2))
EdgeHolds_here (AtFault kind) polled parts received here is = absurd (cc (ap is_received is.2))
EdgeHolds_here (Made bag) polled parts received here is = elim is [
  | inl e ↦ absurd (cc (ap is_received e.2))
  | inr e ↦ elim e [ inl f ↦ (bag, refl, f.1, f.2) | inr f ↦ absurd (cc (ap is_received f.2)) ]
]

waits : {statement : ThinStep} {from : List ℕ} {parts : ℕ → MadePart} {at : ℕ} {operator : Operator} → is_pollable operator ≡ true
    → OperatorHolds statement from parts at operator → IsWaiting parts at operator
waits {parts = parts} {at} {operator} can holds =
    let both = and_parts (not operator.polled) (list_all is_here operator.inputs) can in
    let unpolled = not-true operator.polled both.0 in
    let nothing = ReportsPart_unpolled (parts at) operator.polled operator.reports operator.heard unpolled holds.reports in
    let here : (input : ℕ) (edge : Edge) → slice_get operator.inputs input ≡ Some edge → is_here edge ≡ true =
    λ input edge is. list_all_got is_here operator.inputs input edge both.1 is in
    record {
      unmade = nothing.0;
      unpolled = unpolled;
      silent = nothing.1;
      unheard = nothing.2;
      inputs = record {
        each = λ input edge is. EdgeHolds_here (parts edge.from) operator.polled edge.parts edge.received (here input edge is) (holds.edges input edge is);
      };
    }

-- the sources of a waiting operator have made their bags, so none is the operator itself
source_apart : {parts : ℕ → MadePart} {at : ℕ} {operator : Operator} → IsWaiting parts at operator
    → (input : ℕ) (edge : Edge) → slice_get operator.inputs input ≡ Some edge → ¬ (edge.from ≡ at)
source_apart waiting input edge is same = let here = waiting.inputs.each input edge is in absurd (cc (here.1, waiting.unmade))

-- the bags that its sources have made are those that it received
bags_made_here : (parts : ℕ → MadePart) (inputs : List Edge) → AreHere parts inputs → bags_made parts (sources_in inputs) ≡ Some (bags_here inputs)
unfolding bags_here
bags_made_here parts [] here = refl
bags_made_here parts (edge ∷ inputs) here =
    let first = here.each zero edge refl in
    let rest : AreHere parts inputs = record { each = λ input other is. here.each (suc input) other is } in
    ap (λ part. with_made_bag part (bags_made parts (sources_in inputs))) first.1
    ∙ ap (with_made_bag (Made first.0)) (bags_made_here parts inputs rest)
    ∙ ap (λ (r : Received). Some (bag_received r ++ bags_here inputs)) (sym first.3)

with_bag_some : (part : MadePart) (others : Option (List BagOf)) (bags : List BagOf) → with_made_bag part others ≡ Some bags
    → (bag : BagOf) × (later : List BagOf) × (part ≡ Made bag) × (others ≡ Some later) × (bags ≡ bag ∷ later)
with_bag_some Unmade others bags is = cc
with_bag_some (AtFault kind) others bags is = cc
with_bag_some (Made bag) None bags is = cc
with_bag_some (Made bag) (Some later) bags is = (bag, later, refl, refl, cc)

length-bags_made : (parts : ℕ → MadePart) (from : List ℕ) (bags : List BagOf) → bags_made parts from ≡ Some bags → length bags ≡ length from
length-bags_made parts [] bags is = let none : bags ≡ [] = cc in ap length none
length-bags_made parts (source ∷ from) bags is =
    let all = with_bag_some (parts source) (bags_made parts from) bags is in
    ap length all.4 ∙ ap suc (length-bags_made parts from all.1 all.3)

-- ---- what it makes

abbrev part_of : Result BagOf FaultKind → MadePart
part_of (Ok bag) = Made bag
part_of (Err kind) = AtFault kind

-- the parts with this one made
abbrev parts_with : (ℕ → MadePart) → ℕ → MadePart → ℕ → MadePart
parts_with parts at part k = if k == at then part else parts k

-- one operator more has made its part
record OneMore (parts new : ℕ → MadePart) (at : ℕ) (part : MadePart) : Type 0 where
  unmade : parts at ≡ Unmade
  made : new at ≡ part
  others : (k : ℕ) → ¬ (k ≡ at) → new k ≡ parts k

one_more : (parts : ℕ → MadePart) (at : ℕ) (part : MadePart) → parts at ≡ Unmade → OneMore parts (parts_with parts at part) at part
one_more parts at part unmade = record {
  unmade = unmade;
  made = ap (λ b. if b then part else parts at) (eq-eqb at at refl);
  others = λ k other. ap (λ b. if b then part else parts k) (ne_eqb k at other);
}

-- sources that have all made their bags keep them
bags_made_kept : {parts new : ℕ → MadePart} {at : ℕ} {part : MadePart} → OneMore parts new at part → (from : List ℕ) (bags : List BagOf)
    → bags_made parts from ≡ Some bags → bags_made new from ≡ Some bags
bags_made_kept more [] bags is = is
bags_made_kept {parts} {new} {at} more (source ∷ from) bags is =
    let all = with_bag_some (parts source) (bags_made parts from) bags is in
    let other : ¬ (source ≡ at) = λ e. absurd (cc (all.2, more.unmade)) in
    ap (λ part. with_made_bag part (bags_made new from)) (more.others source other)
    ∙ ap (with_made_bag (parts source)) (bags_made_kept more from all.1 all.3 ∙ sym all.3) ∙ is

MadeOf_kept : (files : FileMap) (statement : ThinStep) (old new : Option (List BagOf)) (part : MadePart) → ((bags : List BagOf) → old ≡ Some bags → new ≡ Some bags)
    → MadeOf files statement old part → MadeOf files statement new part
MadeOf_kept files statement old new Unmade same is = tt
MadeOf_kept files statement None new (Made bag) same is = absurd is
MadeOf_kept files statement None new (AtFault kind) same is = absurd is
MadeOf_kept files statement (Some bags) new (Made bag) same is =
    let P : Option (List BagOf) → Type 0 = λ o. MadeOf files statement o (Made bag) in subst P (sym (same bags refl)) is
MadeOf_kept files statement (Some bags) new (AtFault kind) same is =
    let P : Option (List BagOf) → Type 0 = λ o. MadeOf files statement o (AtFault kind) in subst P (sym (same bags refl)) is

MadeOf_made : (files : FileMap) (statement : ThinStep) (bags : List BagOf) (made : Result BagOf FaultKind) → due_bag files statement bags ≡ made
    → MadeOf files statement (Some bags) (part_of made)
MadeOf_made files statement bags (Ok bag) is = is
MadeOf_made files statement bags (Err kind) is = is

-- its part means what its statement makes of the bags that it received
made_means : {parts new : ℕ → MadePart} {at : ℕ} {operator : Operator} (files : FileMap) (statement : ThinStep) (from : List ℕ) (made : Result BagOf FaultKind)
    → OneMore parts new at (part_of made) → IsWaiting parts at operator → sources_in operator.inputs ≡ from
    → due_bag files statement (bags_here operator.inputs) ≡ made → MadeOf files statement (bags_made new from) (new at)
made_means {parts} {new} {at} {operator} files statement from made more waiting wired makes =
    let bags = bags_here operator.inputs in
    let all = bags_made_kept more from bags (ap (bags_made parts) (sym wired) ∙ bags_made_here parts operator.inputs waiting.inputs) in
    let P : Option (List BagOf) → Type 0 = λ o. MadeOf files statement o (new at) in
    let Q : MadePart → Type 0 = λ p. MadeOf files statement (Some bags) p in
    subst P (sym all) (subst Q (sym more.made) (MadeOf_made files statement bags made makes))

poll_means : {steps : List ThinStep} {parts : ℕ → MadePart} {job : JobState} {at : ℕ} {operator : Operator}
    (files : FileMap) (statement : ThinStep) (made : Result BagOf FaultKind) → slice_get job.operators at ≡ Some operator → slice_get steps at ≡ Some statement
    → IsWaiting parts at operator → JobHolds steps parts job → due_bag files statement (bags_here operator.inputs) ≡ made
    → Means files steps parts → Means files steps (parts_with parts at (part_of made))
poll_means {steps} {parts} {at = at} {operator} files statement made is does waiting holds makes means k again from does' leads =
    let new : ℕ → MadePart = parts_with parts at (part_of made) in
    let more = one_more parts at (part_of made) waiting.unmade in
    elim (cases_eq k at) [
      | inl e ↦
          let same : statement ≡ again = cc in
          let wired = (holds.each at operator statement from is does (ap (slice_get (sources steps)) (sym e) ∙ leads)).wired in
          let P : ℕ → Type 0 = λ n. MadeOf files again (bags_made new from) (new n) in
          let Q : ThinStep → Type 0 = λ s. MadeOf files s (bags_made new from) (new at) in
          subst P (sym e) (subst Q same (made_means files statement from made more waiting wired makes))
      | inr e ↦
          let P : MadePart → Type 0 = λ p. MadeOf files again (bags_made new from) p in
          let before = means k again from does' leads in
          subst P (sym (more.others k e)) (MadeOf_kept files again (bags_made parts from) (bags_made new from) (parts k) (bags_made_kept more from) before)
    ]

-- ---- the operator after it

-- it has reported, and its inputs are fed
polled_holds : {parts new : ℕ → MadePart} {at : ℕ} {part : MadePart} {operator : Operator} (statement : ThinStep) (from : List ℕ) (outcome : Outcome) (staged : Option BagOf)
    → OneMore parts new at part → IsWaiting parts at operator → sources_in operator.inputs ≡ from
    → ReportsPart part true (outcome ∷ []) None → StagesPart statement part staged
    → OperatorHolds statement from new at (record (polls outcome operator) { staged = staged })
polled_holds {parts} {new} {at} {part} {operator} statement from outcome staged more waiting wired reports stages = record {
  wired = map-map (λ (edge : Edge). edge.from) feeds_bag operator.inputs ∙ wired;
  reports =
      let P : MadePart → Type 0 = λ p. ReportsPart p true (operator.reports ++ outcome ∷ []) operator.heard in
      let Q : List Outcome → Type 0 = λ old. ReportsPart part true (old ++ outcome ∷ []) operator.heard in
      let R : Option Outcome → Type 0 = λ heard. ReportsPart part true (outcome ∷ []) heard in
      subst P (sym more.made) (subst Q (sym waiting.silent) (subst R (sym waiting.unheard) reports));
  edges = λ input edge is.
      let old = got_map feeds_bag operator.inputs input edge is in
      let here = waiting.inputs.each input old.0 old.1 in
      let same : new old.0.from ≡ Made here.0 = more.others old.0.from (source_apart waiting input old.0 old.1) ∙ here.1 in
      let P : Edge → Type 0 = λ e. EdgeHolds (new e.from) true e.parts e.received in
      let Q : MadePart → Type 0 = λ p. EdgeHolds p true old.0.parts (fed_of old.0.received) in
      subst P (sym old.2) (subst Q (sym same) (inr (inr (refl, here.2, ap fed_of here.3))));
  staged = let P : MadePart → Type 0 = λ p. StagesPart statement p staged in subst P (sym more.made) stages;
}

-- ---- the other operators after it

-- an operator that was not polled, with its edges as the poll leaves them
other_holds : {statement : ThinStep} {from : List ℕ} {parts : ℕ → MadePart} {at : ℕ} {operator : Operator} (new : ℕ → MadePart) (inputs : List Edge)
    → new at ≡ parts at → sources_in inputs ≡ sources_in operator.inputs
    → ((input : ℕ) (edge : Edge) → slice_get inputs input ≡ Some edge → EdgeHolds (new edge.from) operator.polled edge.parts edge.received)
    → OperatorHolds statement from parts at operator → OperatorHolds statement from new at (record operator { inputs = inputs })
other_holds {statement} {operator = operator} new inputs same wired edges holds =
    let P : MadePart → Type 0 = λ p. ReportsPart p operator.polled operator.reports operator.heard in
    let Q : MadePart → Type 0 = λ p. StagesPart statement p operator.staged in
    record { wired = wired ∙ holds.wired; reports = subst P (sym same) holds.reports; edges = edges; staged = subst Q (sym same) holds.staged }

sends_along : (at : ℕ) (bag : BagOf) (edge : Edge) → edge.from ≡ at → sends at bag edge ≡ record edge { parts = edge.parts ++ bag ∷ [] }
sends_along at bag edge same = ap (λ (b : Bool). if b then record edge { parts = edge.parts ++ bag ∷ [] } else edge) (eq-eqb edge.from at same)

sends_past : (at : ℕ) (bag : BagOf) (edge : Edge) → ¬ (edge.from ≡ at) → sends at bag edge ≡ edge
sends_past at bag edge other = ap (λ (b : Bool). if b then record edge { parts = edge.parts ++ bag ∷ [] } else edge) (ne_eqb edge.from at other)

from-sends : (at : ℕ) (bag : BagOf) (edge : Edge) → (sends at bag edge).from ≡ edge.from
from-sends at bag edge =
    cond_both (edge.from == at) (record edge { parts = edge.parts ++ bag ∷ [] }) edge (λ e. e.from ≡ edge.from) (λ _. refl) (λ _. refl)

-- an edge from an operator that has made nothing
EdgeHolds_unmade : (part : MadePart) (polled : Bool) (parts : List BagOf) (received : Received) → part ≡ Unmade → EdgeHolds part polled parts received
    → (polled ≡ false) × (parts ≡ []) × (received ≡ Awaited)
EdgeHolds_unmade Unmade polled parts received same is = is
EdgeHolds_unmade (Made bag) polled parts received same is = cc
EdgeHolds_unmade (AtFault kind) polled parts received same is = cc

-- an edge from another operator than the polled one
EdgeHolds_other : {parts new : ℕ → MadePart} {at : ℕ} {part : MadePart} → OneMore parts new at part → (polled : Bool) (edge : Edge) → ¬ (edge.from ≡ at)
    → EdgeHolds (parts edge.from) polled edge.parts edge.received → EdgeHolds (new edge.from) polled edge.parts edge.received
EdgeHolds_other more polled edge other is =
    let P : MadePart → Type 0 = λ p. EdgeHolds p polled edge.parts edge.received in subst P (sym (more.others edge.from other)) is

-- any edge, after the bag was sent, or after a fault
EdgeHolds_sent : {parts new : ℕ → MadePart} {at : ℕ} {bag : BagOf} → OneMore parts new at (Made bag) → (polled : Bool) (edge : Edge)
    → EdgeHolds (parts edge.from) polled edge.parts edge.received
    → EdgeHolds (new (sends at bag edge).from) polled (sends at bag edge).parts (sends at bag edge).received
EdgeHolds_sent {parts} {new} {at} {bag} more polled edge is =
    let P : Edge → Type 0 = λ e. EdgeHolds (new e.from) polled e.parts e.received in
    let Q : MadePart → Type 0 = λ p. EdgeHolds p polled (edge.parts ++ bag ∷ []) edge.received in
    elim (cases_eq edge.from at) [
      | inl e ↦
          let none = EdgeHolds_unmade (parts edge.from) polled edge.parts edge.received (ap parts e ∙ more.unmade) is in
          subst P (sym (sends_along at bag edge e))
          (subst Q (sym (ap new e ∙ more.made)) (inl (none.0, ap (λ items. items ++ bag ∷ []) none.1, none.2)))
      | inr e ↦ subst P (sym (sends_past at bag edge e)) (EdgeHolds_other more polled edge e is)
    ]

EdgeHolds_failed : {parts new : ℕ → MadePart} {at : ℕ} {kind : FaultKind} → OneMore parts new at (AtFault kind) → (polled : Bool) (edge : Edge)
    → EdgeHolds (parts edge.from) polled edge.parts edge.received → EdgeHolds (new edge.from) polled edge.parts edge.received
EdgeHolds_failed {parts} {new} {at} more polled edge is =
    let P : MadePart → Type 0 = λ p. EdgeHolds p polled edge.parts edge.received in
    elim (cases_eq edge.from at) [
      | inl e ↦ subst P (sym (ap new e ∙ more.made)) (EdgeHolds_unmade (parts edge.from) polled edge.parts edge.received (ap parts e ∙ more.unmade) is)
      | inr e ↦ EdgeHolds_other more polled edge e is
    ]

-- ---- all operators after it

After-map : (operators : List Operator) (at : ℕ) (own : Operator) (other : Operator → Operator) → other own ≡ own
    → After operators (map other (slice_set operators at own)) at own other
After-map operators at own other same = record {
  sized = length-map (slice_set operators at own) other ∙ length-set operators at own;
  places = λ k operator is.
      let before = got_map other (slice_set operators at own) k operator is in
      elim (got_set operators at own k before.0 before.1) [
        | inl e ↦ inl (e.0, before.2 ∙ ap other e.1 ∙ same)
        | inr e ↦ inr (before.0, e.0, before.2, e.1)
      ];
}

PathHolds_known : {parts new : ℕ → MadePart} {path : List ℕ} {learned : Bool} → learned ≡ true → PathHolds parts path learned → PathHolds new path learned
PathHolds_known known begun = elim begun [ inl e ↦ absurd cc | inr e ↦ inr e ]

-- ---- a poll that sends its bag

-- no edge leads from the polled operator to itself
sends_own : {parts : ℕ → MadePart} {at : ℕ} {operator : Operator} (bag : BagOf) → IsWaiting parts at operator
    → (input : ℕ) (edge : Edge) → slice_get (map feeds_bag operator.inputs) input ≡ Some edge → sends at bag edge ≡ edge
sends_own {at = at} {operator} bag waiting input edge is =
    let old = got_map feeds_bag operator.inputs input edge is in
    let from : edge.from ≡ old.0.from = ap (λ (e : Edge). e.from) old.2 in
    sends_past at bag edge (λ same. source_apart waiting input old.0 old.1 (sym from ∙ same))

sends_all_own : {parts : ℕ → MadePart} {at : ℕ} {operator : Operator} (bag : BagOf) → IsWaiting parts at operator
    → sends_all at bag (polls outcome.Done operator) ≡ polls outcome.Done operator
sends_all_own {at = at} {operator} bag waiting =
    let same : map (sends at bag) (map feeds_bag operator.inputs) ≡ map feeds_bag operator.inputs =
    map_fixed (sends at bag) (map feeds_bag operator.inputs) (All-from_got _ (map feeds_bag operator.inputs) (sends_own bag waiting)) in
    ap (λ (inputs : List Edge). record (polls outcome.Done operator) { inputs = inputs }) same

sends_all_other : {statement : ThinStep} {from : List ℕ} {parts new : ℕ → MadePart} {at k : ℕ} {bag : BagOf} {operator : Operator} → OneMore parts new at (Made bag)
    → ¬ (k ≡ at) → OperatorHolds statement from parts k operator → OperatorHolds statement from new k (sends_all at bag operator)
sends_all_other {new = new} {at} {k} {bag} {operator} more apart holds =
    let P : Edge → Type 0 = λ e. EdgeHolds (new e.from) operator.polled e.parts e.received in
    let edges : (input : ℕ) (edge : Edge) → slice_get (map (sends at bag) operator.inputs) input ≡ Some edge → P edge =
    λ input edge is.
    let old = got_map (sends at bag) operator.inputs input edge is in
    subst P (sym old.2) (EdgeHolds_sent more operator.polled old.0 (holds.edges input old.0 old.1)) in
    other_holds new (map (sends at bag) operator.inputs) (more.others k apart)
    (map-map_kept (λ edge. edge.from) (sends at bag) operator.inputs (from-sends at bag)) edges holds

sent_holds : {steps : List ThinStep} {parts : ℕ → MadePart} {job : JobState} {at : ℕ} {operator : Operator}
    (statement : ThinStep) (bag : BagOf) → job.learned ≡ true → slice_get job.operators at ≡ Some operator → slice_get steps at ≡ Some statement
    → IsWaiting parts at operator → StagesPart statement (Made bag) operator.staged → JobHolds steps parts job
    → JobHolds steps (parts_with parts at (Made bag)) (with_operators job (map (sends_all at bag) (slice_set job.operators at (polls outcome.Done operator))))
sent_holds {parts = parts} {job} {at} {operator} statement bag known is does waiting stages holds =
    let own : Operator = polls outcome.Done operator in
    let more = one_more parts at (Made bag) waiting.unmade in
    Holds_after statement (parts_with parts at (Made bag)) (PathHolds_known known holds.begun) is does
    (After-map job.operators at own (sends_all at bag) (sends_all_own bag waiting)) holds
    (λ from before. polled_holds statement from outcome.Done operator.staged more waiting before.wired (refl, inl (refl, refl)) stages)
    (λ k other again from apart leads before. sends_all_other more apart before)

-- ---- a poll that is at fault

StagesPart_failed : (statement : ThinStep) (kind : FaultKind) (staged : Option BagOf) → StagesPart statement (AtFault kind) staged
StagesPart_failed (step.Read target name count) kind staged = tt
StagesPart_failed (step.Union target left right) kind staged = tt
StagesPart_failed (step.Write source name) kind staged = tt

failed_other : {statement : ThinStep} {from : List ℕ} {parts new : ℕ → MadePart} {at k : ℕ} {kind : FaultKind} {operator : Operator} → OneMore parts new at (AtFault kind)
    → ¬ (k ≡ at) → OperatorHolds statement from parts k operator → OperatorHolds statement from new k operator
failed_other {new = new} {k = k} {operator = operator} more apart holds =
    other_holds new operator.inputs (more.others k apart) refl
    (λ input edge is. EdgeHolds_failed more operator.polled edge (holds.edges input edge is)) holds

failed_holds : {steps : List ThinStep} {parts : ℕ → MadePart} {job : JobState} {at : ℕ} {operator : Operator}
    (statement : ThinStep) (kind : FaultKind) → job.learned ≡ true → slice_get job.operators at ≡ Some operator → slice_get steps at ≡ Some statement
    → IsWaiting parts at operator → JobHolds steps parts job
    → JobHolds steps (parts_with parts at (AtFault kind)) (with_operators job (slice_set job.operators at (polls (outcome.Fault kind) operator)))
failed_holds {parts = parts} {job} {at} {operator} statement kind known is does waiting holds =
    let more = one_more parts at (AtFault kind) waiting.unmade in
    let stages = StagesPart_failed statement kind operator.staged in
    Holds_after statement (parts_with parts at (AtFault kind)) (PathHolds_known known holds.begun) is does (After-set job.operators at (polls (outcome.Fault kind) operator)) holds
    (λ from before. polled_holds statement from (outcome.Fault kind) operator.staged more waiting before.wired (refl, inl (refl, refl)) stages)
    (λ k other again from apart leads before. failed_other more apart before)

-- ---- the poll of a write: it sends nothing, and no edge leads from it

-- the sources of other operators: only those that assign are sources
leads_past_write : (steps : List ThinStep) (at source : ℕ) (name : List ℕ) → IsFormedThin steps → slice_get steps at ≡ Some (step.Write source name)
    → (k : ℕ) (from : List ℕ) → slice_get (sources steps) k ≡ Some from → (inputs : List Edge) → sources_in inputs ≡ from
    → (input : ℕ) (edge : Edge) → slice_get inputs input ≡ Some edge → ¬ (edge.from ≡ at)
leads_past_write steps at source name formed does k from leads inputs wired =
    let own : (j n : ℕ) (statement : ThinStep) → n ≡ 0 + j → slice_get steps j ≡ Some statement → Assigns statement → ¬ (n ≡ at) =
    λ j n statement is does' assigns same.
    let here : j ≡ at = omega arith in
    let write : statement ≡ step.Write source name = cc in
    subst Assigns write assigns in
    edge_source (λ n. ¬ (n ≡ at)) inputs from wired
    (sources_all (λ k n. ¬ (n ≡ at)) [] 0 steps (formed_first steps formed) (λ k n apart. apart) own (All-nil (λ n. ¬ (n ≡ at))) k k from (omega arith) leads)

staged_other : {statement : ThinStep} {from : List ℕ} {parts new : ℕ → MadePart} {at k : ℕ} {part : MadePart} {operator : Operator} → OneMore parts new at part
    → ¬ (k ≡ at) → ((input : ℕ) (edge : Edge) → slice_get operator.inputs input ≡ Some edge → ¬ (edge.from ≡ at))
    → OperatorHolds statement from parts k operator → OperatorHolds statement from new k operator
staged_other {new = new} {k = k} {operator = operator} more apart past holds =
    other_holds new operator.inputs (more.others k apart) refl
    (λ input edge is. EdgeHolds_other more operator.polled edge (past input edge is) (holds.edges input edge is)) holds

staged_holds : {steps : List ThinStep} {parts : ℕ → MadePart} {job : JobState} {at : ℕ} {operator : Operator}
    (source : ℕ) (name : List ℕ) (bag : BagOf) → IsFormedThin steps → job.learned ≡ true → slice_get job.operators at ≡ Some operator → slice_get steps at ≡ Some (step.Write source name)
    → IsWaiting parts at operator → JobHolds steps parts job
    → JobHolds steps (parts_with parts at (Made bag)) (with_operators job (slice_set job.operators at (record (polls outcome.Done operator) { staged = Some bag })))
staged_holds {steps} {parts} {job} {at} {operator} source name bag formed known is does waiting holds =
    let write : ThinStep = step.Write source name in
    let more = one_more parts at (Made bag) waiting.unmade in
    let past = leads_past_write steps at source name formed does in
    Holds_after write (parts_with parts at (Made bag)) (PathHolds_known known holds.begun) is does (After-set job.operators at (record (polls outcome.Done operator) { staged = Some bag })) holds
    (λ from before. polled_holds write from outcome.Done (Some bag) more waiting before.wired (refl, inl (refl, refl)) refl)
    (λ k other again from apart leads' before. staged_other more apart (past k from leads' other.inputs before.wired) before)

-- ---- any poll

poll_holds : {steps : List ThinStep} {parts : ℕ → MadePart} {job : JobState} {at : ℕ} {operator : Operator}
    (statement : ThinStep) (made : Result BagOf FaultKind) → IsFormedThin steps → job.learned ≡ true → slice_get job.operators at ≡ Some operator
    → slice_get steps at ≡ Some statement → IsWaiting parts at operator → JobHolds steps parts job
    → JobHolds steps (parts_with parts at (part_of made)) (with_operators job (after_poll statement at operator made job.operators))
unfolding after_poll passed_on
poll_holds statement (Err kind) formed known is does waiting holds = failed_holds statement kind known is does waiting holds
poll_holds (step.Read target name count) (Ok bag) formed known is does waiting holds = sent_holds (step.Read target name count) bag known is does waiting tt holds
poll_holds (step.Union target left right) (Ok bag) formed known is does waiting holds = sent_holds (step.Union target left right) bag known is does waiting tt holds
poll_holds {steps} {parts} {job} {at} {operator} (step.Write source name) (Ok bag) formed known is does waiting holds =
    let done : Operator = polls outcome.Done operator in
    let P : List Operator → Type 0 = λ os. JobHolds steps (parts_with parts at (Made bag)) (with_operators job os) in
    subst P (sym (set-set job.operators at done (record done { staged = Some bag }))) (staged_holds source name bag formed known is does waiting holds)

left_of-fed_of : (received : Received) → left_of (fed_of received) ≡ left_of received
left_of-fed_of Awaited = refl
left_of-fed_of (Here bag) = refl
left_of-fed_of Fed = refl

edge_left-sends : (at : ℕ) (bag : BagOf) (edge : Edge) → edge_left (sends at bag edge) ≡ edge_left edge
edge_left-sends at bag edge =
    cond_both (edge.from == at) (record edge { parts = edge.parts ++ bag ∷ [] }) edge (λ e. edge_left e ≡ edge_left edge) (λ _. refl) (λ _. refl)

operator_left-sends_all : (at : ℕ) (bag : BagOf) (operator : Operator) → operator_left (sends_all at bag operator) ≡ operator_left operator
operator_left-sends_all at bag operator = omega (arith, sum_by-map_kept edge_left (sends at bag) operator.inputs (edge_left-sends at bag))

operator_left-polls : (outcome : Outcome) (operator : Operator) → operator.polled ≡ false → operator_left (polls outcome operator) + 1 ≡ operator_left operator
operator_left-polls outcome operator unpolled =
    let same = sum_by-map_kept edge_left feeds_bag operator.inputs (λ edge. left_of-fed_of edge.received) in
    omega (arith, ap (λ (b : Bool). if◌then◌else◌ {A = ℕ} b 0 1) unpolled)

sent_left : (job : JobState) (at : ℕ) (operator : Operator) (bag : BagOf) → slice_get job.operators at ≡ Some operator → operator.polled ≡ false
    → actions_left (with_operators job (map (sends_all at bag) (slice_set job.operators at (polls outcome.Done operator)))) + 1 ≡ actions_left job
sent_left job at operator bag is unpolled =
    let done : Operator = polls outcome.Done operator in
    omega (
      arith,
      sum_by-map_kept operator_left (sends_all at bag) (slice_set job.operators at done) (operator_left-sends_all at bag),
      left-set job at operator done is (operator_left-polls outcome.Done operator unpolled),
    )

poll_left : (job : JobState) (at : ℕ) (operator : Operator) (statement : ThinStep) (made : Result BagOf FaultKind) → slice_get job.operators at ≡ Some operator
    → operator.polled ≡ false → actions_left (with_operators job (after_poll statement at operator made job.operators)) + 1 ≡ actions_left job
unfolding after_poll passed_on
poll_left job at operator statement (Err kind) is unpolled =
    left-set job at operator (polls (outcome.Fault kind) operator) is (operator_left-polls (outcome.Fault kind) operator unpolled)
poll_left job at operator (step.Read target name count) (Ok bag) is unpolled = sent_left job at operator bag is unpolled
poll_left job at operator (step.Union target left right) (Ok bag) is unpolled = sent_left job at operator bag is unpolled
poll_left job at operator (step.Write source name) (Ok bag) is unpolled =
    let done : Operator = polls outcome.Done operator in
    let own : Operator = record done { staged = Some bag } in
    ap (λ os. actions_left (with_operators job os) + 1) (set-set job.operators at done own)
    ∙ left-set job at operator own is (operator_left-polls outcome.Done operator unpolled)

-- an operator that can be polled is polled over a shelf that may have grown, and makes what its statement does over all files that agree then
pub poll_goes : {steps : List ThinStep} {shelf : Kept} {job : JobState} {at : ℕ} (shelf' : Kept) (statement : ThinStep) (made : Result BagOf FaultKind)
    → IsFormedThin steps → job.learned ≡ true → slice_get steps at ≡ Some statement → (can : OperatorCan job at (λ operator. is_pollable operator ≡ true))
    → JobStands steps shelf job
    → ((files : FileMap) → Agrees shelf' files → Agrees shelf files)
    → ((files : FileMap) → Agrees shelf' files → due_bag files statement (bags_here can.operator.inputs) ≡ made)
    → Goes steps shelf' job (with_operators job (after_poll statement at can.operator made job.operators))
poll_goes {job = job} {at} shelf' statement made formed known does can stands grows makes =
    let waiting = waits can.can (held_at stands.holds at can.operator can.there).held in
    record {
      stands = record {
        parts = parts_with stands.parts at (part_of made);
        holds = poll_holds statement made formed known can.there does waiting stands.holds;
        means = λ files agrees. poll_means files statement made can.there does waiting stands.holds (makes files agrees) (stands.means files (grows files agrees));
      };
      counted = poll_left job at can.operator statement made can.there waiting.unpolled;
    }

-- ---- what a poll needs

ready_first : (columns : List ℕ) (statement : ThinStep) (steps : List ThinStep) (bags : List BagOf) → FormedFrom columns (statement ∷ steps)
    → length bags ≡ edges_of statement → IsPollReady statement bags
unfolding FormedFrom
ready_first columns (step.Read target name count) steps bags formed sized = (formed.0, formed.2)
ready_first columns (step.Union target left right) steps bags formed sized = tt
ready_first columns (step.Write source name) steps bags formed sized = omega arith

ready_at : (assigned : List ℕ) (at : ℕ) (steps : List ThinStep) (k : ℕ) (statement : ThinStep) (bags : List BagOf) → FormedAfter assigned steps
    → slice_get steps k ≡ Some statement → length bags ≡ edges_of statement → IsPollReady statement bags
ready_at assigned at [] k statement bags formed does sized = cc
ready_at assigned at (first ∷ steps) zero statement bags formed does sized =
    let same : first ≡ statement = cc in
    let P : ThinStep → Type 0 = λ s. IsPollReady s bags in
    subst P same (ready_first formed.columns first steps bags formed.formed (sized ∙ ap edges_of (sym same)))
ready_at assigned at (first ∷ steps) (suc k) statement bags formed does sized =
    ready_at (assigned_after assigned at first) (at + 1) steps k statement bags (formed_next assigned at first steps formed).later does sized

pub ready : {steps : List ThinStep} {shelf : Kept} {job : JobState} {at : ℕ} (statement : ThinStep) → IsFormedThin steps → slice_get steps at ≡ Some statement
    → (can : OperatorCan job at (λ operator. is_pollable operator ≡ true)) → JobStands steps shelf job → IsPollReady statement (bags_here can.operator.inputs)
ready {steps} {at = at} statement formed does can stands =
    let inputs : List Edge = can.operator.inputs in
    let leads = sources_at steps at statement does in
    let holds = stands.holds.each at can.operator statement leads.0 can.there does leads.1 in
    let bags = bags_made_here stands.parts inputs (waits can.can holds).inputs in
    let sized : length (bags_here inputs) ≡ edges_of statement =
    length-bags_made stands.parts (sources_in inputs) (bags_here inputs) bags ∙ ap length holds.wired
    ∙ length-sources_at [] 0 steps at statement leads.0 does leads.1 in
    ready_at [] 0 steps at statement (bags_here inputs) (formed_first steps formed) does sized
