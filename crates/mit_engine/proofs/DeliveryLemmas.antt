-- The job as it starts, and the deliveries of messages: each keeps what the job stands for, and takes one from the actions that are left.
use Rattle.std.proofs.Common.{◌≡◌, ◌∙◌, ◌+◌, ◌<◌, ℕ, List, [], ◌∷◌, Option, Some, None, Bool, true, false, length, drop, ap, sym, subst, refl, inl, inr, arith}
use Rattle.std.specs.Prelude.{slice_get, slice_set}
use Rattle.std.proofs.Math.Seq.{map-set_same}
use Rattle.std.proofs.lemmas.List.{length-map, map-id}
use Rattle.std.proofs.lemmas.Simd.{map-map}
use Rattle.std.proofs.lemmas.Option.{get_or_from_slice_get}
use Rattle.mit_rows.specs.Bags.{BagOf}
use Rattle.mit_shelf.specs.Shelf.{Kept}
use Rattle.mit_engine.specs.Operators.{JobState, edge_left, first_edge, first_job, first_operator, heard_of, hears, left_of, operator_left, received_of, sources, takes_part, unheard, with_operators}
use Rattle.mit_engine.specs.Running.{AtFault, EdgeHolds, Goes, HasPart, JobHolds, JobStands, Made, MadePart, OperatorCan, OperatorHolds, PathHolds, ReportsPart, StagesPart, Unmade}
use Rattle.mit_engine.specs.declared.edges.Edge.{Edge}
use Rattle.mit_engine.specs.declared.edges.Received.{Received}
use Rattle.mit_engine.specs.declared.edges.Received.TheVariants.{Awaited, Here}
use Rattle.mit_engine.specs.declared.operators.Operator.{Operator}
use Rattle.mit_engine.specs.declared.operators.Outcome.{Outcome}
use Rattle.mit_engine.specs.declared.thin.ThinStep.{ThinStep}
use Rattle.mit_engine.specs.declared.thin.ThinStep.TheVariants as step
use Rattle.mit_engine.proofs.HeldLemmas.{After-set, Holds_after, held_at, left-set}
use Rattle.mit_engine.proofs.Places.{got_map, got_set, sum_by-set_less}
use Rattle.mit_engine.proofs.SourceLemmas.{length-sources_from}

-- ---- the start

StagesPart_unmade : (statement : ThinStep) (staged : Option BagOf) → StagesPart statement Unmade staged
StagesPart_unmade (step.Read target name count) staged = tt
StagesPart_unmade (step.Union target left right) staged = tt
StagesPart_unmade (step.Write source name) staged = tt

first_holds : (statement : ThinStep) (from : List ℕ) (at : ℕ) → OperatorHolds statement from (λ _. Unmade) at (first_operator from)
first_holds statement from at = record {
  wired = map-map (λ (edge : Edge). edge.from) first_edge from ∙ map-id from;
  reports = (refl, refl, refl);
  edges = λ input edge is.
      let first = got_map first_edge from input edge is in
      let P : Edge → Type 0 = λ e. EdgeHolds Unmade false e.parts e.received in
      subst P (sym first.2) (refl, refl, refl);
  staged = StagesPart_unmade statement None;
}

starts_with : (steps : List ThinStep) (shelf : Kept) → JobStands steps shelf (first_job steps)
starts_with steps shelf = record {
  parts = λ _. Unmade;
  holds = record {
    sized = length-map (sources steps) first_operator ∙ length-sources_from [] 0 steps;
    begun = inl (refl, refl, λ _. refl);
    each = λ k operator statement from is does leads.
        let first = got_map first_operator (sources steps) k operator is in
        let same : first.0 ≡ from = cc in
        let P : Operator → Type 0 = λ o. OperatorHolds statement from (λ _. Unmade) k o in
        subst P (ap first_operator (sym same) ∙ sym first.2) (first_holds statement from k);
  };
  means = λ files agrees k statement from does leads. tt;
}

pub starts : (steps : List ThinStep) (shelf : Kept) (job : JobState) → job ≡ first_job steps → JobStands steps shelf job
starts steps shelf job is = let P : JobState → Type 0 = JobStands steps shelf in subst P (sym is) (starts_with steps shelf)

-- ---- the path is learned

PathHolds_learned : (parts : ℕ → MadePart) (path : List ℕ) (learned : Bool) → PathHolds parts path learned → 0 < length path
    → (drop 1 path ≡ []) × (length path ≡ 1)
PathHolds_learned parts path learned begun some = elim begun [
  | inl e ↦ (ap (drop 1) e.1, ap length e.1)
  | inr e ↦ absurd (omega (arith, ap length e.1))
]

pub learn_goes : {steps : List ThinStep} {shelf : Kept} {job : JobState} → JobStands steps shelf job → 0 < length job.path
    → Goes steps shelf job (record { path = drop 1 job.path; learned = true; operators = job.operators })
learn_goes {job = job} stands some =
    let none = PathHolds_learned stands.parts job.path job.learned stands.holds.begun some in
    record {
      stands = record {
        parts = stands.parts;
        holds = record { sized = stands.holds.sized; begun = inr (refl, none.0); each = stands.holds.each };
        means = stands.means;
      };
      counted = omega (arith, ap length none.0, none.1);
    }

-- ---- one operator is delivered a message

-- it still holds what the parts say
Holds-set : {steps : List ThinStep} {parts : ℕ → MadePart} {job : JobState} (at : ℕ) (operator operator' : Operator)
    → slice_get job.operators at ≡ Some operator
    → ((statement : ThinStep) (from : List ℕ) → OperatorHolds statement from parts at operator → OperatorHolds statement from parts at operator')
    → JobHolds steps parts job → JobHolds steps parts (with_operators job (slice_set job.operators at operator'))
Holds-set {parts = parts} {job} at operator operator' is keeps holds =
    let here = held_at holds at operator is in
    Holds_after here.statement parts holds.begun is here.stated (After-set job.operators at operator') holds (keeps here.statement)
    (λ k other again from apart leads before. before)

-- where it holds it, and one action fewer is left of it
delivered : {steps : List ThinStep} {shelf : Kept} {job : JobState} (at : ℕ) (operator operator' : Operator) → slice_get job.operators at ≡ Some operator
    → (stands : JobStands steps shelf job)
    → ((statement : ThinStep) (from : List ℕ) → OperatorHolds statement from stands.parts at operator → OperatorHolds statement from stands.parts at operator')
    → operator_left operator' + 1 ≡ operator_left operator → Goes steps shelf job (with_operators job (slice_set job.operators at operator'))
delivered {job = job} at operator operator' is stands keeps less = record {
  stands = record { parts = stands.parts; holds = Holds-set at operator operator' is keeps stands.holds; means = stands.means };
  counted = left-set job at operator operator' is less;
}

-- ---- a report is heard

ReportsPart_heard : (part : MadePart) (polled : Bool) (outcome : Outcome) (later : List Outcome) (heard : Option Outcome)
    → ReportsPart part polled (outcome ∷ later) heard → ReportsPart part polled later (Some outcome) × (heard ≡ None)
ReportsPart_heard Unmade polled outcome later heard is = absurd cc
ReportsPart_heard (Made bag) polled outcome later heard is = elim is.1 [ inl e ↦ ((is.0, inr (cc, cc)), e.1) | inr e ↦ absurd cc ]
ReportsPart_heard (AtFault kind) polled outcome later heard is = elim is.1 [ inl e ↦ ((is.0, inr (cc, cc)), e.1) | inr e ↦ absurd cc ]

heard_holds : {statement : ThinStep} {from : List ℕ} {parts : ℕ → MadePart} {at : ℕ} {operator : Operator} (reports : List Outcome) → operator.reports ≡ reports
    → 0 < length reports → OperatorHolds statement from parts at operator → OperatorHolds statement from parts at (heard_of operator reports)
heard_holds [] are some holds = absurd (omega arith)
heard_holds {parts = parts} {at} {operator} (outcome ∷ later) are some holds =
    let P : List Outcome → Type 0 = λ reports. ReportsPart (parts at) operator.polled reports operator.heard in
    record {
      wired = holds.wired;
      reports = (ReportsPart_heard (parts at) operator.polled outcome later operator.heard (subst P are holds.reports)).0;
      edges = holds.edges;
      staged = holds.staged;
    }

heard_left : (part : MadePart) (operator : Operator) (reports : List Outcome) → operator.reports ≡ reports → 0 < length reports
    → ReportsPart part operator.polled operator.reports operator.heard → operator_left (heard_of operator reports) + 1 ≡ operator_left operator
heard_left part operator [] are some is = absurd (omega arith)
heard_left part operator (outcome ∷ later) are some is =
    let P : List Outcome → Type 0 = λ reports. ReportsPart part operator.polled reports operator.heard in
    omega (arith, ap unheard (ReportsPart_heard part operator.polled outcome later operator.heard (subst P are is)).1)

pub hear_goes : {steps : List ThinStep} {shelf : Kept} {job : JobState} {at : ℕ} → (can : OperatorCan job at (λ operator. 0 < length operator.reports))
    → JobStands steps shelf job → Goes steps shelf job (with_operators job (slice_set job.operators at (hears can.operator)))
hear_goes {at = at} can stands =
    let operator = can.operator in
    let before = (held_at stands.holds at operator can.there).held in
    delivered at operator (hears operator) can.there stands (λ statement from holds. heard_holds operator.reports refl can.can holds)
    (heard_left (stands.parts at) operator operator.reports refl can.can before.reports)

-- ---- a part is taken

EdgeHolds_taken : (part : MadePart) (polled : Bool) (bag : BagOf) (later : List BagOf) (received : Received)
    → EdgeHolds part polled (bag ∷ later) received → EdgeHolds part polled later (Here bag) × (received ≡ Awaited)
EdgeHolds_taken Unmade polled bag later received is = absurd cc
EdgeHolds_taken (AtFault kind) polled bag later received is = absurd cc
EdgeHolds_taken (Made made) polled bag later received is = elim is [
  | inl e ↦ (inr (inl (e.0, cc, cc)), e.2)
  | inr e ↦ absurd (elim e [ inl f ↦ cc | inr f ↦ cc ])
]

-- what is left of an edge after its part was taken
abbrev IsTaken : MadePart → Bool → Edge → Edge → Type 0
IsTaken part polled edge edge' = (edge'.from ≡ edge.from) × EdgeHolds part polled edge'.parts edge'.received × (edge_left edge' + 1 ≡ edge_left edge)

edge_taken : (part : MadePart) (polled : Bool) (edge : Edge) (parts : List BagOf) → edge.parts ≡ parts → 0 < length parts
    → EdgeHolds part polled edge.parts edge.received → IsTaken part polled edge (received_of edge parts)
edge_taken part polled edge [] are some is = absurd (omega arith)
edge_taken part polled edge (bag ∷ later) are some is =
    let P : List BagOf → Type 0 = λ parts. EdgeHolds part polled parts edge.received in
    let after = EdgeHolds_taken part polled bag later edge.received (subst P are is) in
    (refl, after.0, omega (arith, ap left_of after.1))

-- an edge of an operator changes, and still holds what the parts say
taken_holds : {statement : ThinStep} {from : List ℕ} {parts : ℕ → MadePart} {at : ℕ} {operator : Operator} (input : ℕ) (edge edge' : Edge)
    → slice_get operator.inputs input ≡ Some edge → IsTaken (parts edge.from) operator.polled edge edge'
    → OperatorHolds statement from parts at operator → OperatorHolds statement from parts at (record operator { inputs = slice_set operator.inputs input edge' })
taken_holds {parts = parts} {operator = operator} input edge edge' there taken holds = record {
  wired = map-set_same (λ (e : Edge). e.from) operator.inputs input edge' edge (taken.0 ∙ ap (λ (e : Edge). e.from) (sym (get_or_from_slice_get operator.inputs input edge edge there))) ∙ holds.wired;
  reports = holds.reports;
  edges = λ k other is. elim (got_set operator.inputs input edge' k other is) [
    | inl e ↦
        let P : Edge → Type 0 = λ e. EdgeHolds (parts e.from) operator.polled e.parts e.received in
        let Q : ℕ → Type 0 = λ source. EdgeHolds (parts source) operator.polled edge'.parts edge'.received in
        subst P (sym e.1) (subst Q (sym taken.0) taken.1)
    | inr e ↦ holds.edges k other e.0
  ];
  staged = holds.staged;
}

-- an operator with the message of one of its edges received
abbrev pub takes_at : ℕ → Operator → Edge → Operator
takes_at input operator edge = record operator { inputs = slice_set operator.inputs input (takes_part edge) }

pub take_goes : {steps : List ThinStep} {shelf : Kept} {job : JobState} {at input : ℕ} → (can : OperatorCan job at (HasPart input))
    → JobStands steps shelf job → Goes steps shelf job (with_operators job (slice_set job.operators at (takes_at input can.operator can.can.edge)))
take_goes {at = at} {input} can stands =
    let operator = can.operator in
    let edge = can.can.edge in
    let there = can.can.there in
    let before = (held_at stands.holds at operator can.there).held in
    let taken = edge_taken (stands.parts edge.from) operator.polled edge edge.parts refl can.can.some (before.edges input edge there) in
    delivered at operator (takes_at input operator edge) can.there stands (λ statement from holds. taken_holds input edge (takes_part edge) there taken holds)
    (omega (arith, sum_by-set_less edge_left operator.inputs input edge (takes_part edge) there taken.2))
