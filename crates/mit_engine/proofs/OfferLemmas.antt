-- The offer: what stands on it can be done, and while the job runs something can be done.
use Rattle.std.proofs.Common.{◌≡◌, ◌∙◌, ◌<◌, ◌+◌, ℕ, List, [], ◌∷◌, ◌++◌, length, inl, inr, ap, sym, subst, refl, arith}
use Rattle.std.specs.Prelude.{◌⊎◌, suc, zero, Bool, true, false, if◌then◌else◌, Option, Some, None, slice_get}
use Rattle.std.specs.List.{All, list_all}
use Rattle.std.proofs.lemmas.List.Elements.{All-append, All-cons, All-nil}
use Rattle.std.proofs.lemmas.Option.{same_Some, slice_get_within}
use Rattle.mit_rows.specs.Bags.{BagOf}
use Rattle.mit_shelf.specs.Shelf.{Kept}
use Rattle.mit_engine.specs.Operators.{JobState, is_here, is_pollable}
use Rattle.mit_engine.specs.Running.{AtFault, EdgeHolds, IsEnabled, JobHolds, JobStands, Made, MadePart, PathHolds, ReportsOutcome, ReportsPart, Unmade, edge_parts_from, offer_of, parts_from, polls_from, reports_from, verdict_of, where_any}
use Rattle.mit_engine.specs.Thin.{IsFormedThin}
use Rattle.mit_engine.specs.declared.edges.Edge.{Edge}
use Rattle.mit_engine.specs.declared.edges.Received.{Received}
use Rattle.mit_engine.specs.declared.edges.Received.TheVariants.{Here}
use Rattle.mit_engine.specs.declared.operators.Operator.{Operator}
use Rattle.mit_engine.specs.declared.operators.Outcome.{Outcome}
use Rattle.mit_engine.specs.declared.operators.Outcome.TheVariants as outcome
use Rattle.mit_engine.specs.declared.job.Action.{Action}
use Rattle.mit_engine.specs.declared.job.Action.TheVariants as action
use Rattle.mit_engine.specs.declared.job.Verdict.TheVariants as verdict
use Rattle.mit_engine.specs.declared.thin.ThinStep.{ThinStep}
use Rattle.mit_engine.proofs.FormedLemmas.{formed_first}
use Rattle.mit_engine.proofs.HeldLemmas.{HeldAt, edge_source, held_at}
use Rattle.mit_engine.proofs.Places.{All-got, got_within, longer_left, longer_right}
use Rattle.mit_engine.proofs.SourceLemmas.{sources_all}
use Rattle.mit_engine.proofs.VerdictLemmas.{FirstUnheard, bag_of, done_made, first_unheard}

-- ---- what stands on the offer can be done

-- each action of a part of the offer, where what puts it there is enough
all_where : {A : Type 0} (P : Action → Type 0) (messages : List A) (only : Action) → (0 < length messages → P only) → All P (where_any messages only)
all_where P [] only f = All-nil P
all_where P (message ∷ later) only f = All-cons P only [] (f (omega arith)) (All-nil P)

all_if : (P : Action → Type 0) (test : Bool) (actions : List Action) → (test ≡ true → All P actions) → All P (if test then actions else [])
all_if P true actions f = f refl
all_if P false actions f = All-nil P

all_reports : (P : Action → Type 0) (at : ℕ) (operators : List Operator)
    → ((j n : ℕ) (operator : Operator) → n ≡ at + j → slice_get operators j ≡ Some operator → 0 < length operator.reports → P (action.Hear n))
    → All P (reports_from at operators)
unfolding reports_from
all_reports P at [] f = All-nil P
all_reports P at (first ∷ operators) f =
    All-append P (where_any first.reports (action.Hear at)) (reports_from (at + 1) operators)
    (all_where P first.reports (action.Hear at) (λ some. f 0 at first (omega arith) refl some))
    (all_reports P (at + 1) operators (λ j n operator is there some. f (suc j) n operator (omega arith) there some))

all_edges : (P : Action → Type 0) (at input : ℕ) (edges : List Edge)
    → ((j n : ℕ) (edge : Edge) → n ≡ input + j → slice_get edges j ≡ Some edge → 0 < length edge.parts → P (action.Take at n))
    → All P (edge_parts_from at input edges)
unfolding edge_parts_from
all_edges P at input [] f = All-nil P
all_edges P at input (first ∷ edges) f =
    All-append P (where_any first.parts (action.Take at input)) (edge_parts_from at (input + 1) edges)
    (all_where P first.parts (action.Take at input) (λ some. f 0 input first (omega arith) refl some))
    (all_edges P at (input + 1) edges (λ j n edge is there some. f (suc j) n edge (omega arith) there some))

-- a place that is counted from 0
from_none : {A : Type 0} (xs : List A) (j n : ℕ) (x : A) → n ≡ 0 + j → slice_get xs j ≡ Some x → slice_get xs n ≡ Some x
from_none xs j n x e there = let same : n ≡ j = omega arith in ap (slice_get xs) same ∙ there

all_parts : (P : Action → Type 0) (at : ℕ) (operators : List Operator)
    → ((j n input : ℕ) (operator : Operator) (edge : Edge) → n ≡ at + j → slice_get operators j ≡ Some operator
    → slice_get operator.inputs input ≡ Some edge → 0 < length edge.parts → P (action.Take n input))
    → All P (parts_from at operators)
unfolding parts_from
all_parts P at [] f = All-nil P
all_parts P at (first ∷ operators) f =
    All-append P (edge_parts_from at 0 first.inputs) (parts_from (at + 1) operators)
    (all_edges P at 0 first.inputs (λ j n edge is there some. f 0 at n first edge (omega arith) refl (from_none first.inputs j n edge is there) some))
    (all_parts P (at + 1) operators (λ j n input operator edge is there below some. f (suc j) n input operator edge (omega arith) there below some))

all_polls : (P : Action → Type 0) (at : ℕ) (operators : List Operator)
    → ((j n : ℕ) (operator : Operator) → n ≡ at + j → slice_get operators j ≡ Some operator → is_pollable operator ≡ true → P (action.Poll n))
    → All P (polls_from at operators)
unfolding polls_from
all_polls P at [] f = All-nil P
all_polls P at (first ∷ operators) f =
    All-append P (if is_pollable first then action.Poll at ∷ [] else []) (polls_from (at + 1) operators)
    (all_if P (is_pollable first) (action.Poll at ∷ []) (λ can. All-cons P (action.Poll at) [] (f 0 at first (omega arith) refl can) (All-nil P)))
    (all_polls P (at + 1) operators (λ j n operator is there can. f (suc j) n operator (omega arith) there can))

pub offered_enabled : (job : JobState) (k : ℕ) (action : Action) → slice_get (offer_of job) k ≡ Some action → IsEnabled job action
offered_enabled job k chosen is =
    let P : Action → Type 0 = IsEnabled job in
    let operators : List Operator = job.operators in
    let heads : List Action = where_any job.path action.Learn ++ reports_from 0 operators in
    let reports : All P (reports_from 0 operators) =
    all_reports P 0 operators (λ j n operator is there some. record { operator = operator; there = from_none operators j n operator is there; can = some }) in
    let parts : All P (parts_from 0 operators) =
    all_parts P 0 operators (λ j n input operator edge is there below some. record {
      operator = operator;
      there = from_none operators j n operator is there;
      can = record { edge = edge; there = below; some = some };
    }) in
    let polls : All P (if job.learned then polls_from 0 operators else []) =
    all_if P job.learned (polls_from 0 operators) (λ known. all_polls P 0 operators (λ j n operator is there can.
    (known, record { operator = operator; there = from_none operators j n operator is there; can = can }))) in
    let all : All P (offer_of job) =
    All-append P (heads ++ parts_from 0 operators) (if job.learned then polls_from 0 operators else [])
    (All-append P heads (parts_from 0 operators)
    (All-append P (where_any job.path action.Learn) (reports_from 0 operators) (all_where P job.path action.Learn (λ some. some)) reports) parts) polls in
    All-got P (offer_of job) k chosen all is

-- ---- what can be done stands on the offer

some_where : {A : Type 0} (messages : List A) (only : Action) → 0 < length messages → 0 < length (where_any messages only)
some_where [] only h = absurd (omega arith)
some_where (message ∷ later) only h = omega arith

some_report : (at j : ℕ) (operators : List Operator) (operator : Operator) → slice_get operators j ≡ Some operator → 0 < length operator.reports
    → 0 < length (reports_from at operators)
unfolding reports_from
some_report at j [] operator there some = cc
some_report at zero (first ∷ operators) operator there some =
    longer_left (where_any first.reports (action.Hear at)) (reports_from (at + 1) operators)
    (some_where first.reports (action.Hear at) (subst (λ (o : Operator). 0 < length o.reports) (sym (same_Some first operator there)) some))
some_report at (suc j) (first ∷ operators) operator there some =
    longer_right (where_any first.reports (action.Hear at)) (reports_from (at + 1) operators) (some_report (at + 1) j operators operator there some)

some_edge : (at input j : ℕ) (edges : List Edge) (edge : Edge) → slice_get edges j ≡ Some edge → 0 < length edge.parts
    → 0 < length (edge_parts_from at input edges)
unfolding edge_parts_from
some_edge at input j [] edge there some = cc
some_edge at input zero (first ∷ edges) edge there some =
    longer_left (where_any first.parts (action.Take at input)) (edge_parts_from at (input + 1) edges)
    (some_where first.parts (action.Take at input) (subst (λ (e : Edge). 0 < length e.parts) (sym (same_Some first edge there)) some))
some_edge at input (suc j) (first ∷ edges) edge there some =
    longer_right (where_any first.parts (action.Take at input)) (edge_parts_from at (input + 1) edges) (some_edge at (input + 1) j edges edge there some)

some_part : (at j input : ℕ) (operators : List Operator) (operator : Operator) (edge : Edge) → slice_get operators j ≡ Some operator
    → slice_get operator.inputs input ≡ Some edge → 0 < length edge.parts → 0 < length (parts_from at operators)
unfolding parts_from
some_part at j input [] operator edge there below some = cc
some_part at zero input (first ∷ operators) operator edge there below some =
    longer_left (edge_parts_from at 0 first.inputs) (parts_from (at + 1) operators)
    (some_edge at 0 input first.inputs edge (subst (λ (o : Operator). slice_get o.inputs input ≡ Some edge) (sym (same_Some first operator there)) below) some)
some_part at (suc j) input (first ∷ operators) operator edge there below some =
    longer_right (edge_parts_from at 0 first.inputs) (parts_from (at + 1) operators) (some_part (at + 1) j input operators operator edge there below some)

some_poll : (at j : ℕ) (operators : List Operator) (operator : Operator) → slice_get operators j ≡ Some operator → is_pollable operator ≡ true
    → 0 < length (polls_from at operators)
unfolding polls_from
some_poll at j [] operator there can = cc
some_poll at zero (first ∷ operators) operator there can =
    longer_left (if is_pollable first then action.Poll at ∷ [] else []) (polls_from (at + 1) operators)
    (one_if (is_pollable first) (ap is_pollable (same_Some first operator there) ∙ can))
  where
    one_if : (test : Bool) → test ≡ true → 0 < length (if test then action.Poll at ∷ [] else [])
    one_if true is = omega arith
    one_if false is = cc
some_poll at (suc j) (first ∷ operators) operator there can =
    longer_right (if is_pollable first then action.Poll at ∷ [] else []) (polls_from (at + 1) operators) (some_poll (at + 1) j operators operator there can)

some_if : (test : Bool) (actions : List Action) → test ≡ true → 0 < length actions → 0 < length (if test then actions else [])
some_if true actions is some = some
some_if false actions is some = cc

-- the last part of the offer
abbrev polls_offered : Bool → List Operator → List Action
polls_offered learned operators = if learned then polls_from 0 operators else []

-- what can be done stands on the offer, so that it is not empty
enabled_offered : (job : JobState) (action : Action) → IsEnabled job action → 0 < length (offer_of job)
enabled_offered job action.Learn some =
    longer_left _ (polls_offered job.learned job.operators) (longer_left _ (parts_from 0 job.operators)
    (longer_left (where_any job.path action.Learn) (reports_from 0 job.operators) (some_where job.path action.Learn some)))
enabled_offered job (action.Hear at) can =
    longer_left _ (polls_offered job.learned job.operators) (longer_left _ (parts_from 0 job.operators)
    (longer_right (where_any job.path action.Learn) (reports_from 0 job.operators) (some_report 0 at job.operators can.operator can.there can.can)))
enabled_offered job (action.Take at input) can =
    longer_left _ (polls_offered job.learned job.operators) (longer_right (where_any job.path action.Learn ++ reports_from 0 job.operators) (parts_from 0 job.operators)
    (some_part 0 at input job.operators can.operator can.can.edge can.there can.can.there can.can.some))
enabled_offered job (action.Poll at) can =
    longer_right (where_any job.path action.Learn ++ reports_from 0 job.operators ++ parts_from 0 job.operators) (polls_offered job.learned job.operators)
    (some_if job.learned (polls_from 0 job.operators) can.0 (some_poll 0 at job.operators can.1.operator can.1.there can.1.can))

-- ---- while the job runs something can be done

-- the operator from which an edge leads stands before its target
edge_below : (steps : List ThinStep) (parts : ℕ → MadePart) (at : ℕ) (operator : Operator) (input : ℕ) (edge : Edge) → IsFormedThin steps
    → HeldAt steps parts at operator → slice_get operator.inputs input ≡ Some edge → edge.from < at
edge_below steps parts at operator input edge formed here there =
    edge_source (λ n. n < at) operator.inputs here.from here.held.wired
    (sources_all (λ k n. n < k) [] 0 steps (formed_first steps formed) (λ k n below. omega arith) (λ j n statement is does assigns. omega arith)
    (All-nil (λ n. n < 0)) at at here.from (omega arith) here.sourced) input edge there

-- an edge of an operator that is not polled, where its source has made a bag: the bag is in its channel, or received
made_arrives : (part : MadePart) (bag : BagOf) (polled : Bool) (parts : List BagOf) (received : Received) → part ≡ Made bag → EdgeHolds part polled parts received
    → polled ≡ false → (0 < length parts) ⊎ ((other : BagOf) × (received ≡ Here other))
made_arrives Unmade bag polled parts received is holds unpolled = cc
made_arrives (AtFault kind) bag polled parts received is holds unpolled = cc
made_arrives (Made other) bag polled parts received is (inl sent) unpolled = inl (rw sent.1 (omega arith))
made_arrives (Made other) bag polled parts received is (inr (inl here)) unpolled = inr (other, here.2)
made_arrives (Made other) bag polled parts received is (inr (inr fed)) unpolled = cc

-- an edge with a message in its channel
record Waits (edges : List Edge) : Type 0 where
  input : ℕ
  edge : Edge
  there : slice_get edges input ≡ Some edge
  some : 0 < length edge.parts

-- an edge has a message, or all bags are received
waits_or_here : (edges : List Edge)
    → ((input : ℕ) (edge : Edge) → slice_get edges input ≡ Some edge → (0 < length edge.parts) ⊎ ((bag : BagOf) × (edge.received ≡ Here bag)))
    → Waits edges ⊎ (list_all is_here edges ≡ true)
waits_or_here [] each = inr refl
waits_or_here (first ∷ edges) each = by_first (each 0 first refl) (waits_or_here edges (λ input edge there. each (suc input) edge there))
  where
    by_first : (0 < length first.parts) ⊎ ((bag : BagOf) × (first.received ≡ Here bag)) → Waits edges ⊎ (list_all is_here edges ≡ true)
        → Waits (first ∷ edges) ⊎ (list_all is_here (first ∷ edges) ≡ true)
    by_first (inl some) rest = inl (record { input = 0; edge = first; there = refl; some = some })
    by_first (inr here) (inl later) = inl (record { input = suc later.input; edge = later.edge; there = later.there; some = later.some })
    by_first (inr here) (inr all) = inr (rw (here.1, all))

-- a report that was not heard is in its channel
report_waits : (outcome : Outcome) (reports : List Outcome) (heard : Option Outcome) → ReportsOutcome outcome reports heard → heard ≡ None → 0 < length reports
report_waits outcome reports heard (inl waits) unheard = rw waits.0 (omega arith)
report_waits outcome reports heard (inr was) unheard = cc

-- an operator that is not heard: its report is in its channel, or it is not polled
report_or_unpolled : (part : MadePart) (polled : Bool) (reports : List Outcome) (heard : Option Outcome) → ReportsPart part polled reports heard → heard ≡ None
    → (0 < length reports) ⊎ (polled ≡ false)
report_or_unpolled Unmade polled reports heard r unheard = inr r.0
report_or_unpolled (Made bag) polled reports heard r unheard = inl (report_waits outcome.Done reports heard r.1 unheard)
report_or_unpolled (AtFault kind) polled reports heard r unheard = inl (report_waits (outcome.Fault kind) reports heard r.1 unheard)

-- what stands before the first operator that is not heard has made its bag
before_made : {steps : List ThinStep} {parts : ℕ → MadePart} {job : JobState} (at : ℕ) → JobHolds steps parts job → (first : FirstUnheard job.operators)
    → at < first.place → parts at ≡ Made (bag_of (parts at))
before_made {parts = parts} {job} at holds first before =
    let other = got_within job.operators at (omega (arith, slice_get_within job.operators first.place first.operator first.there)) in
    let told = (held_at holds at other.0 other.1).held.reports in
    (done_made (parts at) other.0.polled other.0.reports other.0.heard told (first.earlier at other.0 before other.1)).0

-- the first operator that is not heard can do something, where the path is learned
first_can : {steps : List ThinStep} {parts : ℕ → MadePart} {job : JobState} → IsFormedThin steps → job.learned ≡ true
    → JobHolds steps parts job → FirstUnheard job.operators → (action : Action) × IsEnabled job action
first_can {steps} {parts} {job} formed known holds first =
    let here = held_at holds first.place first.operator first.there in
    by_report here (report_or_unpolled (parts first.place) first.operator.polled first.operator.reports first.operator.heard here.held.reports first.unheard)
  where
    by_edges : first.operator.polled ≡ false → Waits first.operator.inputs ⊎ (list_all is_here first.operator.inputs ≡ true)
        → (action : Action) × IsEnabled job action
    by_edges unpolled (inl waits) = (
      action.Take first.place waits.input,
      record {
        operator = first.operator;
        there = first.there;
        can = record { edge = waits.edge; there = waits.there; some = waits.some };
      },
    )
    by_edges unpolled (inr all) = (action.Poll first.place, (known, record { operator = first.operator; there = first.there; can = rw (unpolled, all) }))

    by_report : HeldAt steps parts first.place first.operator → (0 < length first.operator.reports) ⊎ (first.operator.polled ≡ false)
        → (action : Action) × IsEnabled job action
    by_report here (inl some) = (action.Hear first.place, record { operator = first.operator; there = first.there; can = some })
    by_report here (inr unpolled) = by_edges unpolled (waits_or_here first.operator.inputs (λ input edge there.
        let below = edge_below steps parts first.place first.operator input edge formed here there in
        let made = before_made edge.from holds first below in
        made_arrives (parts edge.from) (bag_of (parts edge.from)) first.operator.polled edge.parts edge.received made (here.held.edges input edge there) unpolled))

-- while the job runs something can be done: the path's message, or of the first operator that is not heard its report, one of its parts, or its poll
something_enabled : {steps : List ThinStep} {shelf : Kept} {job : JobState} → IsFormedThin steps → JobStands steps shelf job → verdict_of job ≡ verdict.Running
    → (action : Action) × IsEnabled job action
something_enabled {job = job} formed stands runs = by_path stands.holds.begun
  where
    by_path : PathHolds stands.parts job.path job.learned → (action : Action) × IsEnabled job action
    by_path (inl waits) = (action.Learn, rw waits.1 (omega arith))
    by_path (inr known) = first_can formed known.0 stands.holds (first_unheard 0 job.operators runs)

pub something_offered : {steps : List ThinStep} {shelf : Kept} {job : JobState} → IsFormedThin steps → JobStands steps shelf job → verdict_of job ≡ verdict.Running
    → 0 < length (offer_of job)
something_offered {job = job} formed stands runs = let some = something_enabled formed stands runs in enabled_offered job some.0 some.1
