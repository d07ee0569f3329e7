-- An action on offer, in the words of the job's code: it keeps what the job stands for, and one action less is left.
use Rattle.std.proofs.Common.{◌≡◌, ◌∙◌, ◌<◌, ℕ, List, ap, drop, get_or, length, sym, subst}
use Rattle.std.specs.Prelude.{true, Option, Some, IfSome, Result, slice_get, slice_set}
use Rattle.std.proofs.lemmas.Option.{get_or_from_slice_get}
use Rattle.mit_rows.specs.Bags.{BagOf}
use Rattle.mit_files.specs.Files.{FileMap}
use Rattle.mit_shelf.specs.Shelf.{Agrees, Kept}
use Rattle.mit_ops.specs.declared.faults.FaultKind.{FaultKind}
use Rattle.mit_engine.specs.Operators.{IsPollReady, JobState, after_poll, bags_here, due_bag, hears, is_pollable, takes_part, with_operators}
use Rattle.mit_engine.specs.Running.{Goes, HasPart, IsEnabled, JobStands, OperatorCan}
use Rattle.mit_engine.specs.Thin.{IsFormedThin}
use Rattle.mit_engine.specs.declared.edges.Edge.{Edge}
use Rattle.mit_engine.specs.declared.job.Action.{Action}
use Rattle.mit_engine.specs.declared.job.Action.TheVariants as action
use Rattle.mit_engine.specs.declared.operators.Operator.{Operator}
use Rattle.mit_engine.specs.declared.thin.ThinStep.{ThinStep}
use Rattle.mit_engine.proofs.DeliveryLemmas.{hear_goes, learn_goes, take_goes, takes_at}
use Rattle.mit_engine.proofs.Places.{read_beside}
use Rattle.mit_engine.proofs.PollLemmas.{poll_goes, ready}

-- an enabled action that is this one
enabled_as : (job : JobState) {chosen wanted : Action} → chosen ≡ wanted → IsEnabled job chosen → IsEnabled job wanted
enabled_as job is enabled = let P : Action → Type 0 = IsEnabled job in subst P is enabled

pub learns : {steps : List ThinStep} {shelf : Kept} {job new : JobState} {chosen : Action} → chosen ≡ action.Learn → IsEnabled job chosen
    → new ≡ record { path = drop 1 job.path; learned = true; operators = job.operators } → JobStands steps shelf job → Goes steps shelf job new
learns {steps} {shelf} {job} is enabled learned stands =
    let P : JobState → Type 0 = Goes steps shelf job in subst P (sym learned) (learn_goes stands (enabled_as job is enabled))

-- the operator that code reads at a place is the one there
read_there : (operators : List Operator) (at : ℕ) (old operator : Operator) → old ≡ get_or operators at old → slice_get operators at ≡ Some operator → old ≡ operator
read_there operators at old operator read got = read ∙ get_or_from_slice_get operators at operator old got

pub hears_one : {steps : List ThinStep} {shelf : Kept} {job view : JobState} {chosen : Action} {at : ℕ} {old new : Operator} → view ≡ job → chosen ≡ action.Hear at
    → IsEnabled job chosen → old ≡ get_or view.operators at old → new ≡ hears old → JobStands steps shelf job
    → Goes steps shelf job (with_operators view (slice_set view.operators at new))
hears_one {steps} {shelf} {job} {at = at} {old} {new} seen is enabled read heard stands =
    let can : OperatorCan job at (λ operator. 0 < length operator.reports) = enabled_as job is enabled in
    let P : JobState → Type 0 = λ v. old ≡ get_or v.operators at old → Goes steps shelf job (with_operators v (slice_set v.operators at new)) in
    let Q : Operator → Type 0 = λ o. Goes steps shelf job (with_operators job (slice_set job.operators at o)) in
    subst P (sym seen) (λ reads. subst Q (sym (heard ∙ ap hears (read_there job.operators at old can.operator reads can.there))) (hear_goes can stands)) read

pub takes_one : {steps : List ThinStep} {shelf : Kept} {job view : JobState} {chosen : Action} {at input : ℕ} {old : Operator} (inputs : List Edge) → view ≡ job
    → chosen ≡ action.Take at input → IsEnabled job chosen → old ≡ get_or view.operators at old
    → IfSome (slice_get old.inputs input) (λ edge. inputs ≡ slice_set old.inputs input (takes_part edge)) → JobStands steps shelf job
    → Goes steps shelf job (with_operators view (slice_set view.operators at (record old { inputs = inputs })))
takes_one {steps} {shelf} {job} {at = at} {input} {old} inputs seen is enabled read taken stands =
    let can : OperatorCan job at (HasPart input) = enabled_as job is enabled in
    let P : JobState → Type 0 = λ v. old ≡ get_or v.operators at old → Goes steps shelf job (with_operators v (slice_set v.operators at (record old { inputs = inputs }))) in
    let T : Option Edge → Type 0 = λ found. IfSome found (λ edge. inputs ≡ slice_set old.inputs input (takes_part edge)) in
    let Q : Operator → Type 0 = λ o. Goes steps shelf job (with_operators job (slice_set job.operators at o)) in
    subst P (sym seen) (λ reads.
    let same : old ≡ can.operator = read_there job.operators at old can.operator reads can.there in
    let got : slice_get old.inputs input ≡ Some can.can.edge = ap (λ (o : Operator). slice_get o.inputs input) same ∙ can.can.there in
    let made : record old { inputs = inputs } ≡ takes_at input can.operator can.can.edge =
    ap (λ (edges : List Edge). record old { inputs = edges }) (subst T got taken) ∙ ap (λ (o : Operator). takes_at input o can.can.edge) same in
    subst Q (sym made) (take_goes can stands)) read

pub ready_one : {steps : List ThinStep} {shelf : Kept} {job : JobState} {chosen : Action} {at : ℕ} {statement : ThinStep} → IsFormedThin steps → chosen ≡ action.Poll at
    → IsEnabled job chosen → statement ≡ get_or steps at statement → JobStands steps shelf job
    → IfSome (slice_get job.operators at) (λ operator. IsPollReady statement (bags_here operator.inputs))
ready_one {steps} {job = job} {at = at} {statement} formed is enabled read stands =
    let now : (job.learned ≡ true) × OperatorCan job at (λ operator. is_pollable operator ≡ true) = enabled_as job is enabled in
    let can = now.1 in
    let here = read_beside job.operators steps at can.operator statement stands.holds.sized can.there read in
    let P : Option Operator → Type 0 = λ found. IfSome found (λ operator. IsPollReady statement (bags_here operator.inputs)) in
    subst P (sym can.there) (ready statement formed here can stands)

-- what a poll tells, by the operator that was found at its place
abbrev pub Polls : Kept → ThinStep → ℕ → JobState → JobState → Option Operator → Type 0
Polls shelf statement at old new found = IfSome found (λ operator. (made : Result BagOf FaultKind)
    × (new ≡ with_operators old (after_poll statement at operator made old.operators))
    × ((files : FileMap) → Agrees shelf files → due_bag files statement (bags_here operator.inputs) ≡ made))

pub polls_one : {steps : List ThinStep} {shelf shelf' : Kept} {job new : JobState} {chosen : Action} {at : ℕ} {statement : ThinStep} → IsFormedThin steps
    → chosen ≡ action.Poll at → IsEnabled job chosen → statement ≡ get_or steps at statement → ((files : FileMap) → Agrees shelf' files → Agrees shelf files)
    → JobStands steps shelf job → Polls shelf' statement at job new (slice_get job.operators at) → Goes steps shelf' job new
polls_one {steps} {shelf} {shelf'} {job} {new} {at = at} {statement} formed is enabled read grows stands polled =
    let now : (job.learned ≡ true) × OperatorCan job at (λ operator. is_pollable operator ≡ true) = enabled_as job is enabled in
    let can = now.1 in
    let here = read_beside job.operators steps at can.operator statement stands.holds.sized can.there read in
    let did = subst (Polls shelf' statement at job new) can.there polled in
    let P : JobState → Type 0 = Goes steps shelf' job in
    subst P (sym did.1) (poll_goes shelf' statement did.0 formed now.0 here can stands grows did.2)
