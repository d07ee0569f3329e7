use Rattle.std.proofs.Common.{◌≡◌, ◌∙◌, ◌<◌, ◌++◌, ◌∷◌, [], ℕ, List, true, ap, arith, get_or, length, map, refl, subst, sym}
use Rattle.std.specs.Prelude.{IfSome, Option, Some, Result, Ok, Err, slice_get, slice_set}
use Rattle.std.proofs.lemmas.List.{get_or-set_same, length-set, set-set}
use Rattle.std.proofs.lemmas.Option.{slice_get-get_or}
use Rattle.mit_rows.specs.Bags.{BagOf}
use Rattle.mit_files.specs.Files.{FileMap}
use Rattle.mit_shelf.specs.Shelf.{Agrees, Kept}
use Rattle.mit_shelf.specs.declared.stop.Stop.{Stop}
use Rattle.mit_shelf.specs.declared.stop.Stop.TheVariants as stop
use Rattle.mit_ops.specs.declared.faults.FaultKind.{FaultKind}
use Rattle.mit_engine.specs.Operators.{IsPollReady, JobState, PollGivesBag, after_poll, bags_here, due_bag, feeds_bag, passed_on, polls, with_operators}
use Rattle.mit_engine.specs.declared.edges.Edge.{Edge}
use Rattle.mit_engine.specs.declared.operators.Operator.{Operator}
use Rattle.mit_engine.specs.declared.operators.Outcome.{Outcome}
use Rattle.mit_engine.specs.declared.operators.Outcome.TheVariants as outcome
use Rattle.mit_engine.specs.declared.thin.ThinStep.{ThinStep}
use Rattle.mit_engine.proofs.ActLemmas.{Polls}
use Rattle.mit_engine.proofs.JobRuns.{agrees_first}
use Rattle.mit_engine.proofs.job.Job.poll.Goals as goal

-- the bags that an operator is fed are ready for its statement
ready_here : {job view : JobState} {at : ℕ} {operator : Operator} {bags : List BagOf} (statement : ThinStep)
    → view ≡ job → at < length view.operators → operator ≡ get_or view.operators at operator → bags ≡ bags_here operator.inputs
    → IfSome (slice_get job.operators at) (λ o. IsPollReady statement (bags_here o.inputs)) → IsPollReady statement bags
ready_here {job} {view} {at} {operator} {bags} statement seen within is fed ready =
    let there : slice_get view.operators at ≡ Some operator = slice_get-get_or view.operators at operator within ∙ ap Some (sym is) in
    let P : Option Operator → Type 0 = λ o. IfSome o (λ x. IsPollReady statement (bags_here x.inputs)) in
    let Q : JobState → Type 0 = λ j. P (slice_get j.operators at) in
    let now : P (Some operator) = subst P there (subst Q (sym seen) ready) in
    let R : List BagOf → Type 0 = IsPollReady statement in
    subst R (sym fed) now

-- an operator that is fed, and then reports, is polled
polled : (operators : List Operator) (at : ℕ) (operator fed reported : Operator) (inputs : List Edge) (told : Outcome)
    → at < length operators → inputs ≡ map feeds_bag operator.inputs
    → fed ≡ get_or (slice_set operators at (record operator { inputs = inputs })) at fed
    → reported ≡ record fed { polled = true; reports = fed.reports ++ told ∷ [] }
    → slice_set (slice_set operators at (record operator { inputs = inputs })) at reported ≡ slice_set operators at (polls told operator)
polled operators at operator fed reported inputs told within inputs_are fed_is reported_is =
    let is : fed ≡ record operator { inputs = map feeds_bag operator.inputs } =
    fed_is ∙ get_or-set_same operators at (record operator { inputs = inputs }) fed within ∙ ap (λ (edges : List Edge). record operator { inputs = edges }) inputs_are in
    set-set operators at (record operator { inputs = inputs }) reported
    ∙ ap (slice_set operators at) (reported_is ∙ ap (λ (o : Operator). record o { polled = true; reports = o.reports ++ told ∷ [] }) is)

-- and its bag is passed on
passed : (statement : ThinStep) (operators after all : List Operator) (at : ℕ) (operator : Operator) (bag : BagOf)
    → at < length operators → after ≡ slice_set operators at (polls outcome.Done operator)
    → IfSome (slice_get after at) (λ o. all ≡ passed_on statement at o bag after) → all ≡ after_poll statement at operator (Ok bag) operators
unfolding after_poll
passed statement operators after all at operator bag within is kept =
    let done : Operator = polls outcome.Done operator in
    let there : slice_get (slice_set operators at done) at ≡ Some done =
    slice_get-get_or (slice_set operators at done) at done (omega (arith, length-set operators at done)) ∙ ap Some (get_or-set_same operators at done done within) in
    let moved = subst (λ (os : List Operator). IfSome (slice_get os at) (λ o. all ≡ passed_on statement at o bag os)) is kept in
    subst (λ (o : Option Operator). IfSome o (λ x. all ≡ passed_on statement at x bag (slice_set operators at done))) there moved

-- or it is at fault
stopped : (statement : ThinStep) (operators after : List Operator) (at : ℕ) (operator : Operator) (kind : FaultKind)
    → after ≡ slice_set operators at (polls (outcome.Fault kind) operator) → after ≡ after_poll statement at operator (Err kind) operators
unfolding after_poll
stopped statement operators after at operator kind is = is

-- what the code makes of the job that it sees is what a poll tells
settled : {job view : JobState} {at : ℕ} {operator : Operator} {bags : List BagOf} {all : List Operator} (statement : ThinStep) (shelf : Kept) (made : Result BagOf FaultKind)
    → view ≡ job → at < length view.operators → operator ≡ get_or view.operators at operator → bags ≡ bags_here operator.inputs
    → all ≡ after_poll statement at operator made view.operators → ((files : FileMap) → Agrees shelf files → due_bag files statement bags ≡ made)
    → Polls shelf statement at job (with_operators view all) (slice_get job.operators at)
settled {job} {view} {at} {operator} {bags} {all} statement shelf made seen within is fed left gives =
    let there : slice_get view.operators at ≡ Some operator = slice_get-get_or view.operators at operator within ∙ ap Some (sym is) in
    let P : Option Operator → Type 0 = Polls shelf statement at view (with_operators view all) in
    let now : P (Some operator) = (made, ap (with_operators view) left, λ files agrees. ap (due_bag files statement) (sym fed) ∙ gives files agrees) in
    let Q : JobState → Type 0 = λ j. Polls shelf statement at j (with_operators view all) (slice_get j.operators at) in
    subst Q seen (subst P (sym there) now)

-- a fault that was answered is what the statement makes
fault_given : (statement : ThinStep) (bags : List BagOf) (shelf : Kept) (halted : Stop FaultKind) (kind : FaultKind) → halted ≡ stop.Fault kind
    → ((files : FileMap) → Agrees shelf files → PollGivesBag (due_bag files statement bags) (Err halted)) → (files : FileMap) → Agrees shelf files
    → due_bag files statement bags ≡ Err kind
fault_given statement bags shelf halted kind is gives files agrees =
    let P : Stop FaultKind → Type 0 = λ h. PollGivesBag (due_bag files statement bags) (Err h) in subst P is (gives files agrees)

pub returns-in_ok-pass_on-in-Ok-clause-polled : goal.returns-in_ok-pass_on-in-Ok-clause-polled
returns-in_ok-pass_on-in-Ok-clause-polled g c =
    let operators : List Operator = c.self.inside.operators.items in
    let operator : Operator = c.index_mut.result.now in
    let within : c.args.at < length operators = omega (arith, ap (λ (job : JobState). length job.operators) c.self.view_is, c.requires.within) in
    settled c.args.step.now c.whole.new.shelf (Ok c.in-Ok.bag) c.self.view_is within c.index_mut.ensures.value c.in_ok-inputs.ensures.fed
    (passed c.args.step.now operators _ c.pass_on.new.operators.items c.args.at operator c.in-Ok.bag within
    (polled operators c.args.at operator c.index_mut-in-Ok.result.now c.report.new.self c.feed.new.self outcome.Done within c.in_ok-inputs.ensures.edges
    c.index_mut-in-Ok.ensures.value c.in_ok-report-in-Ok.ensures)
    c.in_ok-pass_on-in-Ok.ensures) c.in-Ok.ensures.bag

pub returns-in_ok-report-in-Err-Fault-clause-polled : goal.returns-in_ok-report-in-Err-Fault-clause-polled
returns-in_ok-report-in-Err-Fault-clause-polled g c =
    let operators : List Operator = c.self.inside.operators.items in
    let operator : Operator = c.index_mut.result.now in
    let within : c.args.at < length operators = omega (arith, ap (λ (job : JobState). length job.operators) c.self.view_is, c.requires.within) in
    settled c.args.step.now c.whole.new.shelf (Err c.in-Err-Fault.kind) c.self.view_is within c.index_mut.ensures.value c.in_ok-inputs.ensures.fed
    (stopped c.args.step.now operators _ c.args.at operator c.in-Err-Fault.kind
    (polled operators c.args.at operator c.index_mut-in-Err-Fault.result.now c.report-in-Err-Fault.new.self c.feed.new.self (outcome.Fault c.in-Err-Fault.kind) within
    c.in_ok-inputs.ensures.edges c.index_mut-in-Err-Fault.ensures.value (rw c.in-Err-Fault.kind-is at c.in_ok-report-in-Err-Fault.ensures)))
    (fault_given c.args.step.now c.in_ok-inputs.inputs.items c.whole.new.shelf c.in-Err-Fault.field-0 c.in-Err-Fault.kind c.in-Err-Fault.field-0-is c.in-Err-Fault.ensures.bag)

pub returns-in_err-inputs-clause-grows : goal.returns-in_err-inputs-clause-grows
returns-in_err-inputs-clause-grows g c = λ files agrees. agrees

pub returns-in_err-inputs-clause-agrees : goal.returns-in_err-inputs-clause-agrees
returns-in_err-inputs-clause-agrees g c = agrees_first (g.F.Folder.files c.args.folder.now) c.args.shelf.now

pub returns-in_err-inputs-clause-told : goal.returns-in_err-inputs-clause-told
returns-in_err-inputs-clause-told g c = refl

pub returns-in_err-inputs-clause-count : goal.returns-in_err-inputs-clause-count
returns-in_err-inputs-clause-count g c = omega arith

pub whole-requires : goal.whole-requires
whole-requires g c =
    let within : c.args.at < length c.self.inside.operators.items = omega (arith, ap (λ (job : JobState). length job.operators) c.self.view_is, c.requires.within) in
    ready_here c.args.step.now c.self.view_is within c.index_mut.ensures.value c.in_ok-inputs.ensures.fed c.requires.ready

pub returns-in_err-report-in-Ok-clause-grows : goal.returns-in_err-report-in-Ok-clause-grows
returns-in_err-report-in-Ok-clause-grows g c = c.whole.ensures.grows

pub returns-in_err-report-in-Ok-clause-agrees : goal.returns-in_err-report-in-Ok-clause-agrees
returns-in_err-report-in-Ok-clause-agrees g c = c.whole.ensures.agrees

pub returns-in_err-report-in-Ok-clause-told : goal.returns-in_err-report-in-Ok-clause-told
returns-in_err-report-in-Ok-clause-told g c = c.whole.ensures.told

pub returns-in_err-report-in-Ok-clause-count : goal.returns-in_err-report-in-Ok-clause-count
returns-in_err-report-in-Ok-clause-count g c = c.whole.ensures.count

pub returns-in_err-pass_on-in-Ok-clause-grows : goal.returns-in_err-pass_on-in-Ok-clause-grows
returns-in_err-pass_on-in-Ok-clause-grows g c = c.whole.ensures.grows

pub returns-in_err-pass_on-in-Ok-clause-agrees : goal.returns-in_err-pass_on-in-Ok-clause-agrees
returns-in_err-pass_on-in-Ok-clause-agrees g c = c.whole.ensures.agrees

pub returns-in_err-pass_on-in-Ok-clause-told : goal.returns-in_err-pass_on-in-Ok-clause-told
returns-in_err-pass_on-in-Ok-clause-told g c = c.whole.ensures.told

pub returns-in_err-pass_on-in-Ok-clause-count : goal.returns-in_err-pass_on-in-Ok-clause-count
returns-in_err-pass_on-in-Ok-clause-count g c = c.whole.ensures.count

pub returns-in_err-report-in-Err-Fault-clause-grows : goal.returns-in_err-report-in-Err-Fault-clause-grows
returns-in_err-report-in-Err-Fault-clause-grows g c = c.whole.ensures.grows

pub returns-in_err-report-in-Err-Fault-clause-agrees : goal.returns-in_err-report-in-Err-Fault-clause-agrees
returns-in_err-report-in-Err-Fault-clause-agrees g c = c.whole.ensures.agrees

pub returns-in_err-report-in-Err-Fault-clause-told : goal.returns-in_err-report-in-Err-Fault-clause-told
returns-in_err-report-in-Err-Fault-clause-told g c = c.whole.ensures.told

pub returns-in_err-report-in-Err-Fault-clause-count : goal.returns-in_err-report-in-Err-Fault-clause-count
returns-in_err-report-in-Err-Fault-clause-count g c = c.whole.ensures.count

pub returns-in_ok-pass_on-in-Ok-clause-failed : goal.returns-in_ok-pass_on-in-Ok-clause-failed
returns-in_ok-pass_on-in-Ok-clause-failed g c = tt

pub returns-in_ok-pass_on-in-Ok-clause-grows : goal.returns-in_ok-pass_on-in-Ok-clause-grows
returns-in_ok-pass_on-in-Ok-clause-grows g c = c.whole.ensures.grows

pub returns-in_ok-pass_on-in-Ok-clause-agrees : goal.returns-in_ok-pass_on-in-Ok-clause-agrees
returns-in_ok-pass_on-in-Ok-clause-agrees g c = c.whole.ensures.agrees

pub returns-in_ok-pass_on-in-Ok-clause-told : goal.returns-in_ok-pass_on-in-Ok-clause-told
returns-in_ok-pass_on-in-Ok-clause-told g c = c.whole.ensures.told

pub returns-in_ok-pass_on-in-Ok-clause-count : goal.returns-in_ok-pass_on-in-Ok-clause-count
returns-in_ok-pass_on-in-Ok-clause-count g c = c.whole.ensures.count

pub returns-in_ok-report-in-Err-Fault-clause-failed : goal.returns-in_ok-report-in-Err-Fault-clause-failed
returns-in_ok-report-in-Err-Fault-clause-failed g c = tt

pub returns-in_ok-report-in-Err-Fault-clause-grows : goal.returns-in_ok-report-in-Err-Fault-clause-grows
returns-in_ok-report-in-Err-Fault-clause-grows g c = c.whole.ensures.grows

pub returns-in_ok-report-in-Err-Fault-clause-agrees : goal.returns-in_ok-report-in-Err-Fault-clause-agrees
returns-in_ok-report-in-Err-Fault-clause-agrees g c = c.whole.ensures.agrees

pub returns-in_ok-report-in-Err-Fault-clause-told : goal.returns-in_ok-report-in-Err-Fault-clause-told
returns-in_ok-report-in-Err-Fault-clause-told g c = c.whole.ensures.told

pub returns-in_ok-report-in-Err-Fault-clause-count : goal.returns-in_ok-report-in-Err-Fault-clause-count
returns-in_ok-report-in-Err-Fault-clause-count g c = c.whole.ensures.count

pub returns-in-Err-Folder-clause-polled : goal.returns-in-Err-Folder-clause-polled
returns-in-Err-Folder-clause-polled g c = tt

pub returns-in-Err-Folder-clause-failed : goal.returns-in-Err-Folder-clause-failed
returns-in-Err-Folder-clause-failed g c = rw c.in-Err-Folder.field-0-is at c.in-Err-Folder.ensures.failed

pub returns-in-Err-Folder-clause-grows : goal.returns-in-Err-Folder-clause-grows
returns-in-Err-Folder-clause-grows g c = c.whole.ensures.grows

pub returns-in-Err-Folder-clause-agrees : goal.returns-in-Err-Folder-clause-agrees
returns-in-Err-Folder-clause-agrees g c = c.whole.ensures.agrees

pub returns-in-Err-Folder-clause-told : goal.returns-in-Err-Folder-clause-told
returns-in-Err-Folder-clause-told g c = c.whole.ensures.told

pub returns-in-Err-Folder-clause-count : goal.returns-in-Err-Folder-clause-count
returns-in-Err-Folder-clause-count g c = c.whole.ensures.count

pub returns-in-Err-NoMemory-clause-polled : goal.returns-in-Err-NoMemory-clause-polled
returns-in-Err-NoMemory-clause-polled g c = tt

pub returns-in-Err-NoMemory-clause-failed : goal.returns-in-Err-NoMemory-clause-failed
returns-in-Err-NoMemory-clause-failed g c = tt

pub returns-in-Err-NoMemory-clause-grows : goal.returns-in-Err-NoMemory-clause-grows
returns-in-Err-NoMemory-clause-grows g c = c.whole.ensures.grows

pub returns-in-Err-NoMemory-clause-agrees : goal.returns-in-Err-NoMemory-clause-agrees
returns-in-Err-NoMemory-clause-agrees g c = c.whole.ensures.agrees

pub returns-in-Err-NoMemory-clause-told : goal.returns-in-Err-NoMemory-clause-told
returns-in-Err-NoMemory-clause-told g c = c.whole.ensures.told

pub returns-in-Err-NoMemory-clause-count : goal.returns-in-Err-NoMemory-clause-count
returns-in-Err-NoMemory-clause-count g c = c.whole.ensures.count
