-- The end of the job is the interpreter's: where every operator is heard Done, its writes; else the first fault in the order of the text.
use Rattle.std.proofs.Common.{◌≡◌, ◌∙◌, ◌<◌, ◌+◌, ℕ, List, [], ◌∷◌, ◌++◌, length, map, ap, sym, subst, refl, arith, inl, inr, append_assoc}
use Rattle.std.specs.Prelude.{suc, ◌⊎◌, Option, Some, None, Ok, Err, Bool, true, false, nat_lt, slice_get, slice_set, if◌then◌else◌}
use Rattle.std.proofs.lemmas.List.{append-nil, get_or-map, length-map, map-append, map-set}
use Rattle.mit_rows.specs.Bags.{BagOf, bag_sum}
use Rattle.mit_files.specs.Files.{FileMap}
use Rattle.mit_files.specs.Printed.{Write}
use Rattle.mit_shelf.specs.Shelf.{Agrees, Kept}
use Rattle.mit_ops.specs.declared.faults.FaultKind.{FaultKind}
use Rattle.mit_engine.specs.Thin.{Finished, Faulted, IsFormedThin, after_read, item_put, variable_bag, exec_thin, exec_from}
use Rattle.mit_engine.specs.Operators.{FitsVariables, JobState, assigned_after, assigner, sources, sources_from, sources_of, staged_write, due_bag, staged_writes}
use Rattle.mit_engine.specs.Running.{JobHolds, MadeOf, Means, MadePart, Unmade, Made, AtFault, ReportsPart, StagesPart, JobStands, bags_made, verdict_from, verdict_of, with_made_bag}
use Rattle.mit_engine.specs.declared.job.Verdict.TheVariants as verdict
use Rattle.mit_engine.specs.declared.operators.Operator.{Operator}
use Rattle.mit_engine.specs.declared.operators.Outcome.TheVariants as outcome
use Rattle.mit_engine.specs.declared.thin.ThinStep.{ThinStep}
use Rattle.mit_engine.specs.declared.thin.ThinStep.TheVariants as step
use Rattle.mit_engine.proofs.FormedLemmas.{FormedAfter, formed_first, formed_next}
use Rattle.mit_engine.proofs.VerdictLemmas.{bag_of, complete_first, done_made, fault_failed, fault_first}

-- ---- bags of operators

-- the bags of these operators
abbrev bags_at : (ℕ → MadePart) → List ℕ → List BagOf
bags_at parts operators = map (λ at. bag_of (parts at)) operators

-- they are what all have made, or not all have
abbrev AreAll : Option (List BagOf) → List BagOf → Type 0
AreAll bags all = (bags ≡ None) ⊎ (bags ≡ Some all)

all_with : (part : MadePart) (bags : Option (List BagOf)) (all : List BagOf) → AreAll bags all → AreAll (with_made_bag part bags) (bag_of part ∷ all)
all_with Unmade bags all are = inl refl
all_with (AtFault kind) bags all are = inl refl
all_with (Made bag) None all are = inl refl
all_with (Made bag) (Some bags) all are = elim are [ inl e ↦ inl cc | inr e ↦ inr cc ]

all_made : (parts : ℕ → MadePart) (from : List ℕ) → AreAll (bags_made parts from) (bags_at parts from)
all_made parts [] = inr refl
all_made parts (first ∷ from) = all_with (parts first) (bags_made parts from) (bags_at parts from) (all_made parts from)

-- what is made is made of all bags
made_of_all : (files : FileMap) (statement : ThinStep) (part : MadePart) (bags : Option (List BagOf)) (all : List BagOf) → AreAll bags all
    → MadeOf files statement bags part → MadeOf files statement (Some all) part
made_of_all files statement Unmade bags all are made = tt
made_of_all files statement (Made bag) None all are made = absurd made
made_of_all files statement (Made bag) (Some bags) all are made = elim are [ inl e ↦ cc | inr e ↦ cc ]
made_of_all files statement (AtFault kind) None all are made = absurd made
made_of_all files statement (AtFault kind) (Some bags) all are made = elim are [ inl e ↦ cc | inr e ↦ cc ]

-- the store has the bag of the operator that assigned the variable last
bag_read : (parts : ℕ → MadePart) (assigned : List ℕ) (variable : ℕ) → variable < length assigned
    → variable_bag (bags_at parts assigned) variable ≡ bag_of (parts (assigner assigned variable))
bag_read parts assigned variable within = get_or-map (λ at. bag_of (parts at)) assigned variable 0 [] within

bags_assign : (parts : ℕ → MadePart) (assigned : List ℕ) (target at : ℕ)
    → item_put (bags_at parts assigned) target (bag_of (parts at)) ≡ bags_at parts (item_put assigned target at)
bags_assign parts assigned target at = rw (length-map assigned (λ at. bag_of (parts at))) (by_test (nat_lt target (length assigned)))
  where
    by_test : (test : Bool) → (if test then slice_set (bags_at parts assigned) target (bag_of (parts at)) else bags_at parts assigned ++ bag_of (parts at) ∷ [])
        ≡ bags_at parts (if test then slice_set assigned target at else assigned ++ at ∷ [])
    by_test true = sym (map-set (λ at. bag_of (parts at)) assigned target at)
    by_test false = sym (map-append (λ at. bag_of (parts at)) assigned (at ∷ []))

-- ---- the operators along the text

-- what an operator has made is what its statement makes of its sources' bags, it reports it, and a write stages it
record Does (files : FileMap) (parts : ℕ → MadePart) (at : ℕ) (statement : ThinStep) (from : List ℕ) (operator : Operator) : Type 0 where
  made : MadeOf files statement (Some (bags_at parts from)) (parts at)
  reports : ReportsPart (parts at) operator.polled operator.reports operator.heard
  staged : StagesPart statement (parts at) operator.staged

-- these operators do so from a place on; each variable has the operator that assigned it last, and those that a statement names have one
data Along (files : FileMap) (parts : ℕ → MadePart) : List ℕ → ℕ → List ThinStep → List Operator → Type 0 where
  ended : (assigned : List ℕ) (at : ℕ) → Along files parts assigned at [] []
  next : (assigned : List ℕ) (at : ℕ) (statement : ThinStep) (steps : List ThinStep) (operator : Operator) (operators : List Operator)
      → FitsVariables (length assigned) statement → Does files parts at statement (sources_of assigned statement) operator
      → Along files parts (assigned_after assigned at statement) (at + 1) steps operators
      → Along files parts assigned at (statement ∷ steps) (operator ∷ operators)

-- each operator from a place on does so
abbrev AllDo : FileMap → (ℕ → MadePart) → ℕ → List ThinStep → List (List ℕ) → List Operator → Type 0
AllDo files parts at steps froms operators =
    (place : ℕ) (statement : ThinStep) (from : List ℕ) (operator : Operator) → slice_get steps place ≡ Some statement
    → slice_get froms place ≡ Some from → slice_get operators place ≡ Some operator → Does files parts (at + place) statement from operator

along : (files : FileMap) (parts : ℕ → MadePart) (assigned : List ℕ) (at : ℕ) (steps : List ThinStep) (operators : List Operator)
    → FormedAfter assigned steps → length operators ≡ length steps
    → AllDo files parts at steps (sources_from assigned at steps) operators → Along files parts assigned at steps operators
unfolding sources_from
along files parts assigned at [] [] formed sized does = ended assigned at
along files parts assigned at [] (operator ∷ operators) formed sized does = absurd (omega (arith, sized))
along files parts assigned at (statement ∷ steps) [] formed sized does = absurd (omega (arith, sized))
along files parts assigned at (statement ∷ steps) (operator ∷ operators) formed sized does =
    let rest = formed_next assigned at statement steps formed in
    let D : ℕ → Type 0 = λ n. Does files parts n statement (sources_of assigned statement) operator in
    next assigned at statement steps operator operators rest.fits
    (subst D (omega arith) (does 0 statement (sources_of assigned statement) operator refl refl refl))
    (along files parts (assigned_after assigned at statement) (at + 1) steps operators rest.later (omega (arith, sized))
    (λ place later from one a b c. subst (λ (n : ℕ). Does files parts n later from one) (omega arith) (does (suc place) later from one a b c)))

all_do : {steps : List ThinStep} {parts : ℕ → MadePart} {job : JobState} (files : FileMap) → JobHolds steps parts job → Means files steps parts
    → AllDo files parts 0 steps (sources steps) job.operators
all_do {parts = parts} files holds means place statement from operator a b c =
    let held = holds.each place operator statement from c a b in
    subst (λ (n : ℕ). Does files parts n statement from operator) (omega arith) (record {
      made = made_of_all files statement (parts place) (bags_made parts from) (bags_at parts from) (all_made parts from) (means place statement from a b);
      reports = held.reports;
      staged = held.staged;
    })

all_along : {steps : List ThinStep} {shelf : Kept} {job : JobState} (files : FileMap) → IsFormedThin steps → (stands : JobStands steps shelf job) → Agrees shelf files
    → Along files stands.parts [] 0 steps job.operators
all_along {steps} {job = job} files formed stands agrees =
    along files stands.parts [] 0 steps job.operators (formed_first steps formed) stands.holds.sized (all_do files stands.holds (stands.means files agrees))

-- ---- one statement

-- the writes after a statement, of which this is made
abbrev writes_next : List Write → ThinStep → BagOf → List Write
writes_next writes (step.Read target name count) bag = writes
writes_next writes (step.Union target left right) bag = writes
writes_next writes (step.Write source name) bag = writes ++ record { name = name; bag = bag } ∷ []

-- the interpreter does what the operator has made
exec_next : (files : FileMap) (parts : ℕ → MadePart) (assigned : List ℕ) (at number : ℕ) (statement : ThinStep) (steps : List ThinStep) (writes : List Write)
    → FitsVariables (length assigned) statement → due_bag files statement (bags_at parts (sources_of assigned statement)) ≡ Ok (bag_of (parts at))
    → exec_from files number (bags_at parts assigned) writes (statement ∷ steps)
    ≡ exec_from files (number + 1) (bags_at parts (assigned_after assigned at statement)) (writes_next writes statement (bag_of (parts at))) steps
unfolding exec_from
exec_next files parts assigned at number (step.Read target name count) steps writes fits made =
    ap (after_read (λ bag. exec_from files (number + 1) (item_put (bags_at parts assigned) target bag) writes steps) number) made
    ∙ ap (λ (store : List BagOf). exec_from files (number + 1) store writes steps) (bags_assign parts assigned target at)
exec_next files parts assigned at number (step.Union target left right) steps writes fits made =
    let a = bag_read parts assigned left fits.1 in
    let b = bag_read parts assigned right fits.2 in
    let summed : bag_sum (variable_bag (bags_at parts assigned) left ∷ variable_bag (bags_at parts assigned) right ∷ []) ≡ bag_of (parts at) = cc in
    ap (λ bag. exec_from files (number + 1) (item_put (bags_at parts assigned) target bag) writes steps) summed
    ∙ ap (λ (store : List BagOf). exec_from files (number + 1) store writes steps) (bags_assign parts assigned target at)
exec_next files parts assigned at number (step.Write source name) steps writes fits made =
    let a = bag_read parts assigned source fits in
    let same : variable_bag (bags_at parts assigned) source ≡ bag_of (parts at) = cc in
    ap (λ bag. exec_from files (number + 1) (bags_at parts assigned) (writes ++ record { name = name; bag = bag } ∷ []) steps) same

exec_fault : (files : FileMap) (number : ℕ) (store : List BagOf) (writes : List Write) (statement : ThinStep) (steps : List ThinStep) (bags : List BagOf) (kind : FaultKind)
    → due_bag files statement bags ≡ Err kind → exec_from files number store writes (statement ∷ steps) ≡ Faulted number kind
unfolding exec_from
exec_fault files number store writes (step.Read target name count) steps bags kind made =
    ap (after_read (λ bag. exec_from files (number + 1) (item_put store target bag) writes steps) number) made
exec_fault files number store writes (step.Union target left right) steps bags kind made = cc
exec_fault files number store writes (step.Write source name) steps bags kind made = cc

-- what a write stages follows the writes before it
writes_more : (statement : ThinStep) (steps : List ThinStep) (operator : Operator) (operators : List Operator) (writes : List Write) (bag : BagOf)
    → StagesPart statement (Made bag) operator.staged
    → writes_next writes statement bag ++ staged_writes steps operators ≡ writes ++ staged_writes (statement ∷ steps) (operator ∷ operators)
unfolding staged_writes
writes_more (step.Read target name count) steps operator operators writes bag staged = refl
writes_more (step.Union target left right) steps operator operators writes bag staged = refl
writes_more (step.Write source name) steps operator operators writes bag staged =
    append_assoc writes (record { name = name; bag = bag } ∷ []) (staged_writes steps operators)
    ∙ ap (λ (one : Option BagOf). writes ++ staged_write name one (staged_writes steps operators)) (sym staged)

-- ---- the end

-- the interpreter after a statement that was heard Done
exec_done : (files : FileMap) (parts : ℕ → MadePart) (assigned : List ℕ) (at : ℕ) (statement : ThinStep) (steps : List ThinStep) (operator : Operator) (writes : List Write)
    → FitsVariables (length assigned) statement → Does files parts at statement (sources_of assigned statement) operator → operator.heard ≡ Some outcome.Done
    → exec_from files (at + 1) (bags_at parts assigned) writes (statement ∷ steps)
    ≡ exec_from files (at + 1 + 1) (bags_at parts (assigned_after assigned at statement)) (writes_next writes statement (bag_of (parts at))) steps
exec_done files parts assigned at statement steps operator writes fits does heard =
    exec_next files parts assigned at (at + 1) statement steps writes fits
    (subst (MadeOf files statement (Some (bags_at parts (sources_of assigned statement))))
    (done_made (parts at) operator.polled operator.reports operator.heard does.reports heard).0 does.made)

-- and where it was heard to be at fault
exec_failed : (files : FileMap) (parts : ℕ → MadePart) (assigned : List ℕ) (at : ℕ) (statement : ThinStep) (steps : List ThinStep) (operator : Operator) (writes : List Write) (kind : FaultKind)
    → Does files parts at statement (sources_of assigned statement) operator → operator.heard ≡ Some (outcome.Fault kind)
    → exec_from files (at + 1) (bags_at parts assigned) writes (statement ∷ steps) ≡ Faulted (at + 1) kind
exec_failed files parts assigned at statement steps operator writes kind does heard =
    exec_fault files (at + 1) (bags_at parts assigned) writes statement steps (bags_at parts (sources_of assigned statement)) kind
    (subst (MadeOf files statement (Some (bags_at parts (sources_of assigned statement))))
    (fault_failed (parts at) operator.polled operator.reports operator.heard kind does.reports heard) does.made)

completes : {files : FileMap} {parts : ℕ → MadePart} {assigned : List ℕ} {at : ℕ} {steps : List ThinStep} {operators : List Operator} (writes : List Write)
    → Along files parts assigned at steps operators → verdict_from at operators ≡ verdict.Complete
    → exec_from files (at + 1) (bags_at parts assigned) writes steps ≡ Finished (writes ++ staged_writes steps operators)
unfolding exec_from verdict_from staged_writes
completes writes (ended assigned at) is = ap Finished (sym (append-nil writes))
completes {files} {parts} writes (next assigned at statement steps operator operators fits does later) is =
    let hears = complete_first at operator.heard (verdict_from (at + 1) operators) is in
    let bag = bag_of (parts at) in
    let staged : StagesPart statement (Made bag) operator.staged =
    subst (λ (part : MadePart). StagesPart statement part operator.staged)
    (done_made (parts at) operator.polled operator.reports operator.heard does.reports hears.0).0 does.staged in
    exec_done files parts assigned at statement steps operator writes fits does hears.0
    ∙ completes (writes_next writes statement bag) later hears.1
    ∙ ap Finished (writes_more statement steps operator operators writes bag staged)

faults : {files : FileMap} {parts : ℕ → MadePart} {assigned : List ℕ} {at : ℕ} {steps : List ThinStep} {operators : List Operator} (writes : List Write) (place : ℕ) (kind : FaultKind)
    → Along files parts assigned at steps operators → verdict_from at operators ≡ verdict.Fault place kind
    → exec_from files (at + 1) (bags_at parts assigned) writes steps ≡ Faulted (place + 1) kind
unfolding verdict_from
faults writes place kind (ended assigned at) is = cc
faults {files} {parts} writes place kind (next assigned at statement steps operator operators fits does later) is =
    elim (fault_first at operator.heard (verdict_from (at + 1) operators) place kind is) [
      | inl done ↦
          exec_done files parts assigned at statement steps operator writes fits does done.0 ∙ faults (writes_next writes statement (bag_of (parts at))) place kind later done.1
      | inr fault ↦ exec_failed files parts assigned at statement steps operator writes kind does fault.0 ∙ ap (λ number. Faulted (number + 1) kind) fault.1
    ]

-- where each operator is heard Done, the interpreter comes to its end with the staged writes
pub complete_ends : {steps : List ThinStep} {shelf : Kept} {job : JobState} (files : FileMap) → IsFormedThin steps → JobStands steps shelf job → Agrees shelf files
    → verdict_of job ≡ verdict.Complete → exec_thin files steps ≡ Finished (staged_writes steps job.operators)
complete_ends files formed stands agrees is = completes [] (all_along files formed stands agrees) is

-- where the first operator that is not heard Done is at fault, the interpreter stops at its statement
pub fault_ends : {steps : List ThinStep} {shelf : Kept} {job : JobState} (files : FileMap) (at : ℕ) (kind : FaultKind) → IsFormedThin steps → JobStands steps shelf job
    → Agrees shelf files → verdict_of job ≡ verdict.Fault at kind → exec_thin files steps ≡ Faulted (at + 1) kind
fault_ends files at kind formed stands agrees is = faults [] at kind (all_along files formed stands agrees) is

-- its statement is one of them
pub fault_within : (at : ℕ) (operators : List Operator) (place : ℕ) (kind : FaultKind) → verdict_from at operators ≡ verdict.Fault place kind
    → place < at + length operators
unfolding verdict_from
fault_within at [] place kind is = cc
fault_within at (first ∷ operators) place kind is = elim (fault_first at first.heard (verdict_from (at + 1) operators) place kind is) [
  | inl done ↦ omega (arith, fault_within (at + 1) operators place kind done.1)
  | inr fault ↦ omega (arith, fault.1)
]
