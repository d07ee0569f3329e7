-- How a run ends is what the plan means.
use Rattle.std.proofs.Common.{◌≡◌, ◌∙◌, ◌<◌, ◌≤◌, ◌+◌, ◌-◌, ℕ, zero, suc, List, [], length, map, take, get_or, ap, sym, subst, refl, arith, cond, eqb, ltb-true, ltb-false, Bool, true, false, Option, Some, None, Ok}
use Rattle.std.specs.Prelude.{nat_lt, option_map}
use Rattle.std.specs.List.{list_all, range_with_len}
use Rattle.std.proofs.lemmas.List.{take_all}
use Rattle.std.proofs.lemmas.List.FromFn.{get_or-map-range_with_len}
use Rattle.mit_ops.specs.Answers.{BagOrFault, both, over}
use Rattle.mit_ops.specs.Endings.{Ending, stopped}
use Rattle.mit_ops.specs.declared.faults.ScriptFault.{ScriptFault}
use Rattle.mit_ops.specs.declared.leave.Leave.{Leave}
use Rattle.mit_ops.specs.declared.leave.Leave.TheVariants.{Jump, Branch, End}
use Rattle.mit_rows.specs.Bags.{BagOf}
use Rattle.mit_plan.specs.Explained.{Explained}
use Rattle.mit_plan.specs.Held.{History, Job, Part, decisions_before, failed, held, history_of, is_ok, ok, op_of, part, void}
use Rattle.mit_plan.specs.Meant.{answer_in, at_end, fault_at, fault_in, faults_of, first_or, history_ending, last_block, pair}
use Rattle.mit_plan.specs.Plans.{block_at, op_at}
use Rattle.mit_plan.specs.Valid.{RangesFollow}
use Rattle.mit_plan.specs.declared.plan.PlanBlock.{PlanBlock}
use Rattle.mit_machine.specs.Offers.{all_parts}
use Rattle.mit_machine.specs.Places.{Reports, front, front_index, heard_by, is_done, known}
use Rattle.mit_machine.specs.Runs.{Runs, ended, ended_by, known_end}
use Rattle.mit_machine.specs.State.{Machine, State}
use Rattle.mit_machine.proofs.Found.{Begins, IsFirst, Nothing, first_found, nothing_found}
use Rattle.mit_machine.proofs.Fronts.{done_before, done_in, front_is, known_most}
use Rattle.mit_machine.proofs.KnownEnds.{all_known}
use Rattle.mit_machine.proofs.Standing.{names}
use Rattle.mit_machine.proofs.WholePaths.{PartsExplained, explained_is}

-- ---- what is done is without fault

over_ok_by : (part : Part) (rest : BagOrFault) → is_ok part ≡ true → (later : BagOf) × (rest ≡ Ok later) → (bag : BagOf) × (both (answer_in part) rest ≡ Ok bag)
over_ok_by (ok bag) rest is later = (_, ap (both (Ok bag)) later.1)
over_ok_by (failed fault) rest is later = absurd cc
over_ok_by void rest is later = absurd cc

over_ok : (part : ℕ → Part) (from many : ℕ) → ((k : ℕ) → from ≤ k → k < from + many → is_ok (part k) ≡ true)
    → (bag : BagOf) × (over answer_in (map part (range_with_len from many)) ≡ Ok bag)
unfolding over
over_ok part from zero each = ([], refl)
over_ok part from (suc many) each =
    over_ok_by (part from) (over answer_in (map part (range_with_len (from + 1) many))) (each from (omega arith) (omega arith))
    (over_ok part (from + 1) many (λ k above below. each k (omega (arith, above)) (omega (arith, below))))

-- where the parts are ok there is no fault
ok_no_fault : (job : Job) (history : History) (place index : ℕ) → Explained job history → place < length history.path → index < (block_at job.plan (get_or history.path place 0)).count
    → ((p : ℕ) → p < job.partitions → is_ok (held history place index p) ≡ true) → fault_at job.plan history (pair place index) ≡ None
ok_no_fault job history place index explained below stands each =
    let row = explained place index below stands in
    let same : (p : ℕ) → p < job.partitions → held history place index p ≡ part job history place index p =
    λ p less. ap (λ (cells : List Part). get_or cells p void) row ∙ get_or-map-range_with_len (part job history place index) 0 job.partitions p p void less (omega arith) in
    let sum = over_ok (part job history place index) 0 job.partitions (λ p above less. ap is_ok (sym (same p (omega (arith, less)))) ∙ each p (omega (arith, less))) in
    let statement = (op_at job.plan (op_of job.plan history.path place index)).statement in
    ap (λ (answer : BagOrFault). fault_in answer statement (decisions_before job.plan history.path place)) (ap (over answer_in) row ∙ sum.1)

-- a plan's parts are explained, and its operators stand where they say
record Facts (machine : Machine) : Type 0 where
  explained : Explained machine.job machine.history
  ranges : RangesFollow machine.job.plan

done_no_fault : (machine : Machine) (reports : Reports) (place index : ℕ) → Facts machine → place < length machine.history.path
    → index < (block_at machine.job.plan (get_or machine.history.path place 0)).count
    → is_done machine reports (op_of machine.job.plan machine.history.path place index) place ≡ true → fault_at machine.job.plan machine.history (pair place index) ≡ None
done_no_fault machine reports place index facts below stands done =
    let own = names machine.job.plan (get_or machine.history.path place 0) index facts.ranges stands in
    ok_no_fault machine.job machine.history place index facts.explained below stands
    (λ p less. ap (λ (n : ℕ). is_ok (held machine.history place n p)) (sym own.index_is)
    ∙ (done_in machine reports (op_of machine.job.plan machine.history.path place index) place p less done).1)

-- ---- the front

before_front : (machine : Machine) (reports : Reports) (place : ℕ) → Facts machine → place < front machine reports → place < known machine reports
    → Nothing (fault_at machine.job.plan machine.history) machine.job.plan machine.history.path place
before_front machine reports place facts less below index stands =
    let own = names machine.job.plan (get_or machine.history.path place 0) index facts.ranges stands in
    done_no_fault machine reports place index facts (omega (arith, below, known_most machine reports)) stands
    (done_before machine reports place (op_of machine.job.plan machine.history.path place index) facts.ranges less below own.below own.block_is)

-- the fault of the front is the first one
front_first : (machine : Machine) (reports : Reports) (fault : ScriptFault) → Facts machine → front machine reports < known machine reports
    → fault_at machine.job.plan machine.history (pair (front machine reports) (front_index machine reports)) ≡ Some fault
    → IsFirst (fault_at machine.job.plan machine.history) machine.job.plan machine.history.path (front machine reports) (front_index machine reports) fault
front_first machine reports fault facts below found =
    let is = front_is machine reports facts.ranges below in
    record {
      stands = is.stands;
      places = λ earlier less. before_front machine reports earlier facts less (omega (arith, less, below));
      indexes = λ earlier less.
          done_no_fault machine reports (front machine reports) earlier facts is.entered (omega (arith, less, is.stands)) (is.lower earlier less);
      found = found;
    }

begins_stopped : (faults : List ScriptFault) (fault : ScriptFault) (ending : Ending) → Begins faults fault → first_or faults ending ≡ stopped fault
begins_stopped faults fault ending begins = ap (λ (found : List ScriptFault). first_or found ending) begins.is

front_ends : (machine : Machine) (reports : Reports) (fault : ScriptFault) → Facts machine → front machine reports < known machine reports
    → fault_at machine.job.plan machine.history (pair (front machine reports) (front_index machine reports)) ≡ Some fault → history_ending machine.job machine.history ≡ stopped fault
front_ends machine reports fault facts below found =
    let last = last_block machine.job.plan machine.history.path in
    begins_stopped (faults_of machine.job machine.history) fault (at_end machine.job machine.history last last.leave)
    (first_found (fault_at machine.job.plan machine.history) machine.job.plan machine.history.path (front machine reports) (front_index machine reports) fault
    (omega (arith, below, known_most machine reports)) (front_first machine reports fault facts below found))

-- ---- the end of the path

end_is : (machine : Machine) (block : PlanBlock) (leave : Leave) (ending : Ending) → known_end machine machine.history.path block leave ≡ Some ending
    → ending ≡ at_end machine.job machine.history block leave
end_is machine block (Jump next) ending is = absurd cc
end_is machine block End ending is = cc
end_is machine block (Branch on_true on_false) ending is =
    by_test (eqb (decisions_before machine.job.plan machine.history.path (length machine.history.path - 1)) machine.job.decisions) is
  where
    by_test : (test : Bool) → cond test (Some (at_end machine.job machine.history block (Branch on_true on_false))) None ≡ Some ending
        → ending ≡ at_end machine.job machine.history block (Branch on_true on_false)
    by_test true is = cc
    by_test false is = absurd cc

path_ends : (machine : Machine) (reports : Reports) (ending : Ending) → Runs machine → Facts machine → known machine reports ≤ front machine reports
    → known_end machine (take (known machine reports) machine.history.path) (last_block machine.job.plan (take (known machine reports) machine.history.path))
    (last_block machine.job.plan (take (known machine reports) machine.history.path)).leave ≡ Some ending
    → ending ≡ history_ending machine.job machine.history
path_ends machine reports ending runs facts done is =
    let plan = machine.job.plan in
    let path = machine.history.path in
    let all = all_known machine reports runs done in
    let whole : take (known machine reports) path ≡ path = take_all (known machine reports) path (omega (arith, all)) in
    let none : faults_of machine.job machine.history ≡ [] =
    nothing_found (fault_at plan machine.history) plan path (λ place below. before_front machine reports place facts (omega (arith, below, all, done)) (omega (arith, below, all))) in
    let last = last_block plan path in
    end_is machine last last.leave ending (subst (λ (some : List ℕ). known_end machine some (last_block plan some) (last_block plan some).leave ≡ Some ending) whole is)
    ∙ ap (λ (faults : List ScriptFault). first_or faults (at_end machine.job machine.history last last.leave)) (sym none)

-- ---- the ending

ending_by : (machine : Machine) (reports : Reports) (ending : Ending) → Runs machine → Facts machine
    → ended_by machine reports (known machine reports) (front machine reports) ≡ Some ending → ending ≡ history_ending machine.job machine.history
ending_by machine reports ending runs facts is =
    by_test (nat_lt (front machine reports) (known machine reports)) refl is
  where
    by_fault : (found : Option ScriptFault) → fault_at machine.job.plan machine.history (pair (front machine reports) (front_index machine reports)) ≡ found
        → front machine reports < known machine reports → option_map stopped found ≡ Some ending → ending ≡ history_ending machine.job machine.history
    by_fault None found below is = absurd cc
    by_fault (Some fault) found below is =
        let e : ending ≡ stopped fault = cc in
        e ∙ sym (front_ends machine reports fault facts below found)

    by_heard : (heard : Bool) → front machine reports < known machine reports
        → cond heard (option_map stopped (fault_at machine.job.plan machine.history (pair (front machine reports) (front_index machine reports)))) None ≡ Some ending
        → ending ≡ history_ending machine.job machine.history
    by_heard true below is = by_fault (fault_at machine.job.plan machine.history (pair (front machine reports) (front_index machine reports))) refl below is
    by_heard false below is = absurd cc

    by_test : (test : Bool) → nat_lt (front machine reports) (known machine reports) ≡ test
        → cond test
        (cond (list_all (reports (op_of machine.job.plan machine.history.path (front machine reports) (front_index machine reports)) (front machine reports)) (all_parts machine))
        (option_map stopped (fault_at machine.job.plan machine.history (pair (front machine reports) (front_index machine reports)))) None)
        (known_end machine (take (known machine reports) machine.history.path) (last_block machine.job.plan (take (known machine reports) machine.history.path))
        (last_block machine.job.plan (take (known machine reports) machine.history.path)).leave) ≡ Some ending
        → ending ≡ history_ending machine.job machine.history
    by_test true less is =
        by_heard (list_all (reports (op_of machine.job.plan machine.history.path (front machine reports) (front_index machine reports)) (front machine reports)) (all_parts machine))
        (ltb-true (front machine reports) (known machine reports) less) is
    by_test false less is = path_ends machine reports ending runs facts (ltb-false (front machine reports) (known machine reports) less) is

-- the ending of a run
pub ending_is : PartsExplained → (machine : Machine) (state : State) (ending : Ending) → Runs machine → ended machine state ≡ Some ending → ending ≡ history_ending machine.job (history_of machine.job)
ending_is rows machine state ending runs is =
    ending_by machine (heard_by machine state.heard) ending runs (record { explained = explained_is rows machine runs; ranges = runs.plan.ranges }) is
    ∙ ap (history_ending machine.job) runs.history
