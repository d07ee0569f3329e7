-- Where the front was heard from every partition, its operator has a fault.
use Rattle.std.proofs.Common.{◌≡◌, ◌∙◌, ◌<◌, ◌≤◌, ◌+◌, ℕ, zero, suc, List, [], ◌∷◌, length, map, get_or, ap, sym, subst, refl, arith, All, cond, Bool, true, false, Option, Some, None, inl, inr}
use Rattle.std.specs.Prelude.{◌&&◌, IsSome, option_and_then, option_map}
use Rattle.std.specs.List.{list_all, range_with_len}
use Rattle.std.specs.Option.{is_some}
use Rattle.std.proofs.lemmas.Bool.{and_cases, both_ways, cases_eq}
use Rattle.std.proofs.lemmas.List.Elements.{All-from_get_or, All-nil}
use Rattle.mit_rows.specs.Bags.{BagOf, bag_sum}
use Rattle.mit_ops.specs.Routes.{route_to}
use Rattle.mit_ops.specs.declared.kinds.OpSpec.{OpSpec}
use Rattle.mit_ops.specs.declared.kinds.OpSpec.TheVariants.{Copy}
use Rattle.mit_ops.specs.declared.routes.Route.TheVariants.{Forward}
use Rattle.mit_ops.specs.declared.types.VarType.{VarType}
use Rattle.mit_plan.specs.Chosen.{chosen, input_edges}
use Rattle.mit_plan.specs.Explained.{Explained}
use Rattle.mit_plan.specs.Held.{History, Job, Part, all_there, bag_in, failed, held, is_ok, ok, op_of, void}
use Rattle.mit_plan.specs.Meant.{fault_at, pair}
use Rattle.mit_plan.specs.Paths.{IsPath}
use Rattle.mit_plan.specs.Plans.{PlanOf, edge_at, edges_to, is_phi, op_at}
use Rattle.mit_plan.specs.Sums.{AreRouted, TakesBags, bag_at, bag_taken, bags_of}
use Rattle.mit_plan.specs.Types.{AreTypes, type_at}
use Rattle.mit_plan.specs.Valid.{InputsHaveEdges, IsValid, RoutesFit}
use Rattle.mit_plan.specs.Standing.{Names}
use Rattle.mit_machine.specs.Offers.{all_parts}
use Rattle.mit_machine.specs.Places.{Reports, is_done, makes}
use Rattle.mit_machine.specs.State.{Machine}
use Rattle.mit_machine.proofs.Choosing.{PathLaws, one_edge}
use Rattle.mit_machine.proofs.FrontInputs.{front_names, input_source, input_there, source_done}
use Rattle.mit_machine.proofs.Fronts.{IsFront, done_in}
use Rattle.mit_machine.proofs.Lists.{range_each, range_found}
use Rattle.mit_machine.proofs.Standing.{LeadsTo, edges_lead, input_is}

-- ---- answers that are there

-- where each of a range is there, all are
all_some : {A : Type 0} (f : ℕ → Option A) (from many : ℕ) → ((k : ℕ) → from ≤ k → k < from + many → (x : A) × (f k ≡ Some x)) → (xs : List A) × (all_there (map f (range_with_len from many)) ≡ Some xs)
unfolding all_there
all_some {A} f from zero each = ([], refl)
all_some {A} f from (suc many) each =
    let here = each from (omega arith) (omega arith) in
    let rest = all_some f (from + 1) many (λ k above below. each k (omega (arith, above)) (omega (arith, below))) in
    let e = here.1 in
    let later = rest.1 in
    (here.0 ∷ rest.0, cc)

-- where one isn't, not all are
not_all : {A : Type 0} (f : ℕ → Option A) (from many k : ℕ) → from ≤ k → k < from + many → f k ≡ None → all_there (map f (range_with_len from many)) ≡ None
unfolding all_there
not_all f from zero k above below none = absurd (omega (arith, above, below))
not_all {A} f from (suc many) k above below none =
    elim (cases_eq from k) [
      | inl here ↦ let e : f from ≡ None = ap f here ∙ none in cc
      | inr apart ↦ later (f from) (not_all f (from + 1) many k (omega (arith, above, apart)) (omega (arith, below)) none)
    ]
  where
    later : (first : Option A) → all_there (map f (range_with_len (from + 1) many)) ≡ None
        → option_and_then (λ one. option_map (λ more. one ∷ more) (all_there (map f (range_with_len (from + 1) many)))) first ≡ None
    later None rest = refl
    later (Some one) rest = cc

bag_of_ok : (part : Part) → is_ok part ≡ true → (bag : BagOf) × (bag_in part ≡ Some bag)
bag_of_ok (ok bag) is = (bag, refl)
bag_of_ok (failed fault) is = absurd cc
bag_of_ok void is = absurd cc

bag_of_fault : (part : Part) → is_ok part ≡ false → bag_in part ≡ None
bag_of_fault (ok bag) is = absurd cc
bag_of_fault (failed fault) is = refl
bag_of_fault void is = refl

-- what is done makes a bag
done_bag : (machine : Machine) (reports : Reports) (op place : ℕ) → is_done machine reports op place ≡ true
    → (bag : BagOf) × (bag_at machine.job machine.history place (op_at machine.job.plan op).index ≡ Some bag)
done_bag machine reports op place done =
    let all = all_some (λ part. bag_in (held machine.history place (op_at machine.job.plan op).index part)) 0 machine.job.partitions
    (λ part above below. bag_of_ok (held machine.history place (op_at machine.job.plan op).index part) (done_in machine reports op place part (omega (arith, below)) done).1) in
    (bag_sum all.0, ap (option_map bag_sum) all.1)

-- what isn't ok in a partition makes none
no_bag : (machine : Machine) (op place part : ℕ) → part < machine.job.partitions → makes machine op place part ≡ false
    → bag_at machine.job machine.history place (op_at machine.job.plan op).index ≡ None
no_bag machine op place part some faulty =
    ap (option_map bag_sum) (not_all (λ part. bag_in (held machine.history place (op_at machine.job.plan op).index part)) 0 machine.job.partitions part (omega arith) (omega (arith, some))
    (bag_of_fault (held machine.history place (op_at machine.job.plan op).index part) faulty))

-- ---- routes

-- how many columns comes by the edge of an input
abbrev columns_of : PlanOf → List VarType → ℕ → ℕ → ℕ
columns_of plan types op input = length (type_at types (edge_at plan (get_or (edges_to plan op) input 0)).from).cols

-- an edge of an operator that is no phi has the route that its kind wants
routed_plain : (plan : PlanOf) (types : List VarType) (op : ℕ) → AreTypes plan types → RoutesFit plan → InputsHaveEdges plan → op < length plan.ops → is_phi (op_at plan op) ≡ false
    → AreRouted plan op (columns_of plan types op)
routed_plain plan types op are routes inputs some plain input =
    subst (λ (lists : List (List ℕ)). All (λ edge. (edge_at plan edge).route ≡ route_to (op_at plan op).spec input (columns_of plan types op input)) (get_or lists input []))
    (sym (ap (λ (phi : Bool). cond phi (edges_to plan op ∷ []) (map (λ (edge : ℕ). edge ∷ []) (edges_to plan op))) plain))
    (one_edge (λ edge. (edge_at plan edge).route ≡ route_to (op_at plan op).spec input (columns_of plan types op input)) (edges_to plan op) input route_is)
  where
    route_is : input < length (edges_to plan op) → (edge_at plan (get_or (edges_to plan op) input 0)).route ≡ route_to (op_at plan op).spec input (columns_of plan types op input)
    route_is below =
        let edge = get_or (edges_to plan op) input 0 in
        let lead : LeadsTo plan op edge = edges_lead plan op input 0 below in
        routes types are edge lead.below
        ∙ ap (λ (one : ℕ). cond (is_phi (op_at plan one)) Forward (route_to (op_at plan one).spec (edge_at plan edge).input (columns_of plan types op input))) lead.to
        ∙ ap (λ (phi : Bool). cond phi Forward (route_to (op_at plan op).spec (edge_at plan edge).input (columns_of plan types op input))) plain
        ∙ ap (λ (one : ℕ). route_to (op_at plan op).spec one (columns_of plan types op input)) (input_is plan op input (inputs.each op some) below)

-- a phi's operands stay where they are, as its kind wants
routed_phi : (plan : PlanOf) (types : List VarType) (op : ℕ) → AreTypes plan types → RoutesFit plan → is_phi (op_at plan op) ≡ true → (op_at plan op).spec ≡ Copy → AreRouted plan op (λ input. 0)
routed_phi plan types op are routes phi copy input =
    subst (λ (lists : List (List ℕ)). All (λ edge. (edge_at plan edge).route ≡ route_to (op_at plan op).spec input 0) (get_or lists input []))
    (sym (ap (λ (phi : Bool). cond phi (edges_to plan op ∷ []) (map (λ (edge : ℕ). edge ∷ []) (edges_to plan op))) phi)) (by_input input)
  where
    by_input : (input : ℕ) → All (λ edge. (edge_at plan edge).route ≡ route_to (op_at plan op).spec input 0) (get_or (edges_to plan op ∷ []) input [])
    by_input zero = All-from_get_or (λ edge. (edge_at plan edge).route ≡ route_to (op_at plan op).spec 0 0) (edges_to plan op) 0 (λ k below.
        let edge = get_or (edges_to plan op) k 0 in
        let lead : LeadsTo plan op edge = edges_lead plan op k 0 below in
        routes types are edge lead.below
        ∙ ap (λ (one : ℕ). cond (is_phi (op_at plan one)) Forward (route_to (op_at plan one).spec (edge_at plan edge).input (length (type_at types (edge_at plan edge).from).cols))) lead.to
        ∙ ap (λ (one : Bool). cond one Forward (route_to (op_at plan op).spec (edge_at plan edge).input (length (type_at types (edge_at plan edge).from).cols))) phi
        ∙ ap (λ (spec : OpSpec). route_to spec 0 0) (sym copy))
    by_input (suc input) = All-nil (λ edge. (edge_at plan edge).route ≡ route_to (op_at plan op).spec (suc input) 0)

-- the inputs of an operator have so many columns, and their edges the routes for them
routed : (plan : PlanOf) (op : ℕ) → IsValid plan → op < length plan.ops → (columns : ℕ → ℕ) × AreRouted plan op columns
routed plan op valid some = by_kind (is_phi (op_at plan op)) refl
  where
    by_kind : (phi : Bool) → is_phi (op_at plan op) ≡ phi → (columns : ℕ → ℕ) × AreRouted plan op columns
    by_kind true phi = (λ input. 0, routed_phi plan valid.types.0 op valid.types.1 valid.routes phi (valid.phis op some phi))
    by_kind false plain = (columns_of plan valid.types.0 op, routed_plain plan valid.types.0 op valid.types.1 valid.routes valid.inputs some plain)

-- ---- the front's fault

-- the front's operator takes its bags
front_takes : PathLaws → (machine : Machine) (reports : Reports) (place index : ℕ) → IsValid machine.job.plan → IsPath machine.job.plan machine.history.path → IsFront machine reports place index
    → (columns : ℕ → ℕ) × (bags : List BagOf) × TakesBags machine.job machine.history place index columns bags
front_takes laws machine reports place index valid is_path front =
    let route = routed machine.job.plan (op_of machine.job.plan machine.history.path place index) valid own.below in
    (route.0, bags.0, record { below = front.entered; stands = front.stands; routed = route.1; stood = stood; takes = bags.1 })
  where
    own : Names machine.job.plan (get_or machine.history.path place 0) index
    own = front_names machine reports place index valid front

    taken : (input : ℕ) → input < length (input_edges machine.job.plan (op_of machine.job.plan machine.history.path place index))
        → (bag : BagOf) × (bag_taken machine.job machine.history (chosen machine.job.plan machine.history.path (op_of machine.job.plan machine.history.path place index) input place) ≡ Some bag)
    taken input below =
        let one = input_there machine reports place index input valid is_path front below in
        let source = input_source laws machine reports place index input one.0 valid front one.1 in
        let bag = done_bag machine reports (edge_at machine.job.plan one.0.edge).from one.0.place (source_done machine reports place index one.0 valid front source) in
        (bag.0, ap (bag_taken machine.job machine.history) one.1 ∙ bag.1)

    bags : (bags : List BagOf) × (bags_of machine.job machine.history (op_of machine.job.plan machine.history.path place index) place ≡ Some bags)
    bags = all_some (λ input. bag_taken machine.job machine.history (chosen machine.job.plan machine.history.path (op_of machine.job.plan machine.history.path place index) input place))
        0 (length (input_edges machine.job.plan (op_of machine.job.plan machine.history.path place index))) (λ input above below. taken input (omega (arith, below)))

    stood : (earlier : ℕ) → earlier < place → get_or machine.history.path earlier 0 ≡ get_or machine.history.path place 0 → IsSome (bag_at machine.job machine.history earlier index)
    stood earlier less same =
        let op = op_of machine.job.plan machine.history.path place index in
        let bag = done_bag machine reports op earlier (front.earlier earlier op less own.below (own.block_is ∙ sym same)) in
        ap (is_some {T = BagOf}) (ap (bag_at machine.job machine.history earlier) (sym own.index_is) ∙ bag.1)

-- where it was heard from every partition, it isn't ok in one
faulty_part : (machine : Machine) (reports : Reports) (op place : ℕ) → is_done machine reports op place ≡ false → list_all (reports op place) (all_parts machine) ≡ true
    → (part : ℕ) × (part < machine.job.partitions) × (makes machine op place part ≡ false)
faulty_part machine reports op place undone heard =
    let one = range_found (λ part. reports op place part && makes machine op place part) 0 machine.job.partitions undone in
    let came = range_each (reports op place) 0 machine.job.partitions one.0 heard one.1 one.2 in (
      one.0,
      omega (arith, one.2),
      elim (and_cases (reports op place one.0) (makes machine op place one.0) one.3) [
        | inl unheard ↦ absurd (both_ways (reports op place one.0) unheard came)
        | inr faulty ↦ faulty
      ],
    )

-- that a part which isn't ok is a fault
abbrev pub FaultLaw : Type 0
FaultLaw = (job : Job) (history : History) (place index : ℕ) (columns : ℕ → ℕ) (bags : List BagOf) → Explained job history → 0 < job.partitions → TakesBags job history place index columns bags
    → bag_at job history place index ≡ None → IsSome (fault_at job.plan history (pair place index))

pub front_fault : PathLaws → FaultLaw → (machine : Machine) (reports : Reports) (place index : ℕ) → IsValid machine.job.plan → IsPath machine.job.plan machine.history.path
    → Explained machine.job machine.history → 0 < machine.job.partitions → IsFront machine reports place index
    → list_all (reports (op_of machine.job.plan machine.history.path place index) place) (all_parts machine) ≡ true → IsSome (fault_at machine.job.plan machine.history (pair place index))
front_fault laws faulty machine reports place index valid is_path explained some front heard =
    let op = op_of machine.job.plan machine.history.path place index in
    let own = front_names machine reports place index valid front in
    let takes = front_takes laws machine reports place index valid is_path front in
    let part = faulty_part machine reports op place front.undone heard in
    faulty machine.job machine.history place index takes.0 takes.1 explained some takes.2
    (ap (bag_at machine.job machine.history place) (sym own.index_is) ∙ no_bag machine op place part.0 part.1 part.2)
