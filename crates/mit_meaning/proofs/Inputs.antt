-- An operator takes the bags of its arguments, and a phi that of its variable.
use Rattle.std.proofs.Common.{◌≡◌, ◌∙◌, ◌<◌, ◌+◌, ℕ, zero, suc, List, [], ◌∷◌, length, map, get_or, ap, ap₂, sym, subst, refl, arith, All, Bool, true, false, cond, Option, Some, inl, ltb-true}
use Rattle.std.specs.Prelude.{IsSome}
use Rattle.std.specs.List.{range_with_len}
use Rattle.std.proofs.lemmas.List.{get_or-map, length-map}
use Rattle.std.proofs.lemmas.List.Elements.{All-cons, All-from_get_or, All-nil}
use Rattle.mit_rows.specs.Bags.{BagOf}
use Rattle.mit_cfg.specs.declared.block.Block.{Block as Code}
use Rattle.mit_cfg.specs.declared.block.Step.{Step}
use Rattle.mit_ops.specs.Kinds.{bag_inputs_of, captures_of}
use Rattle.mit_ops.specs.Routes.{route_to}
use Rattle.mit_ops.specs.declared.kinds.OpSpec.{OpSpec}
use Rattle.mit_ops.specs.declared.kinds.OpSpec.TheVariants.{Copy}
use Rattle.mit_ops.specs.declared.routes.Route.TheVariants.{Forward}
use Rattle.mit_ops.specs.declared.types.VarType.{VarType}
use Rattle.mit_plan.specs.Chosen.{chosen, chosen_among, input_edges}
use Rattle.mit_plan.specs.Held.{History, Job, all_there, op_of}
use Rattle.mit_plan.specs.Plans.{PlanOf, block_at, edge_at, edges_to, inputs_of, is_phi, no_edge, op_at, source_block}
use Rattle.mit_plan.specs.Sums.{AreRouted, TakesBags, bag_at, bag_taken}
use Rattle.mit_plan.specs.Types.{AreTypes, type_at}
use Rattle.mit_plan.specs.declared.plan.Edge.{Edge}
use Rattle.mit_plan.specs.Valid.{AreApart, EdgesGoUp, InputsHaveEdges, OperandsApart, RangesFollow, RoutesFit, inputs_wanted, source_blocks}
use Rattle.mit_script.specs.Execution.{Store}
use Rattle.mit_ssa.specs.Reaching.{IsPhi, IsStep, Reaching, reaching}
use Rattle.mit_meaning.proofs.Good.{Good, IsPair, Stands}
use Rattle.mit_meaning.proofs.LastDefinition.{Feeds, PathLaws, source_op, taken_is}
use Rattle.mit_meaning.proofs.Standing.{LeadsTo, Names, edges_lead, input_is, many_edges, names}

-- ---- lists

-- where each of a range is there, all are
all_given : {A : Type 0} (f : ℕ → Option A) (from : ℕ) (xs : List A) → ((k : ℕ) (d : A) → k < length xs → f (from + k) ≡ Some (get_or xs k d))
    → all_there (map f (range_with_len from (length xs))) ≡ Some xs
unfolding all_there
all_given f from [] each = refl
all_given f from (x ∷ xs) each =
    let z : from ≡ from + 0 = omega arith in
    let here = ap f z ∙ each 0 x (omega arith) in
    let rest = all_given f (from + 1) xs (λ k d below. let e : from + 1 + k ≡ from + suc k = omega arith in ap f e ∙ each (suc k) d (omega (arith, below))) in
    cc

map_twice : {A B C : Type 0} (f : B → C) (g : A → B) (xs : List A) → map f (map g xs) ≡ map (λ x. f (g x)) xs
map_twice f g [] = refl
map_twice f g (x ∷ xs) = ap (λ rest. f (g x) ∷ rest) (map_twice f g xs)

-- an edge for each input
all_one : (P : ℕ → Type 0) (edges : List ℕ) (input : ℕ) → (input < length edges → P (get_or edges input 0)) → All P (get_or (map (λ (edge : ℕ). edge ∷ []) edges) input [])
all_one P [] input holds = All-nil P
all_one P (edge ∷ edges) zero holds = All-cons P edge [] (holds (omega arith)) (All-nil P)
all_one P (edge ∷ edges) (suc input) holds = all_one P edges input (λ below. holds (omega (arith, below)))

-- ---- the edges of an operator

-- an edge of an operator, by its number among them, leads to it
leads : (plan : PlanOf) (op k : ℕ) → k < length (edges_to plan op) → LeadsTo plan op (get_or (edges_to plan op) k 0)
leads plan op k below = edges_lead plan op k 0 below

-- the inputs of an operator that is no phi have an edge each
edges_plain : (plan : PlanOf) (op : ℕ) → is_phi (op_at plan op) ≡ false → input_edges plan op ≡ map (λ (edge : ℕ). edge ∷ []) (edges_to plan op)
edges_plain plan op plain = ap (λ (phi : Bool). cond phi (edges_to plan op ∷ []) (map (λ (edge : ℕ). edge ∷ []) (edges_to plan op))) plain

-- a phi's operands are all the edges of one input
edges_phi : (plan : PlanOf) (op : ℕ) → is_phi (op_at plan op) ≡ true → input_edges plan op ≡ edges_to plan op ∷ []
edges_phi plan op phi = ap (λ (phi : Bool). cond phi (edges_to plan op ∷ []) (map (λ (edge : ℕ). edge ∷ []) (edges_to plan op))) phi

-- ---- routes

-- how many columns comes by the edge of an input
abbrev columns_of : PlanOf → List VarType → ℕ → ℕ → ℕ
columns_of plan types op input = length (type_at types (edge_at plan (get_or (edges_to plan op) input 0)).from).cols

-- an edge of an operator that is no phi has the route that its kind wants
routed_plain : (plan : PlanOf) (types : List VarType) (op : ℕ) → AreTypes plan types → RoutesFit plan → InputsHaveEdges plan → op < length plan.ops → is_phi (op_at plan op) ≡ false
    → AreRouted plan op (columns_of plan types op)
routed_plain plan types op are routes inputs some plain input =
    subst (λ (lists : List (List ℕ)). All (λ edge. (edge_at plan edge).route ≡ route_to (op_at plan op).spec input (columns_of plan types op input)) (get_or lists input []))
    (sym (edges_plain plan op plain))
    (all_one (λ edge. (edge_at plan edge).route ≡ route_to (op_at plan op).spec input (columns_of plan types op input)) (edges_to plan op) input route_is)
  where
    route_is : input < length (edges_to plan op) → (edge_at plan (get_or (edges_to plan op) input 0)).route ≡ route_to (op_at plan op).spec input (columns_of plan types op input)
    route_is below =
        let edge = get_or (edges_to plan op) input 0 in
        let lead = leads plan op input below in
        routes types are edge lead.below
        ∙ ap (λ (one : ℕ). cond (is_phi (op_at plan one)) Forward (route_to (op_at plan one).spec (edge_at plan edge).input (columns_of plan types op input))) lead.to
        ∙ ap (λ (phi : Bool). cond phi Forward (route_to (op_at plan op).spec (edge_at plan edge).input (columns_of plan types op input))) plain
        ∙ ap (λ (one : ℕ). route_to (op_at plan op).spec one (columns_of plan types op input)) (input_is plan op input (inputs.each op some) below)

-- a phi's operands stay where they are, as its kind wants
routed_phi : (plan : PlanOf) (types : List VarType) (op : ℕ) → AreTypes plan types → RoutesFit plan → is_phi (op_at plan op) ≡ true → (op_at plan op).spec ≡ Copy → AreRouted plan op (λ input. 0)
routed_phi plan types op are routes phi copy input =
    subst (λ (lists : List (List ℕ)). All (λ edge. (edge_at plan edge).route ≡ route_to (op_at plan op).spec input 0) (get_or lists input []))
    (sym (edges_phi plan op phi)) (by_input input)
  where
    by_input : (input : ℕ) → All (λ edge. (edge_at plan edge).route ≡ route_to (op_at plan op).spec input 0) (get_or (edges_to plan op ∷ []) input [])
    by_input zero = All-from_get_or (λ edge. (edge_at plan edge).route ≡ route_to (op_at plan op).spec 0 0) (edges_to plan op) 0 (λ k below.
        let edge = get_or (edges_to plan op) k 0 in
        let lead = leads plan op k below in
        routes types are edge lead.below
        ∙ ap (λ (one : ℕ). cond (is_phi (op_at plan one)) Forward (route_to (op_at plan one).spec (edge_at plan edge).input (length (type_at types (edge_at plan edge).from).cols))) lead.to
        ∙ ap (λ (one : Bool). cond one Forward (route_to (op_at plan op).spec (edge_at plan edge).input (length (type_at types (edge_at plan edge).from).cols))) phi
        ∙ ap (λ (spec : OpSpec). route_to spec 0 0) (sym copy))
    by_input (suc input) = All-nil (λ edge. (edge_at plan edge).route ≡ route_to (op_at plan op).spec (suc input) 0)

-- ---- earlier places of the block

-- an operator made its bag at each earlier place of its block
stood_earlier : (job : Job) (known : Reaching) (history : History) (place index : ℕ) (store : Store) → IsPair job.plan history.path place index → Good job known history place index store
    → (earlier : ℕ) → earlier < place → get_or history.path earlier 0 ≡ get_or history.path place 0 → IsSome (bag_at job history earlier index)
stood_earlier job known history place index store pair good earlier less same =
    let entered : earlier < length history.path = omega (arith, less, pair.0) in
    let stands : index < (block_at job.plan (get_or history.path earlier 0)).count = subst (λ (block : ℕ). index < (block_at job.plan block).count) (sym same) pair.1 in
    good.stood earlier index (entered, stands) (inl less)

-- ---- a step's operator

-- the only edge of an input comes from another block, or from a lower index
feeds_plain : (plan : PlanOf) (path : List ℕ) (place index edge : ℕ) → RangesFollow plan → InputsHaveEdges plan → EdgesGoUp plan → IsPair plan path place index
    → is_phi (op_at plan (op_of plan path place index)) ≡ false → LeadsTo plan (op_of plan path place index) edge → Feeds plan path place index (suc place) (edge ∷ [])
feeds_plain plan path place index edge ranges inputs upward pair plain lead = record {
  names = names_op;
  apart = λ one other less below. absurd (omega (arith, less, below));
  own = own;
  least = omega arith;
  most = omega arith;
}
  where
    names_op : (k : ℕ) → k < length (edge ∷ []) → source_op plan (edge ∷ []) k < length plan.ops
    names_op zero below = (inputs.name edge lead.below).from
    names_op (suc k) below = absurd (omega (arith, below))

    own : (k : ℕ) → k < length (edge ∷ []) → (op_at plan (source_op plan (edge ∷ []) k)).block ≡ get_or path place 0
        → (suc place ≡ suc place) × ((op_at plan (source_op plan (edge ∷ []) k)).index < index)
    own zero below same =
        let op = op_of plan path place index in
        let here = names plan (get_or path place 0) index ranges pair.1 in
        let no_phi : is_phi (op_at plan (edge_at plan edge).to) ≡ false = ap (λ (one : ℕ). is_phi (op_at plan one)) lead.to ∙ plain in
        let block_is : (op_at plan (edge_at plan edge).to).block ≡ get_or path place 0 = ap (λ (one : ℕ). (op_at plan one).block) lead.to ∙ here.block_is in
        let index_is : (op_at plan (edge_at plan edge).to).index ≡ index = ap (λ (one : ℕ). (op_at plan one).index) lead.to ∙ here.index_is in
        let higher = upward edge lead.below no_phi (same ∙ sym block_is) in
        (refl, omega (arith, higher, index_is))
    own (suc k) below same = absurd (omega (arith, below))

-- the operator that may have defined an argument last
takes_one : (plan : PlanOf) (known : Reaching) (block index : ℕ) (step : Step) (k : ℕ) → IsStep plan known block index step → k < length step.args
    → (k < length (edges_to plan ((block_at plan block).first + index)))
    × (reaching plan known block index (get_or step.args k 0) ≡ source_op plan (edges_to plan ((block_at plan block).first + index)) k ∷ [])
takes_one plan known block index step k is below =
    let op = (block_at plan block).first + index in
    let many = sym (length-map step.args (reaching plan known block index)) ∙ ap length is.takes ∙ length-map (inputs_of plan op) (λ (edge : Edge). edge.from ∷ []) in
    let size = length-map (edges_to plan op) (edge_at plan) in
    let within : k < length (edges_to plan op) = omega (arith, many, size, below) in
    let inside : k < length (inputs_of plan op) = omega (arith, many, below) in (
      within,
      sym (get_or-map (reaching plan known block index) step.args k 0 [] below)
          ∙ ap (λ (lists : List (List ℕ)). get_or lists k []) is.takes
          ∙ get_or-map (λ (edge : Edge). edge.from ∷ []) (inputs_of plan op) k no_edge [] inside
          ∙ ap (λ (edge : Edge). edge.from ∷ []) (get_or-map (edge_at plan) (edges_to plan op) k 0 no_edge within),
    )

-- each argument's bag is taken
argument_taken : PathLaws → (job : Job) (code : List Code) (known : Reaching) → Stands job code known → (history : History) (place index : ℕ) (store : Store) (step : Step) (k : ℕ)
    → IsPair job.plan history.path place index → IsStep job.plan known (get_or history.path place 0) index step → Good job known history place index store → k < length step.args
    → bag_taken job history (chosen job.plan history.path (op_of job.plan history.path place index) k place) ≡ Some (store (get_or step.args k 0))
argument_taken paths job code known stands history place index store step k pair is good below =
    let op = op_of job.plan history.path place index in
    let block = get_or history.path place 0 in
    let variable = get_or step.args k 0 in
    let one = takes_one job.plan known block index step k is below in
    let edge = get_or (edges_to job.plan op) k 0 in
    let feeds = feeds_plain job.plan history.path place index edge stands.ranges stands.inputs stands.upward pair is.plain (leads job.plan op k one.0) in
    let some : 0 < length (reaching job.plan known block index variable) = subst (λ (ops : List ℕ). 0 < length ops) (sym one.1) (omega arith) in
    let edges_are : get_or (input_edges job.plan op) k [] ≡ edge ∷ [] =
    ap (λ (lists : List (List ℕ)). get_or lists k []) (edges_plain job.plan op is.plain) ∙ get_or-map (λ (edge : ℕ). edge ∷ []) (edges_to job.plan op) k 0 [] one.0 in
    ap₂ (λ (edges : List ℕ) (phi : Bool). bag_taken job history (chosen_among job.plan history.path edges phi place)) edges_are is.plain
    ∙ taken_is paths job known history place index store variable (edge ∷ []) false stands.ranges pair.0 feeds (stands.reaches.defined block variable) one.1 (good.holds variable some)

-- a step's operator takes the bags of its arguments
pub step_takes : PathLaws → (job : Job) (code : List Code) (known : Reaching) → Stands job code known → (history : History) (place index : ℕ) (store : Store) (step : Step)
    → IsPair job.plan history.path place index → IsStep job.plan known (get_or history.path place 0) index step → Good job known history place index store
    → (columns : ℕ → ℕ) × TakesBags job history place index columns (map store step.args)
step_takes paths job code known stands history place index store step pair is good =
    let op = op_of job.plan history.path place index in
    let types = stands.types in
    let here = names job.plan (get_or history.path place 0) index stands.ranges pair.1 in (
      columns_of job.plan types.0 op,
      record {
        below = pair.0;
        stands = pair.1;
        routed = routed_plain job.plan types.0 op types.1 stands.routes stands.inputs here.below is.plain;
        stood = stood_earlier job known history place index store pair good;
        takes = ap (λ (many : ℕ). all_there (map (λ input. bag_taken job history (chosen job.plan history.path op input place)) (range_with_len 0 many))) many
            ∙ all_given (λ input. bag_taken job history (chosen job.plan history.path op input place)) 0 (map store step.args) each;
      },
    )
  where
    many : length (input_edges job.plan (op_of job.plan history.path place index)) ≡ length (map store step.args)
    many =
        let op = op_of job.plan history.path place index in
        ap length (edges_plain job.plan op is.plain) ∙ length-map (edges_to job.plan op) (λ (edge : ℕ). edge ∷ [])
        ∙ sym (length-map (edges_to job.plan op) (edge_at job.plan)) ∙ sym (length-map (inputs_of job.plan op) (λ (edge : Edge). edge.from ∷ []))
        ∙ ap length (sym is.takes) ∙ length-map step.args (reaching job.plan known (get_or history.path place 0) index) ∙ sym (length-map step.args store)

    each : (k : ℕ) (d : BagOf) → k < length (map store step.args)
        → bag_taken job history (chosen job.plan history.path (op_of job.plan history.path place index) (0 + k) place) ≡ Some (get_or (map store step.args) k d)
    each k d below =
        let size = length-map step.args store in
        let within : k < length step.args = omega (arith, size, below) in
        let z : 0 + k ≡ k = omega arith in
        ap (λ (input : ℕ). bag_taken job history (chosen job.plan history.path (op_of job.plan history.path place index) input place)) z
        ∙ argument_taken paths job code known stands history place index store step k pair is good within
        ∙ ap (λ (bag : BagOf). Some bag) (sym (get_or-map store step.args k 0 d within))

-- ---- a phi

-- the block of an operand, by its number
operand_block : (plan : PlanOf) (op k : ℕ) → k < length (edges_to plan op) → get_or (source_blocks plan op) k 0 ≡ (op_at plan (source_op plan (edges_to plan op) k)).block
operand_block plan op k below =
    let size = length-map (edges_to plan op) (edge_at plan) in
    let inside : k < length (inputs_of plan op) = omega (arith, size, below) in
    get_or-map (source_block plan) (inputs_of plan op) k no_edge 0 inside
    ∙ ap (source_block plan) (get_or-map (edge_at plan) (edges_to plan op) k 0 no_edge below)

-- the operands come from distinct blocks, and none from the phi's own
feeds_phi : (plan : PlanOf) (path : List ℕ) (place index : ℕ) → RangesFollow plan → InputsHaveEdges plan → OperandsApart plan → IsPair plan path place index
    → is_phi (op_at plan (op_of plan path place index)) ≡ true → Feeds plan path place index place (edges_to plan (op_of plan path place index))
feeds_phi plan path place index ranges inputs operands pair phi = record {
  names = λ k below. (inputs.name (get_or (edges_to plan op) k 0) (leads plan op k below).below).from;
  apart = λ one other less below same. apart.distinct one other less (omega (arith, size, below))
      (operand_block plan op one (omega (arith, less, below)) ∙ same ∙ sym (operand_block plan op other below));
  own = λ k below same. absurd (apart.others k (omega (arith, size, below)) (operand_block plan op k below ∙ same ∙ sym here.block_is));
  least = omega arith;
  most = omega arith;
}
  where
    op : ℕ
    op = op_of plan path place index

    here : Names plan (get_or path place 0) index
    here = names plan (get_or path place 0) index ranges pair.1

    apart : AreApart (source_blocks plan (op_of plan path place index)) (op_at plan (op_of plan path place index)).block
    apart = operands (op_of plan path place index) here.below phi

    size : length (source_blocks plan (op_of plan path place index)) ≡ length (edges_to plan (op_of plan path place index))
    size = length-map (inputs_of plan (op_of plan path place index)) (source_block plan) ∙ length-map (edges_to plan (op_of plan path place index)) (edge_at plan)

-- a phi has operands
some_edge : (plan : PlanOf) (op : ℕ) → InputsHaveEdges plan → op < length plan.ops → is_phi (op_at plan op) ≡ true → 0 < length (edges_to plan op)
some_edge plan op inputs some phi =
    let wanted : inputs_wanted (op_at plan op) ≡ (op_at plan op).phi =
    ap (λ (one : Bool). cond one (op_at plan op).phi (bag_inputs_of (op_at plan op).spec + captures_of (op_at plan op).spec)) phi in
    let operands = ltb-true 0 (op_at plan op).phi phi in
    let many = many_edges plan op (inputs.each op some) in
    omega (arith, wanted, operands, many)

-- the variable's bag is taken
variable_taken : PathLaws → (job : Job) (code : List Code) (known : Reaching) → Stands job code known → (history : History) (place index : ℕ) (store : Store)
    → IsPair job.plan history.path place index → (is : IsPhi job.plan known (get_or history.path place 0) index) → Good job known history place index store
    → bag_taken job history (chosen job.plan history.path (op_of job.plan history.path place index) 0 place) ≡ Some (store is.variable)
variable_taken paths job code known stands history place index store pair is good =
    let op = op_of job.plan history.path place index in
    let block = get_or history.path place 0 in
    let edges = edges_to job.plan op in
    let here = names job.plan block index stands.ranges pair.1 in
    let feeds = feeds_phi job.plan history.path place index stands.ranges stands.inputs stands.operands pair is.phi in
    let takes = sym is.takes ∙ map_twice (λ (edge : Edge). edge.from) (edge_at job.plan) edges in
    let size = length-map edges (λ edge. (edge_at job.plan edge).from) in
    let edge = some_edge job.plan op stands.inputs here.below is.phi in
    let some : 0 < length (reaching job.plan known block index is.variable) = subst (λ (ops : List ℕ). 0 < length ops) (sym takes) (omega (arith, size, edge)) in
    let edges_are : get_or (input_edges job.plan op) 0 [] ≡ edges = ap (λ (lists : List (List ℕ)). get_or lists 0 []) (edges_phi job.plan op is.phi) in
    ap₂ (λ (edges : List ℕ) (phi : Bool). bag_taken job history (chosen_among job.plan history.path edges phi place)) edges_are is.phi
    ∙ taken_is paths job known history place index store is.variable edges true stands.ranges pair.0 feeds (stands.reaches.defined block is.variable) takes (good.holds is.variable some)

-- a phi takes the bag of its variable
pub phi_takes : PathLaws → (job : Job) (code : List Code) (known : Reaching) → Stands job code known → (history : History) (place index : ℕ) (store : Store)
    → IsPair job.plan history.path place index → (is : IsPhi job.plan known (get_or history.path place 0) index) → Good job known history place index store
    → (columns : ℕ → ℕ) × TakesBags job history place index columns (store is.variable ∷ [])
phi_takes paths job code known stands history place index store pair is good =
    let op = op_of job.plan history.path place index in
    let types = stands.types in (
      λ input. 0,
      record {
        below = pair.0;
        stands = pair.1;
        routed = routed_phi job.plan types.0 op types.1 stands.routes is.phi is.spec;
        stood = stood_earlier job known history place index store pair good;
        takes = ap (λ (many : ℕ). all_there (map (λ input. bag_taken job history (chosen job.plan history.path op input place)) (range_with_len 0 many))) (ap length (edges_phi job.plan op is.phi))
            ∙ all_given (λ input. bag_taken job history (chosen job.plan history.path op input place)) 0 (store is.variable ∷ []) each;
      },
    )
  where
    each : (k : ℕ) (d : BagOf) → k < length (store is.variable ∷ [])
        → bag_taken job history (chosen job.plan history.path (op_of job.plan history.path place index) (0 + k) place) ≡ Some (get_or (store is.variable ∷ []) k d)
    each zero d below = variable_taken paths job code known stands history place index store pair is good
    each (suc k) d below = absurd (omega (arith, below))
