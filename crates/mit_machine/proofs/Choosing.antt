-- What an operator chooses at a place: there is something for each input, it comes from before, and it is sent.
use Rattle.std.proofs.Common.{◌≡◌, ◌∙◌, ◌<◌, ◌≤◌, ◌+◌, ℕ, zero, suc, List, [], ◌∷◌, ◌++◌, length, map, take, drop, get_or, ap, ap₂, sym, subst, refl, arith, eqb, eqb-true, cond, Bool, true, false, Option, Some, None, All, MatchBool, inl, inr}
use Rattle.std.specs.Prelude.{◌⊎◌, IsSome, ◌==◌, not}
use Rattle.std.specs.List.{filter, position_from}
use Rattle.std.specs.Option.{MatchOption, option_map}
use Rattle.std.proofs.lemmas.Bool.{cases_lt}
use Rattle.std.proofs.lemmas.List.{get_or-map, get_or-take, length-map, length-take, take-append-drop}
use Rattle.std.proofs.lemmas.List.Elements.{All-cons, All-nil}
use Rattle.std.proofs.lemmas.Option.{same_Some}
use Rattle.mit_path.specs.Choice.{chosen_operand}
use Rattle.mit_path.specs.Fate.{fate, is_among}
use Rattle.mit_path.specs.Last.{HasNone, IsLast}
use Rattle.mit_path.specs.declared.fate.Fate.TheVariants.{Send}
use Rattle.mit_plan.specs.Chosen.{Choice, choice_of, chosen, chosen_among, input_edges}
use Rattle.mit_plan.specs.Plans.{PlanOf, edge_at, edges_to, is_phi, op_at, source_block, target_block}
use Rattle.mit_plan.specs.Valid.{Chooses, EdgesGoUp, InputsHaveEdges, source_blocks}
use Rattle.mit_machine.specs.Channels.{fate_of, is_complete, siblings_of}
use Rattle.mit_machine.proofs.Lists.{any_of_filter}
use Rattle.mit_machine.proofs.Standing.{LeadsTo, edges_lead}

-- the laws of choice over blocks
pub record ChoiceLaws : Type 0 where
  pub input : (path operands : List ℕ) (at : ℕ) → MatchOption (chosen_operand path operands at false) (HasNone path operands (suc at)) (IsLast path operands (suc at))
  pub phi : (path operands : List ℕ) (at : ℕ) → MatchOption (chosen_operand path operands at true) (HasNone path operands at) (IsLast path operands at)

-- and those of longer paths and fates
pub record PathLaws : Type 0 where
  pub choices : ChoiceLaws
  pub longer : (path more operands : List ℕ) (at : ℕ) (phi : Bool) → at < length path → chosen_operand (path ++ more) operands at phi ≡ chosen_operand path operands at phi
  pub sent : (path operands siblings : List ℕ) (at operand place : ℕ) (phi complete : Bool) → at < length path
      → ((sibling : ℕ) → is_among siblings sibling ≡ true → is_among operands sibling ≡ true) → chosen_operand path operands at phi ≡ Some (operand, place)
      → fate path (get_or path place 0) place (get_or path at 0) siblings phi complete ≡ Send

-- ---- one choice

abbrev pub blocks_of : PlanOf → List ℕ → List ℕ
blocks_of plan edges = map (λ edge. source_block plan (edge_at plan edge)) edges

-- an operand of a block, by its number
operand_at : (operands : List ℕ) (block from operand : ℕ) → position_from (λ one. eqb block one) from operands ≡ Some operand
    → (k : ℕ) × (operand ≡ from + k) × (k < length operands) × (get_or operands k 0 ≡ block)
operand_at [] block from operand is = absurd cc
operand_at (one ∷ more) block from operand is = by_test (eqb block one) refl is (operand_at more block (from + 1) operand)
  where
    by_test : (b : Bool) → eqb block one ≡ b → cond b (Some from) (position_from (λ one. eqb block one) (from + 1) more) ≡ Some operand
        → (position_from (λ one. eqb block one) (from + 1) more ≡ Some operand → (k : ℕ) × (operand ≡ from + 1 + k) × (k < length more) × (get_or more k 0 ≡ block))
        → (k : ℕ) × (operand ≡ from + k) × (k < length (one ∷ more)) × (get_or (one ∷ more) k 0 ≡ block)
    by_test true same is rest = let e : from ≡ operand = same_Some from operand is in (0, omega (arith, e), omega arith, sym (eqb-true block one same))
    by_test false same is rest = let found = rest is in (suc found.0, omega (arith, found.1), omega (arith, found.2), found.3)

-- the bag of a place, over one of these edges, from the block there
pub record IsChosen (plan : PlanOf) (path edges : List ℕ) (phi : Bool) (at : ℕ) (choice : Choice) : Type 0 where
  pub operand : ℕ
  pub found : chosen_operand path (blocks_of plan edges) at phi ≡ Some (operand, choice.place)
  pub inside : operand < length edges
  pub edge : choice.edge ≡ get_or edges operand 0
  pub block : source_block plan (edge_at plan choice.edge) ≡ get_or path choice.place 0
  pub before : choice.place < cond phi at (suc at)

choice_last : ChoiceLaws → (path operands : List ℕ) (at : ℕ) (phi : Bool) → MatchOption (chosen_operand path operands at phi) (HasNone path operands (cond phi at (suc at))) (IsLast path operands (cond phi at (suc at)))
choice_last laws path operands at true = laws.phi path operands at
choice_last laws path operands at false = laws.input path operands at

chosen_by : (plan : PlanOf) (path edges : List ℕ) (phi : Bool) (at : ℕ) (choice : Choice) (found : Option (ℕ × ℕ)) → chosen_operand path (blocks_of plan edges) at phi ≡ found
    → MatchOption found (HasNone path (blocks_of plan edges) (cond phi at (suc at))) (IsLast path (blocks_of plan edges) (cond phi at (suc at)))
    → option_map (choice_of edges) found ≡ Some choice → IsChosen plan path edges phi at choice
chosen_by plan path edges phi at choice None found last is = absurd cc
chosen_by plan path edges phi at choice (Some one) found last is =
    let blocks = blocks_of plan edges in
    let some = operand_at blocks (get_or path one.1 0) 0 one.0 last.is in
    let number : one.0 ≡ some.0 = omega (arith, some.1) in
    let size = length-map edges (λ (edge : ℕ). source_block plan (edge_at plan edge)) in
    let inside : one.0 < length edges = omega (arith, number, some.2, size) in
    subst (λ (choice : Choice). IsChosen plan path edges phi at choice) (same_Some (choice_of edges one) choice is) (record {
      operand = one.0;
      found = found;
      inside = inside;
      edge = refl;
      block = sym (get_or-map (λ (edge : ℕ). source_block plan (edge_at plan edge)) edges one.0 0 0 inside) ∙ ap (λ (k : ℕ). get_or blocks k 0) number ∙ some.3;
      before = last.below;
    })

is_chosen : ChoiceLaws → (plan : PlanOf) (path edges : List ℕ) (phi : Bool) (at : ℕ) (choice : Choice) → chosen_among plan path edges phi at ≡ Some choice → IsChosen plan path edges phi at choice
is_chosen laws plan path edges phi at choice is =
    chosen_by plan path edges phi at choice (chosen_operand path (blocks_of plan edges) at phi) refl (choice_last laws path (blocks_of plan edges) at phi) is

-- ---- the edges of an input

abbrev edges_by : Bool → List ℕ → List (List ℕ)
edges_by phi edges = cond phi (edges ∷ []) (map (λ (edge : ℕ). edge ∷ []) edges)

-- the one edge of an input that is no phi's
pub one_edge : (P : ℕ → Type 0) (edges : List ℕ) (input : ℕ) → (input < length edges → P (get_or edges input 0)) → All P (get_or (map (λ (edge : ℕ). edge ∷ []) edges) input [])
one_edge P [] input holds = All-nil P
one_edge P (edge ∷ edges) zero holds = All-cons P edge [] (holds (omega arith)) (All-nil P)
one_edge P (edge ∷ edges) (suc input) holds = one_edge P edges input (λ below. holds (omega (arith, below)))

each_edge : (P : ℕ → Type 0) (phi : Bool) (edges : List ℕ) (input : ℕ) → All P edges → All P (get_or (edges_by phi edges) input [])
each_edge P true edges zero all = all
each_edge P true edges (suc input) all = All-nil P
each_edge P false edges input all = one_edge P edges input (all input 0)

-- a phi's operands are all its edges
phi_edges : (phi : Bool) (edges : List ℕ) (input : ℕ) → phi ≡ true → 0 < length (get_or (edges_by phi edges) input []) → get_or (edges_by phi edges) input [] ≡ edges
phi_edges true edges zero is some = refl
phi_edges true edges (suc input) is some = absurd (omega (arith, some))
phi_edges false edges input is some = absurd cc

map_twice : {A B C : Type 0} (f : B → C) (g : A → B) (xs : List A) → map f (map g xs) ≡ map (λ x. f (g x)) xs
map_twice f g [] = refl
map_twice f g (x ∷ xs) = ap (λ rest. f (g x) ∷ rest) (map_twice f g xs)

sources_are : (plan : PlanOf) (op : ℕ) → source_blocks plan op ≡ blocks_of plan (edges_to plan op)
sources_are plan op = map_twice (source_block plan) (edge_at plan) (edges_to plan op)

-- ---- there is something to choose

some_choice : (edges : List ℕ) (found : Option (ℕ × ℕ)) → IsSome found → (choice : Choice) × (option_map (choice_of edges) found ≡ Some choice)
some_choice edges None some = absurd cc
some_choice edges (Some one) some = (choice_of edges one, refl)

pub chosen_there : (plan : PlanOf) (path : List ℕ) (op input at : ℕ) → Chooses plan path at op → input < length (input_edges plan op) → (choice : Choice) × (chosen plan path op input at ≡ Some choice)
chosen_there plan path op input at chooses below = by_kind (is_phi (op_at plan op)) chooses below
  where
    by_kind : (phi : Bool) → MatchBool phi (IsSome (chosen_operand path (source_blocks plan op) at true)) (All (λ block. IsSome (chosen_operand path (block ∷ []) at false)) (source_blocks plan op))
        → input < length (edges_by phi (edges_to plan op)) → (choice : Choice) × (chosen_among plan path (get_or (edges_by phi (edges_to plan op)) input []) phi at ≡ Some choice)
    by_kind true some below =
        let z : 0 ≡ input = omega (arith, below) in
        subst (λ (n : ℕ). (choice : Choice) × (chosen_among plan path (get_or (edges_to plan op ∷ []) n []) true at ≡ Some choice)) z
        (some_choice (edges_to plan op) (chosen_operand path (blocks_of plan (edges_to plan op)) at true)
        (subst (λ (blocks : List ℕ). IsSome (chosen_operand path blocks at true)) (sources_are plan op) some))
    by_kind false all below =
        let edges = edges_to plan op in
        let size = length-map edges (λ (edge : ℕ). edge ∷ []) in
        let inside : input < length edges = omega (arith, below, size) in
        let many = length-map edges (λ (edge : ℕ). source_block plan (edge_at plan edge)) in
        let edge = get_or edges input 0 in
        let own : get_or (source_blocks plan op) input 0 ≡ source_block plan (edge_at plan edge) =
        ap (λ (blocks : List ℕ). get_or blocks input 0) (sources_are plan op) ∙ get_or-map (λ (edge : ℕ). source_block plan (edge_at plan edge)) edges input 0 0 inside in
        let length_is = ap length (sources_are plan op) in
        let some = all input 0 (omega (arith, inside, many, length_is)) in
        let one = some_choice (edge ∷ []) (chosen_operand path (source_block plan (edge_at plan edge) ∷ []) at false) (subst (λ (block : ℕ). IsSome (chosen_operand path (block ∷ []) at false)) own some) in
        (one.0, ap (λ (list : List ℕ). chosen_among plan path list false at) (get_or-map (λ (edge : ℕ). edge ∷ []) edges input 0 [] inside) ∙ one.1)

-- ---- it comes from before

-- an edge that leads to the operator, from one of the block of an earlier place, or from a lower index
pub record IsSource (plan : PlanOf) (path : List ℕ) (op at : ℕ) (choice : Choice) : Type 0 where
  pub lead : LeadsTo plan op choice.edge
  pub from : (edge_at plan choice.edge).from < length plan.ops
  pub block : (op_at plan (edge_at plan choice.edge).from).block ≡ get_or path choice.place 0
  pub before : (choice.place < at) ⊎ ((choice.place ≡ at) × ((op_at plan (edge_at plan choice.edge).from).index < (op_at plan op).index))

pub chosen_edges : ChoiceLaws → (plan : PlanOf) (path : List ℕ) (op input at : ℕ) (choice : Choice) → chosen plan path op input at ≡ Some choice
    → IsChosen plan path (get_or (input_edges plan op) input []) (is_phi (op_at plan op)) at choice
chosen_edges laws plan path op input at choice is = is_chosen laws plan path (get_or (input_edges plan op) input []) (is_phi (op_at plan op)) at choice is

chosen_leads : (plan : PlanOf) (path : List ℕ) (op input at : ℕ) (choice : Choice) → IsChosen plan path (get_or (input_edges plan op) input []) (is_phi (op_at plan op)) at choice → LeadsTo plan op choice.edge
chosen_leads plan path op input at choice one =
    subst (LeadsTo plan op) (sym one.edge) (each_edge (LeadsTo plan op) (is_phi (op_at plan op)) (edges_to plan op) input (edges_lead plan op) one.operand 0 one.inside)

pub chosen_source : PathLaws → (plan : PlanOf) (path : List ℕ) (op input at : ℕ) (choice : Choice) → InputsHaveEdges plan → EdgesGoUp plan → (op_at plan op).block ≡ get_or path at 0
    → chosen plan path op input at ≡ Some choice → IsSource plan path op at choice
chosen_source laws plan path op input at choice inputs upward own is =
    let one = chosen_edges laws.choices plan path op input at choice is in
    let lead = chosen_leads plan path op input at choice one in
    record { lead = lead; from = (inputs.name choice.edge lead.below).from; block = one.block; before = by_place one lead (is_phi (op_at plan op)) refl one.before (cases_lt choice.place at) }
  where
    by_place : IsChosen plan path (get_or (input_edges plan op) input []) (is_phi (op_at plan op)) at choice → LeadsTo plan op choice.edge
        → (phi : Bool) → is_phi (op_at plan op) ≡ phi → choice.place < cond phi at (suc at) → (choice.place < at) ⊎ (at ≤ choice.place)
        → (choice.place < at) ⊎ ((choice.place ≡ at) × ((op_at plan (edge_at plan choice.edge).from).index < (op_at plan op).index))
    by_place one lead phi kind before (inl less) = inl less
    by_place one lead true kind before (inr late) = absurd (omega (arith, before, late))
    by_place one lead false kind before (inr late) =
        let same : choice.place ≡ at = omega (arith, before, late) in
        let plain : is_phi (op_at plan (edge_at plan choice.edge).to) ≡ false = ap (λ (to : ℕ). is_phi (op_at plan to)) lead.to ∙ kind in
        let inside : (op_at plan (edge_at plan choice.edge).from).block ≡ (op_at plan (edge_at plan choice.edge).to).block =
        one.block ∙ ap (λ (place : ℕ). get_or path place 0) same ∙ sym own ∙ ap (λ (to : ℕ). (op_at plan to).block) (sym lead.to) in
        let less = upward choice.edge lead.below plain inside in
        let index : (op_at plan (edge_at plan choice.edge).to).index ≡ (op_at plan op).index = ap (λ (to : ℕ). (op_at plan to).index) lead.to in
        inr (same, omega (arith, less, index))

-- ---- it is sent

-- the siblings of an edge are among the blocks of its input's edges
pub siblings_within : (plan : PlanOf) (op input edge : ℕ) → (edge_at plan edge).to ≡ op → 0 < length (get_or (input_edges plan op) input [])
    → (sibling : ℕ) → is_among (siblings_of plan edge) sibling ≡ true → is_among (blocks_of plan (get_or (input_edges plan op) input [])) sibling ≡ true
siblings_within plan op input edge leads some sibling among =
    by_kind (is_phi (op_at plan op)) refl (subst (λ (to : ℕ). is_among (cond (is_phi (op_at plan to)) (filter (λ block. not (block == source_block plan (edge_at plan edge))) (source_blocks plan to)) []) sibling ≡ true) leads among)
  where
    by_kind : (phi : Bool) → is_phi (op_at plan op) ≡ phi
        → is_among (cond phi (filter (λ block. not (block == source_block plan (edge_at plan edge))) (source_blocks plan op)) []) sibling ≡ true
        → is_among (blocks_of plan (get_or (input_edges plan op) input [])) sibling ≡ true
    by_kind true kind among =
        ap (λ (edges : List ℕ). is_among (blocks_of plan edges) sibling) (phi_edges (is_phi (op_at plan op)) (edges_to plan op) input kind some)
        ∙ ap (λ (blocks : List ℕ). is_among blocks sibling) (sym (sources_are plan op))
        ∙ any_of_filter (λ other. sibling == other) (λ block. not (block == source_block plan (edge_at plan edge))) (source_blocks plan op) among
    by_kind false kind among = absurd cc

-- a view that has the place sends what the place chooses
pub chosen_sends : PathLaws → (plan : PlanOf) (path : List ℕ) (op input at seen : ℕ) (choice : Choice) → at < length path → at < seen → (op_at plan op).block ≡ get_or path at 0
    → chosen plan path op input at ≡ Some choice → fate_of plan (take seen path) choice.edge choice.place ≡ Send
chosen_sends laws plan path op input at seen choice below viewed own is =
    ap₂ (λ (source target : ℕ). fate view source choice.place target siblings (is_phi (op_at plan (edge_at plan choice.edge).to)) complete) source target
    ∙ ap (λ (to : ℕ). fate view (get_or view choice.place 0) choice.place (get_or view at 0) siblings (is_phi (op_at plan to)) complete) lead.to
    ∙ laws.sent view blocks siblings at one.operand choice.place (is_phi (op_at plan op)) complete has
    (siblings_within plan op input choice.edge lead.to (omega (arith, one.inside))) found
  where
    view : List ℕ
    view = take seen path

    siblings : List ℕ
    siblings = siblings_of plan choice.edge

    complete : Bool
    complete = is_complete plan (take seen path)

    blocks : List ℕ
    blocks = blocks_of plan (get_or (input_edges plan op) input [])

    one : IsChosen plan path (get_or (input_edges plan op) input []) (is_phi (op_at plan op)) at choice
    one = chosen_edges laws.choices plan path op input at choice is

    lead : LeadsTo plan op choice.edge
    lead = chosen_leads plan path op input at choice one

    has : at < length view
    has = let size = length-take seen path in omega (arith, size, below, viewed)

    found : chosen_operand view blocks at (is_phi (op_at plan op)) ≡ Some (one.operand, choice.place)
    found = sym (laws.longer view (drop seen path) blocks at (is_phi (op_at plan op)) has)
        ∙ ap (λ (whole : List ℕ). chosen_operand whole blocks at (is_phi (op_at plan op))) (take-append-drop seen path) ∙ one.found

    before : (phi : Bool) → choice.place < cond phi at (suc at) → choice.place < seen
    before true less = omega (arith, less, viewed)
    before false less = omega (arith, less, viewed)

    source : source_block plan (edge_at plan choice.edge) ≡ get_or view choice.place 0
    source = one.block ∙ sym (get_or-take seen path choice.place 0 (before (is_phi (op_at plan op)) one.before))

    target : target_block plan (edge_at plan choice.edge) ≡ get_or view at 0
    target = ap (λ (to : ℕ). (op_at plan to).block) lead.to ∙ own ∙ sym (get_or-take seen path at 0 viewed)
