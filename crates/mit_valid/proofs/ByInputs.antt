-- What holds of an operator when it holds of those that it takes from, of one of them for a phi, holds of every operator of a plan with paths and places to choose.
use Rattle.std.proofs.Common.{◌≡◌, ◌∙◌, ◌<◌, ◌≤◌, ◌+◌, ◌-◌, ℕ, zero, suc, List, [], ◌∷◌, length, map, get_or, ap, sym, subst, refl, arith, eqb, eqb-true, cond, Bool, true, false, Option, Some, None, IsSome, All, inl, inr}
use Rattle.std.specs.Prelude.{◌⊎◌, slice_index}
use Rattle.std.specs.List.{position_from}
use Rattle.std.specs.Option.{MatchOption}
use Rattle.std.proofs.lemmas.Bool.{MatchBool-at_false, MatchBool-at_true, cases_lt}
use Rattle.std.proofs.lemmas.List.{get_or-map, length-map}
use Rattle.std.proofs.lemmas.List.Elements.{All-from_get_or, All-map}
use Rattle.mit_path.specs.Choice.{chosen_operand, operand_of}
use Rattle.mit_path.specs.Last.{HasNone, IsLast}
use Rattle.mit_plan.specs.Paths.{IsPath}
use Rattle.mit_plan.specs.Plans.{EachOp, PlanOf, edge_at, edges_to, inputs_of, is_phi, no_edge, op_at, source_block}
use Rattle.mit_plan.specs.Valid.{Chooses, IsReached, source_blocks}
use Rattle.mit_plan.specs.declared.plan.Edge.{Edge}
use Rattle.mit_plan.specs.Standing.{all_where}
use Rattle.mit_valid.specs.Deciding.{ListsStand, PathsStand}

-- the laws of the last place, of inputs and of phis
pub record PlaceLaws : Type 0 where
  pub input : (path operands : List ℕ) (at : ℕ) → MatchOption (chosen_operand path operands at false) (HasNone path operands (suc at)) (IsLast path operands (suc at))
  pub phi : (path operands : List ℕ) (at : ℕ) → MatchOption (chosen_operand path operands at true) (HasNone path operands at) (IsLast path operands at)

-- something holds of an operator when it holds of those that it takes from, of one of them for a phi
pub record Carries (plan : PlanOf) (P : ℕ → Type 0) : Type 0 where
  pub plain : (op : ℕ) → op < length plan.ops → is_phi (op_at plan op) ≡ false → All (λ (edge : Edge). P edge.from) (inputs_of plan op) → P op
  pub phi : (op : ℕ) → op < length plan.ops → is_phi (op_at plan op) ≡ true → (k : ℕ) → k < length (inputs_of plan op) → P (get_or (inputs_of plan op) k no_edge).from → P op

-- an edge to an operator comes from an operator, in the same block from a lower index unless it leads to a phi
pub record IsInput (plan : PlanOf) (op : ℕ) (edge : Edge) : Type 0 where
  pub some : edge.from < length plan.ops
  pub up : is_phi (op_at plan op) ≡ false → source_block plan edge ≡ (op_at plan op).block → (op_at plan edge.from).index < (op_at plan op).index

pub edges_lead : (plan : PlanOf) → ListsStand plan → (op : ℕ) → All (IsInput plan op) (inputs_of plan op)
edges_lead plan stand op =
    All-map (IsInput plan op) (edge_at plan) (edges_to plan op)
    (all_where (λ (edge : Edge). eqb edge.to op) (λ (number : ℕ). IsInput plan op (edge_at plan number)) 0 plan.edges (λ k below pass.
    let z : k ≡ 0 + k = omega arith in
    let to : (edge_at plan k).to ≡ op = eqb-true (edge_at plan k).to op (pass no_edge) in
    let leads : IsInput plan op (edge_at plan k) = record {
      some = (stand.inputs.name k below).from;
      up = λ plain same.
          subst (λ (target : ℕ). (op_at plan (edge_at plan k).from).index < (op_at plan target).index) to
          (stand.upward k below (ap (λ (target : ℕ). is_phi (op_at plan target)) to ∙ plain) (same ∙ ap (λ (target : ℕ). (op_at plan target).block) (sym to)));
    } in
    subst (λ (n : ℕ). IsInput plan op (edge_at plan n)) z leads))

-- ---- the operand of a block

record HasBlock (blocks : List ℕ) (block k : ℕ) : Type 0 where
  below : k < length blocks
  is : get_or blocks k 0 ≡ block

place_by : (one : ℕ) (blocks : List ℕ) (block from : ℕ) (operand : ℕ) (later : Option ℕ) (same : Bool) → eqb block one ≡ same
    → (later ≡ Some operand → (k : ℕ) × (operand ≡ from + 1 + k) × HasBlock blocks block k) → cond same (Some from) later ≡ Some operand
    → (k : ℕ) × (operand ≡ from + k) × HasBlock (one ∷ blocks) block k
place_by one blocks block from operand later true is rest found =
    let e : from ≡ operand = cc in
    (0, omega (arith, e), record { below = omega arith; is = sym (eqb-true block one is) })
place_by one blocks block from operand later false is rest found =
    let more = rest found in
    let below = more.2.below in
    (suc more.0, omega (arith, more.1), record { below = omega (arith, below); is = more.2.is })

place_of_block : (blocks : List ℕ) (block from operand : ℕ) → position_from (λ one. eqb block one) from blocks ≡ Some operand → (k : ℕ) × (operand ≡ from + k) × HasBlock blocks block k
place_of_block [] block from operand found = absurd cc
place_of_block (one ∷ blocks) block from operand found =
    place_by one blocks block from operand (position_from (λ one. eqb block one) (from + 1) blocks) (eqb block one) refl (place_of_block blocks block (from + 1) operand) found

-- the block of a chosen operand is that of one of the edges
record ComesFrom (plan : PlanOf) (edges : List Edge) (block : ℕ) : Type 0 where
  k : ℕ
  below : k < length edges
  is : source_block plan (get_or edges k no_edge) ≡ block

comes_from : (plan : PlanOf) (edges : List Edge) (block operand : ℕ) → operand_of (map (source_block plan) edges) block ≡ Some operand → ComesFrom plan edges block
comes_from plan edges block operand found =
    let at = place_of_block (map (source_block plan) edges) block 0 operand found in
    let below : at.0 < length edges = omega (arith, at.2.below, length-map edges (source_block plan)) in
    record { k = at.0; below = below; is = sym (get_or-map (source_block plan) edges at.0 no_edge 0 below) ∙ at.2.is }

-- ---- the induction, over the places of a path and the indices of a place

-- something holds of each operator of the blocks of earlier places
abbrev HoldsBefore : PlanOf → (ℕ → Type 0) → List ℕ → ℕ → Type 0
HoldsBefore plan P path place = (before : ℕ) → before < place → (op : ℕ) → op < length plan.ops → (op_at plan op).block ≡ slice_index path before → P op

-- the same of each operator of a place's block that stands below an index
abbrev HoldsBelow : PlanOf → (ℕ → Type 0) → List ℕ → ℕ → ℕ → Type 0
HoldsBelow plan P path place index = (op : ℕ) → op < length plan.ops → (op_at plan op).block ≡ slice_index path place → (op_at plan op).index < index → P op

-- a phi: one operand is of the block of an earlier place
phi_holds : (plan : PlanOf) (P : ℕ → Type 0) (path : List ℕ) (place op : ℕ) → Carries plan P → op < length plan.ops → is_phi (op_at plan op) ≡ true → HoldsBefore plan P path place → All (IsInput plan op) (inputs_of plan op)
    → (found : Option (ℕ × ℕ)) → MatchOption found (HasNone path (source_blocks plan op) place) (IsLast path (source_blocks plan op) place) → IsSome found → P op
phi_holds plan P path place op carries below phi before leads None last some = absurd cc
phi_holds plan P path place op carries below phi before leads (Some choice) last some =
    let taken = comes_from plan (inputs_of plan op) (slice_index path choice.1) choice.0 last.is in
    carries.phi op below phi taken.k taken.below
    (before choice.1 last.below (get_or (inputs_of plan op) taken.k no_edge).from (leads taken.k no_edge taken.below).some taken.is)

own_block : (own block operand : ℕ) (same : Bool) → eqb block own ≡ same → cond same (Some 0) None ≡ Some operand → own ≡ block
own_block own block operand true is found = sym (eqb-true block own is)
own_block own block operand false is found = absurd cc

-- an input of another operator is of the block of an earlier place, or of a lower index of the same block
input_by : (plan : PlanOf) (P : ℕ → Type 0) (path : List ℕ) (place op : ℕ) (edge : Edge) (at : ℕ) → is_phi (op_at plan op) ≡ false → (op_at plan op).block ≡ slice_index path place
    → HoldsBefore plan P path place → HoldsBelow plan P path place (op_at plan op).index → IsInput plan op edge → at ≤ place → source_block plan edge ≡ slice_index path at
    → (at < place) ⊎ (place ≤ at) → P edge.from
input_by plan P path place op edge at plain here before below leads within is (inl less) = before at less edge.from leads.some is
input_by plan P path place op edge at plain here before below leads within is (inr same) =
    let e : at ≡ place = omega (arith, within, same) in
    let source : source_block plan edge ≡ slice_index path place = is ∙ ap (slice_index path) e in
    below edge.from leads.some source (leads.up plain (source ∙ sym here))

input_holds : (plan : PlanOf) (P : ℕ → Type 0) (path : List ℕ) (place op : ℕ) (edge : Edge) → is_phi (op_at plan op) ≡ false → (op_at plan op).block ≡ slice_index path place
    → HoldsBefore plan P path place → HoldsBelow plan P path place (op_at plan op).index → IsInput plan op edge
    → (found : Option (ℕ × ℕ)) → MatchOption found (HasNone path (source_block plan edge ∷ []) (suc place)) (IsLast path (source_block plan edge ∷ []) (suc place)) → IsSome found → P edge.from
input_holds plan P path place op edge plain here before below leads None last some = absurd cc
input_holds plan P path place op edge plain here before below leads (Some choice) last some =
    input_by plan P path place op edge choice.1 plain here before below leads (omega (arith, last.below))
    (own_block (source_block plan edge) (slice_index path choice.1) choice.0 (eqb (slice_index path choice.1) (source_block plan edge)) refl last.is)
    (cases_lt choice.1 place)

op_holds : PlaceLaws → (plan : PlanOf) (P : ℕ → Type 0) (path : List ℕ) (place op : ℕ) → ListsStand plan → Carries plan P → op < length plan.ops → (op_at plan op).block ≡ slice_index path place
    → HoldsBefore plan P path place → HoldsBelow plan P path place (op_at plan op).index → Chooses plan path place op → (phi : Bool) → is_phi (op_at plan op) ≡ phi → P op
op_holds laws plan P path place op stand carries some here before below chooses true is =
    phi_holds plan P path place op carries some is before (edges_lead plan stand op) (chosen_operand path (source_blocks plan op) place true) (laws.phi path (source_blocks plan op) place)
    (MatchBool-at_true (IsSome (chosen_operand path (source_blocks plan op) place true)) (All (λ block. IsSome (chosen_operand path (block ∷ []) place false)) (source_blocks plan op)) is chooses)
op_holds laws plan P path place op stand carries some here before below chooses false is =
    let inputs = inputs_of plan op in
    let each = MatchBool-at_false (IsSome (chosen_operand path (source_blocks plan op) place true)) (All (λ block. IsSome (chosen_operand path (block ∷ []) place false)) (source_blocks plan op)) is chooses in
    carries.plain op some is (All-from_get_or (λ (edge : Edge). P edge.from) inputs no_edge (λ k less.
    let edge = get_or inputs k no_edge in
    let e = length-map inputs (source_block plan) in
    let chose : IsSome (chosen_operand path (source_block plan edge ∷ []) place false) =
    subst (λ (block : ℕ). IsSome (chosen_operand path (block ∷ []) place false)) (get_or-map (source_block plan) inputs k no_edge 0 less) (each k 0 (omega (arith, e, less))) in
    input_holds plan P path place op edge is here before below (edges_lead plan stand op k no_edge less) (chosen_operand path (source_block plan edge ∷ []) place false) (laws.input path (source_block plan edge ∷ []) place) chose))

-- by the index
holds_below : PlaceLaws → (plan : PlanOf) (P : ℕ → Type 0) (path : List ℕ) (place : ℕ) → ListsStand plan → PathsStand plan → Carries plan P → IsPath plan path → place < length path
    → HoldsBefore plan P path place → (index : ℕ) → HoldsBelow plan P path place index
holds_below laws plan P path place stand paths carries path_is within before zero = λ op some here less. absurd (omega (arith, less))
holds_below laws plan P path place stand paths carries path_is within before (suc index) = λ op some here less.
    op_holds laws plan P path place op stand carries some here before
    (λ from known there lower. holds_below laws plan P path place stand paths carries path_is within before index from known there (omega (arith, lower, less)))
    (paths.places path path_is place within op some here) (is_phi (op_at plan op)) refl

-- by the place
place_more : (plan : PlanOf) (P : ℕ → Type 0) (path : List ℕ) (place : ℕ) → HoldsBefore plan P path place → ((index : ℕ) → HoldsBelow plan P path place index)
    → (before : ℕ) → before < suc place → (op : ℕ) → op < length plan.ops → (op_at plan op).block ≡ slice_index path before → (before < place) ⊎ (place ≤ before) → P op
place_more plan P path place earlier own before less op some here (inl lower) = earlier before lower op some here
place_more plan P path place earlier own before less op some here (inr same) =
    let e : before ≡ place = omega (arith, less, same) in
    own (suc (op_at plan op).index) op some (here ∙ ap (slice_index path) e) (omega arith)

holds_before : PlaceLaws → (plan : PlanOf) (P : ℕ → Type 0) (path : List ℕ) (place : ℕ) → ListsStand plan → PathsStand plan → Carries plan P → IsPath plan path → place ≤ length path → HoldsBefore plan P path place
holds_before laws plan P path zero stand paths carries path_is within = λ before less op some here. absurd (omega (arith, less))
holds_before laws plan P path (suc place) stand paths carries path_is within =
    let earlier : HoldsBefore plan P path place = holds_before laws plan P path place stand paths carries path_is (omega (arith, within)) in
    λ before less op some here.
    place_more plan P path place earlier (holds_below laws plan P path place stand paths carries path_is (omega (arith, within)) earlier) before less op some here (cases_lt before place)

pub holds_of_each : PlaceLaws → (plan : PlanOf) (P : ℕ → Type 0) → ListsStand plan → PathsStand plan → Carries plan P → EachOp plan P
holds_of_each laws plan P stand paths carries op some =
    let reached : IsReached plan (op_at plan op).block = paths.reached (op_at plan op).block (stand.ranges.each op some).block in
    holds_before laws plan P reached.path (length reached.path) stand paths carries reached.is_path (omega arith) (length reached.path - 1)
    (let begins = reached.is_path.starts in omega (arith, begins)) op some (sym reached.ends)
