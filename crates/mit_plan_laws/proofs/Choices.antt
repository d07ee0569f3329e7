-- What is chosen, and that it depends on the path before it alone.
use Rattle.std.proofs.Common.{◌≡◌, ◌∙◌, ◌<◌, ◌+◌, ℕ, zero, suc, List, [], ◌∷◌, ◌++◌, length, map, get_or, ap, sym, subst, refl, arith, eqb, eqb-true, cond, Bool, true, false, Option, Some, None, All}
use Rattle.std.specs.List.{position_from}
use Rattle.std.specs.Option.{MatchOption, option_map}
use Rattle.std.proofs.lemmas.List.Elements.{All-head, All-tail}
use Rattle.mit_path.specs.Choice.{chosen_operand}
use Rattle.mit_path.specs.Last.{HasNone, IsLast}
use Rattle.mit_plan.specs.Chosen.{Choice, choice_of, chosen, chosen_among, input_edges}
use Rattle.mit_plan.specs.Plans.{PlanOf, edge_at, is_phi, op_at, source_block}

-- the laws of choice over blocks
pub record PathLaws : Type 0 where
  pub longer : (path more operands : List ℕ) (at : ℕ) (phi : Bool) → at < length path → chosen_operand (path ++ more) operands at phi ≡ chosen_operand path operands at phi
  pub input : (path operands : List ℕ) (at : ℕ) → MatchOption (chosen_operand path operands at false) (HasNone path operands (suc at)) (IsLast path operands (suc at))
  pub phi : (path operands : List ℕ) (at : ℕ) → MatchOption (chosen_operand path operands at true) (HasNone path operands at) (IsLast path operands at)

pub longer_path : ((path more operands : List ℕ) (at : ℕ) (phi : Bool) → at < length path → chosen_operand (path ++ more) operands at phi ≡ chosen_operand path operands at phi)
    → (plan : PlanOf) (path more : List ℕ) (op input place : ℕ) → place < length path → chosen plan (path ++ more) op input place ≡ chosen plan path op input place
longer_path longer plan path more op input place below =
    let edges = get_or (input_edges plan op) input [] in
    ap (option_map (choice_of edges)) (longer path more (map (λ edge. source_block plan (edge_at plan edge)) edges) place (is_phi (op_at plan op)) below)

-- ---- what is chosen

-- one of these edges, of which P holds, from this block
pub record Finds (f : ℕ → ℕ) (P : ℕ → Type 0) (edges : List ℕ) (block from operand : ℕ) : Type 0 where
  pub k : ℕ
  pub at : operand ≡ from + k
  pub holds : P (get_or edges k 0)
  pub source : f (get_or edges k 0) ≡ block

finds_by : (f : ℕ → ℕ) (P : ℕ → Type 0) (edge : ℕ) (edges : List ℕ) (block from operand : ℕ) (later : Option ℕ) (same : Bool) → P edge
    → (later ≡ Some operand → Finds f P edges block (from + 1) operand) → eqb block (f edge) ≡ same → cond same (Some from) later ≡ Some operand
    → Finds f P (edge ∷ edges) block from operand
finds_by f P edge edges block from operand later true holds rest same is =
    let e : from ≡ operand = cc in
    record { k = 0; at = omega (arith, e); holds = holds; source = sym (eqb-true block (f edge) same) }
finds_by f P edge edges block from operand later false holds rest same is =
    let found = rest is in
    record { k = suc found.k; at = omega (arith, found.at); holds = found.holds; source = found.source }

finds : (f : ℕ → ℕ) (P : ℕ → Type 0) (edges : List ℕ) (block from operand : ℕ) → All P edges
    → position_from (λ one. eqb block one) from (map f edges) ≡ Some operand → Finds f P edges block from operand
finds f P [] block from operand all found = absurd cc
finds f P (edge ∷ edges) block from operand all found =
    finds_by f P edge edges block from operand (position_from (λ one. eqb block one) (from + 1) (map f edges)) (eqb block (f edge)) (All-head P edge edges all)
    (finds f P edges block (from + 1) operand (All-tail P edge edges all)) refl found

-- an edge of which P holds, with a place of its source's block below the bound
pub record IsChosen (plan : PlanOf) (path : List ℕ) (P : ℕ → Type 0) (bound : ℕ) (choice : Choice) : Type 0 where
  pub below : choice.place < bound
  pub block : source_block plan (edge_at plan choice.edge) ≡ get_or path choice.place 0
  pub edge : P choice.edge

pub is_chosen : (plan : PlanOf) (path edges : List ℕ) (P : ℕ → Type 0) (bound : ℕ) (choice : Choice) (found : Option (ℕ × ℕ))
    → MatchOption found (HasNone path (map (λ edge. source_block plan (edge_at plan edge)) edges) bound) (IsLast path (map (λ edge. source_block plan (edge_at plan edge)) edges) bound)
    → All P edges → option_map (choice_of edges) found ≡ Some choice → IsChosen plan path P bound choice
is_chosen plan path edges P bound choice None last all is = absurd cc
is_chosen plan path edges P bound choice (Some found) last all is =
    let source : ℕ → ℕ = λ edge. source_block plan (edge_at plan edge) in
    let some = finds source P edges (get_or path found.1 0) 0 found.0 all last.is in
    let at : found.0 ≡ some.k = omega (arith, some.at) in
    let e : choice_of edges found ≡ choice = cc in
    subst (λ (one : Choice). IsChosen plan path P bound one) e (record {
      below = last.below;
      block = ap (λ (k : ℕ). source (get_or edges k 0)) at ∙ some.source;
      edge = subst (λ (k : ℕ). P (get_or edges k 0)) (sym at) some.holds;
    })

-- each edge of one input
pub input_all : (P : ℕ → Type 0) (edges : List ℕ) (input : ℕ) → All P edges → All P (get_or (map (λ (edge : ℕ). edge ∷ []) edges) input [])
input_all P [] input all = λ k d below. absurd (omega (arith, below))
input_all P (edge ∷ edges) zero all = λ k d below. let e : 0 ≡ k = omega (arith, below) in subst (λ (n : ℕ). P (get_or (edge ∷ []) n d)) e (All-head P edge edges all)
input_all P (edge ∷ edges) (suc input) all = input_all P edges input (All-tail P edge edges all)

-- the edge that is chosen is one of the input's
pub chosen_edge : PathLaws → (plan : PlanOf) (path edges : List ℕ) (P : ℕ → Type 0) (phi : Bool) (place : ℕ) (choice : Choice) → All P edges
    → chosen_among plan path edges phi place ≡ Some choice → P choice.edge
chosen_edge laws plan path edges P true place choice all is =
    let blocks = map (λ edge. source_block plan (edge_at plan edge)) edges in
    (is_chosen plan path edges P place choice (chosen_operand path blocks place true) (laws.phi path blocks place) all is).edge
chosen_edge laws plan path edges P false place choice all is =
    let blocks = map (λ edge. source_block plan (edge_at plan edge)) edges in
    (is_chosen plan path edges P (suc place) choice (chosen_operand path blocks place false) (laws.input path blocks place) all is).edge
