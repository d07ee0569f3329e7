-- Choice: which bag an operator takes at a place of the path.
use Rattle.std.specs.Prelude.{ℕ, List, [], ◌∷◌, map, Bool, Option, if◌then◌else◌, length, option_map, slice_index, slice_index_or}
use Rattle.std.specs.List.{range_with_len}
use Rattle.mit_path.specs.Choice.{chosen_operand}
use Rattle.mit_plan.specs.Plans.{PlanOf, edge_at, edges_to, is_phi, op_at, source_block}

-- an edge, and the place of the path whose bag is taken over it
pub record Choice : Type 0 where
  pub edge : ℕ
  pub place : ℕ

-- the edges over which each input takes its bags: a phi has one input, with an edge for each operand; any other input has one edge
abbrev pub input_edges : PlanOf → ℕ → List (List ℕ)
input_edges plan op = if is_phi (op_at plan op) then edges_to plan op ∷ [] else map (λ edge. edge ∷ []) (edges_to plan op)

-- the numbers of its inputs
abbrev pub input_numbers : PlanOf → ℕ → List ℕ
input_numbers plan op = range_with_len 0 (length (input_edges plan op))

-- the edge of an operand, by its number among these, and the place
abbrev pub choice_of : List ℕ → ℕ × ℕ → Choice
choice_of edges found = record { edge = slice_index edges found.0; place = found.1 }

-- which of these edges is taken at a place, and which bag, by the blocks from which the edges come
abbrev pub chosen_among : PlanOf → List ℕ → List ℕ → Bool → ℕ → Option Choice
chosen_among plan path edges phi place =
    option_map (choice_of edges) (chosen_operand path (map (λ edge. source_block plan (edge_at plan edge)) edges) place phi)

-- the edge over which an input of an operator takes its bag at a place of the path, and the place of that bag:
-- the last place up to here of the source's block; for a phi the last place before here of any operand's block
abbrev pub chosen : PlanOf → List ℕ → ℕ → ℕ → ℕ → Option Choice
chosen plan path op input place = chosen_among plan path (slice_index_or (input_edges plan op) input []) (is_phi (op_at plan op)) place
